use Rattle.std.proofs.Common.{arith, refl, ◌<◌, length}
use Rattle.std.specs.List.{Any}
use Rattle.std.proofs.lemmas.Result.{err_from_is_err_and}
use Rattle.join_words.specs.Parts.{firsts_of, parts_of}
use Rattle.join_words.specs.RunOf.{column_of, columns_of}
use Rattle.join_numbers.specs.UnfitNumbers.{IsLargeColumn}
use Rattle.base_words.proofs.Made.{map_next}
use Rattle.join_numbers.proofs.Turns.{any_made, by_unfit}
use Rattle.join_numbers.proofs.column_list.columns.Goals as goal

pub returns-in_err-push-clause-err : goal.returns-in_err-push-clause-err
returns-in_err-push-clause-err c =
    let column = column_of (parts_of c.args.core.now) (firsts_of c.args.periods.now) c.args.frame.now in
    let n = length c.args.core.now.columns in
    let j = c.loop-j.j in
    let lt : j < n = omega (arith, c.len-j-end.ensures) in
    let p = err_from_is_err_and c.from_residual.result c.from_residual.ensures.1 in
    rw (p.1, p.2) (by_unfit (IsLargeColumn (column j)) (Any IsLargeColumn (columns_of (parts_of c.args.core.now) (firsts_of c.args.periods.now) c.args.frame.now)) c.in_err-push.field-0.0 (any_made IsLargeColumn column n j lt) c.in_err-push.ensures.err)

pub loop-j-preserved : goal.loop-j-preserved
loop-j-preserved c =
    let column = column_of (parts_of c.args.core.now) (firsts_of c.args.periods.now) c.args.frame.now in
    map_next column c.loop-j.j c.loop-j.columns c.push.new.columns (column c.loop-j.j) c.in_ok-push.ensures.ok refl c.loop-j.invariant
