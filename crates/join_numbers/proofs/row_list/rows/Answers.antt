use Rattle.std.proofs.Common.{arith, refl, ◌<◌, length}
use Rattle.std.specs.List.{Any}
use Rattle.std.proofs.lemmas.Result.{err_from_is_err_and}
use Rattle.join_words.specs.Parts.{firsts_of, parts_of}
use Rattle.join_words.specs.RunOf.{row_of, rows_of}
use Rattle.join_numbers.specs.UnfitNumbers.{IsLargeRow}
use Rattle.base_words.proofs.Made.{map_next}
use Rattle.join_numbers.proofs.Turns.{any_made, by_unfit}
use Rattle.join_numbers.proofs.row_list.rows.Goals as goal

pub returns-in_err-push-clause-err : goal.returns-in_err-push-clause-err
returns-in_err-push-clause-err c =
    let row = row_of (parts_of c.args.core.now) (firsts_of c.args.periods.now) c.args.frame.now in
    let n = length c.args.core.now.rows in
    let i = c.loop-i.i in
    let lt : i < n = omega (arith, c.len-i-end.ensures) in
    let p = err_from_is_err_and c.from_residual.result c.from_residual.ensures.1 in
    rw (p.1, p.2) (by_unfit (IsLargeRow (row i)) (Any IsLargeRow (rows_of (parts_of c.args.core.now) (firsts_of c.args.periods.now) c.args.frame.now)) c.in_err-push.field-0.0 (any_made IsLargeRow row n i lt) c.in_err-push.ensures.err)

pub loop-i-preserved : goal.loop-i-preserved
loop-i-preserved c =
    let row = row_of (parts_of c.args.core.now) (firsts_of c.args.periods.now) c.args.frame.now in
    map_next row c.loop-i.i c.loop-i.rows c.push.new.rows (row c.loop-i.i) c.in_ok-push.ensures.ok refl c.loop-i.invariant
