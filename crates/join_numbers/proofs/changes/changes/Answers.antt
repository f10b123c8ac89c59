use Rattle.std.proofs.Common.{arith, ◌<◌, get_or, length}
use Rattle.std.specs.List.{Any, filter_map}
use Rattle.std.proofs.lemmas.List.{get_or_default}
use Rattle.std.proofs.lemmas.Result.{err_from_is_err_and}
use Rattle.smps_words.specs.CoreFacts.{zero_decimal}
use Rattle.stoch_lines.specs.declared.places.StochEntry.{StochEntry}
use Rattle.stoch_lines.specs.declared.places.StochPlace.TheVariants.{Cost}
use Rattle.join_words.specs.Parts.{parts_of}
use Rattle.join_words.specs.RunOf.{change_of}
use Rattle.join_numbers.specs.UnfitNumbers.{IsLargeChange, IsSomeLarge}
use Rattle.join_numbers.proofs.Turns.{any_change, by_unfit, change_next}
use Rattle.join_numbers.proofs.changes.changes.Goals as goal

abbrev no_value : StochEntry
no_value = record { place = Cost 0; value = zero_decimal; line = 0 }

pub returns-in_err-push-clause-err : goal.returns-in_err-push-clause-err
returns-in_err-push-clause-err c =
    let f = change_of (parts_of c.args.core.now) c.args.frame.now in
    let es = c.args.entries.now in
    let k = c.loop-entry.entry-index in
    let e = get_or es k no_value in
    let lt : k < length es = omega arith in
    let p = err_from_is_err_and c.from_residual.result c.from_residual.ensures.1 in
    rw (p.1, p.2) (by_unfit (IsSomeLarge (f e)) (Any IsLargeChange (filter_map f es)) c.in_err-push.field-0.0 (any_change f es k e lt (get_or_default es k no_value e lt)) c.in_err-push.ensures.err)

pub loop-entry-preserved : goal.loop-entry-preserved
loop-entry-preserved c =
    let f = change_of (parts_of c.args.core.now) c.args.frame.now in
    let es = c.args.entries.now in
    let k = c.loop-entry.entry-index in
    let e = get_or es k no_value in
    let lt : k < length es = omega arith in
    change_next f es k c.loop-entry.changes c.push.new.changes e lt (get_or_default es k no_value e lt) c.in_ok-push.ensures.ok c.loop-entry.invariant
