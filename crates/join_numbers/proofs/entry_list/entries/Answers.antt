use Rattle.std.proofs.Common.{arith, ◌≡◌, ◌<◌, ◌∙◌, ap, get_or, length, true, List}
use Rattle.std.specs.List.{Any}
use Rattle.std.proofs.lemmas.List.{get_or_default}
use Rattle.std.proofs.lemmas.Result.{err_from_is_err_and}
use Rattle.smps_words.specs.CoreFacts.{no_entry}
use Rattle.smps_words.specs.declared.core_data.CoreEntry.{CoreEntry}
use Rattle.join_words.specs.Parts.{parts_of}
use Rattle.join_words.specs.Powers.{stays}
use Rattle.join_words.specs.RunOf.{entries_of, entry_of}
use Rattle.join_numbers.specs.UnfitNumbers.{IsLargeEntry}
use Rattle.join_numbers.proofs.Turns.{any_entry, by_unfit, entry_next}
use Rattle.join_numbers.proofs.entry_list.entries.Goals as goal

pub returns-in_err-push-clause-err : goal.returns-in_err-push-clause-err
returns-in_err-push-clause-err c =
    let frame = c.args.frame.now in
    let es = c.args.core.now.entries in
    let k = c.loop-entry.entry-index in
    let items = c.as_slice-entry-items.result.now in
    let same : items ≡ es = c.as_slice-entry-items.ensures in
    let e = get_or items k no_entry in
    let lt : k < length es = omega (arith, ap length same) in
    let at : e ≡ get_or es k e = ap (λ (l : List CoreEntry). get_or l k no_entry) same ∙ get_or_default es k no_entry e lt in
    let p = err_from_is_err_and c.from_residual.result c.from_residual.ensures.1 in
    rw (p.1, p.2) (by_unfit ((stays frame.sides e.column ≡ true) × IsLargeEntry (entry_of frame e)) (Any IsLargeEntry (entries_of (parts_of c.args.core.now) frame)) c.in_err-push.field-0.0 (λ h. any_entry frame es k e lt at h.0 h.1) c.in_err-push.ensures.err)

pub loop-entry-preserved : goal.loop-entry-preserved
loop-entry-preserved c =
    let es = c.args.core.now.entries in
    let k = c.loop-entry.entry-index in
    let items = c.as_slice-entry-items.result.now in
    let same : items ≡ es = c.as_slice-entry-items.ensures in
    let e = get_or items k no_entry in
    let lt : k < length es = omega (arith, ap length same) in
    let at : e ≡ get_or es k e = ap (λ (l : List CoreEntry). get_or l k no_entry) same ∙ get_or_default es k no_entry e lt in
    entry_next c.args.frame.now es k c.loop-entry.entries c.push.new.entries e lt at c.in_ok-push.ensures.ok c.loop-entry.invariant
