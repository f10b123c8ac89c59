use Rattle.std.proofs.Common.{arith, ap, ◌∙◌, ◌≡◌, ◌<◌, ◌+◌, ◌++◌, ◌∷◌, [], get_or, length, drop, take}
use Rattle.std.proofs.lemmas.List.{get_or_default, take_rest}
use Rattle.boxed_problem.specs.BoxedFacts.{no_entry}
use Rattle.sp_model.specs.Changes.{passed_by, place_of, put_entries}
use Rattle.sp_model.proofs.MergeSteps.{merge_more, passed_there}
use Rattle.sp_model.proofs.merging.merged.Goals as goal

pub loop-entry-preserved : goal.loop-entry-preserved
loop-entry-preserved c =
    let under = c.args.under.now in
    let over = c.args.over.now in
    let at = c.loop-entry.at in
    let k = c.loop-entry.entry-index in
    let d = get_or over k no_entry in
    let lt : k < length over = omega arith in
    let so = c.loop-entry.invariant in
    let same = take_rest under at in
    let passed : c.in_ok-at.field-0 ≡ passed_by d (drop at under) = c.in_ok-at.ensures.passed ∙ ap (passed_by d) same in
    let pushed = c.in_ok-at.ensures.all ∙ ap (λ rest. (c.loop-entry.all.items ++ take (place_of d rest) rest) ++ d ∷ []) same in
    let there = passed_there d under at so.0 in
    let step = merge_more under over c.loop-entry.all.items c.append_next.new.all.items at k d c.requires lt (get_or_default over k no_entry d lt) so.1 pushed in (
      omega (arith, passed, there),
      ap (λ n. c.append_next.new.all.items ++ put_entries (drop (at + n) under) (drop (k + 1) over)) passed ∙ step,
    )
