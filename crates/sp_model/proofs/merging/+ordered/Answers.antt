use Rattle.std.proofs.Common.{arith, sym, subst, ap, ◌∙◌, ◌/◌, List, [], length, drop}
use Rattle.std.proofs.lemmas.List.{take-append-drop, take_rest}
use Rattle.std.proofs.lemmas.Result.{IfOk-weaker}
use Rattle.boxed_problem.specs.declared.parts.Entry.{Entry}
use Rattle.boxed_problem.specs.BoxedFacts.{AreAscending}
use Rattle.sp_model.specs.Changes.{put_entries}
use Rattle.sp_model.proofs.MergeSteps.{halves, puts_ascend, short_is}
use Rattle.sp_model.proofs.merging.+ordered.Goals as goal

pub returns-then-entries-le1 : goal.returns-then-entries-le1
returns-then-entries-le1 t c = c.in_ok-all.ensures.items ∙ short_is c.args.entries.now (omega arith)

pub merged-requires : goal.merged-requires
merged-requires t c =
    let es = c.args.entries.now in
    let k = length es / 2 in
    let back = c.as_slice-2.ensures.value ∙ c.in_ok-back.ensures ∙ ap (put_entries []) (take_rest es k) in
    subst (λ (l : List Entry). AreAscending l) (sym back) (puts_ascend (drop k es))

pub returns : goal.returns
returns t c =
    let es = c.args.entries.now in
    let k = length es / 2 in
    let front = c.as_slice.ensures.value ∙ c.in_ok-front.ensures in
    let back = c.as_slice-2.ensures.value ∙ c.in_ok-back.ensures ∙ ap (put_entries []) (take_rest es k) in
    IfOk-weaker c.merged.result _ _ (λ all is. halves es c.as_slice.result.now c.as_slice-2.result.now all.items k front back (take-append-drop k es) is) c.merged.ensures
