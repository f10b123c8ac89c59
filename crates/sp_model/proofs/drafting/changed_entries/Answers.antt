use Rattle.std.proofs.Common.{sym, subst, ap, ◌∙◌, ◌≡◌, List, []}
use Rattle.std.proofs.lemmas.Result.{IfOk-weaker}
use Rattle.boxed_problem.specs.declared.parts.Entry.{Entry}
use Rattle.boxed_problem.specs.BoxedFacts.{AreAscending}
use Rattle.sp_model.specs.Changes.{cells_of, put_entries}
use Rattle.sp_model.proofs.MergeSteps.{ordered_puts, puts_ascend}
use Rattle.sp_model.proofs.drafting.changed_entries.Goals as goal

pub merged-requires : goal.merged-requires
merged-requires c =
    let cells = c.as_slice.result.now in
    subst (λ (l : List Entry). AreAscending l) (sym (c.as_slice-2.ensures.value ∙ c.in_ok-over.ensures)) (puts_ascend cells)

pub returns : goal.returns
returns c =
    let entries = c.args.entries.now in
    let changes = c.args.changes.now in
    let cells : c.as_slice.result.now ≡ cells_of changes = c.as_slice.ensures.value ∙ c.in_ok-cells.ensures in
    let over : c.as_slice-2.result.now ≡ put_entries [] (cells_of changes) = c.as_slice-2.ensures.value ∙ c.in_ok-over.ensures ∙ ap (put_entries []) cells in
    IfOk-weaker c.merged.result _ _ (λ all is. is ∙ ap (put_entries entries) over ∙ ordered_puts entries (cells_of changes)) c.merged.ensures
