use Rattle.std.proofs.Common.{ap, ◌∙◌, ◌≡◌, List}
use Rattle.std.specs.List.{fold}
use Rattle.sp_model.specs.Changes.{cells_of, core_data, data_of, put_entries}
use Rattle.sp_model.specs.Drafts.{with_cost, with_limits}
use Rattle.sp_model.specs.declared.program.Change.{Change}
use Rattle.sp_model.proofs.Cells.{data_parts}
use Rattle.sp_model.proofs.drafting.drafted.Goals as goal

pub returns : goal.returns
unfolding data_of
returns c =
    let core = core_data c.args.program.now in
    let changes : c.as_slice-changes.result.now ≡ c.args.scenario.now.changes = c.as_slice-changes.ensures in
    data_parts core c.args.scenario.now.changes c.in_ok-costs.costs.items c.in_ok-limits.limits.items c.in_ok-entries.entries.items
    (c.in_ok-costs.ensures ∙ ap (fold with_cost core.costs) changes)
    (c.in_ok-limits.ensures ∙ ap (fold with_limits core.limits) changes)
    (c.in_ok-entries.ensures ∙ ap (λ es. put_entries es (cells_of c.as_slice-changes.result.now)) c.as_slice.ensures ∙ ap (λ (cs : List Change). put_entries core.entries (cells_of cs)) changes)
