use Rattle.std.proofs.Common.{List, length, take, ap, sym, ◌∙◌}
use Rattle.std.proofs.lemmas.List.{take_more}
use Rattle.stoch_lines.specs.declared.entries.Owned.{Owned}
use Rattle.smps_stoch.specs.StochData.{scenario_places}
use Rattle.smps_stoch.specs.ElementSteps.{branches_with}
use Rattle.smps_stoch.proofs.branches.branches_of.Goals as goal

pub loop-owned-preserved : goal.loop-owned-preserved
loop-owned-preserved c =
    let scenarios = c.args.scenarios.now in
    let entries = c.args.entries.now in
    c.in_ok-add_entry.ensures (scenario_places scenarios) scenarios (take c.loop-owned.owned-index entries) (length scenarios) c.loop-owned.invariant
    ∙ ap (λ (es : List Owned). branches_with (scenario_places scenarios) scenarios es (length scenarios)) (sym (take_more entries c.loop-owned.owned-index _ c.loop-owned-test.true))
