use Rattle.std.proofs.Common.{◌∷◌, ◌∙◌, ap, length, map, take}
use Rattle.sp_model.specs.Changes.{core_data, data_of}
use Rattle.reach_core.proofs.Costs.{tops_long}
use Rattle.reach_core.proofs.greatest.of_all.Goals as goal

pub add-requires-clause-long : goal.add-requires-clause-long
add-requires-clause-long c =
    let p = c.args.program.now in
    ap length c.loop-scenario.invariant.tops ∙ tops_long p (core_data p ∷ map (data_of p) (take c.loop-scenario.scenario-index p.scenarios))
