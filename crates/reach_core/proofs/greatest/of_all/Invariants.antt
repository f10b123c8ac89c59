use Rattle.std.proofs.Common.{◌∷◌, map, take}
use Rattle.sp_model.specs.Changes.{core_data, data_of}
use Rattle.reach_core.specs.Greatest.{AreGreatest}
use Rattle.reach_core.proofs.greatest.of_all.Given as goal

abbrev pub invariant-loop-scenario : goal.invariant-loop-scenario
invariant-loop-scenario l = AreGreatest l.program (core_data l.program ∷ map (data_of l.program) (take l.scenario-index l.program.scenarios)) l.greatest
