use Rattle.std.proofs.Common.{◌≡◌, take}
use Rattle.base_words.specs.ListSums.{sum_z}
use Rattle.sp_model.specs.Plans.{multiplier_of}
use Rattle.run_calls.proofs.multiplying.sum_over.Given as goal

abbrev pub invariant-loop-scenario : goal.invariant-loop-scenario
invariant-loop-scenario l = l.sum ≡ sum_z (λ s. multiplier_of l.run l.multipliers s l.column) (take l.scenario-index l.members)
