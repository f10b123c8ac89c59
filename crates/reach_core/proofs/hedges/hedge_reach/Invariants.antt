use Rattle.std.proofs.Common.{◌≡◌}
use Rattle.capped_num.specs.Capped.{capped}
use Rattle.sp_model.specs.Reaching.{hedge_reach}
use Rattle.reach_core.proofs.hedges.hedge_reach.Given as goal

abbrev pub invariant-loop-j : goal.invariant-loop-j
invariant-loop-j l = l.sum ≡ capped (hedge_reach l.program l.options l.total l.j)
