use Rattle.std.proofs.Common.{◌≡◌}
use Rattle.propagate.specs.Tightening.{Tightens}
use Rattle.propagate.proofs.settling.visit_waiting.Given as goal

abbrev pub invariant-loop : goal.invariant-loop
invariant-loop l = record { tightens : Tightens l.sparse l.initial.trail l.trail; same : l.sparse ≡ l.trail.sparse.value }
