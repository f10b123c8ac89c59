use Rattle.std.proofs.Common.{length, ◌≡◌, ◌<◌, ◌-◌}
use Rattle.boxed_problem.specs.BoxedFacts.{entry_at}
use Rattle.propagate.specs.Tightening.{Tightens}
use Rattle.propagate.proofs.tightening.tighten_row.Given as goal

abbrev pub invariant-loop-place : goal.invariant-loop-place
invariant-loop-place l = record {
  tightens : Tightens l.sparse l.initial.trail l.trail;
  same : l.sparse ≡ l.trail.sparse.value;
  row : l.place < length l.sparse.entries → (entry_at l.sparse.entries l.place).row ≡ l.row;
}

abbrev pub decreases-loop-place : goal.decreases-loop-place
decreases-loop-place l = length l.sparse.entries - l.place
