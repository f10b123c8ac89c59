use Rattle.std.proofs.Common.{◌≡◌, ◌≤◌, ◌*◌, ◌+◌}
use Rattle.std.specs.List.{range_with_len, sum_by}
use Rattle.drive_words.specs.Worlds.{part_width}
use Rattle.schedule_core.proofs.turns.steps_of_a_put.Given as goal

abbrev pub invariant-loop-rank : goal.invariant-loop-rank
invariant-loop-rank l = record {
  sum : l.steps ≡ sum_by (λ i. part_width l.run i + 2) (range_with_len 0 l.rank);
  few : l.steps ≤ l.rank * 3145730;
}
