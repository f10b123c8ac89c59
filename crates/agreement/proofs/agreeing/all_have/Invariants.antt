use Rattle.std.proofs.Common.{◌≡◌, ℕ, ◌<◌, slice_index_or}
use Rattle.put_words.specs.NodeSums.{value_at}
use Rattle.agreement.proofs.agreeing.all_have.Given as goal

abbrev pub invariant-loop-scenario : goal.invariant-loop-scenario
invariant-loop-scenario l = (k d : ℕ) → k < l.scenario-index → value_at l.run l.x (slice_index_or l.items k d) l.column ≡ value_at l.run l.x l.other l.column
