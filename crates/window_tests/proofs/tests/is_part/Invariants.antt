use Rattle.std.proofs.Common.{◌≡◌, ◌<◌, ℕ, slice_index_or}
use Rattle.window_tests.specs.Words.{word_at}
use Rattle.window_tests.proofs.tests.is_part.Given as goal

abbrev pub invariant-loop-place : goal.invariant-loop-place
invariant-loop-place l = (k d : ℕ) → k < l.place → slice_index_or l.words k d ≡ word_at l.rank l.put k
