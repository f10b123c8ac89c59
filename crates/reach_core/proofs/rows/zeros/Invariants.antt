use Rattle.std.proofs.Common.{◌≡◌, ℕ, map}
use Rattle.std.specs.List.{range_with_len}
use Rattle.reach_core.proofs.rows.zeros.Given as goal

abbrev zero_at : ℕ → ℕ
zero_at i = 0

abbrev pub invariant-loop-i : goal.invariant-loop-i
invariant-loop-i l = l.zeros.items ≡ map zero_at (range_with_len 0 l._i)
