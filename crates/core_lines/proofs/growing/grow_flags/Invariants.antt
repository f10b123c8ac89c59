use Rattle.std.proofs.Common.{◌≡◌, ℕ, ◌-◌, false, length, get_or}
use Rattle.core_lines.proofs.growing.grow_flags.Given as goal

abbrev pub invariant-loop-flags : goal.invariant-loop-flags
invariant-loop-flags l = (k : ℕ) → get_or l.flags k false ≡ get_or l.fn.flags k false

abbrev pub decreases-loop-flags : goal.decreases-loop-flags
decreases-loop-flags l = l.count - length l.flags
