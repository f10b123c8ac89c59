use Rattle.std.proofs.Common.{◌≡◌, ℕ, ◌-◌, length, get_or}
use Rattle.core_lines.proofs.growing.grow_marks.Given as goal

abbrev pub invariant-loop-marks : goal.invariant-loop-marks
invariant-loop-marks l = (k : ℕ) → get_or l.marks k 0 ≡ get_or l.fn.marks k 0

abbrev pub decreases-loop-marks : goal.decreases-loop-marks
decreases-loop-marks l = l.count - length l.marks
