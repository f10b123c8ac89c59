use Rattle.std.proofs.Common.{ℤ, take}
use Rattle.log_closing.specs.Closings.{Advances, left_behind, logs_of}
use Rattle.log_closing.proofs.closing.Closing.take_left.Given as goal

abbrev pub invariant-loop-spoke : goal.invariant-loop-spoke
invariant-loop-spoke l = (first : ℤ) → Advances first l.fn.self l.self (left_behind l.most l.marks 0 (take l.spoke (logs_of l.ends)))
