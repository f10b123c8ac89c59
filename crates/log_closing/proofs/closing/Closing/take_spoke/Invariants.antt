use Rattle.std.proofs.Common.{ℤ, take}
use Rattle.std.specs.List.{filter_map}
use Rattle.log_closing.specs.Closings.{Advances, left_by}
use Rattle.log_closing.proofs.closing.Closing.take_spoke.Given as goal

abbrev pub invariant-loop-answer : goal.invariant-loop-answer
invariant-loop-answer l = (first : ℤ) → Advances first l.fn.self l.self (filter_map (left_by l.most l.marks l.spoke) (take l.answer-index l.answers))
