use Rattle.std.proofs.Common.{◌≡◌, take}
use Rattle.join_words.specs.Parts.{element_entries}
use Rattle.join_frame.proofs.entries.of_elements.Given as goal

abbrev pub invariant-loop-element : goal.invariant-loop-element
invariant-loop-element l = l.entries.items ≡ element_entries (take l.element-index l.fn.elements)
