use Rattle.std.proofs.Common.{◌≡◌, take}
use Rattle.join_words.specs.Boxes.{boxes_of}
use Rattle.join_frame.proofs.boxes.boxes.Given as goal

abbrev pub invariant-loop-column : goal.invariant-loop-column
invariant-loop-column l = l.sides ≡ boxes_of l.missing (take l.column-index l.columns)
