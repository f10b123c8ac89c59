use Rattle.std.proofs.Common.{◌≡◌, false, get_or}
use Rattle.std.specs.Prelude.{None}
use Rattle.core_lines.specs.Boxes.{any_below}
use Rattle.smps_words.specs.CoreFacts.{is_empty_box}
use Rattle.core_lines.proofs.boxes.is_one_empty.Given as goal

abbrev pub invariant-loop-j : goal.invariant-loop-j
invariant-loop-j l = any_below l.j (λ j. is_empty_box (get_or l.lowers j None) (get_or l.uppers j None)) ≡ false
