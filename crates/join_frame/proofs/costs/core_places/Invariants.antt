use Rattle.std.proofs.Common.{◌≡◌, [], ◌∷◌}
use Rattle.std.specs.List.{range_with_len}
use Rattle.join_words.specs.Parts.{column_at, parts_of}
use Rattle.join_words.specs.Powers.{stays}
use Rattle.join_frame.proofs.Commons.{picked}
use Rattle.join_frame.proofs.costs.core_places.Given as goal

abbrev pub invariant-loop-j : goal.invariant-loop-j
invariant-loop-j l = l.places ≡ picked (stays l.sides) (λ j. (column_at (parts_of l.core) j).cost) (l.core.constant ∷ []) (range_with_len 0 l.j)
