-- A line of BOUNDS as the reader takes it apart.
use Rattle.std.specs.Prelude.{ℕ, ◌≤◌, Bool, ◌&&◌, List, [], ◌∷◌, Option, nat_le, if◌then◌else◌}
use Rattle.base_words.specs.Signs.{limit_size}
use Rattle.smps_words.specs.CoreFacts.{max_end}
use Rattle.smps_words.specs.Tables.{first_true}
use Rattle.core_lines.specs.BoundLines.{has_value, is_bad, is_beyond, is_lowered}
use Rattle.core_lines.specs.Boxes.{end_said}
use Rattle.core_lines.specs.declared.bound_values.BoundValue.{BoundValue}
use Rattle.core_lines.specs.declared.bound_values.BoundValue.TheVariants.{Endless, Finite}
use Rattle.core_lines.specs.declared.cells.Bound.{Bound}
use Rattle.core_lines.specs.declared.kinds.CoreKind.{CoreKind}
use Rattle.core_lines.specs.declared.kinds.CoreKind.TheVariants.{BadBound, Limit}
use Rattle.core_lines.specs.declared.words.BoundKind.{BoundKind}

-- as many fields as a kind asks for
abbrev pub has_count : BoundKind → ℕ → Bool
has_count kind count =
    if has_value kind then (nat_le 3 count && nat_le count 4)
    else (nat_le 2 count && nat_le count 4)

-- a number has at most nine places
abbrev pub HasGoodPlaces : BoundValue → Type 0
HasGoodPlaces (Endless negative) = Unit {0}
HasGoodPlaces (Finite d) = d.places ≤ 9

-- the ends that a line says are small
abbrev pub AreEndsSmall : Bound → Type 0
AreEndsSmall b = (limit_size (end_said b.lower) ≤ max_end) × (limit_size (end_said b.upper) ≤ max_end)

-- the fault of the value of a line of the used set
abbrev pub value_place_fault : List Bound → BoundKind → ℕ → BoundValue → Option CoreKind
value_place_fault bounds kind column value = first_true (
    (is_bad kind value (is_lowered bounds column), BadBound)
    ∷ (has_value kind && is_beyond value, Limit)
    ∷ [])
