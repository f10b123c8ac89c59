-- The ends of the columns' boxes by the lines of BOUNDS.
use Rattle.std.specs.Prelude.{ℕ, zero, suc, ◌==◌, Bool, true, false, ◌&&◌, ◌||◌, List, Option, Some, None, ℤ, pos}
use Rattle.smps_words.specs.CoreFacts.{is_empty_box}
use Rattle.smps_words.specs.Outcomes.{latest}
use Rattle.core_lines.specs.declared.cells.Bound.{Bound}
use Rattle.core_lines.specs.declared.cells.EndChange.{EndChange}
use Rattle.core_lines.specs.declared.cells.EndChange.TheVariants.{Kept, Open, At}

-- whether a line says something of an end, and the end that it says
abbrev pub speaks : EndChange → Bool
speaks Kept = false
speaks Open = true
speaks (At e) = true

abbrev pub end_said : EndChange → Option ℤ
end_said Kept = None
end_said Open = None
end_said (At e) = Some e

-- the lower end of a column's box: that of the last line that speaks of it, else 0
abbrev pub lower_of : List Bound → ℕ → Option ℤ
lower_of bounds column = latest (λ (b : Bound). speaks b.lower && (b.column == column))
    (λ (b : Bound). end_said b.lower) (Some (pos 0)) bounds

-- the upper end: that of the last line that speaks of it, else none
abbrev pub upper_of : List Bound → ℕ → Option ℤ
upper_of bounds column = latest (λ (b : Bound). speaks b.upper && (b.column == column))
    (λ (b : Bound). end_said b.upper) None bounds

-- whether a number below n passes
abbrev pub any_below : ℕ → (ℕ → Bool) → Bool
any_below zero passes = false
any_below (suc n) passes = any_below n passes || passes n

-- whether one of so many boxes holds no whole number
abbrev pub has_empty_box : List Bound → ℕ → Bool
has_empty_box bounds count =
    any_below count (λ j. is_empty_box (lower_of bounds j) (upper_of bounds j))
