-- How the lines of BOUNDS, one after another, make the box of a column.
use Rattle.std.specs.Prelude.{◌≡◌, ℕ, ◌==◌, Bool, false, ◌&&◌, List, [], ◌∷◌, ◌++◌, Option, ℤ, if◌then◌else◌}
use Rattle.std.specs.Option.{option_map_or}
use Rattle.line_core.specs.Names.{number_of}
use Rattle.smps_words.specs.TextLines.{TextLine}
use Rattle.smps_words.specs.declared.core_data.CoreColumn.{CoreColumn}
use Rattle.core_lines.specs.BoundLines.{bound_set, column_word, kind_of, lower_said, upper_said, bound_value}
use Rattle.core_lines.specs.Boxes.{end_said, lower_of, speaks, upper_of}
use Rattle.core_lines.specs.Headers.{is_bounds}
use Rattle.core_lines.specs.Lines.{bound_set_of, bounds_of, column_names_of, is_within, section_of}
use Rattle.core_lines.specs.SideLines.{is_used}
use Rattle.core_lines.specs.declared.cells.EndChange.{EndChange}
use Rattle.core_lines.specs.declared.cells.EndChange.TheVariants.{Kept}

-- the ends of the box of column j by these lines; none where that side is open
abbrev pub lower_in : List TextLine → ℕ → Option ℤ
lower_in lines j = lower_of (bounds_of lines).bounds j

abbrev pub upper_in : List TextLine → ℕ → Option ℤ
upper_in lines j = upper_of (bounds_of lines).bounds j

-- whether a line names column j, by the names of the lines before it
abbrev pub names_column : List TextLine → TextLine → ℕ → Bool
names_column before line j =
    option_map_or (λ i. i == j) (number_of (column_word line) (column_names_of before)) false

-- whether it is a data line of BOUNDS, of the used set, and names column j
abbrev pub is_bound_of : List TextLine → TextLine → ℕ → Bool
is_bound_of before line j = is_within is_bounds (section_of before) line
    && is_used (bound_set_of before) (bound_set line) && names_column before line j

-- what the kind and the value of a line say of the lower end and of the upper one
abbrev pub lower_change : TextLine → EndChange
lower_change line = option_map_or (λ kind. lower_said kind (bound_value line)) (kind_of line) Kept

abbrev pub upper_change : TextLine → EndChange
upper_change line = option_map_or (λ kind. upper_said kind (bound_value line)) (kind_of line) Kept

-- one more line moves an end of the box of column j to where it says, if it is a line of that
-- column that speaks of that end; else the end stays
abbrev pub MovesLower : List TextLine → TextLine → ℕ → Type 0
MovesLower before line j = lower_in (before ++ line ∷ []) j
    ≡ (if is_bound_of before line j && speaks (lower_change line) then end_said (lower_change line)
    else lower_in before j)

abbrev pub MovesUpper : List TextLine → TextLine → ℕ → Type 0
MovesUpper before line j = upper_in (before ++ line ∷ []) j
    ≡ (if is_bound_of before line j && speaks (upper_change line) then end_said (upper_change line)
    else upper_in before j)

-- a column of the data has the ends that these lines come to
abbrev pub HasEnds : List TextLine → CoreColumn → ℕ → Type 0
HasEnds lines column j = (column.lower ≡ lower_in lines j) × (column.upper ≡ upper_in lines j)
