-- Lines of RHS and RANGES: the name of a set, or none, and one or two pairs of row and value.
use Rattle.std.specs.Prelude.{ℕ, ◌+◌, ◌==◌, Bool, true, false, not, ◌&&◌, ◌||◌, List, [], ◌∷◌, ◌++◌, Option, Some, None, nat_le, if◌then◌else◌}
use Rattle.std.specs.List.{list_any}
use Rattle.std.specs.Option.{option_map_or}
use Rattle.std.specs.Str.{bytes_eq}
use Rattle.dec_core.specs.declared.decimal.Decimal.{Decimal}
use Rattle.smps_words.specs.NumberFields.{number_fault, number_in}
use Rattle.smps_words.specs.Tables.{first_true, ◌or◌}
use Rattle.smps_words.specs.TextLines.{TextLine, field, field_count}
use Rattle.core_lines.specs.ColumnLines.{is_same_row, pair_fault}
use Rattle.core_lines.specs.Parts.{RowsSaid, SidesSaid}
use Rattle.core_lines.specs.RowLines.{row_place}
use Rattle.core_lines.specs.Words.{kind_of_number}
use Rattle.core_lines.specs.declared.cells.RowValue.{RowValue}
use Rattle.core_lines.specs.declared.kinds.CoreKind.{CoreKind}
use Rattle.core_lines.specs.declared.kinds.CoreKind.TheVariants.{Fields, Twice}

-- a line with an odd number of fields begins with the name of its set
abbrev pub has_set_name : TextLine → Bool
has_set_name line = (field_count line == 3) || (field_count line == 5)

-- that name, or an empty text, so that the lines without a name are one set
abbrev pub set_name : TextLine → List ℕ
set_name line = if has_set_name line then field 0 line else []

-- the field of the first pair's row, and whether there is a second pair, which stands behind the
-- first
abbrev pub first_pair : TextLine → ℕ
first_pair line = if has_set_name line then 1 else 0

abbrev pub has_two_pairs : TextLine → Bool
has_two_pairs line = nat_le 4 (field_count line)

-- a line is of the used set where that is the set of this name, or where it is the first line
abbrev pub is_used : Option (List ℕ) → List ℕ → Bool
is_used set name = option_map_or (bytes_eq name) set true

-- the right side or range of a pair, unless its row is ignored
abbrev pub side_for : Option ℕ → Decimal → List RowValue
side_for None value = []
side_for (Some place) value = record { row = place; value = value } ∷ []

abbrev pub side_in : RowsSaid → ℕ → TextLine → List RowValue
side_in rows k line = side_for (row_place rows (field k line)) (number_in (field (k + 1) line))

-- what a line says, if it is of the used set
abbrev pub sides_in : RowsSaid → Option (List ℕ) → TextLine → List RowValue
sides_in rows set line =
    if is_used set (set_name line)
    then (side_in rows (first_pair line) line
    ++ (if has_two_pairs line then side_in rows (first_pair line + 2) line else []))
    else []

-- what the sides are after one more line, if it is a line of their section
abbrev pub sides_next : Bool → RowsSaid → SidesSaid → TextLine → SidesSaid
sides_next false rows sides line = sides
sides_next true rows sides line = record {
  set = sides.set or Some (set_name line);
  values = sides.values ++ sides_in rows sides.set line;
}

-- whether a row that isn't ignored has a value already
abbrev pub has_side : List RowValue → Option ℕ → Bool
has_side values place =
    option_map_or (λ r. list_any (λ (v : RowValue). v.row == r) values) place false

-- whether a line has a value of a row that has one already
abbrev pub repeats_side : RowsSaid → SidesSaid → TextLine → Bool
repeats_side rows sides line =
    has_side sides.values (row_place rows (field (first_pair line) line))
    || (has_two_pairs line && (has_side sides.values
    (row_place rows (field (first_pair line + 2) line))
    || is_same_row (row_place rows (field (first_pair line) line))
    (row_place rows (field (first_pair line + 2) line))))

-- the fault of the pairs of a line of the used set
abbrev pub used_fault : RowsSaid → SidesSaid → TextLine → Option CoreKind
used_fault rows sides line =
    pair_fault rows (first_pair line) line
    or (if has_two_pairs line then pair_fault rows (first_pair line + 2) line else None)
    or first_true ((repeats_side rows sides line, Twice) ∷ [])

-- the fault of the numbers of a line of another set, of which the rest isn't read
abbrev pub unused_fault : TextLine → Option CoreKind
unused_fault line =
    number_fault kind_of_number (field (first_pair line + 1) line)
    or (if has_two_pairs line then number_fault kind_of_number (field (first_pair line + 3) line)
    else None)

-- the fault of a line: two to five fields, and its pairs
abbrev pub side_fault : RowsSaid → SidesSaid → TextLine → Option CoreKind
side_fault rows sides line =
    first_true ((not (nat_le 2 (field_count line) && nat_le (field_count line) 5), Fields) ∷ [])
    or (if is_used sides.set (set_name line) then used_fault rows sides line else unused_fault line)
