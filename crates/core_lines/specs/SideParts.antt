-- A line of RHS or RANGES as the reader takes it apart.
use Rattle.std.specs.Prelude.{◌≡◌, ◌+◌, Bool, false, ◌||◌, List, [], ◌++◌, Option, Some, None, IfSome, if◌then◌else◌}
use Rattle.std.specs.Option.{option_map_or}
use Rattle.smps_words.specs.CoreFacts.{IsShort}
use Rattle.smps_words.specs.TextLines.{TextLine}
use Rattle.core_lines.specs.ColumnLines.{is_same_row}
use Rattle.core_lines.specs.Parts.{RowsSaid}
use Rattle.core_lines.specs.SideLines.{first_pair, has_two_pairs, has_side, side_for, side_in}
use Rattle.core_lines.specs.States.{pair_at}
use Rattle.core_lines.specs.declared.cells.RowValue.{RowValue}
use Rattle.core_lines.specs.declared.pairs.RowPair.{RowPair}
use Rattle.core_lines.specs.declared.side_lines.SideLine.{SideLine}

-- the second pair of a line, if it has one
abbrev pub next_at : RowsSaid → TextLine → Option RowPair
next_at rows line =
    if has_two_pairs line then Some (pair_at rows (first_pair line + 2) line) else None

-- the parts of a line
abbrev pub IsSideLine : RowsSaid → TextLine → SideLine → Type 0
IsSideLine rows line parsed =
    (parsed.first ≡ pair_at rows (first_pair line) line) × (parsed.second ≡ next_at rows line)

-- whether a value of the parts is there already
abbrev pub repeats_sides : List RowValue → SideLine → Bool
repeats_sides values parsed =
    has_side values parsed.first.row
    || option_map_or (λ (p : RowPair). has_side values p.row || is_same_row parsed.first.row p.row)
    parsed.second false

abbrev pub AreSidesShort : SideLine → Type 0
AreSidesShort parsed =
    IsShort parsed.first.value × IfSome parsed.second (λ (p : RowPair). IsShort p.value)

-- the values of the parts
abbrev pub second_sides : Option RowPair → List RowValue
second_sides None = []
second_sides (Some p) = side_for p.row p.value

abbrev pub sides_of_parts : SideLine → List RowValue
sides_of_parts parsed = side_for parsed.first.row parsed.first.value ++ second_sides parsed.second

-- the values of a line of the used set
abbrev pub pair_sides : RowsSaid → TextLine → List RowValue
pair_sides rows line = side_in rows (first_pair line) line
    ++ (if has_two_pairs line then side_in rows (first_pair line + 2) line else [])
