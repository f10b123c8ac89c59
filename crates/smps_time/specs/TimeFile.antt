-- What a time file says of the periods, and which line has which fault
use Rattle.std.specs.Prelude.{ℕ, ◌+◌, ◌-◌, Bool, true, not, ◌&&◌, ◌||◌, List, [], ◌∷◌, ◌++◌, length, map, filter, codes, Option, Some, slice_index, ◌==◌, nat_lt, nat_le, if◌then◌else◌}
use Rattle.std.specs.List.{list_any}
use Rattle.std.specs.Option.{option_map, unwrap_or, is_none, is_some}
use Rattle.std.specs.Str.{bytes_eq}
use Rattle.line_core.specs.Names.{number_of}
use Rattle.smps_words.specs.PeriodFacts.{max_periods, min_periods}
use Rattle.smps_words.specs.Tables.{first_true}
use Rattle.smps_words.specs.TextLines.{TextLine, field, field_count, is_header}
use Rattle.smps_time.specs.declared.time_fault.TimeKind.{TimeKind}
use Rattle.smps_time.specs.declared.time_fault.TimeKind.TheVariants.{Section, Fields, Unknown, Twice, Order, Limit}

-- the names of a core that a time file may use
pub record CoreNames : Type 0 where
  pub objective : List ℕ
  pub rows : List (List ℕ)
  pub columns : List (List ℕ)

-- the lines that name periods
abbrev pub period_lines : List TextLine → List TextLine
period_lines lines = filter (λ line. not line.header) lines

-- the number of the column that a line names
abbrev pub column_named : CoreNames → TextLine → Option ℕ
column_named core line = number_of (field 0 line) core.columns

-- the place of the row that a line names: the objective's is 0, and constraint rows count from 1
abbrev pub place_named : CoreNames → TextLine → Option ℕ
place_named core line = if bytes_eq (field 1 line) core.objective then Some 0
    else option_map (λ row. row + 1) (number_of (field 1 line) core.rows)

-- what lines say
pub record Before : Type 0 where
  -- whether there is a line
  pub begun : Bool
  -- whether PERIODS stands among them
  pub opened : Bool
  -- each period's name, first column and the place of its first row
  pub names : List (List ℕ)
  pub columns : List ℕ
  pub places : List ℕ

abbrev pub before_of : CoreNames → List TextLine → Before
before_of core lines = record {
  begun = not (length lines == 0);
  opened = list_any (is_header (codes "PERIODS")) lines;
  names = map (field 2) (period_lines lines);
  columns = map (λ line. unwrap_or (column_named core line) 0) (period_lines lines);
  places = map (λ line. unwrap_or (place_named core line) 0) (period_lines lines);
}

-- the first period begins with the first column, and with the objective or the first row
abbrev pub begins_first : ℕ → ℕ → Bool
begins_first column place = (column == 0) && nat_le place 1

-- a number after the last of a list
abbrev pub is_after_last : List ℕ → ℕ → Bool
is_after_last numbers number = nat_lt (slice_index numbers (length numbers - 1)) number

-- where a period may begin: the first one at the front, a later one after the one before it
abbrev pub is_in_order : Before → ℕ → ℕ → Bool
is_in_order before column place =
    if length before.columns == 0 then begins_first column place
    else is_after_last before.columns column && is_after_last before.places place

-- the first fault of a line that names a period
abbrev pub period_fault : CoreNames → Before → TextLine → Option TimeKind
period_fault core before line = first_true (
    (not before.opened, Section)
    ∷ (not (field_count line == 3), Fields)
    ∷ (is_none (column_named core line), Unknown)
    ∷ (is_none (place_named core line), Unknown)
    ∷ (is_some (number_of (field 2 line) before.names), Twice)
    ∷ (
      not (is_in_order before (unwrap_or (column_named core line) 0)
          (unwrap_or (place_named core line) 0)),
      Order,
    )
    ∷ (nat_le max_periods (length before.names), Limit)
    ∷ [])

-- whether a field is the word EXPLICIT
abbrev pub says_explicit : TextLine → Bool
says_explicit line = list_any (λ text. bytes_eq text (codes "EXPLICIT")) line.fields

-- the first fault of the end line
abbrev pub end_fault : Before → TextLine → Option TimeKind
end_fault before line = first_true (
    (not before.opened, Section)
    ∷ (not (field_count line == 1), Fields)
    ∷ (nat_lt (length before.names) min_periods, Limit)
    ∷ [])

-- the first fault of a header line
abbrev pub header_fault : Before → TextLine → Option TimeKind
header_fault before line =
    if bytes_eq (field 0 line) (codes "TIME") then first_true ((before.begun, Section) ∷ [])
    else (if bytes_eq (field 0 line) (codes "PERIODS")
    then first_true ((before.opened, Section) ∷ (says_explicit line, Section) ∷ [])
    else (if bytes_eq (field 0 line) (codes "ENDATA") then end_fault before line
    else Some Section))

-- the first fault of a line, judged by the lines before it
abbrev pub line_fault : CoreNames → Before → TextLine → Option TimeKind
line_fault core before line =
    if line.header then header_fault before line else period_fault core before line

-- the same, judged by the lines themselves
abbrev pub fault_after : CoreNames → List TextLine → TextLine → Option TimeKind
fault_after core before line = line_fault core (before_of core before) line

-- what lines say with one more
abbrev pub period_adds : {X : Type 0} → TextLine → X → List X
period_adds line value = if line.header then [] else value ∷ []

abbrev pub with_line : CoreNames → Before → TextLine → Before
with_line core before line = record {
  begun = true;
  opened = before.opened || is_header (codes "PERIODS") line;
  names = before.names ++ period_adds line (field 2 line);
  columns = before.columns ++ period_adds line (unwrap_or (column_named core line) 0);
  places = before.places ++ period_adds line (unwrap_or (place_named core line) 0);
}
