-- The reader's state, seen as what the lines so far have said, and what a step of it answers.
use Rattle.std.specs.Prelude.{◌≡◌, ℕ, ◌+◌, List, Option, Some, None, IfSome, Result, MatchResult}
use Rattle.smps_words.specs.NumberFields.{number_in}
use Rattle.smps_words.specs.TextLines.{TextLine, field}
use Rattle.core_lines.specs.HeaderParts.{headers_as}
use Rattle.core_lines.specs.Parts.{RowsSaid, ColumnsSaid, SidesSaid, BoundsSaid, Before}
use Rattle.core_lines.specs.RowLines.{row_place}
use Rattle.core_lines.specs.declared.cells.Cell.{Cell}
use Rattle.core_lines.specs.declared.pairs.RowPair.{RowPair}
use Rattle.core_lines.specs.declared.kinds.CoreKind.{CoreKind}
use Rattle.core_lines.specs.declared.kinds.CoreKind.TheVariants.{EmptyBox}
use Rattle.core_lines.specs.declared.kinds.Stop.{Stop}
use Rattle.core_lines.specs.declared.kinds.Stop.TheVariants.{Fault, Memory}
use Rattle.core_lines.specs.declared.parts.RowPart.{RowPart}
use Rattle.core_lines.specs.declared.state.State.{State}
use Rattle.core_lines.specs.declared.parts.ColumnPart.{ColumnPart}
use Rattle.core_lines.specs.declared.parts.SidePart.{SidePart}
use Rattle.core_lines.specs.declared.parts.BoundPart.{BoundPart}

abbrev pub rows_in : RowPart → RowsSaid
rows_in part = record { names = part.names; kinds = part.kinds; frees = part.frees }

abbrev pub columns_in : ColumnPart → ColumnsSaid
columns_in part = record {
  names = part.names;
  flags = part.flags;
  marked = part.marked;
  going = part.going;
  cells = part.cells;
}

abbrev pub sides_in_part : SidePart → SidesSaid
sides_in_part part = record { set = part.set; values = part.values }

abbrev pub bounds_in_part : BoundPart → BoundsSaid
bounds_in_part part = record { set = part.set; bounds = part.bounds }

-- the pair at field k of a line
abbrev pub pair_at : RowsSaid → ℕ → TextLine → RowPair
pair_at rows k line = record {
  row = row_place rows (field k line);
  value = number_in (field (k + 1) line);
}

-- the columns with these cells
abbrev pub with_cells : ColumnsSaid → List Cell → ColumnsSaid
with_cells columns cells = record columns { cells = cells }

abbrev pub before_in : State → Before
before_in state = record {
  headers = headers_as state.headers;
  rows = rows_in state.rows;
  columns = columns_in state.columns;
  rights = sides_in_part state.rights;
  ranges = sides_in_part state.ranges;
  bounds = bounds_in_part state.bounds;
}

-- a line asks for memory only where it has no fault, or that of an empty box, which isn't found
-- without memory
abbrev pub MayAsk : Option CoreKind → Type 0
MayAsk fault = IfSome fault (λ kind. kind ≡ EmptyBox)

-- a stop is the line's fault, or want of memory where the line may ask for it
abbrev pub Stops : Option CoreKind → Stop → Type 0
Stops fault Memory = MayAsk fault
Stops fault (Fault kind) = fault ≡ Some kind

-- a line without a fault is taken up, and then this holds
abbrev pub Takes : {X : Type 0} → Option CoreKind → Result X Stop → Type 0 → Type 0
Takes fault result P = MatchResult result (λ x. (fault ≡ None) × P) (Stops fault)

-- the same with what the call answers
abbrev pub TakesAs : {X : Type 0} → Option CoreKind → Result X Stop → (X → Type 0) → Type 0
TakesAs fault result P = MatchResult result (λ x. (fault ≡ None) × P x) (Stops fault)

-- a call that only takes memory fails for want of it alone
abbrev pub Keeps : {X : Type 0} → Result X Stop → Type 0 → Type 0
Keeps result P = MatchResult result (λ x. P) (λ stop. stop ≡ Memory)

abbrev pub KeepsAs : {X : Type 0} → Result X Stop → (X → Type 0) → Type 0
KeepsAs result P = MatchResult result P (λ stop. stop ≡ Memory)
