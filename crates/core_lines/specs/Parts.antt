-- What the lines so far of a core file say, section by section.
use Rattle.std.specs.Prelude.{ℕ, Bool, List, Option}
use Rattle.smps_words.specs.declared.core_data.RowKind.{RowKind}
use Rattle.core_lines.specs.declared.cells.Cell.{Cell}
use Rattle.core_lines.specs.declared.cells.RowValue.{RowValue}
use Rattle.core_lines.specs.declared.cells.Bound.{Bound}
use Rattle.core_lines.specs.declared.words.Section.{Section}

-- the headers: the section of the last one, and whether these three have stood
pub record HeadersSaid : Type 0 where
  pub section : Section
  pub rights : Bool
  pub ranges : Bool
  pub bounds : Bool

-- ROWS: the names and kinds of the constraint rows, and the names of the rows of kind N, of which
-- the first is the objective
pub record RowsSaid : Type 0 where
  pub names : List (List ℕ)
  pub kinds : List RowKind
  pub frees : List (List ℕ)

-- COLUMNS: the columns' names, whether each stands between markers, whether the last marker began
-- the integer columns, whether the last line was a column's, and the entries and costs
pub record ColumnsSaid : Type 0 where
  pub names : List (List ℕ)
  pub flags : List Bool
  pub marked : Bool
  pub going : Bool
  pub cells : List Cell

-- RHS or RANGES: the name of the used set, which is that of the first line, empty where it has
-- none, and what the lines of that set say
pub record SidesSaid : Type 0 where
  pub set : Option (List ℕ)
  pub values : List RowValue

-- BOUNDS: the same
pub record BoundsSaid : Type 0 where
  pub set : Option (List ℕ)
  pub bounds : List Bound

-- all of them
pub record Before : Type 0 where
  pub headers : HeadersSaid
  pub rows : RowsSaid
  pub columns : ColumnsSaid
  pub rights : SidesSaid
  pub ranges : SidesSaid
  pub bounds : BoundsSaid
