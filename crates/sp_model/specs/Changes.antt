-- The data of a scenario: the core's, with each change of the scenario in its place.

use Rattle.std.specs.Prelude.{ℕ, ◌+◌, ◌==◌, ◌&&◌, nat_lt, Bool, List, [], ◌∷◌, ◌++◌, length, map, ℤ, slice_set, slice_index_or, if◌then◌else◌}
use Rattle.std.specs.List.{fold, insert, prefix_len}
use Rattle.boxed_problem.specs.BoxedFacts.{no_entry}
use Rattle.boxed_problem.specs.declared.parts.Entry.{Entry}
use Rattle.boxed_problem.specs.declared.parts.Limits.{Limits}
use Rattle.boxed_problem.specs.declared.parts.Side.{Side}
use Rattle.sp_model.specs.declared.program.Change.{Change}
use Rattle.sp_model.specs.declared.program.Change.TheVariants as change
use Rattle.sp_model.specs.declared.program.Column.{Column}
use Rattle.sp_model.specs.declared.program.Program.{Program}
use Rattle.sp_model.specs.declared.program.Row.{Row}
use Rattle.sp_model.specs.declared.program.Scenario.{Scenario}

-- costs, limits of rows, and entries
pub record Data : Type 0 where
  pub costs : List ℤ
  pub limits : List Limits
  pub entries : List Entry

-- the limits of a row
abbrev pub limits_of : Row → Limits
limits_of row = record { lower = row.lower; upper = row.upper }

-- the core's own data
abbrev pub core_data : Program → Data
core_data program = record {
  costs = map (λ (column : Column). column.cost) program.columns;
  limits = map limits_of program.rows;
  entries = program.entries;
}

-- whether an entry stands before the place of another, by column and then by row
abbrev pub is_before : Entry → Entry → Bool
is_before e f = if e.column == f.column then nat_lt e.row f.row else nat_lt e.column f.column

-- whether two entries are of one place
abbrev pub is_at : Entry → Entry → Bool
is_at e f = (e.column == f.column) && (e.row == f.row)

-- how many entries stand before the place of an entry
abbrev pub place_of : Entry → List Entry → ℕ
place_of e fs = prefix_len (λ f. is_before f e) fs

-- whether the entry at a place of the list is of the place of another
abbrev pub stands_at : Entry → List Entry → ℕ → Bool
stands_at e fs k = nat_lt k (length fs) && is_at (slice_index_or fs k no_entry) e

-- an entry in the order of columns and rows: over the one of its place, else in between
abbrev pub put_entry : Entry → List Entry → List Entry
put_entry e fs = if stands_at e fs (place_of e fs) then slice_set fs (place_of e fs) e
    else insert fs (place_of e fs) e

-- entries put in their places one after another, each later one over an earlier one of its place
abbrev pub put_entries : List Entry → List Entry → List Entry
put_entries es fs = fold (λ all f. put_entry f all) es fs

-- how many entries an entry that is put in its place leaves behind it: those before it, and the one
-- of its place
abbrev pub passed_by : Entry → List Entry → ℕ
passed_by e fs = if stands_at e fs (place_of e fs) then place_of e fs + 1 else place_of e fs

-- the entry that a change gives, if it gives one
abbrev pub cell_of : Change → List Entry
cell_of (change.Cost column value) = []
cell_of (change.Cell row column value) = record { row = row; column = column; value = value } ∷ []
cell_of (change.Limits row lower upper) = []

-- the entries that changes give, in their order
abbrev pub cells_of : List Change → List Entry
cells_of [] = []
cells_of (c ∷ cs) = cell_of c ++ cells_of cs

-- the data with a change in its place
abbrev pub with_change : Data → Change → Data
with_change d (change.Cost column value) = record d { costs = slice_set d.costs column value }
with_change d (change.Cell row column value) =
    record d {
      entries = put_entry (record { row = row; column = column; value = value })
          d.entries;
    }
with_change d (change.Limits row lower upper) =
    record d { limits = slice_set d.limits row (record { lower = lower; upper = upper }) }

-- the data of a scenario: the core's with all changes of the scenario
unfoldable pub data_of : Program → Scenario → Data
data_of program scenario = fold with_change (core_data program) scenario.changes

-- the core's data and those of all scenarios
abbrev pub all_data : Program → List Data
all_data program = core_data program ∷ map (data_of program) program.scenarios

-- the box of a column
abbrev pub side_of : Column → Side
side_of column = record { lower = column.lower; upper = column.upper }

-- the boxes of the columns
abbrev pub sides : Program → List Side
sides program = map side_of program.columns
