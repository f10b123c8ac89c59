-- What some data have at a place: the cost of a column, the entry of a row and a column, the limits
-- of a row.

use Rattle.std.specs.Prelude.{◌≡◌, ℕ, ◌==◌, ◌&&◌, Bool, false, find, ℤ, pos, option_map, unwrap_or}
use Rattle.std.specs.List.{All}
use Rattle.base_words.specs.Sums.{number_at}
use Rattle.boxed_problem.specs.BoxedFacts.{limits_at}
use Rattle.boxed_problem.specs.declared.parts.Entry.{Entry}
use Rattle.boxed_problem.specs.declared.parts.Limits.{Limits}
use Rattle.sp_model.specs.Changes.{Data}
use Rattle.sp_model.specs.RunFacts.{is_same_place}
use Rattle.sp_model.specs.declared.program.Change.{Change}
use Rattle.sp_model.specs.declared.program.Change.TheVariants as change
use Rattle.sp_model.specs.declared.program.Scenario.{Scenario}

-- the cost of column j
abbrev pub cost_in : Data → ℕ → ℤ
cost_in d j = number_at d.costs j

-- whether an entry is that of row i and column j
abbrev pub is_cell : ℕ → ℕ → Entry → Bool
is_cell i j e = (e.column == j) && (e.row == i)

-- the entry of row i and column j, 0 where there is none
abbrev pub cell_in : Data → ℕ → ℕ → ℤ
cell_in d i j =
    unwrap_or (option_map (λ (e : Entry). e.value) (find (is_cell i j) d.entries)) (pos 0)

-- the limits of row i
abbrev pub limits_in : Data → ℕ → Limits
limits_in d i = limits_at d.limits i

-- the data have what a change gives its place
abbrev pub Has : Data → Change → Type 0
Has d (change.Cost column value) = cost_in d column ≡ value
Has d (change.Cell row column value) = cell_in d row column ≡ value
Has d (change.Limits row lower upper) = limits_in d row ≡ record { lower = lower; upper = upper }

-- two data have the same at the place of a change
abbrev pub SameAt : Data → Data → Change → Type 0
SameAt d e (change.Cost column value) = cost_in d column ≡ cost_in e column
SameAt d e (change.Cell row column value) = cell_in d row column ≡ cell_in e row column
SameAt d e (change.Limits row lower upper) = limits_in d row ≡ limits_in e row

-- no change of a scenario is of the place of this one
abbrev pub IsUntouched : Scenario → Change → Type 0
IsUntouched scenario place = All (λ c. is_same_place place c ≡ false) scenario.changes
