-- The data of a scenario as the code keeps them, and what a change writes into each part of them.

use Rattle.std.specs.Prelude.{ℕ, nat_lt, Bool, true, List, ℤ, slice_set}
use Rattle.boxed_problem.specs.declared.parts.Limits.{Limits}
use Rattle.sp_model.specs.Changes.{Data}
use Rattle.sp_model.specs.declared.drafting.Draft.{Draft}
use Rattle.sp_model.specs.declared.program.Change.{Change}
use Rattle.sp_model.specs.declared.program.Change.TheVariants as change

-- the data of a draft
abbrev pub data_in : Draft → Data
data_in draft = record {
  costs = draft.costs.items;
  limits = draft.limits.items;
  entries = draft.entries.items;
}

-- whether a cost that a change gives is of one of the columns
abbrev pub has_column : ℕ → Change → Bool
has_column columns (change.Cost column value) = nat_lt column columns
has_column columns (change.Cell row column value) = true
has_column columns (change.Limits row lower upper) = true

-- whether limits that a change gives are of one of the rows
abbrev pub has_row : ℕ → Change → Bool
has_row rows (change.Cost column value) = true
has_row rows (change.Cell row column value) = true
has_row rows (change.Limits row lower upper) = nat_lt row rows

-- the costs with the one that a change gives, if it gives one
abbrev pub with_cost : List ℤ → Change → List ℤ
with_cost costs (change.Cost column value) = slice_set costs column value
with_cost costs (change.Cell row column value) = costs
with_cost costs (change.Limits row lower upper) = costs

-- the limits of rows with those that a change gives, if it gives some
abbrev pub with_limits : List Limits → Change → List Limits
with_limits limits (change.Cost column value) = limits
with_limits limits (change.Cell row column value) = limits
with_limits limits (change.Limits row lower upper) =
    slice_set limits row (record { lower = lower; upper = upper })
