-- What a change gives the cost of a column and the limits of a row.

use Rattle.std.specs.Prelude.{ℕ, ◌==◌, ℤ, if◌then◌else◌}
use Rattle.boxed_problem.specs.declared.parts.Limits.{Limits}
use Rattle.sp_model.specs.declared.program.Change.{Change}
use Rattle.sp_model.specs.declared.program.Change.TheVariants as change

-- the cost that a change gives column j, else the one before
abbrev pub cost_with : ℕ → ℤ → Change → ℤ
cost_with j before (change.Cost column value) = if column == j then value else before
cost_with j before (change.Cell row column value) = before
cost_with j before (change.Limits row lower upper) = before

-- the limits that a change gives row i, else those before
abbrev pub limits_with : ℕ → Limits → Change → Limits
limits_with i before (change.Cost column value) = before
limits_with i before (change.Cell row column value) = before
limits_with i before (change.Limits row lower upper) =
    if row == i then record { lower = lower; upper = upper } else before
