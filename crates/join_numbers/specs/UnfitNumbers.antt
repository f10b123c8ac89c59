-- What can't be made for want of bits.
use Rattle.std.specs.Prelude.{ℕ, ◌≤◌, ◌^◌, Option, Some, None, option_map}
use Rattle.std.specs.List.{Any}
use Rattle.boxed_problem.specs.BoxedFacts.{limits_size}
use Rattle.boxed_problem.specs.declared.parts.Entry.{Entry}
use Rattle.boxed_problem.specs.declared.parts.Limits.{Limits}
use Rattle.dec_core.specs.Scale.{scaled_to}
use Rattle.dec_core.specs.declared.decimal.Decimal.{Decimal}
use Rattle.smps_words.specs.declared.core_data.CoreRow.{CoreRow}
use Rattle.sp_model.specs.declared.program.Change.{Change}
use Rattle.sp_model.specs.declared.program.Change.TheVariants.{Cost, Cell}
use Rattle.sp_model.specs.declared.program.Change.TheVariants as change
use Rattle.sp_model.specs.declared.program.Column.{Column}
use Rattle.sp_model.specs.declared.program.Row.{Row}
use Rattle.sp_model.specs.declared.program.Scenario.{Scenario}
use Rattle.sp_model.specs.Changes.{limits_of}
use Rattle.join_words.specs.Limits.{limits_by}
use Rattle.join_numbers.specs.Sizes.{IsLarge}
use Rattle.join_numbers.specs.declared.fault.MakeFault.{MakeFault}
use Rattle.join_numbers.specs.declared.fault.MakeFault.TheVariants.{Unfit, Memory}

-- a fault for want of bits has this cause; memory may be refused at any time
abbrev pub ByUnfit : Type 0 → MakeFault → Type 0
ByUnfit Cause Unfit = Cause
ByUnfit Cause Memory = Unit {0}

-- limits of which one is large
abbrev pub AreLarge : Limits → Type 0
AreLarge limits = 2 ^ 127 ≤ limits_size limits

-- the limits of a row with this right-hand side
abbrev pub limits_with : CoreRow → Decimal → ℕ → Limits
limits_with row rhs places =
    limits_by row.kind (scaled_to rhs places)
    (option_map (λ range. scaled_to range places) row.range)

-- a change with a number that is large
abbrev pub IsLargeChange : Change → Type 0
IsLargeChange (Cost column value) = IsLarge value
IsLargeChange (Cell row column value) = IsLarge value
IsLargeChange (change.Limits row lower upper) = AreLarge (record { lower = lower; upper = upper })

-- there is a change, and it is large
abbrev pub IsSomeLarge : Option Change → Type 0
IsSomeLarge None = ⊥
IsSomeLarge (Some one) = IsLargeChange one

-- a column, a row and an entry with a large number
abbrev pub IsLargeColumn : Column → Type 0
IsLargeColumn column = IsLarge column.cost

abbrev pub IsLargeRow : Row → Type 0
IsLargeRow row = AreLarge (limits_of row)

abbrev pub IsLargeEntry : Entry → Type 0
IsLargeEntry e = IsLarge e.value

-- a scenario with a large change
abbrev pub IsLargeScenario : Scenario → Type 0
IsLargeScenario scenario = Any IsLargeChange scenario.changes
