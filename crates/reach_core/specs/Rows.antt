-- The rows of the core.
use Rattle.std.specs.Prelude.{◌≡◌, map}
use Rattle.boxed_problem.specs.BoxedFacts.{limits_size}
use Rattle.sp_model.specs.Changes.{limits_of}
use Rattle.sp_model.specs.declared.program.Program.{Program}
use Rattle.sp_model.specs.declared.program.Row.{Row}
use Rattle.reach_core.specs.Greatest.{sums_of}
use Rattle.reach_core.specs.declared.rows.CoreRows.{CoreRows}

-- the magnitudes of the core's limits, and the sums of the parts of its entries
pub record AreOfCore (program : Program) (core : CoreRows) : Type 0 where
  pub limits : core.limits.items ≡ map (λ (row : Row). limits_size (limits_of row)) program.rows
  pub sums : core.sums.items ≡ sums_of program program.entries
