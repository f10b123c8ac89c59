-- The numbers of a program, none of which is above its reach.
use Rattle.std.specs.Prelude.{ℕ, ◌≤◌, ℤ, pos, ◌≤ℤ◌, unsigned_abs}
use Rattle.std.specs.List.{All}
use Rattle.boxed_problem.specs.BoxedFacts.{limits_size}
use Rattle.boxed_problem.specs.declared.parts.Entry.{Entry}
use Rattle.sp_model.specs.Changes.{limits_of}
use Rattle.sp_model.specs.RunFacts.{IdleFacts, IsScenario}
use Rattle.sp_model.specs.declared.program.Change.{Change}
use Rattle.sp_model.specs.declared.program.Change.TheVariants as change
use Rattle.sp_model.specs.declared.program.Column.{Column}
use Rattle.sp_model.specs.declared.program.Options.{Options}
use Rattle.sp_model.specs.declared.program.Program.{Program}
use Rattle.sp_model.specs.declared.program.Row.{Row}
use Rattle.sp_model.specs.declared.program.Scenario.{Scenario}
use Rattle.reach_core.specs.Places.{AreThere}

-- the greatest magnitude of the numbers of a change
abbrev pub change_size : Change → ℕ
change_size (change.Cost column value) = unsigned_abs value
change_size (change.Cell row column value) = unsigned_abs value
change_size (change.Limits row lower upper) = limits_size (record { lower = lower; upper = upper })

-- no number of a program is above n
pub record NumbersWithin (program : Program) (n : ℕ) : Type 0 where
  pub columns : All (λ (c : Column). unsigned_abs c.cost ≤ n) program.columns
  pub rows : All (λ (r : Row). limits_size (limits_of r) ≤ n) program.rows
  pub entries : All (λ (e : Entry). unsigned_abs e.value ≤ n) program.entries
  pub constant : unsigned_abs program.constant ≤ n
  pub changes : All (λ (s : Scenario). All (λ c. change_size c ≤ n) s.changes) program.scenarios

-- what a program's reach is taken of: positive factors, and columns of the single box 0 without
-- numbers
pub record HasReach (program : Program) (options : Options) (total : ℤ) : Type 0 where
  pub scale : pos 1 ≤ℤ options.scale
  pub rho : pos 1 ≤ℤ options.rho
  pub total_some : pos 1 ≤ℤ total
  pub there : AreThere program
  pub idle : IdleFacts program
  pub scenarios : All (IsScenario program) program.scenarios
