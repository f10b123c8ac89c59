-- What it means that a column of a problem is fixed to a value.
use Rattle.std.specs.Prelude.{◌≡◌, ℕ, ℤ, slice_set}
use Rattle.boxed_problem.specs.declared.problem.Boxed.{Boxed}

-- the column's box is now the single value, and all else is as before
pub record IsFixed (old new : Boxed) (column : ℕ) (value : ℤ) : Type 0 where
  pub columns : new.columns ≡ slice_set old.columns column (record { lower = value; upper = value })
  pub rows : new.rows ≡ old.rows
  pub entries : new.entries ≡ old.entries
  pub constant : new.constant ≡ old.constant
  pub line : new.line ≡ old.line
  pub square : new.square ≡ old.square
