-- Which data a problem has that was made of these parts.
use Rattle.std.specs.Prelude.{◌≡◌, List, ℤ}
use Rattle.boxed_problem.specs.declared.parts.Entry.{Entry}
use Rattle.boxed_problem.specs.declared.parts.Limits.{Limits}
use Rattle.boxed_problem.specs.declared.parts.Side.{Side}
use Rattle.boxed_problem.specs.declared.problem.Boxed.{Boxed}

-- the problem has these parts
pub record HasParts (b : Boxed) (sides : List Side) (limits : List Limits) (cells : List Entry)
    (base : ℤ) (slopes bends : List ℤ) : Type 0 where
  pub columns : b.columns ≡ sides
  pub rows : b.rows ≡ limits
  pub entries : b.entries ≡ cells
  pub constant : b.constant ≡ base
  pub line : b.line ≡ slopes
  pub square : b.square ≡ bends
