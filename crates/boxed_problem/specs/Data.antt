-- The data of a scenario problem as a record of plain lists, without the facts that its type keeps.
use Rattle.std.specs.Prelude.{List, ℤ}
use Rattle.boxed_problem.specs.declared.parts.Entry.{Entry}
use Rattle.boxed_problem.specs.declared.parts.Limits.{Limits}
use Rattle.boxed_problem.specs.declared.parts.Side.{Side}
use Rattle.boxed_problem.specs.declared.problem.Boxed.{Boxed}

-- the data of a scenario problem, without the facts that the type Boxed keeps
pub record Problem : Type 0 where
  pub columns : List Side
  pub rows : List Limits
  pub entries : List Entry
  pub constant : ℤ
  pub line : List ℤ
  pub square : List ℤ

-- the data of a Boxed
abbrev pub problem_of : Boxed → Problem
problem_of b = record {
  columns = b.columns;
  rows = b.rows;
  entries = b.entries;
  constant = b.constant;
  line = b.line;
  square = b.square;
}
