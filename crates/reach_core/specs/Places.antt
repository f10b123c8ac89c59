-- The rows and columns that the entries of a program name, and their order.
use Rattle.std.specs.Prelude.{◌<◌, length}
use Rattle.std.specs.List.{All}
use Rattle.boxed_problem.specs.declared.parts.Entry.{Entry}
use Rattle.boxed_problem.specs.BoxedFacts.{AreAscending}
use Rattle.sp_model.specs.declared.program.Program.{Program}

-- each entry names a row and a column that are there
abbrev pub AreThere : Program → Type 0
AreThere program = All (λ (e : Entry). (e.row < length program.rows)
    × (e.column < length program.columns)) program.entries

-- the entries ascend by column, and by row within a column
abbrev pub AreOrdered : Program → Type 0
AreOrdered program = AreAscending program.entries
