-- A program in which each column before the last stage is of the first one.

use Rattle.std.specs.Prelude.{ℕ, nat_lt, map, if◌then◌else◌}
use Rattle.sp_model.specs.declared.program.Column.{Column}
use Rattle.sp_model.specs.declared.program.Program.{Program}

-- the column in the first stage
abbrev pub at_first : Column → Column
at_first column = record column { stage = 1 }

-- the column, in the first stage unless it is of the last one of so many
abbrev pub drawn_forward : ℕ → Column → Column
drawn_forward stages column = if nat_lt column.stage stages then at_first column else column

-- the program with all its columns so
abbrev pub forward : Program → Program
forward program =
    record program { columns = map (drawn_forward program.tree.stages) program.columns }
