-- What `read_core` answers for a file: its data exactly, or exactly its first fault.
use Rattle.std.specs.Prelude.{◌≡◌, ℕ, ◌≤◌, false, length, Result, Ok, Err}
use Rattle.std.specs.List.{All}
use Rattle.smps_words.specs.declared.core_file.Core.{Core}
use Rattle.core_lines.specs.Boxes.{has_empty_box}
use Rattle.core_lines.specs.Meaning.{Fails}
use Rattle.core_lines.specs.Parts.{Before}
use Rattle.core_lines.specs.declared.cells.Cell.{Cell}
use Rattle.core_lines.specs.declared.kinds.CoreFault.{CoreFault}
use Rattle.core_lines.specs.declared.kinds.CoreKind.{CoreKind}
use Rattle.smps_core.specs.CoreData.{IsCoreOf}

-- the data are what the lines up to ENDATA say, or the fault is the first one, or memory is refused
-- where it is asked for
abbrev pub Reads : Type 0 → Result Core CoreFault → Result Before (ℕ × CoreKind) → Type 0
Reads asked (Ok core) read = (said : Before) × (read ≡ Ok said) × IsCoreOf said core
Reads asked (Err fault) read = Fails asked fault read

-- the rows of the lines' pairs are there, and no box is empty
pub record FitsTogether (said : Before) : Type 0 where
  pub placed : All (λ (c : Cell). c.row ≤ length said.rows.names) said.columns.cells
  pub filled : has_empty_box said.bounds.bounds (length said.columns.names) ≡ false
