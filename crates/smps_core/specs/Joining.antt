-- The parts that a core is made of, and what the lines say of them.
use Rattle.std.specs.Prelude.{◌≡◌, ℕ, List}
use Rattle.smps_words.specs.declared.core_file.Core.{Core}
use Rattle.core_lines.specs.Parts.{Before}
use Rattle.smps_core.specs.CoreData.{AreEntriesOf, columns_of, constant_of, objective_of, right_name_of, rows_of}
use Rattle.smps_core.specs.declared.joining.Lists.{Lists}
use Rattle.smps_core.specs.declared.joining.Parts.{Parts}
use Rattle.smps_core.specs.declared.joining.Words.{Words}

-- the lists are those that the lines say
pub record AreListsOf (said : Before) (lists : Lists) : Type 0 where
  pub rows : lists.rows ≡ rows_of said
  pub columns : lists.columns ≡ columns_of said
  pub entries : AreEntriesOf said.columns.cells lists.entries

-- the constant and the names are those that the lines say
pub record AreWordsOf (said : Before) (words : Words) : Type 0 where
  pub constant : words.constant ≡ constant_of said
  pub right_name : words.right_name ≡ right_name_of said.rights.set
  pub objective : words.objective ≡ objective_of said

-- both
pub record ArePartsOf (said : Before) (parts : Parts) : Type 0 where
  pub lists : AreListsOf said parts.lists
  pub words : AreWordsOf said parts.words

-- a core has these parts
pub record HasParts (core : Core) (lists : Lists) (words : Words)
    (names_of_rows names_of_columns : List (List ℕ)) : Type 0 where
  pub rows : core.rows ≡ lists.rows
  pub columns : core.columns ≡ lists.columns
  pub entries : core.entries ≡ lists.entries
  pub constant : core.constant ≡ words.constant
  pub right_name : core.right_name ≡ words.right_name
  pub objective : core.objective ≡ words.objective
  pub row_names : core.row_names ≡ names_of_rows
  pub column_names : core.column_names ≡ names_of_columns
