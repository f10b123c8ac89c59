-- Lines of ROWS: a kind and a name.
use Rattle.std.specs.Prelude.{ℕ, ◌+◌, ◌==◌, Bool, true, false, not, List, [], ◌∷◌, ◌++◌, length, Option, Some, None, is_none, unwrap_or, option_map, nat_le, if◌then◌else◌}
use Rattle.line_core.specs.Names.{number_of}
use Rattle.smps_words.specs.CoreFacts.{max_rows}
use Rattle.smps_words.specs.Tables.{first_true, ◌or◌}
use Rattle.smps_words.specs.TextLines.{TextLine, field, field_count}
use Rattle.smps_words.specs.declared.core_data.RowKind.{RowKind}
use Rattle.core_lines.specs.Parts.{RowsSaid}
use Rattle.core_lines.specs.Words.{row_kind_named}
use Rattle.core_lines.specs.declared.kinds.CoreKind.{CoreKind}
use Rattle.core_lines.specs.declared.kinds.CoreKind.TheVariants.{Fields, Twice, Limit}

-- the number of a row by its name, counted with the objective as 0 and the constraint rows from 1;
-- none for a later row of kind N, which is ignored
abbrev pub row_named : RowsSaid → List ℕ → Option (Option ℕ)
row_named rows name =
    option_map (λ i. Some (i + 1)) (number_of name rows.names)
    or option_map (λ i. if i == 0 then Some 0 else None) (number_of name rows.frees)

-- no row has this name
abbrev pub is_unknown : RowsSaid → List ℕ → Bool
is_unknown rows name = is_none (row_named rows name)

-- the number of a row that isn't ignored
abbrev pub row_place : RowsSaid → List ℕ → Option ℕ
row_place rows name = unwrap_or (row_named rows name) None

-- a word that names the kind N, and one that names no kind
abbrev pub is_free_kind : Option (Option RowKind) → Bool
is_free_kind None = false
is_free_kind (Some kind) = is_none kind

-- what a line of this kind adds to the kinds of the constraint rows, to their names, and to those
-- of kind N
abbrev pub kinds_added : Option (Option RowKind) → List RowKind
kinds_added None = []
kinds_added (Some None) = []
kinds_added (Some (Some kind)) = kind ∷ []

abbrev pub names_added : Option (Option RowKind) → List ℕ → List (List ℕ)
names_added None name = []
names_added (Some None) name = []
names_added (Some (Some kind)) name = name ∷ []

abbrev pub frees_added : Option (Option RowKind) → List ℕ → List (List ℕ)
frees_added None name = []
frees_added (Some None) name = name ∷ []
frees_added (Some (Some kind)) name = []

-- the same by the words of a line
abbrev pub kinds_in : TextLine → List RowKind
kinds_in line = kinds_added (row_kind_named (field 0 line))

abbrev pub names_in : TextLine → List (List ℕ)
names_in line = names_added (row_kind_named (field 0 line)) (field 1 line)

abbrev pub frees_in : TextLine → List (List ℕ)
frees_in line = frees_added (row_kind_named (field 0 line)) (field 1 line)

-- what the rows are after one more line, if it is a line of ROWS
abbrev pub rows_next : Bool → RowsSaid → TextLine → RowsSaid
rows_next false rows line = rows
rows_next true rows line = record {
  names = rows.names ++ names_in line;
  kinds = rows.kinds ++ kinds_in line;
  frees = rows.frees ++ frees_in line;
}

-- whether there is no place for a row of this kind
abbrev pub is_full : RowsSaid → Option (Option RowKind) → Bool
is_full rows kind = if is_free_kind kind then false else nat_le max_rows (length rows.names)

-- the fault of a line: two fields, a kind, a new name, and at most 5000 constraint rows
abbrev pub row_fault : RowsSaid → TextLine → Option CoreKind
row_fault rows line = first_true (
    (not (field_count line == 2), Fields)
    ∷ (is_none (row_kind_named (field 0 line)), Fields)
    ∷ (not (is_unknown rows (field 1 line)), Twice)
    ∷ (is_full rows (row_kind_named (field 0 line)), Limit)
    ∷ [])
