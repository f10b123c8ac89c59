-- The marks of the columns' cells stay right where a cell of the last column is added.
use Rattle.std.proofs.Common.{◌≡◌, sym, subst, ℕ, ◌+◌, ◌≤◌, ◌<◌, ◌==◌, false, List, [], ◌∷◌, ◌++◌, length, get_or, set, arith, inl, inr}
use Rattle.std.specs.List.{list_any}
use Rattle.std.proofs.lemmas.Bool.{cases_eq}
use Rattle.std.proofs.lemmas.Grind.{common_steps}
use Rattle.std.proofs.lemmas.List.Elements.{All-push}
use Rattle.std.proofs.lemmas.List.Quantifiers.{all_pairs_push}
use Rattle.smps_words.specs.CoreFacts.{IsShort}
use Rattle.core_lines.specs.ColumnLines.{is_cell_of}
use Rattle.core_lines.specs.PartFacts.{ColumnFacts}
use Rattle.core_lines.specs.declared.cells.Cell.{Cell}

mark_is : (names : List (List ℕ)) (cells : List Cell) (marks : List ℕ) (cell : Cell) → ColumnFacts names cells marks → cell.column + 1 ≡ length names → cell.row < length marks → (place column : ℕ) → length names ≤ column + 1 → list_any (is_cell_of place column) (cells ++ cell ∷ []) ≡ (get_or (set marks cell.row (cell.column + 1)) place 0 == column + 1)
mark_is names cells marks cell facts last lt place column le =
    let small = facts.small place in
    let before = facts.same place column le in
    elim (cases_eq place cell.row) as (λ _. list_any (is_cell_of place column) (cells ++ cell ∷ []) ≡ (get_or (set marks cell.row (cell.column + 1)) place 0 == column + 1)) [
      | inl e ↦ elim (cases_eq column cell.column) as (λ _. list_any (is_cell_of place column) (cells ++ cell ∷ []) ≡ (get_or (set marks cell.row (cell.column + 1)) place 0 == column + 1)) [
        | inl f ↦ grind (arith, common_steps)
        | inr g ↦ grind (arith, common_steps)
      ]
      | inr ne ↦ grind (arith, common_steps)
    ]

apart : (cells : List Cell) (cell : Cell) → list_any (is_cell_of cell.row cell.column) cells ≡ false → (k : ℕ) (d : Cell) → k < length cells → is_cell_of cell.row cell.column (get_or cells k d) ≡ false
apart cells cell none k d lt = grind (arith, common_steps)

pub cell_added : (names : List (List ℕ)) (cells new_cells : List Cell) (marks new_marks : List ℕ) (cell : Cell) → ColumnFacts names cells marks → cell.column + 1 ≡ length names → list_any (is_cell_of cell.row cell.column) cells ≡ false → IsShort cell.value → cell.row < length marks → new_cells ≡ cells ++ cell ∷ [] → new_marks ≡ set marks cell.row (cell.column + 1) → ColumnFacts names new_cells new_marks
cell_added names cells new_cells marks new_marks cell facts last none short lt cells_are marks_are =
    subst (λ (m : List ℕ). ColumnFacts names new_cells m) (sym marks_are) (subst (λ (l : List Cell). ColumnFacts names l (set marks cell.row (cell.column + 1))) (sym cells_are) (record {
      few = facts.few;
      same = mark_is names cells marks cell facts last lt;
      small = λ place. let before = facts.small place in elim (cases_eq place cell.row) as (λ _. get_or (set marks cell.row (cell.column + 1)) place 0 ≤ length names) [ inl e ↦ grind (arith, common_steps) | inr ne ↦ grind (arith, common_steps) ];
      columns = All-push (λ (c : Cell). c.column < length names) cells cell facts.columns (omega (arith, last));
      values = All-push (λ (c : Cell). IsShort c.value) cells cell facts.values short;
      apart = all_pairs_push (λ (c d : Cell). is_cell_of d.row d.column c ≡ false) cells cell facts.apart (apart cells cell none);
    }))
