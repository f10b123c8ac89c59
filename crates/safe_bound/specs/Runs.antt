-- the entries of one column, which stand side by side

use Rattle.std.specs.Prelude.{◌≡◌, ℕ, ◌<◌, ◌≤◌, List, length}
use Rattle.boxed_problem.specs.BoxedFacts.{entry_at}
use Rattle.boxed_problem.specs.declared.parts.Entry.{Entry}

-- the entries before this place are of earlier columns, and no entry from it on is
pub record StartsAt (entries : List Entry) (column place : ℕ) : Type 0 where
  pub within : place ≤ length entries
  pub before : (k : ℕ) → k < place → (entry_at entries k).column < column
  pub behind : (k : ℕ) → place ≤ k → k < length entries → column ≤ (entry_at entries k).column

-- the entries of a column are those from one place up to another
pub record IsColumnRun (entries : List Entry) (column first end : ℕ) : Type 0 where
  pub starts : StartsAt entries column first
  pub order : first ≤ end
  pub within : end ≤ length entries
  pub inside : (k : ℕ) → first ≤ k → k < end → (entry_at entries k).column ≡ column
  pub behind : (k : ℕ) → end ≤ k → k < length entries → column < (entry_at entries k).column

-- the first place from one on whose entry is of another column, or the end of the entries
pub record IsRunEnd (entries : List Entry) (column first end : ℕ) : Type 0 where
  pub order : first ≤ end
  pub within : end ≤ length entries
  pub inside : (k : ℕ) → first ≤ k → k < end → (entry_at entries k).column ≡ column
  pub other : end < length entries → (entry_at entries end).column ≡ column → ⊥
