-- The facts of a scenario problem: how great its objective and its rows may become.
use Rattle.std.specs.Prelude.{◌≡◌, ℕ, ◌+◌, ◌*◌, ◌^◌, ◌<◌, ◌≤◌, ◌==◌, max, List, length, ℤ, pos, ◌≤ℤ◌, unsigned_abs, slice_index_or, None, if◌then◌else◌}
use Rattle.std.specs.List.{All, sum_by}
use Rattle.boxed_problem.specs.Sides.{side_at, reach}
use Rattle.base_words.specs.Sums.{size_below, number_at}
use Rattle.base_words.specs.Signs.{limit_size}
use Rattle.boxed_problem.specs.declared.parts.Side.{Side}
use Rattle.boxed_problem.specs.declared.parts.Limits.{Limits}
use Rattle.boxed_problem.specs.declared.parts.Entry.{Entry}

-- what stands past the end of the rows: no limits
abbrev pub no_limits : Limits
no_limits = record { lower = None; upper = None }

-- the limits of row i
abbrev pub limits_at : List Limits → ℕ → Limits
limits_at rows i = slice_index_or rows i no_limits

-- what stands past the end of the entries
abbrev pub no_entry : Entry
no_entry = record { row = 0; column = 0; value = pos 0 }

-- the entry at a place
abbrev pub entry_at : List Entry → ℕ → Entry
entry_at entries k = slice_index_or entries k no_entry

-- column j's part in a value, at any point of the box, has at most this magnitude
abbrev pub column_size : List Side → List ℤ → List ℤ → ℕ → ℕ
column_size columns line square j =
    unsigned_abs (number_at line j) * reach (side_at columns j) + unsigned_abs (number_at square j)
    * (reach (side_at columns j) * reach (side_at columns j))

-- the magnitude of the constant and the parts of all columns
abbrev pub value_size : List Side → ℤ → List ℤ → List ℤ → ℕ
value_size columns constant line square =
    unsigned_abs constant + size_below (length columns) (column_size columns line square)

-- an entry's part in row i's activity, at any point of the box, has at most this magnitude
abbrev pub entry_size : List Side → ℕ → Entry → ℕ
entry_size columns i e =
    if e.row == i then unsigned_abs e.value * reach (side_at columns e.column) else 0

-- the greater magnitude of a row's limits
abbrev pub limits_size : Limits → ℕ
limits_size limits = max (limit_size limits.lower) (limit_size limits.upper)

-- the magnitude of row i's limits and the parts of all its entries
abbrev pub row_size : List Side → List Limits → List Entry → ℕ → ℕ
row_size columns rows entries i =
    limits_size (limits_at rows i) + sum_by (entry_size columns i) entries

-- an entry stands before another: by column, and by row within a column
abbrev pub ComesBefore : Entry → Entry → Type 0
ComesBefore e f = (e.column ≤ f.column) × (e.column ≡ f.column → e.row < f.row)

-- ascending by column, and by row within a column
abbrev pub AreAscending : List Entry → Type 0
AreAscending es = (k : ℕ) → k + 1 < length es → ComesBefore (entry_at es k) (entry_at es (k + 1))

-- the facts that a problem keeps
pub record IsBoxed (columns : List Side) (rows : List Limits) (entries : List Entry) (constant : ℤ)
    (line square : List ℤ) : Type 0 where
  pub lines : length line ≡ length columns
  pub squares : length square ≡ length columns
  pub filled : All (λ s. s.lower ≤ℤ s.upper) columns
  pub convex : All (λ q. pos 0 ≤ℤ q) square
  pub places : All (λ e. (e.row < length rows) × (e.column < length columns)) entries
  pub ascending : AreAscending entries
  pub value_fits : value_size columns constant line square ≤ 2 ^ 122
  pub rows_fit : (i : ℕ) → i < length rows → row_size columns rows entries i ≤ 2 ^ 122
