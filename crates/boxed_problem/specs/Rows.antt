-- The activities of rows at a point, and whether the point meets the rows.
use Rattle.std.specs.Prelude.{ℕ, zero, suc, ◌==◌, Bool, true, ◌&&◌, List, ℤ, pos, ◌+ℤ◌, ◌*ℤ◌, int_le, Option, Some, None, if◌then◌else◌}
use Rattle.std.specs.List.{fold}
use Rattle.boxed_problem.specs.BoxedFacts.{limits_at}
use Rattle.base_words.specs.Sums.{number_at}
use Rattle.boxed_problem.specs.declared.parts.Limits.{Limits}
use Rattle.boxed_problem.specs.declared.parts.Entry.{Entry}

-- what an entry adds to the activity of row i at a point
abbrev pub activity_part : List ℤ → ℕ → Entry → ℤ
activity_part x i e = if e.row == i then e.value *ℤ number_at x e.column else pos 0

-- the activity of row i: the sum over its entries of the entry times the column's value
abbrev pub activity : List Entry → List ℤ → ℕ → ℤ
activity entries x i = fold (λ sum e. sum +ℤ activity_part x i e) (pos 0) entries

-- whether a number is at least a lower limit, if there is one
abbrev pub is_above : Option ℤ → ℤ → Bool
is_above None a = true
is_above (Some lower) a = int_le lower a

-- whether a number is at most an upper limit, if there is one
abbrev pub is_below : Option ℤ → ℤ → Bool
is_below None a = true
is_below (Some upper) a = int_le a upper

-- whether an activity lies in a row's limits
abbrev pub meets : Limits → ℤ → Bool
meets limits a = is_above limits.lower a && is_below limits.upper a

-- whether a point meets each of the first n rows
abbrev pub meets_rows : ℕ → List Limits → List Entry → List ℤ → Bool
meets_rows zero rows entries x = true
meets_rows (suc n) rows entries x =
    meets_rows n rows entries x && meets (limits_at rows n) (activity entries x n)
