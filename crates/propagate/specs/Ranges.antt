-- The range of a row's activity over a box, and whether it misses the row's limits.
use Rattle.std.specs.Prelude.{ℕ, zero, suc, ◌==◌, Bool, false, not, ◌&&◌, ◌||◌, List, ℤ, pos, ◌+ℤ◌, ◌*ℤ◌, if◌then◌else◌}
use Rattle.std.specs.Int.{int_max, int_min}
use Rattle.std.specs.List.{fold}
use Rattle.boxed_problem.specs.BoxedFacts.{limits_at}
use Rattle.boxed_problem.specs.Rows.{is_above, is_below}
use Rattle.boxed_problem.specs.Sides.{side_at}
use Rattle.boxed_problem.specs.declared.parts.Side.{Side}
use Rattle.boxed_problem.specs.declared.parts.Limits.{Limits}
use Rattle.boxed_problem.specs.declared.parts.Entry.{Entry}

-- the least that an entry adds to the activity of row i in a box
abbrev pub low_part : List Side → ℕ → Entry → ℤ
low_part box i e =
    if e.row == i then int_min (e.value *ℤ (side_at box e.column).lower)
    (e.value *ℤ (side_at box e.column).upper) else pos 0

-- the greatest that an entry adds to the activity of row i in a box
abbrev pub high_part : List Side → ℕ → Entry → ℤ
high_part box i e =
    if e.row == i then int_max (e.value *ℤ (side_at box e.column).lower)
    (e.value *ℤ (side_at box e.column).upper) else pos 0

-- the lower end of the range of row i's activity in a box
abbrev pub low_activity : List Entry → List Side → ℕ → ℤ
low_activity entries box i = fold (λ sum e. sum +ℤ low_part box i e) (pos 0) entries

-- the upper end of the range of row i's activity in a box
abbrev pub high_activity : List Entry → List Side → ℕ → ℤ
high_activity entries box i = fold (λ sum e. sum +ℤ high_part box i e) (pos 0) entries

-- whether a range misses the limits: no number of it can lie in them
abbrev pub misses : Limits → ℤ → ℤ → Bool
misses limits low high = not (is_above limits.lower high && is_below limits.upper low)

-- whether the range of one of the first n rows misses its limits
abbrev pub misses_one : ℕ → List Limits → List Entry → List Side → Bool
misses_one zero rows entries box = false
misses_one (suc n) rows entries box =
    misses_one n rows entries box
    || misses (limits_at rows n) (low_activity entries box n) (high_activity entries box n)
