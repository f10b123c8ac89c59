-- Feasible points, and the first feasible point of least value.
use Rattle.std.specs.Prelude.{◌≡◌, ℕ, ◌<◌, Bool, true, ◌&&◌, List, [], ◌∷◌, length, ℤ, ◌≤ℤ◌, ◌<ℤ◌, ◌⊎◌, int_lt, IsTrue, Option, Some, None, if◌then◌else◌}
use Rattle.std.specs.List.{filter}
use Rattle.boxed_problem.specs.BoxedFacts.{limits_at}
use Rattle.boxed_problem.specs.Objective.{value_of}
use Rattle.boxed_problem.specs.Points.{InBox, box_points}
use Rattle.boxed_problem.specs.Rows.{activity, meets, meets_rows}
use Rattle.boxed_problem.specs.declared.parts.Best.{Best}
use Rattle.boxed_problem.specs.Data.{Problem}

-- a point of the box whose activity lies in the limits of each row
pub record Feasible (b : Problem) (x : List ℤ) : Type 0 where
  pub inside : InBox b.columns x
  pub rows : (i : ℕ) → i < length b.rows
      → IsTrue (meets (limits_at b.rows i) (activity b.entries x i))

-- whether a point meets all rows
abbrev pub meets_all : Problem → List ℤ → Bool
meets_all b x = meets_rows (length b.rows) b.rows b.entries x

-- all feasible points in the order of columns, smaller values first
abbrev pub feasible_points : Problem → List (List ℤ)
feasible_points b = filter (meets_all b) (box_points b.columns)

-- a point with its value
abbrev pub priced : Problem → List ℤ → Best
priced b x = record { point = x; value = value_of b x }

-- a later one where its value is lower, else the earlier one
abbrev pub lower_of : Best → Option Best → Best
lower_of best None = best
lower_of best (Some later) = if int_lt later.value best.value then later else best

-- the first point of least value in a list, with its value; none where the list is empty
abbrev pub first_least : Problem → List (List ℤ) → Option Best
first_least b [] = None
first_least b (x ∷ xs) = Some (lower_of (priced b x) (first_least b xs))

-- the first feasible point of least value, with its value; none where no point is feasible
unfoldable pub best_of : Problem → Option Best
best_of b = first_least b (feasible_points b)

-- whether a value is below the best one so far, as any value is where there is none
abbrev pub improves : ℤ → Option Best → Bool
improves v None = true
improves v (Some best) = int_lt v best.value

-- the best so far, or a further point where that meets all rows and improves on it
abbrev pub better : Problem → Option Best → List ℤ → Option Best
better b best x =
    if meets_all b x && improves (value_of b x) best then Some (priced b x) else best

-- a point comes before another in the order of columns, smaller values first
abbrev pub Precedes : List ℤ → List ℤ → Type 0
Precedes [] y = ⊥
Precedes (v ∷ x) [] = ⊥
Precedes (v ∷ x) (w ∷ y) = (v <ℤ w) ⊎ ((v ≡ w) × Precedes x y)

-- a feasible point with its value; no feasible point is lower, and each earlier one is higher
pub record IsFirstLeast (b : Problem) (best : Best) : Type 0 where
  pub feasible : Feasible b best.point
  pub value : best.value ≡ value_of b best.point
  pub least : (x : List ℤ) → Feasible b x → best.value ≤ℤ value_of b x
  pub first : (x : List ℤ) → Feasible b x → Precedes x best.point → best.value <ℤ value_of b x

-- the answer is the first least feasible point; none says that no point is feasible
abbrev pub IsBest : Problem → Option Best → Type 0
IsBest b None = (x : List ℤ) → Feasible b x → ⊥
IsBest b (Some best) = IsFirstLeast b best
