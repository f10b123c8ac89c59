-- Going through the points of a box one after another, as an odometer does.
use Rattle.std.specs.Prelude.{◌≡◌, ℕ, zero, suc, List, [], ◌∷◌, ◌++◌, map, ℤ, pos, ◌+ℤ◌, ◌-ℤ◌, ◌≤ℤ◌, int_lt, Option, Some, None, if◌then◌else◌}
use Rattle.std.specs.List.{flat_map}
use Rattle.boxed_problem.specs.Points.{box_points, run_from, count_to}
use Rattle.boxed_problem.specs.Sides.{corner}
use Rattle.boxed_problem.specs.declared.parts.Side.{Side}

-- each value lies on its side, by recursion
abbrev pub OnSides : List Side → List ℤ → Type 0
OnSides [] [] = Unit {0}
OnSides [] (v ∷ x) = ⊥
OnSides (s ∷ ss) [] = ⊥
OnSides (s ∷ ss) (v ∷ x) = ((s.lower ≤ℤ v) × (v ≤ℤ s.upper)) × OnSides ss x

-- the next point where the first value is v, by the next point of the other columns
abbrev pub next_with : Side → List Side → ℤ → Option (List ℤ) → Option (List ℤ)
next_with s ss v (Some y) = Some (v ∷ y)
next_with s ss v None = if int_lt v s.upper then Some ((v +ℤ pos 1) ∷ corner ss) else None

-- the point of a box that comes next after x; none after the last
abbrev pub next_point : List Side → List ℤ → Option (List ℤ)
next_point [] x = None
next_point (s ∷ ss) [] = None
next_point (s ∷ ss) (v ∷ x) = next_with s ss v (next_point ss x)

-- the points whose first value is above v
abbrev pub points_above : Side → List Side → ℤ → List (List ℤ)
points_above s ss v = flat_map (λ w. map (λ x. w ∷ x) (box_points ss))
    (run_from (v +ℤ pos 1) (count_to (s.upper -ℤ (v +ℤ pos 1))))

-- the points of a box from x on
abbrev pub points_from : List Side → List ℤ → List (List ℤ)
points_from [] x = [] ∷ []
points_from (s ∷ ss) [] = []
points_from (s ∷ ss) (v ∷ x) = map (λ y. v ∷ y) (points_from ss x) ++ points_above s ss v

-- the points from there on, none where there is no point
abbrev pub points_after : List Side → Option (List ℤ) → List (List ℤ)
points_after box None = []
points_after box (Some x) = points_from box x

-- the values from column j on were the greatest and are now the least; those before it are
-- unchanged
abbrev pub WrappedFrom : ℕ → List Side → List ℤ → List ℤ → Type 0
WrappedFrom zero box old new = (next_point box old ≡ None) × (new ≡ corner box)
WrappedFrom (suc j) [] old new = ⊥
WrappedFrom (suc j) (s ∷ ss) [] new = ⊥
WrappedFrom (suc j) (s ∷ ss) (v ∷ x) [] = ⊥
WrappedFrom (suc j) (s ∷ ss) (v ∷ x) (w ∷ y) = (w ≡ v) × WrappedFrom j ss x y
