-- What holds of a point or a box that lies in another box, place by place.
use Rattle.std.proofs.Common.{arith, refl, ap, ◌∙◌, ◌≡◌, ℕ, zero, suc, ◌<◌, ◌≤◌, Bool, true, false, nat_lt, List, [], ◌∷◌, length, ℤ, ◌≤ℤ◌}
use Rattle.std.proofs.lemmas.Int.{ints}
use Rattle.boxed_problem.specs.Odometer.{OnSides}
use Rattle.base_words.proofs.Magnitudes.{abs_between}
use Rattle.boxed_problem.specs.Points.{InBox}
use Rattle.boxed_problem.specs.Sides.{Filled, Within, corner, no_side, reach, side_at}
use Rattle.base_words.specs.Sums.{number_at}
use Rattle.boxed_problem.specs.declared.parts.Side.{Side}

-- each value lies on its side; past the ends both are 0
abbrev pub Lies : List Side → List ℤ → Type 0
Lies box x = (j : ℕ) → ((side_at box j).lower ≤ℤ number_at x j) × (number_at x j ≤ℤ (side_at box j).upper)

pub on_lies : (box : List Side) (x : List ℤ) → OnSides box x → Lies box x
on_lies [] [] h j = (omega (arith, ints), omega (arith, ints))
on_lies [] (v ∷ x) h j = absurd h
on_lies (s ∷ ss) [] h j = absurd h
on_lies (s ∷ ss) (v ∷ x) h zero = h.0
on_lies (s ∷ ss) (v ∷ x) h (suc j) = on_lies ss x h.1 j

pub corner_at : (box : List Side) (j : ℕ) → number_at (corner box) j ≡ (side_at box j).lower
corner_at [] j = refl
corner_at (s ∷ ss) zero = refl
corner_at (s ∷ ss) (suc j) = corner_at ss j

-- past the end of a box
side_past : (box : List Side) (j : ℕ) → length box ≤ j → side_at box j ≡ no_side
side_past [] j h = refl
side_past (s ∷ ss) zero h = absurd (omega arith)
side_past (s ∷ ss) (suc j) h = side_past ss j (omega arith)

pub filled_at : (box : List Side) → Filled box → (j : ℕ) → (side_at box j).lower ≤ℤ (side_at box j).upper
filled_at [] f j = omega (arith, ints)
filled_at (s ∷ ss) f zero = f.0
filled_at (s ∷ ss) f (suc j) = filled_at ss f.1 j

-- sides within others, at any place
pub within_at : (inner outer : List Side) → Within inner outer → (j : ℕ) → ((side_at outer j).lower ≤ℤ (side_at inner j).lower) × ((side_at inner j).upper ≤ℤ (side_at outer j).upper)
within_at inner outer w j = by_place (nat_lt j (length outer)) refl
  where
    by_place : (t : Bool) → nat_lt j (length outer) ≡ t → ((side_at outer j).lower ≤ℤ (side_at inner j).lower) × ((side_at inner j).upper ≤ℤ (side_at outer j).upper)
    by_place true e = let l : j < length outer = grind arith in (w.lower j l, w.upper j l)
    by_place false e =
        let l : length outer ≤ j = grind arith in
        let p = side_past outer j l in
        let q = side_past inner j (omega (arith, w.long)) in
        (omega (arith, ints, ap (λ (s : Side). s.lower) p, ap (λ (s : Side). s.lower) q), omega (arith, ints, ap (λ (s : Side). s.upper) p, ap (λ (s : Side). s.upper) q))

-- a narrower side reaches less far
pub side_reach : (inner outer : Side) → outer.lower ≤ℤ inner.lower → inner.lower ≤ℤ inner.upper → inner.upper ≤ℤ outer.upper → reach inner ≤ reach outer
side_reach inner outer h k l =
    let p = abs_between outer.lower outer.upper inner.lower h (omega (arith, ints)) in
    let q = abs_between outer.lower outer.upper inner.upper (omega (arith, ints)) l in
    omega arith

pub within_reach : (inner outer : List Side) → Within inner outer → (j : ℕ) → reach (side_at inner j) ≤ reach (side_at outer j)
within_reach inner outer w j =
    let a = within_at inner outer w j in
    side_reach (side_at inner j) (side_at outer j) a.0 (filled_at inner w.filled j) a.1

pub within_self : (box : List Side) → Filled box → Within box box
within_self box f = record { long = refl; filled = f; lower = λ j l. omega (arith, ints); upper = λ j l. omega (arith, ints) }

pub within_trans : (inner middle outer : List Side) → Within inner middle → Within middle outer → Within inner outer
within_trans inner middle outer v w = record {
  long = v.long ∙ w.long;
  filled = v.filled;
  lower = λ j l. let p = within_at inner middle v j in let q = within_at middle outer w j in omega (arith, ints, p.0, q.0);
  upper = λ j l. let p = within_at inner middle v j in let q = within_at middle outer w j in omega (arith, ints, p.1, q.1);
}

lies_within : (inner outer : List Side) (x : List ℤ) → Within inner outer → Lies inner x → Lies outer x
lies_within inner outer x w l j =
    let p = within_at inner outer w j in
    let q = l j in
    (omega (arith, ints, p.0, q.0), omega (arith, ints, p.1, q.1))

-- the corner of sides within a box is a point of the box
pub corner_in : (inner outer : List Side) → Within inner outer → InBox outer (corner inner)
corner_in inner outer w = record {
  long = corner_long inner ∙ w.long;
  lower = λ j l. let p = within_at inner outer w j in let e = corner_at inner j in omega (arith, ints, p.0);
  upper = λ j l. let p = within_at inner outer w j in let e = corner_at inner j in let f = filled_at inner w.filled j in omega (arith, ints, p.1);
}
  where
    corner_long : (box : List Side) → length (corner box) ≡ length box
    corner_long [] = refl
    corner_long (s ∷ ss) = ap suc (corner_long ss)

-- each column of the box is single
abbrev pub Single : List Side → Type 0
Single [] = Unit {0}
Single (s ∷ ss) = (s.upper ≡ s.lower) × Single ss

pub single_at : (box : List Side) → Single box → (j : ℕ) → (side_at box j).upper ≡ (side_at box j).lower
single_at [] h j = refl
single_at (s ∷ ss) h zero = h.0
single_at (s ∷ ss) h (suc j) = single_at ss h.1 j
