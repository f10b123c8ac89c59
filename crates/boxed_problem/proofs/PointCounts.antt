-- How many points the last columns of a box have.
use Rattle.std.proofs.Common.{arith, refl, ap, sym, ◌∙◌, ◌≡◌, ℕ, zero, suc, ◌+◌, ◌*◌, ◌<◌, ◌≤◌, List, [], ◌∷◌, length, drop, ◌-ℤ◌, ◌≤ℤ◌}
use Rattle.std.proofs.lemmas.Int.{ints}
use Rattle.std.proofs.Math.Nat.{mul-le-mul}
use Rattle.boxed_problem.specs.Points.{point_count, side_count}
use Rattle.boxed_problem.specs.Sides.{Filled, side_at}
use Rattle.boxed_problem.specs.declared.parts.Side.{Side}
use Rattle.boxed_problem.proofs.Listing.{count_is}

one_on : (s : Side) → s.lower ≤ℤ s.upper → 1 ≤ side_count s
one_on s h = let n = count_is (s.upper -ℤ s.lower) (omega (arith, ints)) in omega (arith, ints)

some_points : (box : List Side) → Filled box → 1 ≤ point_count box
some_points [] f = omega arith
some_points (s ∷ ss) f = mul-le-mul (one_on s f.0) (some_points ss f.1)

-- one more column in front
pub count_drop : (box : List Side) (j : ℕ) → j < length box → point_count (drop j box) ≡ side_count (side_at box j) * point_count (drop (j + 1) box)
count_drop [] j h = absurd (omega arith)
count_drop (s ∷ ss) zero h = refl
count_drop (s ∷ ss) (suc j) h = let e : (suc j + 1) ≡ suc (j + 1) = omega arith in count_drop ss j (omega arith) ∙ sym (ap (λ n. side_count (side_at ss j) * point_count (drop n (s ∷ ss))) e)

-- the last columns have no more points than all
pub count_drop-le : (box : List Side) (j : ℕ) → Filled box → point_count (drop j box) ≤ point_count box
count_drop-le [] zero f = omega arith
count_drop-le [] (suc j) f = omega arith
count_drop-le (s ∷ ss) zero f = omega arith
count_drop-le (s ∷ ss) (suc j) f =
    let r = count_drop-le ss j f.1 in
    let p = mul-le-mul (one_on s f.0) r in
    omega (arith, p)

pub side_count-le : (box : List Side) (j : ℕ) → Filled box → j < length box → side_count (side_at box j) ≤ point_count box
side_count-le [] j f h = absurd (omega arith)
side_count-le (s ∷ ss) zero f h =
    let n : side_count s ≤ side_count s = omega arith in
    let p = mul-le-mul n (some_points ss f.1) in
    omega (arith, p)
side_count-le (s ∷ ss) (suc j) f h =
    let r = side_count-le ss j f.1 (omega arith) in
    let p = mul-le-mul (one_on s f.0) r in
    omega (arith, p)
