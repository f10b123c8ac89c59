-- sides of one column cut by a slack above the least that it adds
use Rattle.std.proofs.Common.{arith, ap, ◌≡◌, ◌*◌, ◌≤◌, ℤ, pos, ◌*ℤ◌, ◌≤ℤ◌}
use Rattle.std.proofs.lemmas.Int.{ints, clamps}
use Rattle.boxed_problem.specs.Objective.{curve}
use Rattle.boxed_problem.specs.declared.parts.Side.{Side}
use Rattle.base_words.proofs.Products.{zero_times}
use Rattle.branch_bound.specs.Bettering.{KeepsSlack}
use Rattle.propagate.specs.Ranged.{IsInside, low_end}
use Rattle.propagate.specs.Tightening.{KeepsAbove}
use Rattle.safe_bound.specs.Leasts.{least_on}
use Rattle.safe_bound.proofs.LeastLaws.{least_on-le}

inside_self : (s : Side) → s.lower ≤ℤ s.upper → IsInside s s
inside_self s f = record { lower = omega (arith, ints); filled = f; upper = omega (arith, ints) }

-- with no square part the least is at one of the ends
line_least : (line : ℤ) (s : Side) → s.lower ≤ℤ s.upper → least_on line (pos 0) s ≤ℤ low_end line s
line_least line s f =
    let a = least_on-le line (pos 0) s s.lower (omega (arith, ints)) f in
    let b = least_on-le line (pos 0) s s.upper f (omega (arith, ints)) in
    let za = zero_times (s.lower *ℤ s.lower) in
    let zb = zero_times (s.upper *ℤ s.upper) in
    omega (arith, ints, clamps, a, b, za, zb)

-- with no square part a cut by the product is one by what the column adds
pub line_keeps : (line square : ℤ) (s : Side) (slack : ℤ) (new : Side) → s.lower ≤ℤ s.upper → square ≡ pos 0 → KeepsAbove line s slack new → KeepsSlack line square s slack new
line_keeps line square s slack new f z k = record {
  inside = k.inside;
  keeps = λ x l u h.
      let e = ap (λ q. least_on line q s) z in
      let v = ap (λ q. curve line q x) z in
      k.keeps x l u (omega (arith, ints, h, line_least line s f, e, v, zero_times (x *ℤ x)));
}

pub slack_self : (line square : ℤ) (s : Side) (slack : ℤ) → s.lower ≤ℤ s.upper → KeepsSlack line square s slack s
slack_self line square s slack f = record { inside = inside_self s f; keeps = λ x l u h. (l, u) }
