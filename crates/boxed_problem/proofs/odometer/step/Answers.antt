use Rattle.std.proofs.Common.{arith, ap, sym, ◌∙◌, ◌≡◌, ℕ, ◌-◌, ◌<◌, suc, subst, length, set, ℤ, pos, List, Some, ◌+ℤ◌, ◌<ℤ◌, ◌≤ℤ◌, FitsSigned, w64, rules}
use Rattle.std.proofs.lemmas.Int.{to_z-of_z}
use Rattle.std.proofs.Math.ListN.{length-set}
use Rattle.boxed_problem.specs.Odometer.{WrappedFrom, next_point}
use Rattle.boxed_problem.specs.Sides.{side_at}
use Rattle.base_words.specs.Sums.{number_at}
use Rattle.boxed_problem.specs.declared.parts.Side.{Side}
use Rattle.boxed_problem.proofs.Listing.{on_in}
use Rattle.base_words.proofs.Magnitudes.{next64_fits}
use Rattle.base_words.proofs.Comparisons.{below_from_test, above_from_test}
use Rattle.boxed_problem.proofs.Stepping.{wrapped_none, wrapped_more, wrapped_found}
use Rattle.boxed_problem.proofs.odometer.step.Goals as goal

pub loop-j-init : goal.loop-j-init
loop-j-init c =
    let i = on_in c.args.sides.now c.args.point.now c.requires in
    record { within = omega arith; long = i.long; wrapped = wrapped_none c.args.sides.now c.args.point.now c.requires }

-- with j counted down by one
found : (j : ℕ) (box : List Side) (old new : List ℤ) → 0 < j → WrappedFrom j box old new → number_at new (j - 1) <ℤ (side_at box (j - 1)).upper →
    next_point box old ≡ Some (set new (j - 1) (number_at new (j - 1) +ℤ pos 1))
found j box old new h w u =
    let e : j ≡ suc (j - 1) = omega arith in
    wrapped_found (j - 1) box old new (subst (λ n. WrappedFrom n box old new) e w) u

more : (j : ℕ) (box : List Side) (old new : List ℤ) → 0 < j → WrappedFrom j box old new → (side_at box (j - 1)).upper ≤ℤ number_at new (j - 1) → WrappedFrom (j - 1) box old (set new (j - 1) (side_at box (j - 1)).lower)
more j box old new h w u =
    let e : j ≡ suc (j - 1) = omega arith in
    wrapped_more (j - 1) box old new (subst (λ n. WrappedFrom n box old new) e w) u

pub returns-then-value-sides-clause-next : goal.returns-then-value-sides-clause-next
returns-then-value-sides-clause-next c = λ _.
    let fv : FitsSigned w64 (number_at c.loop-j.point (c.loop-j.j - 1)) = search rules in
    let fu : FitsSigned w64 (side_at c.args.sides.now (c.loop-j.j - 1)).upper = search rules in
    let less = simp to_z-of_z at (rw c.as_slice.ensures at c.if-value-sides.true) in
    let k = below_from_test (number_at c.loop-j.point (c.loop-j.j - 1)) (side_at c.args.sides.now (c.loop-j.j - 1)).upper less in
    let fn = next64_fits (number_at c.loop-j.point (c.loop-j.j - 1)) (side_at c.args.sides.now (c.loop-j.j - 1)).upper k fv fu in
    let after = simp to_z-of_z at (rw c.as_slice.ensures at c.set.ensures.after) in
    found c.loop-j.j c.args.sides.now c.args.point.now c.loop-j.point (omega arith) c.loop-j.invariant.wrapped k ∙ ap (λ l. Some l) (sym after)

pub loop-j-preserved : goal.loop-j-preserved
loop-j-preserved c =
    let fv : FitsSigned w64 (number_at c.loop-j.point (c.loop-j.j - 1)) = search rules in
    let fu : FitsSigned w64 (side_at c.args.sides.now (c.loop-j.j - 1)).upper = search rules in
    let fl : FitsSigned w64 (side_at c.args.sides.now (c.loop-j.j - 1)).lower = search rules in
    let less = simp to_z-of_z at (rw c.as_slice.ensures at c.if-value-sides.false) in
    let k = above_from_test (number_at c.loop-j.point (c.loop-j.j - 1)) (side_at c.args.sides.now (c.loop-j.j - 1)).upper less in
    let after = simp to_z-of_z at c.set-in-loop-j.ensures.after in
    record {
      within = omega arith;
      long = ap length after ∙ (length-set c.loop-j.point (c.loop-j.j - 1) (side_at c.args.sides.now (c.loop-j.j - 1)).lower ∙ c.loop-j.invariant.long);
      wrapped = rw after (more c.loop-j.j c.args.sides.now c.args.point.now c.loop-j.point (omega arith) c.loop-j.invariant.wrapped k);
    }
