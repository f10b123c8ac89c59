use Rattle.std.proofs.Common.{arith, ℕ, ◌<◌, length, ◌≤ℤ◌}
use Rattle.std.proofs.lemmas.List.Elements.{All-from_get_or, recursion_from_All}
use Rattle.boxed_problem.specs.Sides.{no_side, side_at}
use Rattle.boxed_problem.specs.declared.parts.Side.{Side}
use Rattle.search_tests.proofs.problems.lie_within.Goals as goal

pub returns : goal.returns
returns c = λ t.
    let inner = c.args.inner.now in
    let all = c.loop-j.invariant in
    let filled : (k : ℕ) → k < length inner → (side_at inner k).lower ≤ℤ (side_at inner k).upper = λ k l. (all k (omega (arith, l, c.loop-j-test.false, c.if-inner-outer.false))).0 in
    record {
      long = c.if-inner-outer.false;
      filled = recursion_from_All (λ (s : Side). s.lower ≤ℤ s.upper) inner (All-from_get_or (λ (s : Side). s.lower ≤ℤ s.upper) inner no_side filled);
      lower = λ k l. (all k (omega (arith, l, c.loop-j-test.false))).1;
      upper = λ k l. (all k (omega (arith, l, c.loop-j-test.false))).2;
    }
