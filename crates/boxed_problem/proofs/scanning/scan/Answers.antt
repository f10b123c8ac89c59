use Rattle.std.proofs.Common.{arith, ap, sym, ◌∙◌, ◌≡◌, Some, None, length, ◌≤ℤ◌}
use Rattle.std.proofs.lemmas.List.Elements.{recursion_from_All}
use Rattle.boxed_problem.specs.Data.{problem_of}
use Rattle.boxed_problem.specs.Sides.{corner}
use Rattle.boxed_problem.specs.Odometer.{next_point, points_from}
use Rattle.boxed_problem.specs.Optimum.{better}
use Rattle.boxed_problem.specs.declared.parts.Side.{Side}
use Rattle.boxed_problem.proofs.Least.{best_after, best_of-is}
use Rattle.boxed_problem.proofs.Optimal.{best_is}
use Rattle.boxed_problem.proofs.Listing.{corner_on, on_in, next_point-on, points_from-corner, points_from-next, points_from-last}
use Rattle.boxed_problem.proofs.scanning.scan.Goals as goal

pub points-init : goal.points-init
points-init c =
    let b = c.args.problem.now in
    let filled = recursion_from_All (λ (s : Side). s.lower ≤ℤ s.upper) b.columns b.facts.filled in
    let first : c.in_ok-point.point ≡ corner b.columns = rw c.as_slice.ensures at c.in_ok-point.ensures in
    rw first (record {
      on = corner_on b.columns filled;
      rest = ap (λ ps. best_after (problem_of b) None ps) (points_from-corner b.columns filled) ∙ best_of-is (problem_of b);
    })

pub consider-requires : goal.consider-requires
consider-requires c = on_in c.args.problem.now.columns c.points.point c.points.invariant.on

pub returns-then-not-step : goal.returns-then-not-step
returns-then-not-step c =
    let b = c.args.problem.now in
    let filled = recursion_from_All (λ (s : Side). s.lower ≤ℤ s.upper) b.columns b.facts.filled in
    let taken : c.consider.new.best ≡ better (problem_of b) c.points.best c.points.point = c.in_ok-consider.ensures in
    let none : next_point b.columns c.points.point ≡ None = rw c.as_slice-in-points.ensures at (c.step.ensures.last c.if-not-step.true) in
    let last = points_from-last b.columns c.points.point filled c.points.invariant.on none in
    let best = taken ∙ (sym (ap (λ ps. best_after (problem_of b) c.points.best ps) last) ∙ c.points.invariant.rest) in
    record { best = best; meaning = best_is (problem_of b) c.consider.new.best filled best }

pub points-smaller : goal.points-smaller
points-smaller c =
    let b = c.args.problem.now in
    let filled = recursion_from_All (λ (s : Side). s.lower ≤ℤ s.upper) b.columns b.facts.filled in
    let some : next_point b.columns c.points.point ≡ Some c.step.new.point = rw c.as_slice-in-points.ensures at (c.step.ensures.next c.if-not-step.false) in
    let next = points_from-next b.columns c.points.point c.step.new.point filled c.points.invariant.on some in
    omega (arith, ap length next)

pub points-preserved : goal.points-preserved
points-preserved c =
    let b = c.args.problem.now in
    let filled = recursion_from_All (λ (s : Side). s.lower ≤ℤ s.upper) b.columns b.facts.filled in
    let taken : c.consider.new.best ≡ better (problem_of b) c.points.best c.points.point = c.in_ok-consider.ensures in
    let some : next_point b.columns c.points.point ≡ Some c.step.new.point = rw c.as_slice-in-points.ensures at (c.step.ensures.next c.if-not-step.false) in
    let next = points_from-next b.columns c.points.point c.step.new.point filled c.points.invariant.on some in
    record {
      on = next_point-on b.columns c.points.point c.step.new.point filled c.points.invariant.on some;
      rest = ap (λ m. best_after (problem_of b) m (points_from b.columns c.step.new.point)) taken ∙ (sym (ap (λ ps. best_after (problem_of b) c.points.best ps) next) ∙ c.points.invariant.rest);
    }
