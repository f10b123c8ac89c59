use Rattle.std.proofs.Common.{arith, rules, ap, ◌∙◌, ◌≡◌, ◌+◌, ◌<◌, ◌≤◌, to_z, ◌+ℤ◌, FitsSigned}
use Rattle.std.proofs.lemmas.Int.{to_z-of_z}
use Rattle.std.specs.Int.{w128}
use Rattle.base_words.proofs.Magnitudes.{fits_from_abs}
use Rattle.sp_model.specs.Problems.{scenarios, sum_some, wait_and_see_of}
use Rattle.sp_model.proofs.LeastSums.{wait_small}
use Rattle.sp_model.proofs.ScenarioPoints.{points_more}
use Rattle.sp_model.proofs.SumSome.{sum_more}
use Rattle.wait_and_see.proofs.Points.{ended_at, least_in, point_of}
use Rattle.wait_and_see.proofs.summing.wait_and_see.Goals as goal

pub overflow_add-bound : goal.overflow_add-bound
overflow_add-bound c =
    let run = c.args.run.now in
    let there : c.loop-s.s + 1 ≤ scenarios run = omega (arith, c.len-s-end.ensures, c.loop-s-test.true) in
    let fv : FitsSigned w128 c.in-Ok.value = search rules in
    let whole = to_z w128 c.loop-s.bound-bits +ℤ c.in-Ok.value in
    let next = sum_more (least_in run) c.loop-s.s (to_z w128 c.loop-s.bound-bits) c.in-Ok.value c.loop-s.invariant.sum c.in-Ok.ensures in
    simp to_z-of_z (fits_from_abs whole (omega (arith, wait_small run (c.loop-s.s + 1) whole there next)))

pub returns-in-Err-clause-answer : goal.returns-in-Err-clause-answer
returns-in-Err-clause-answer c =
    let run = c.args.run.now in
    let there : c.loop-s.s < scenarios run = omega (arith, c.len-s-end.ensures, c.loop-s-test.true) in
    ended_at run c.loop-s.s c.in-Err.fault there c.loop-s.invariant.before c.in-Err.ensures

pub loop-s-preserved : goal.loop-s-preserved
loop-s-preserved c =
    let run = c.args.run.now in
    let there : c.loop-s.s + 1 ≤ scenarios run = omega (arith, c.len-s-end.ensures, c.loop-s-test.true) in
    let fv : FitsSigned w128 c.in-Ok.value = search rules in
    let whole = to_z w128 c.loop-s.bound-bits +ℤ c.in-Ok.value in
    let next = sum_more (least_in run) c.loop-s.s (to_z w128 c.loop-s.bound-bits) c.in-Ok.value c.loop-s.invariant.sum c.in-Ok.ensures in
    let fs : FitsSigned w128 whole = fits_from_abs whole (omega (arith, wait_small run (c.loop-s.s + 1) whole there next)) in
    record {
      sum = simp to_z-of_z next;
      before = points_more run c.loop-s.s c.loop-s.invariant.before (point_of run c.loop-s.s c.in-Ok.value c.in-Ok.ensures);
    }

pub returns-clause-answer : goal.returns-clause-answer
unfolding wait_and_see_of
returns-clause-answer c =
    let run = c.args.run.now in
    let all : scenarios run ≡ c.loop-s.s = omega (arith, c.len-s-end.ensures, c.loop-s-test.false, c.loop-s.auto.s-end) in
    ap (λ n. sum_some n (least_in run)) all ∙ c.loop-s.invariant.sum

pub returns-clause-small : goal.returns-clause-small
returns-clause-small c =
    let most : c.loop-s.s ≤ scenarios c.args.run.now = omega (arith, c.len-s-end.ensures, c.loop-s.auto.s-end) in
    wait_small c.args.run.now c.loop-s.s (to_z w128 c.loop-s.bound-bits) most c.loop-s.invariant.sum
