use Rattle.std.proofs.Common.{arith, ◌≡◌, ◌≤ℤ◌, ◌<ℤ◌, ◌-ℤ◌, FitsSigned, rules}
use Rattle.std.proofs.lemmas.Int.{ints, to_z-of_z}
use Rattle.std.specs.Int.{w128}
use Rattle.boxed_problem.specs.Data.{problem_of}
use Rattle.branch_bound.specs.Bettering.{IsMost, IsSlack}
use Rattle.branch_bound.proofs.BetterLaws.{narrows_self, narrows_trans, reduced_within, slack_is, slack_stays, total_none}
use Rattle.propagate.proofs.TightLaws.{same_on, trail_within}
use Rattle.safe_bound.specs.ReducedOf.{reduced_total}
use Rattle.branch_bound.proofs.bettering.narrow_by.Goals as goal

pub total_from-total-requires : goal.total_from-total-requires
total_from-total-requires c = reduced_within (problem_of c.args.problem.now) c.args.reduced.now c.args.sparse.now c.args.trail.now c.requires.under c.requires.of c.requires.sparse

pub returns-in_default-clause-narrows : goal.returns-in_default-clause-narrows
returns-in_default-clause-narrows c = narrows_self (problem_of c.args.problem.now) c.args.best.now c.args.trail.now

pub returns-then-most-total-clause-narrows : goal.returns-then-most-total-clause-narrows
returns-then-most-total-clause-narrows c = narrows_self (problem_of c.args.problem.now) c.args.best.now c.args.trail.now

pub returns-then-most-total-clause-none : goal.returns-then-most-total-clause-none
returns-then-most-total-clause-none c = λ e.
    let b = problem_of c.args.problem.now in
    let r = c.args.reduced.now in
    let sides = c.args.trail.now.sides in
    let fs : FitsSigned w128 r.scale = search rules in
    let fm : FitsSigned w128 c.in-Some.most = search rules in
    let ft : FitsSigned w128 c.total_from-total.result = search rules in
    let most : IsMost b c.args.best.now r.scale c.in-Some.most = simp to_z-of_z at c.in-Some.ensures in
    let less : c.in-Some.most <ℤ reduced_total r sides = omega (arith, ints, c.if-most-total.true, to_z-of_z w128 c.in-Some.most fm, to_z-of_z w128 c.total_from-total.result ft, c.total_from-total.ensures) in
    total_none b r c.args.best.now sides c.in-Some.most c.requires.under (trail_within b c.args.sparse.now c.args.trail.now c.requires.sparse c.requires.of) most less

pub returns-in_default-slack_above-clause-narrows : goal.returns-in_default-slack_above-clause-narrows
returns-in_default-slack_above-clause-narrows c = narrows_self (problem_of c.args.problem.now) c.args.best.now c.args.trail.now

pub loop-column-init : goal.loop-column-init
loop-column-init c = record { narrows = narrows_self (problem_of c.args.problem.now) c.args.best.now c.args.trail.now; same = c.requires.sparse }

pub narrow_column-requires-clause-slack : goal.narrow_column-requires-clause-slack
narrow_column-requires-clause-slack c =
    let b = problem_of c.args.problem.now in
    let r = c.args.reduced.now in
    let sides = c.args.trail.now.sides in
    let fs : FitsSigned w128 r.scale = search rules in
    let fm : FitsSigned w128 c.in-Some.most = search rules in
    let ft : FitsSigned w128 c.total_from-total.result = search rules in
    let fk : FitsSigned w128 c.in-Some-slack_above.slack = search rules in
    let most : IsMost b c.args.best.now r.scale c.in-Some.most = simp to_z-of_z at c.in-Some.ensures in
    let left : c.in-Some-slack_above.slack ≡ (c.in-Some.most -ℤ c.total_from-total.result) = simp to_z-of_z at c.in-Some-slack_above.ensures in
    let less : reduced_total r sides ≤ℤ c.in-Some.most = omega (arith, ints, c.if-most-total.false, to_z-of_z w128 c.in-Some.most fm, to_z-of_z w128 c.total_from-total.result ft, c.total_from-total.ensures) in
    let slack : IsSlack b c.args.best.now r.scale (reduced_total r sides) c.in-Some-slack_above.slack = slack_is b c.args.best.now r.scale (reduced_total r sides) c.in-Some.most c.in-Some-slack_above.slack most less (omega (arith, ints, left, c.total_from-total.ensures)) in
    simp to_z-of_z (slack_stays b r c.args.best.now c.loop-column.trail.sides sides c.in-Some-slack_above.slack c.loop-column.invariant.narrows.within slack)

pub loop-column-preserved : goal.loop-column-preserved
loop-column-preserved c =
    let at = c.loop-column.trail in
    let new = c.narrow_column.new.trail in
    let narrows = narrows_trans (problem_of c.args.problem.now) c.args.best.now c.args.trail.now at new c.loop-column.invariant.narrows c.in_ok-narrow_column.ensures in
    record { narrows = narrows; same = same_on c.args.sparse.now at new c.loop-column.invariant.same c.in_ok-narrow_column.ensures.marks }
