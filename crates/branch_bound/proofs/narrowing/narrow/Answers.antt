use Rattle.boxed_problem.specs.Data.{problem_of}
use Rattle.branch_bound.proofs.BetterLaws.{holds_none, narrows_rows, narrows_self, narrows_trans}
use Rattle.branch_bound.proofs.Steps.{none_kept}
use Rattle.propagate.proofs.TightLaws.{same_on}
use Rattle.branch_bound.proofs.narrowing.narrow.Goals as goal

pub loop-init : goal.loop-init
loop-init c = record { narrows = narrows_self (problem_of c.args.problem.now) c.args.best.now c.args.trail.now; same = c.requires.sparse }

pub returns-then-not-branch-clause-narrows : goal.returns-then-not-branch-clause-narrows
returns-then-not-branch-clause-narrows c =
    let b = problem_of c.args.problem.now in
    let best = c.args.best.now in
    let old = c.args.trail.now in
    let at = c.loop.trail in
    let rowed = c.narrow_by_rows.new.trail in
    let by_rows = narrows_rows b best at rowed c.in_ok-narrow_by_rows.ensures.holds c.in_ok-narrow_by_rows.ensures.marks in
    let settled = narrows_trans b best old at rowed c.loop.invariant.narrows by_rows in
    settled

pub returns-then-not-branch-clause-none : goal.returns-then-not-branch-clause-none
returns-then-not-branch-clause-none c = λ e.
    let b = problem_of c.args.problem.now in
    let best = c.args.best.now in
    none_kept b best c.args.trail.now.sides c.loop.trail.sides c.loop.invariant.narrows.keeps (holds_none b best c.loop.trail.sides (c.in_ok-narrow_by_rows.ensures.none c.if-not-branch.true))

pub returns-then-not-branch-2-clause-narrows : goal.returns-then-not-branch-2-clause-narrows
returns-then-not-branch-2-clause-narrows c =
    let b = problem_of c.args.problem.now in
    let best = c.args.best.now in
    let old = c.args.trail.now in
    let at = c.loop.trail in
    let rowed = c.narrow_by_rows.new.trail in
    let by_rows = narrows_rows b best at rowed c.in_ok-narrow_by_rows.ensures.holds c.in_ok-narrow_by_rows.ensures.marks in
    let settled = narrows_trans b best old at rowed c.loop.invariant.narrows by_rows in
    narrows_trans b best old rowed c.narrow_by_prices.new.trail settled c.in_ok-narrow_by_prices.ensures.narrows

pub returns-then-not-branch-2-clause-none : goal.returns-then-not-branch-2-clause-none
returns-then-not-branch-2-clause-none c = λ e.
    let b = problem_of c.args.problem.now in
    let best = c.args.best.now in
    let old = c.args.trail.now in
    let at = c.loop.trail in
    let rowed = c.narrow_by_rows.new.trail in
    let by_rows = narrows_rows b best at rowed c.in_ok-narrow_by_rows.ensures.holds c.in_ok-narrow_by_rows.ensures.marks in
    let settled = narrows_trans b best old at rowed c.loop.invariant.narrows by_rows in
    let all = narrows_trans b best old rowed c.narrow_by_prices.new.trail settled c.in_ok-narrow_by_prices.ensures.narrows in
    none_kept b best old.sides c.narrow_by_prices.new.trail.sides all.keeps (c.in_ok-narrow_by_prices.ensures.none c.if-not-branch-2.true)

pub loop-preserved : goal.loop-preserved
loop-preserved c =
    let b = problem_of c.args.problem.now in
    let best = c.args.best.now in
    let old = c.args.trail.now in
    let at = c.loop.trail in
    let rowed = c.narrow_by_rows.new.trail in
    let by_rows = narrows_rows b best at rowed c.in_ok-narrow_by_rows.ensures.holds c.in_ok-narrow_by_rows.ensures.marks in
    let settled = narrows_trans b best old at rowed c.loop.invariant.narrows by_rows in
    let all = narrows_trans b best old rowed c.narrow_by_prices.new.trail settled c.in_ok-narrow_by_prices.ensures.narrows in
    record { narrows = all; same = same_on c.args.sparse.now old c.narrow_by_prices.new.trail c.requires.sparse all.marks }

pub returns-then-len-seen-clause-narrows : goal.returns-then-len-seen-clause-narrows
returns-then-len-seen-clause-narrows c =
    let b = problem_of c.args.problem.now in
    let best = c.args.best.now in
    let at = c.loop.trail in
    let rowed = c.narrow_by_rows.new.trail in
    narrows_trans b best c.args.trail.now at rowed c.loop.invariant.narrows (narrows_rows b best at rowed c.in_ok-narrow_by_rows.ensures.holds c.in_ok-narrow_by_rows.ensures.marks)

pub returns-then-len-seen-2-clause-narrows : goal.returns-then-len-seen-2-clause-narrows
returns-then-len-seen-2-clause-narrows c =
    let b = problem_of c.args.problem.now in
    let best = c.args.best.now in
    let old = c.args.trail.now in
    let at = c.loop.trail in
    let rowed = c.narrow_by_rows.new.trail in
    let by_rows = narrows_rows b best at rowed c.in_ok-narrow_by_rows.ensures.holds c.in_ok-narrow_by_rows.ensures.marks in
    let settled = narrows_trans b best old at rowed c.loop.invariant.narrows by_rows in
    narrows_trans b best old rowed c.narrow_by_prices.new.trail settled c.in_ok-narrow_by_prices.ensures.narrows
