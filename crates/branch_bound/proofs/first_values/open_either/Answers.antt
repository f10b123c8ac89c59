use Rattle.std.proofs.Common.{sym, subst}
use Rattle.boxed_problem.specs.Data.{problem_of}
use Rattle.branch_bound.specs.Frames.{IsHalved, IsStep, box_of}
use Rattle.branch_bound.proofs.Opening.{IsMarked, IsNext, halves_stack, stack_below}
use Rattle.branch_bound.proofs.first_values.open_either.Goals as goal

pub returns-in_default-clause-stack : goal.returns-in_default-clause-stack
returns-in_default-clause-stack c =
    let b = problem_of c.args.problem.now in
    let next : IsNext b c.args.best.now c.args.trail.now c.args.frame c.args.frames.now = record { is = c.requires.frame; chain = c.requires.chain; all = c.requires.frames } in
    stack_below b c.args.best.now c.step.new.best c.args.trail.now c.step.new.trail c.args.frame c.args.frames.now next c.in_ok-place.ensures.marks c.in_ok-place.ensures.falls

pub returns-in_ok-push_two-clause-stack : goal.returns-in_ok-push_two-clause-stack
returns-in_ok-push_two-clause-stack c =
    let b = problem_of c.args.problem.now in
    let old = c.args.trail.now in
    let at = c.step.new.trail in
    let new = c.mark.new.self in
    let later = c.step.new.best in
    let place = c.in-Some.place in
    let box = box_of b.columns old c.args.frame in
    let next : IsNext b c.args.best.now old c.args.frame c.args.frames.now = record { is = c.requires.frame; chain = c.requires.chain; all = c.requires.frames } in
    let step = subst (λ o. IsStep b c.args.best.now later box at.sides o) c.in-Some.is c.in_ok-place.ensures.step in
    let halved = subst (λ best. IsHalved b best box at.sides place) (sym step.0) step.1 in
    let marked : IsMarked at new c.in_ok-mark.mark = record { number = c.in_ok-mark.ensures.number; count = c.in_ok-mark.ensures.count; back = c.in_ok-mark.ensures.remembers; sides = c.in_ok-mark.ensures.sides; earlier = c.in_ok-mark.ensures.earlier } in
    rw (c.in_ok-push_two.ensures, c.halve-halves.ensures.low, c.halve-halves.ensures.high)
    (halves_stack b c.args.best.now later old at new c.args.frame c.args.frames.now box place c.in_ok-mark.mark next c.in_ok-place.ensures.marks c.in_ok-place.ensures.falls halved marked).1

pub returns-in_ok-push_two-2-clause-stack : goal.returns-in_ok-push_two-2-clause-stack
returns-in_ok-push_two-2-clause-stack c =
    let b = problem_of c.args.problem.now in
    let old = c.args.trail.now in
    let at = c.step.new.trail in
    let new = c.mark.new.self in
    let later = c.step.new.best in
    let place = c.in-Some.place in
    let box = box_of b.columns old c.args.frame in
    let next : IsNext b c.args.best.now old c.args.frame c.args.frames.now = record { is = c.requires.frame; chain = c.requires.chain; all = c.requires.frames } in
    let step = subst (λ o. IsStep b c.args.best.now later box at.sides o) c.in-Some.is c.in_ok-place.ensures.step in
    let halved = subst (λ best. IsHalved b best box at.sides place) (sym step.0) step.1 in
    let marked : IsMarked at new c.in_ok-mark.mark = record { number = c.in_ok-mark.ensures.number; count = c.in_ok-mark.ensures.count; back = c.in_ok-mark.ensures.remembers; sides = c.in_ok-mark.ensures.sides; earlier = c.in_ok-mark.ensures.earlier } in
    rw (c.in_ok-push_two-2.ensures, c.halve-halves.ensures.low, c.halve-halves.ensures.high)
    (halves_stack b c.args.best.now later old at new c.args.frame c.args.frames.now box place c.in_ok-mark.mark next c.in_ok-place.ensures.marks c.in_ok-place.ensures.falls halved marked).0
