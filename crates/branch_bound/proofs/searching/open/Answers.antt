use Rattle.std.proofs.Common.{sym, subst}
use Rattle.boxed_problem.specs.Data.{problem_of}
use Rattle.branch_bound.specs.Frames.{IsHalved, IsStep, box_of}
use Rattle.branch_bound.proofs.Opening.{IsMarked, IsNext, halves_search, halves_stack, search_ended, stack_below}
use Rattle.branch_bound.proofs.searching.open.Goals as goal

pub returns-in_default-clause-stack : goal.returns-in_default-clause-stack
returns-in_default-clause-stack c =
    let b = problem_of c.args.problem.now in
    let old = c.args.trail.now in
    let new = c.step.new.trail in
    let next : IsNext b c.args.best.now old c.args.frame c.args.frames.now = record { is = c.requires.frame; chain = c.requires.chain; all = c.requires.frames } in
    stack_below b c.args.best.now c.step.new.best old new c.args.frame c.args.frames.now next c.in_ok-place.ensures.marks c.in_ok-place.ensures.falls

pub returns-in_default-clause-search : goal.returns-in_default-clause-search
returns-in_default-clause-search c = λ n.
    let b = problem_of c.args.problem.now in
    let old = c.args.trail.now in
    let new = c.step.new.trail in
    let next : IsNext b c.args.best.now old c.args.frame c.args.frames.now = record { is = c.requires.frame; chain = c.requires.chain; all = c.requires.frames } in
    let step = subst (λ o. IsStep b c.args.best.now c.step.new.best (box_of b.columns old c.args.frame) new.sides o) c.in_default.is c.in_ok-place.ensures.step in
    search_ended b c.args.best.now c.step.new.best old new c.args.frame c.args.frames.now n next c.in_ok-place.ensures.marks (step n)

pub returns-clause-stack : goal.returns-clause-stack
returns-clause-stack c =
    let b = problem_of c.args.problem.now in
    let old = c.args.trail.now in
    let at = c.step.new.trail in
    let new = c.mark.new.self in
    let later = c.step.new.best in
    let place = c.in-Some.place in
    let box = box_of b.columns old c.args.frame in
    let next : IsNext b c.args.best.now old c.args.frame c.args.frames.now = record { is = c.requires.frame; chain = c.requires.chain; all = c.requires.frames } in
    let step = subst (λ o. IsStep b c.args.best.now later box at.sides o) c.in-Some.is c.in_ok-place.ensures.step in
    let halved = subst (λ best. IsHalved b best box at.sides place) (sym step.0) step.1 in
    let marked : IsMarked at new c.in_ok-mark.mark = record { number = c.in_ok-mark.ensures.number; count = c.in_ok-mark.ensures.count; back = c.in_ok-mark.ensures.remembers; sides = c.in_ok-mark.ensures.sides; earlier = c.in_ok-mark.ensures.earlier } in
    rw (c.in_ok-push_two.ensures, c.halve-halves.ensures.low, c.halve-halves.ensures.high)
    (halves_stack b c.args.best.now later old at new c.args.frame c.args.frames.now box place c.in_ok-mark.mark next c.in_ok-place.ensures.marks c.in_ok-place.ensures.falls halved marked).0

pub returns-clause-search : goal.returns-clause-search
returns-clause-search c = λ n.
    let b = problem_of c.args.problem.now in
    let old = c.args.trail.now in
    let at = c.step.new.trail in
    let new = c.mark.new.self in
    let place = c.in-Some.place in
    let box = box_of b.columns old c.args.frame in
    let next : IsNext b c.args.best.now old c.args.frame c.args.frames.now = record { is = c.requires.frame; chain = c.requires.chain; all = c.requires.frames } in
    let step = subst (λ o. IsStep b c.args.best.now c.step.new.best box at.sides o) c.in-Some.is c.in_ok-place.ensures.step in
    let marked : IsMarked at new c.in_ok-mark.mark = record { number = c.in_ok-mark.ensures.number; count = c.in_ok-mark.ensures.count; back = c.in_ok-mark.ensures.remembers; sides = c.in_ok-mark.ensures.sides; earlier = c.in_ok-mark.ensures.earlier } in
    rw (c.in_ok-push_two.ensures, c.halve-halves.ensures.low, c.halve-halves.ensures.high, step.0)
    (halves_search b c.args.best.now old at new c.args.frame c.args.frames.now place c.in_ok-mark.mark n next c.in_ok-place.ensures.marks step.1 marked)
