use Rattle.std.proofs.Common.{arith, sym, subst, ◌∙◌, ◌≡◌, ◌++◌, ◌∷◌, [], Some, None}
use Rattle.boxed_problem.specs.Data.{problem_of}
use Rattle.branch_bound.specs.PlainSearch.{nothing_yet, search, search_all}
use Rattle.branch_bound.specs.Frames.{IsFrame}
use Rattle.boxed_problem.proofs.Optimal.{best_is, filled_of}
use Rattle.branch_bound.proofs.Ahead.{Ahead, ahead_done, ahead_start, not_past-ahead}
use Rattle.branch_bound.proofs.FrameLaws.{chain_popped, root, root_box, root_is}
use Rattle.branch_bound.proofs.Opening.{frame_spent, push_is}
use Rattle.branch_bound.proofs.Stack.{all_popped}
use Rattle.branch_bound.proofs.searching.solve_below.Goals as goal

pub loop-frame-init : goal.loop-frame-init
loop-frame-init c =
    let b = problem_of c.args.problem.now in
    let begin = c.bar-best.result in
    let trail = c.in-Ok.trail in
    let filled = filled_of c.args.problem.now in
    let frames : c.push.new.self ≡ root b ∷ [] = rw (c.new-frames.ensures, c.root.ensures, c.as_slice.ensures) at c.in-Ok-push.ensures.ok in
    rw frames (record {
      stack = root_is b begin trail filled c.in-Ok.ensures.rooted;
      same = c.in-Ok.ensures.sparse;
      pricing = c.requires.pricing;
      count = omega arith;
      bar = c.bar-best.ensures;
      search = subst (λ boxes. Ahead begin (search_all b boxes (record { best = begin; opened = 0 })) (search b b.columns nothing_yet)) (sym (root_box b trail c.in-Ok.ensures.rooted)) (ahead_start b begin filled);
    })

pub returns-then-opened-budget : goal.returns-then-opened-budget
returns-then-opened-budget c =
    let b = problem_of c.args.problem.now in
    let popped : c.loop-frame.frames ≡ c.pop.new.self ++ c.in-Some.frame ∷ [] = c.in-Some.ensures in
    let rest = rw popped at c.loop-frame.invariant.search in
    let more = frame_spent b c.bar-best.result c.loop-frame.trail c.pop.new.self c.in-Some.frame c.loop-frame.best c.loop-frame.opened rest in
    (c.if-opened-budget.true, omega (arith, more))

pub open-requires-clause-frame : goal.open-requires-clause-frame
open-requires-clause-frame c =
    let popped : c.loop-frame.frames ≡ c.pop.new.self ++ c.in-Some.frame ∷ [] = c.in-Some.ensures in
    (all_popped (IsFrame (problem_of c.args.problem.now) c.loop-frame.best c.loop-frame.trail) c.pop.new.self c.in-Some.frame (rw popped at c.loop-frame.invariant.stack.all)).1

pub open-requires-clause-mark : goal.open-requires-clause-mark
open-requires-clause-mark c =
    let popped : c.loop-frame.frames ≡ c.pop.new.self ++ c.in-Some.frame ∷ [] = c.in-Some.ensures in
    let m = (chain_popped 0 _ c.pop.new.self c.in-Some.frame (rw popped at c.loop-frame.invariant.stack.chain)).1 in
    omega (arith, m, c.loop-frame.invariant.stack.some)

pub open-requires-clause-chain : goal.open-requires-clause-chain
open-requires-clause-chain c =
    let popped : c.loop-frame.frames ≡ c.pop.new.self ++ c.in-Some.frame ∷ [] = c.in-Some.ensures in
    (chain_popped 0 _ c.pop.new.self c.in-Some.frame (rw popped at c.loop-frame.invariant.stack.chain)).0

pub open-requires-clause-frames : goal.open-requires-clause-frames
open-requires-clause-frames c =
    let popped : c.loop-frame.frames ≡ c.pop.new.self ++ c.in-Some.frame ∷ [] = c.in-Some.ensures in
    (all_popped (IsFrame (problem_of c.args.problem.now) c.loop-frame.best c.loop-frame.trail) c.pop.new.self c.in-Some.frame (rw popped at c.loop-frame.invariant.stack.all)).0

pub loop-frame-preserved : goal.loop-frame-preserved
loop-frame-preserved c =
    let b = problem_of c.args.problem.now in
    let popped : c.loop-frame.frames ≡ c.pop.new.self ++ c.in-Some.frame ∷ [] = c.in-Some.ensures in
    let rest = rw (popped, push_is b c.loop-frame.trail c.pop.new.self c.in-Some.frame (record { best = c.loop-frame.best; opened = c.loop-frame.opened })) at c.loop-frame.invariant.search in
    record {
      stack = c.in-Ok-open.ensures.stack;
      same = c.loop-frame.invariant.same ∙ sym c.in-Ok-open.ensures.same;
      pricing = c.in-Ok-open.ensures.pricing;
      count = omega arith;
      bar = c.bar-best.ensures;
      search = not_past-ahead _ _ _ c.bar-best.result (c.in-Ok-open.ensures.search c.loop-frame.opened) rest;
    }

pub returns-in-Some-best : goal.returns-in-Some-best
returns-in-Some-best c =
    let b = problem_of c.args.problem.now in
    let filled = filled_of c.args.problem.now in
    let empty : c.loop-frame.frames ≡ [] = c.in_default-pop.ensures.0 in
    let end = rw (empty, c.in-Some-best.is) at c.loop-frame.invariant.search in
    let done = ahead_done b c.bar-best.result (Some c.in-Some-best.best) c.loop-frame.opened filled c.bar-best.ensures end in
    (done, best_is b (Some c.in-Some-best.best) filled (sym done))

pub returns : goal.returns
returns c =
    let b = problem_of c.args.problem.now in
    let filled = filled_of c.args.problem.now in
    let empty : c.loop-frame.frames ≡ [] = c.in_default-pop.ensures.0 in
    let end = rw (empty, c.in-None.is) at c.loop-frame.invariant.search in
    let done = ahead_done b c.bar-best.result None c.loop-frame.opened filled c.bar-best.ensures end in
    (done, best_is b None filled (sym done))
