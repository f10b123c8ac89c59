use Rattle.std.proofs.Common.{arith, ◌≡◌, ◌++◌, ◌∷◌, []}
use Rattle.boxed_problem.specs.Data.{problem_of}
use Rattle.branch_bound.specs.Frames.{IsFrame}
use Rattle.boxed_problem.proofs.Optimal.{filled_of}
use Rattle.branch_bound.proofs.FrameLaws.{chain_popped, root, root_is}
use Rattle.branch_bound.proofs.Stack.{all_popped}
use Rattle.branch_bound.proofs.first_values.first_value.Goals as goal

pub loop-init : goal.loop-init
loop-init c =
    let b = problem_of c.args.problem.now in
    let frames : c.push.new.self ≡ root b ∷ [] = rw (c.new-frames.ensures, c.root.ensures, c.as_slice.ensures) at c.in_ok-push.ensures.ok in
    rw frames (record { stack = root_is b c.args.begun c.in_ok-trail.trail (filled_of c.args.problem.now) c.in_ok-trail.ensures.rooted; same = c.in_ok-trail.ensures.sparse; pricing = c.requires.pricing; found = c.requires.begun })

pub open_either-requires-clause-frame : goal.open_either-requires-clause-frame
open_either-requires-clause-frame c =
    let popped : c.loop.frames ≡ c.pop.new.self ++ c.in-Some.frame ∷ [] = c.in-Some.ensures in
    (all_popped (IsFrame (problem_of c.args.problem.now) c.loop.best c.loop.trail) c.pop.new.self c.in-Some.frame (rw popped at c.loop.invariant.stack.all)).1

pub open_either-requires-clause-mark : goal.open_either-requires-clause-mark
open_either-requires-clause-mark c =
    let popped : c.loop.frames ≡ c.pop.new.self ++ c.in-Some.frame ∷ [] = c.in-Some.ensures in
    let m = (chain_popped 0 _ c.pop.new.self c.in-Some.frame (rw popped at c.loop.invariant.stack.chain)).1 in
    omega (arith, m, c.loop.invariant.stack.some)

pub open_either-requires-clause-chain : goal.open_either-requires-clause-chain
open_either-requires-clause-chain c =
    let popped : c.loop.frames ≡ c.pop.new.self ++ c.in-Some.frame ∷ [] = c.in-Some.ensures in
    (chain_popped 0 _ c.pop.new.self c.in-Some.frame (rw popped at c.loop.invariant.stack.chain)).0

pub open_either-requires-clause-frames : goal.open_either-requires-clause-frames
open_either-requires-clause-frames c =
    let popped : c.loop.frames ≡ c.pop.new.self ++ c.in-Some.frame ∷ [] = c.in-Some.ensures in
    (all_popped (IsFrame (problem_of c.args.problem.now) c.loop.best c.loop.trail) c.pop.new.self c.in-Some.frame (rw popped at c.loop.invariant.stack.all)).0
