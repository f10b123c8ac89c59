use Rattle.std.proofs.Common.{sym, ◌∙◌, ◌≡◌, true}
use Rattle.boxed_problem.specs.Data.{problem_of}
use Rattle.branch_bound.specs.PlainSearch.{is_pruned}
use Rattle.branch_bound.specs.Frames.{node_of}
use Rattle.propagate.specs.Trails.{sides_at}
use Rattle.base_words.proofs.Comparisons.{not_not}
use Rattle.branch_bound.proofs.Steps.{pruned_none, none_kept}
use Rattle.branch_bound.proofs.FrameLaws.{frame_inside}
use Rattle.branch_bound.proofs.stepping.reach.Goals as goal

pub returns-clause-pruned : goal.returns-clause-pruned
returns-clause-pruned c = λ e.
    let b = problem_of c.args.problem.now in
    let best = c.args.best.now in
    let node = node_of b.columns (sides_at c.args.trail.now c.args.frame.mark) c.args.frame in
    let left : is_pruned b c.narrow_priced.new.trail.sides best ≡ true = sym c.is_pruned.ensures ∙ not_not c.is_pruned.result e in
    let keeps = rw c.in_ok-enter.ensures.sides at c.in_ok-narrow_priced.ensures.narrows.keeps in
    none_kept b best node.whole node.sides c.requires.frame.node.keeps (none_kept b best node.sides c.narrow_priced.new.trail.sides keeps (pruned_none b best c.narrow_priced.new.trail.sides left))

pub enter-requires-clause-side : goal.enter-requires-clause-side
enter-requires-clause-side c = frame_inside (problem_of c.args.problem.now) c.args.best.now c.args.trail.now c.args.frame c.requires.frame
