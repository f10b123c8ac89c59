use Rattle.std.proofs.Common.{◌≡◌, ◌-◌, ◌≤◌}
use Rattle.boxed_problem.specs.Data.{problem_of}
use Rattle.branch_bound.specs.PlainSearch.{nothing_yet, search, search_all}
use Rattle.branch_bound.specs.Bettering.{IsPriced}
use Rattle.branch_bound.specs.Frames.{IsStack, boxes_of}
use Rattle.branch_bound.specs.Narrowing.{IsBar}
use Rattle.branch_bound.proofs.Ahead.{Ahead}
use Rattle.branch_bound.proofs.searching.solve_below.Given as goal

abbrev pub invariant-loop-frame : goal.invariant-loop-frame
invariant-loop-frame l = record {
  stack : IsStack (problem_of l.problem) l.best l.trail l.frames;
  same : l.sparse ≡ l.trail.sparse.value;
  pricing : IsPriced (problem_of l.problem) l.pricing;
  count : l.opened ≤ l.budget;
  bar : IsBar (problem_of l.problem) l.initial.best;
  search : Ahead l.initial.best (search_all (problem_of l.problem) (boxes_of l.problem.columns l.trail l.frames) (record { best = l.best; opened = l.opened })) (search (problem_of l.problem) l.problem.columns nothing_yet);
}

abbrev pub decreases-loop-frame : goal.decreases-loop-frame
decreases-loop-frame l = l.budget - l.opened
