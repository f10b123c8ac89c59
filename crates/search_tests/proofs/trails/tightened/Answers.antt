use Rattle.std.proofs.Common.{◌∙◌, sym, subst, ◌≡◌}
use Rattle.boxed_problem.specs.Sides.{Within}
use Rattle.boxed_problem.proofs.Lying.{within_self}
use Rattle.boxed_problem.proofs.Optimal.{filled_of}
use Rattle.search_tests.proofs.trails.tightened.Goals as goal

pub tighten-answer-requires : goal.tighten-answer-requires
tighten-answer-requires c =
    let p = c.args.problem.now in
    let same : c.in_ok-sides.sides ≡ p.columns = c.in_ok-sides.ensures.copy ∙ c.as_slice.ensures in
    subst (λ sides. Within sides p.columns) (sym same) (within_self p.columns (filled_of p))
