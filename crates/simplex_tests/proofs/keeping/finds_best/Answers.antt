use Rattle.std.proofs.Common.{ap, sym, ◌∙◌}
use Rattle.boxed_problem.specs.Data.{problem_of}
use Rattle.simplex_tests.proofs.keeping.finds_best.Goals as goal

pub improve-stop-requires : goal.improve-stop-requires
improve-stop-requires c = sym c.requires

pub returns-in-Optimal : goal.returns-in-Optimal
returns-in-Optimal c = ap problem_of c.improve-stop.ensures ∙ c.requires

pub returns-in_default : goal.returns-in_default
returns-in_default c = ap problem_of c.improve-stop.ensures ∙ c.requires
