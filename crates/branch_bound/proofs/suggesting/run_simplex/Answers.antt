use Rattle.std.proofs.Common.{ap, sym, ◌∙◌}
use Rattle.boxed_problem.specs.Data.{problem_of}
use Rattle.branch_bound.proofs.suggesting.run_simplex.Goals as goal

pub improve-stop-requires : goal.improve-stop-requires
improve-stop-requires c = sym c.requires.of

pub returns : goal.returns
returns c = record {
  fit = c.requires.fit;
  plain_under = c.requires.plain_under;
  priced_under = c.requires.priced_under;
  values = c.requires.values;
  of = ap problem_of c.improve-stop.ensures ∙ c.requires.of;
}
