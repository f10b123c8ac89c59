use Rattle.std.proofs.Common.{◌∙◌}
use Rattle.boxed_problem.specs.Data.{problem_of}
use Rattle.put_words.proofs.Pulls.{hedged_ready, hedged_same}
use Rattle.hedging.proofs.hedged.hedged.Goals as goal

pub with_objective-requires : goal.with_objective-requires
with_objective-requires c =
    hedged_ready c.args.run.now c.args.put.now.multipliers c.args.put.now.x c.args.scenario c.in_ok-problem.problem c.in_ok-line.line c.in_ok-square.square c.requires.ready.sized c.requires.ready.inside c.requires.scenario c.in_ok-problem.ensures c.in_ok-line.ensures c.in_ok-square.ensures

pub returns : goal.returns
returns c =
    c.with_objective.ensures
    ∙ hedged_same c.args.run.now c.args.put.now.multipliers c.args.put.now.x c.args.scenario (problem_of c.in_ok-problem.problem) c.in_ok-line.line c.in_ok-square.square c.in_ok-problem.ensures c.in_ok-line.ensures c.in_ok-square.ensures
