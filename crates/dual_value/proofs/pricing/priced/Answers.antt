use Rattle.put_words.proofs.Bounded.{priced_ready}
use Rattle.dual_value.proofs.pricing.priced.Goals as goal

pub with_line-requires : goal.with_line-requires
with_line-requires c = priced_ready c.args.run.now c.args.multipliers.now c.args.scenario c.in_ok-problem.problem c.in_ok-line.line c.requires.sized c.requires.scenario c.in_ok-problem.ensures c.in_ok-line.ensures
