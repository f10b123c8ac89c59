use Rattle.wide_num.proofs.LowestLemmas.{quotient_times}
use Rattle.wide_num.proofs.lowest.exact_quotient.Goals as goal

pub returns : goal.returns
returns c = quotient_times c.args.number c.args.divisor c.requires.exact
