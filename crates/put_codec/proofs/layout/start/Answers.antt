use Rattle.std.proofs.Common.{arith}
use Rattle.put_codec.proofs.Places.{start_small}
use Rattle.put_codec.proofs.layout.start.Goals as goal

pub returns-clause-inside : goal.returns-clause-inside
returns-clause-inside c = start_small c.args.layout.now c.args.rank c.first_scenario.result c.from.result c.requires c.first_scenario.ensures (omega arith)
