use Rattle.std.proofs.Common.{arith}
use Rattle.spoke_tests.proofs.Finishing.{first_number, first_put}
use Rattle.spoke_tests.proofs.making.all_puts.Goals as goal

pub push_put-requires-clause-put : goal.push_put-requires-clause-put
push_put-requires-clause-put c = first_put c.args.run.now c.args.hedge c.requires

pub push_put-requires-clause-first : goal.push_put-requires-clause-first
push_put-requires-clause-first c = omega (arith, first_number c.args.run.now c.args.hedge c.requires)

pub push_put-requires-clause-few : goal.push_put-requires-clause-few
push_put-requires-clause-few c = omega (arith, first_number c.args.run.now c.args.hedge c.requires)

pub loop-step-init : goal.loop-step-init
loop-step-init c = record {
  puts = c.in_ok-push_put.ensures;
  put = first_put c.args.run.now c.args.hedge c.requires;
  number = first_number c.args.run.now c.args.hedge c.requires;
}
