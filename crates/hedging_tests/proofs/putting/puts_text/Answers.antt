use Rattle.std.proofs.Common.{arith}
use Rattle.hedging_tests.proofs.FirstPuts.{first_number, first_put}
use Rattle.hedging_tests.proofs.putting.puts_text.Goals as goal

pub put_text-requires-clause-put : goal.put_text-requires-clause-put
put_text-requires-clause-put c = first_put c.args.run.now c.in-Ok.hedge c.in-Ok.ensures.ok.0

pub put_text-requires-clause-few : goal.put_text-requires-clause-few
put_text-requires-clause-few c = omega (arith, first_number c.args.run.now c.in-Ok.hedge c.in-Ok.ensures.ok.0)
