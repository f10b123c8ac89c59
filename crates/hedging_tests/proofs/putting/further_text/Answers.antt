use Rattle.hedging_tests.proofs.FirstPuts.{first_number, first_put}
use Rattle.hedging_tests.proofs.putting.further_text.Goals as goal

pub loop-step-init : goal.loop-step-init
loop-step-init c = record { put = first_put c.args.run.now c.args.hedge c.requires.put; number = first_number c.args.run.now c.args.hedge c.requires.put }
