use Rattle.std.proofs.Common.{arith}
use Rattle.spoke_tests.proofs.Finishing.{last_few}
use Rattle.spoke_tests.proofs.spokes.spoke_text.Goals as goal

pub finish-requires-clause-newer : goal.finish-requires-clause-newer
finish-requires-clause-newer c =
    let few = last_few c.args.run.now c.args.bench.spoke.number c.args.bench.spoke.answers.items c.requires.spoke.spoke.answers in
    let is = c.in-Some.ensures.1 in
    omega arith
