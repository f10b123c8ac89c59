use Rattle.std.proofs.Common.{arith}
use Rattle.std.proofs.lemmas.Result.{on_ok_weaker}
use Rattle.schedule_core.proofs.Decisions.{last_passes, next_keeps, next_passes}
use Rattle.schedule_core.proofs.driver.Driver.pass_on.Goals as goal

pub returns-then-self-len-clause-driver : goal.returns-then-self-len-clause-driver
returns-then-self-len-clause-driver c = next_keeps c.args.run.now c.args.self.now c.requires.polled c.requires.going c.requires.written

pub returns-then-self-len-clause-passes : goal.returns-then-self-len-clause-passes
returns-then-self-len-clause-passes c = next_passes c.args.run.now c.args.self.now c.requires.polled c.requires.going c.requires.written (omega (arith, c.if-self-len.true, c.len.ensures))

pub returns-clause-passes : goal.returns-clause-passes
returns-clause-passes c =
    on_ok_weaker c.decide.result
    (last_passes c.args.run.now c.args.self.now c.requires.polled c.requires.going c.requires.written c.decide.new.self (omega (arith, c.if-self-len.false, c.len.ensures)))
    c.decide.ensures.decides
