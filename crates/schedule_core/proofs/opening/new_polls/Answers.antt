use Rattle.std.proofs.Common.{arith}
use Rattle.schedule_core.proofs.NewCrew.{IsNewPoll, new_polls_are, none_yet, one_more}
use Rattle.schedule_core.proofs.opening.new_polls.Goals as goal

pub loop-number-init : goal.loop-number-init
loop-number-init c = none_yet (IsNewPoll c.args.run.now) c.new-polls.result.items c.new-polls.ensures.items

pub loop-number-preserved : goal.loop-number-preserved
loop-number-preserved c =
    one_more (IsNewPoll c.args.run.now) c.loop-number.number c.loop-number.polls.items c.push.new.self.items c.new.result c.in_ok-push.ensures.items c.loop-number.invariant c.new.ensures.fresh

pub returns : goal.returns
returns c = new_polls_are c.args.run.now c.loop-number.number c.loop-number.polls.items (omega (arith, c.loop-number-test.false, c.loop-number.auto.number-end)) c.loop-number.invariant
