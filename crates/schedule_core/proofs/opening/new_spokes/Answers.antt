use Rattle.std.proofs.Common.{arith}
use Rattle.schedule_core.proofs.NewCrew.{IsNewSpoke, new_spokes_are, none_yet, one_more}
use Rattle.schedule_core.proofs.opening.new_spokes.Goals as goal

pub loop-number-init : goal.loop-number-init
loop-number-init c = none_yet (IsNewSpoke c.args.run.now) c.new-spokes.result.items c.new-spokes.ensures.items

pub loop-number-preserved : goal.loop-number-preserved
loop-number-preserved c =
    one_more (IsNewSpoke c.args.run.now) c.loop-number.number c.loop-number.spokes.items c.push.new.self.items c.in_ok-spoke.spoke c.in_ok-push.ensures.items c.loop-number.invariant
    (record { fresh = c.in_ok-spoke.ensures.fresh; reader = c.in_ok-spoke.ensures.reader; stands = c.in_ok-spoke.ensures.stands })

pub returns : goal.returns
returns c = new_spokes_are c.args.run.now c.loop-number.number c.loop-number.spokes.items (omega (arith, c.loop-number-test.false, c.loop-number.auto.number-end)) c.loop-number.invariant
