use Rattle.smps_stoch.proofs.Entries.{elements_more}
use Rattle.smps_stoch.proofs.elements.empty_elements.Goals as goal

pub loop-period-preserved : goal.loop-period-preserved
loop-period-preserved c =
    elements_more c.args.periods.now c.args.places.now c.loop-period.elements.items c.push.new.self.items c.loop-period.period-index _ _ c.loop-period-test.true c.new.ensures c.loop-period.invariant c.in_ok-push.ensures.items
