use Rattle.smps_stoch.proofs.Entries.{drafts_more}
use Rattle.smps_stoch.proofs.drafts.empty_drafts.Goals as goal

pub loop-chosen-preserved : goal.loop-chosen-preserved
loop-chosen-preserved c =
    drafts_more c.args.realisations.now c.loop-chosen.drafts.items c.push.new.self.items c.loop-chosen.chosen-index _ _ c.loop-chosen-test.true c.new.ensures c.loop-chosen.invariant c.in_ok-push.ensures.items
