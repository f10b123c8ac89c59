use Rattle.std.proofs.Common.{◌≡◌, []}
use Rattle.smps_stoch.specs.ElementSteps.{drafts_with}
use Rattle.smps_stoch.proofs.drafts.empty_drafts.Given as goal

abbrev pub invariant-loop-chosen : goal.invariant-loop-chosen
invariant-loop-chosen l = l.drafts.items ≡ drafts_with l.realisations [] l.chosen-index
