use Rattle.std.proofs.Common.{◌≡◌, length, take}
use Rattle.smps_stoch.specs.ElementSteps.{drafts_with}
use Rattle.smps_stoch.proofs.drafts.drafts_of.Given as goal

abbrev pub invariant-loop-owned : goal.invariant-loop-owned
invariant-loop-owned l = l.drafts.items ≡ drafts_with l.realisations (take l.owned-index l.entries) (length l.realisations)
