use Rattle.std.proofs.Common.{ap, ◌∙◌, length, take}
use Rattle.reach_core.proofs.ScenarioSums.{raised_long}
use Rattle.reach_core.proofs.greatest.raise_all.Goals as goal

pub raise-requires-clause-long : goal.raise-requires-clause-long
raise-requires-clause-long c = ap length c.loop-change.invariant ∙ (raised_long (take c.loop-change.change-index c.args.changes.now) c.args.tops.now.items ∙ c.requires.long)
