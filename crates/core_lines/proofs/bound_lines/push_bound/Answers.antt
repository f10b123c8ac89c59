use Rattle.core_lines.proofs.FlagLaws.{bound_added}
use Rattle.core_lines.proofs.bound_lines.push_bound.Goals as goal

pub invariant_of-bounds : goal.invariant_of-bounds
invariant_of-bounds c = record { facts = bound_added c.args.bounds.now.bounds c.push.new.self c.args.bounds.now.flags c.set.new.self c.args.bound c.args.flag c.args.bounds.now.facts c.requires.small c.requires.place c.requires.flag c.in-Ok.ensures.ok c.set.ensures.after }
