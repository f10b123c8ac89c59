use Rattle.core_lines.proofs.FlagLaws.{side_added}
use Rattle.core_lines.proofs.side_lines.push_side.Goals as goal

pub invariant_of-sides : goal.invariant_of-sides
invariant_of-sides c = record { facts = side_added c.args.sides.now.values c.push.new.self c.args.sides.now.flags c.set.new.self c.args.value c.args.sides.now.facts c.requires.short c.requires.place c.in-Ok.ensures.ok c.set.ensures.after }
