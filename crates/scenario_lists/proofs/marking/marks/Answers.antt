use Rattle.std.proofs.Common.{arith, ◌+◌}
use Rattle.base_words.proofs.Made.{next_made}
use Rattle.scenario_lists.specs.Combinations.{mark_in}
use Rattle.scenario_lists.proofs.marking.marks.Goals as goal

pub loop-before-preserved : goal.loop-before-preserved
loop-before-preserved c =
    next_made (mark_in c.args.elements.now c.args.choices.now) 1 c.loop-before.before (c.loop-before.before + 1) c.loop-before.marks c.push.new.self c.mark.result (omega arith) c.in_ok-push.ensures.ok c.mark.ensures c.loop-before.invariant
