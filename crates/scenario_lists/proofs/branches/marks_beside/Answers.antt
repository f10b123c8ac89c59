use Rattle.std.proofs.Common.{arith, ◌+◌}
use Rattle.base_words.proofs.Made.{next_made}
use Rattle.scenario_lists.specs.ScenarioList.{mark_beside}
use Rattle.scenario_lists.proofs.branches.marks_beside.Goals as goal

pub mark_beside-requires-clause-late : goal.mark_beside-requires-clause-late
mark_beside-requires-clause-late c i d lt = omega (arith, c.requires.rows i d lt)

pub loop-before-preserved : goal.loop-before-preserved
loop-before-preserved c =
    next_made (mark_beside c.args.made.now c.args.branch.now) 1 c.loop-before.before (c.loop-before.before + 1) c.loop-before.marks c.push.new.self c.mark_beside.result (omega arith) c.in_ok-push.ensures.ok c.mark_beside.ensures c.loop-before.invariant
