use Rattle.base_words.proofs.Made.{map_next}
use Rattle.smps_core.specs.Rows.{row_with}
use Rattle.smps_core.proofs.rows.rows_with.Goals as goal

pub loop-i-preserved : goal.loop-i-preserved
loop-i-preserved c = map_next (row_with c.args.kinds.now c.args.rights.now c.args.ranges.now) c.loop-i.i c.loop-i.rows c.push.new.self c.row_with.result c.in_ok-push.ensures.ok c.row_with.ensures c.loop-i.invariant
