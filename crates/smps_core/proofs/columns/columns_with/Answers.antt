use Rattle.base_words.proofs.Made.{map_next}
use Rattle.smps_core.specs.Rows.{column_with}
use Rattle.smps_core.proofs.columns.columns_with.Goals as goal

pub loop-j-preserved : goal.loop-j-preserved
loop-j-preserved c = map_next (column_with c.args.lowers.now c.args.uppers.now c.args.flags.now c.args.costs.now) c.loop-j.j c.loop-j.columns c.push.new.self c.column_with.result c.in_ok-push.ensures.ok c.column_with.ensures c.loop-j.invariant
