use Rattle.base_words.proofs.Made.{map_next}
use Rattle.text_lines.specs.ShowLines.{column_line}
use Rattle.text_lines.proofs.Ranges.{column_long, full_put}
use Rattle.text_lines.proofs.columns.column_lines.Goals as goal

pub loop-j-preserved : goal.loop-j-preserved
loop-j-preserved c = record {
  lines = map_next (column_line c.args.core.now c.args.run.now) c.loop-j.j c.loop-j.lines c.push.new.self c.in_ok-column_line.field-0 c.in_ok-push.ensures.ok c.in_ok-column_line.ensures c.loop-j.invariant.lines;
  full = full_put c.loop-j.lines c.push.new.self c.in_ok-column_line.field-0 (column_line c.args.core.now c.args.run.now c.loop-j.j) c.loop-j.invariant.full c.in_ok-push.ensures.ok c.in_ok-column_line.ensures (column_long c.args.core.now c.args.run.now c.loop-j.j);
}
