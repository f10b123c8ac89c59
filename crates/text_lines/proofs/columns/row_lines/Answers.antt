use Rattle.base_words.proofs.Made.{map_next}
use Rattle.text_lines.specs.ShowLines.{row_line}
use Rattle.text_lines.proofs.Ranges.{full_put, row_long}
use Rattle.text_lines.proofs.columns.row_lines.Goals as goal

pub loop-i-preserved : goal.loop-i-preserved
loop-i-preserved c = record {
  lines = map_next (row_line c.args.core.now c.args.run.now c.args.places.now) c.loop-i.i c.loop-i.lines c.push.new.self c.in_ok-row_line.field-0 c.in_ok-push.ensures.ok c.in_ok-row_line.ensures c.loop-i.invariant.lines;
  full = full_put c.loop-i.lines c.push.new.self c.in_ok-row_line.field-0 (row_line c.args.core.now c.args.run.now c.args.places.now c.loop-i.i) c.loop-i.invariant.full c.in_ok-push.ensures.ok c.in_ok-row_line.ensures (row_long c.args.core.now c.args.run.now c.args.places.now c.loop-i.i);
}
