use Rattle.std.specs.Prelude.{◌==◌, None, Some}
use Rattle.core_lines.proofs.LatestLaws.{put_each, put_length}
use Rattle.core_lines.specs.declared.cells.Cell.{Cell}
use Rattle.smps_core.proofs.sides.costs_of.Goals as goal

pub loop-cell-preserved : goal.loop-cell-preserved
loop-cell-preserved c = record {
  counted = put_length _ _ _ c.loop-cell.costs c.put_cost.new.numbers c.args.count c.loop-cell.invariant.counted c.put_cost.ensures;
  each = put_each (λ (x : Cell). x.row == 0) (λ (x : Cell). x.column) (λ (x : Cell). Some x.value) None None c.args.cells.now c.loop-cell.cell-index _ c.loop-cell.costs c.put_cost.new.numbers c.args.count c.loop-cell-test.true c.loop-cell.invariant.counted c.loop-cell.invariant.each c.put_cost.ensures;
}
