use Rattle.std.specs.Prelude.{None, Some, true}
use Rattle.core_lines.proofs.LatestLaws.{put_each, put_length}
use Rattle.core_lines.specs.declared.cells.RowValue.{RowValue}
use Rattle.smps_core.proofs.sides.sides_of.Goals as goal

pub loop-value-preserved : goal.loop-value-preserved
loop-value-preserved c = record {
  counted = put_length true _ _ c.loop-value.sides c.put.new.numbers c.args.count c.loop-value.invariant.counted c.put.ensures;
  each = put_each (λ (v : RowValue). true) (λ (v : RowValue). v.row) (λ (v : RowValue). Some v.value) None None c.args.values.now c.loop-value.value-index _ c.loop-value.sides c.put.new.numbers c.args.count c.loop-value-test.true c.loop-value.invariant.counted c.loop-value.invariant.each c.put.ensures;
}
