use Rattle.std.specs.Prelude.{None, Some, pos}
use Rattle.core_lines.proofs.LatestLaws.{put_each, put_length}
use Rattle.core_lines.specs.Boxes.{speaks, end_said}
use Rattle.core_lines.specs.declared.cells.Bound.{Bound}
use Rattle.core_lines.proofs.boxes.lowers_of.Goals as goal

pub loop-bound-preserved : goal.loop-bound-preserved
loop-bound-preserved c = record {
  counted = put_length _ _ _ c.loop-bound.ends c.put_end.new.ends c.args.count c.loop-bound.invariant.counted c.put_end.ensures;
  each = put_each (λ (b : Bound). speaks b.lower) (λ (b : Bound). b.column) (λ (b : Bound). end_said b.lower) (Some (pos 0)) None c.args.bounds.now c.loop-bound.bound-index _ c.loop-bound.ends c.put_end.new.ends c.args.count c.loop-bound-test.true c.loop-bound.invariant.counted c.loop-bound.invariant.each c.put_end.ensures;
}
