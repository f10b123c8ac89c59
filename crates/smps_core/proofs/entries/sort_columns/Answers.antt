use Rattle.std.proofs.Common.{◌∙◌}
use Rattle.std.proofs.lemmas.List.Sorted.{IsPermutation-trans}
use Rattle.smps_core.proofs.entries.sort_columns.Goals as goal

pub loop-start-preserved : goal.loop-start-preserved
loop-start-preserved c = record {
  moved = IsPermutation-trans _ _ _ c.loop-start.invariant.moved c.sort_part.ensures.moved;
  long = c.sort_part.ensures.long ∙ c.loop-start.invariant.long;
}
