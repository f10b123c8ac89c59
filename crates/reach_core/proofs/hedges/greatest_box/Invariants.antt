use Rattle.std.proofs.Common.{◌≡◌, map}
use Rattle.std.specs.List.{range_with_len}
use Rattle.sp_model.specs.Reaching.{box_reach, greatest}
use Rattle.reach_core.proofs.hedges.greatest_box.Given as goal

abbrev pub invariant-loop-j : goal.invariant-loop-j
invariant-loop-j l = l.most ≡ greatest (map (box_reach l.program) (range_with_len 0 l.j))
