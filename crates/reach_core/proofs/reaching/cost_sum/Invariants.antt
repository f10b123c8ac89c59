use Rattle.std.proofs.Common.{◌≡◌, ◌*◌, slice_index}
use Rattle.base_words.specs.Sums.{size_below}
use Rattle.capped_num.specs.Capped.{capped}
use Rattle.sp_model.specs.Reaching.{box_reach}
use Rattle.reach_core.proofs.reaching.cost_sum.Given as goal

abbrev pub invariant-loop-j : goal.invariant-loop-j
invariant-loop-j l = l.sum ≡ capped (size_below l.j (λ j. slice_index l.tops j * box_reach l.program j))
