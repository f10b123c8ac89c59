use Rattle.std.proofs.Common.{refl}
use Rattle.smps_core.proofs.BoxEnds.{have_ends}
use Rattle.smps_core.proofs.BoxMoves.{lower_moves, upper_moves}
use Rattle.smps_core.proofs.laws.box_lines_law.Goals as goal

pub returns : goal.returns
returns c = record {
  start = λ j. refl;
  endless = λ j. refl;
  lower = lower_moves;
  upper = upper_moves;
  ends = have_ends;
}
