use Rattle.smps_core.proofs.Saying.{said_both, said_by_all}
use Rattle.smps_core.proofs.laws.cells_law.Goals as goal

pub returns : goal.returns
returns c = record {
  each = said_both;
  accepted = said_by_all;
}
