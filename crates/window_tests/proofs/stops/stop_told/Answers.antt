use Rattle.window_tests.proofs.Following.{fresh_hub, runs_on}
use Rattle.window_tests.proofs.stops.stop_told.Goals as goal

pub stop_hub-requires : goal.stop_hub-requires
stop_hub-requires c = record {
  runs = runs_on _ _ c.asked-before.ensures (fresh_hub _ _ c.in_ok-board.ensures);
  last = c.requires.last;
}
