use Rattle.board_tests.proofs.Placing.{fresh_hub, placed, reads_window}
use Rattle.board_tests.proofs.actors.hub_at.Goals as goal

pub returns : goal.returns
returns c = record {
  reads = c.new-poll.ensures.reads c.args.given.now.run (placed c.args.given.now c.args.place) (reads_window c.args.given.now c.requires.given);
  runs = λ still. fresh_hub c.args.given.now c.requires.given c.args.place c.requires.place;
}
