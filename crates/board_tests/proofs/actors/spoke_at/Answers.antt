use Rattle.std.proofs.Common.{arith}
use Rattle.board_tests.proofs.Placing.{fresh_spoke, placed}
use Rattle.board_tests.proofs.actors.spoke_at.Goals as goal

pub start-requires : goal.start-requires
start-requires c = let three = c.requires.given.spokes in omega arith

pub returns : goal.returns
returns c = c.in_ok-spoke.ensures.stands (placed c.args.given.now c.args.place) (fresh_spoke c.args.given.now c.requires.given c.args.place c.requires.place c.requires.there)
