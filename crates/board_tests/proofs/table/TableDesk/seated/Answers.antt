use Rattle.board_tests.proofs.Seating.{sits_down}
use Rattle.board_tests.proofs.table.TableDesk.seated.Goals as goal

pub new-requires-2-clause-sits : goal.new-requires-2-clause-sits
new-requires-2-clause-sits c = sits_down c.args.given.now c.args.place c.args.seat c.in_ok-actor.actor c.requires.seat c.in_ok-actor.ensures
