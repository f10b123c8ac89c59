use Rattle.std.proofs.Common.{◌∙◌}
use Rattle.board_tests.proofs.Seating.{fresh_seats}
use Rattle.board_tests.proofs.table.TableDesk.new.Goals as goal

pub taken-requires-clause-seats : goal.taken-requires-clause-seats
taken-requires-clause-seats c = fresh_seats c.args.given.now c.args.board.now.0 c.args.board.now.1 _ c.requires.of (c.into_vec.ensures ∙ c.in_ok-seats.ensures)
