use Rattle.board_tests.specs.Desks.{AreFreshSeats}
use Rattle.board_tests.proofs.table.TableDesk.taken.Given as goal

abbrev pub invariant-loop : goal.invariant-loop
invariant-loop l = AreFreshSeats l.given l.seats.items
