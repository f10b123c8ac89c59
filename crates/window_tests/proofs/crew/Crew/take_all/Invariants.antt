use Rattle.window_tests.specs.Ranks.{AreFreshSeats}
use Rattle.window_tests.proofs.crew.Crew.take_all.Given as goal

abbrev pub invariant-loop : goal.invariant-loop
invariant-loop l = AreFreshSeats l.meaning l.seats.items
