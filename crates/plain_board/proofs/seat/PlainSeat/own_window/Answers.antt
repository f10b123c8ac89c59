use Rattle.std.proofs.Common.{ℕ, sym, ap}
use Rattle.std.specs.Prelude.{Option}
use Rattle.plain_board.specs.Seats.{first_window, owned_of}
use Rattle.plain_board.proofs.seat.PlainSeat.own_window.Goals as goal

pub returns-in-Some : goal.returns-in-Some
returns-in-Some c = sym (ap (λ (z : Option ℕ). first_window (owned_of z c.args.self.now.closed.items)) c.in-Some.is)

pub returns-in-None : goal.returns-in-None
returns-in-None c = sym (ap (λ (z : Option ℕ). first_window (owned_of z c.args.self.now.closed.items)) c.in-None.is)
