use Rattle.std.proofs.Common.{◌≡◌, sym, subst, ℕ, ◌≤◌, length, arith}
use Rattle.put_codec.specs.Layouts.{windows_of}
use Rattle.board_tests.specs.Desks.{IsFreshSeat}
use Rattle.board_tests.proofs.Seating.{last_seat}
use Rattle.board_tests.proofs.table.TableDesk.taken.Goals as goal

pub seated-requires : goal.seated-requires
seated-requires c =
    let many : c.len.result ≡ length c.pop.new.self.items = omega (arith, c.len.ensures, c.pop.new.self.ok.0) in
    let last = last_seat c.args.given.now _ _ _ c.loop.invariant c.in-Some.ensures.items in record {
      given = c.requires.given;
      place = subst (λ (z : ℕ). z ≤ windows_of c.args.given.now.of.layout) (sym many) last.0;
      seat = subst (λ (z : ℕ). IsFreshSeat c.args.given.now z c.in-Some.seat) (sym many) last.1;
    }

pub loop-preserved : goal.loop-preserved
loop-preserved c = (last_seat c.args.given.now _ _ _ c.loop.invariant c.in-Some.ensures.items).2
