use Rattle.std.proofs.Common.{◌≡◌, sym, subst, ℕ, length, arith}
use Rattle.window_tests.specs.Ranks.{IsFreshSeat}
use Rattle.window_tests.proofs.Ranking.{last_seat}
use Rattle.window_tests.proofs.crew.Crew.take_all.Goals as goal

pub take-requires : goal.take-requires
take-requires c =
    let many : c.len.result ≡ length c.pop.new.self.items = omega (arith, c.len.ensures, c.pop.new.self.ok.0) in record {
      seat = subst (λ (z : ℕ). IsFreshSeat z c.args.meaning.now c.in-Some.seat) (sym many) (last_seat c.args.meaning.now _ _ _ c.loop.invariant c.in-Some.ensures.items).0;
      leads = c.requires.leads;
      small = c.requires.small;
    }

pub loop-preserved : goal.loop-preserved
loop-preserved c = (last_seat c.args.meaning.now _ _ _ c.loop.invariant c.in-Some.ensures.items).1
