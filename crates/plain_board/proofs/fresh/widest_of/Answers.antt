use Rattle.std.proofs.Common.{◌≡◌, ℕ, subst, arith}
use Rattle.plain_board.specs.Fresh.{IsWidest}
use Rattle.plain_board.proofs.Opening.{widest_more, widest_none}
use Rattle.plain_board.proofs.fresh.widest_of.Goals as goal

pub loop-window-init : goal.loop-window-init
loop-window-init g c = widest_none (g.M.Meaning.wide c.args.of.now)

pub loop-window-preserved : goal.loop-window-preserved
loop-window-preserved g c = widest_more (g.M.Meaning.wide c.args.of.now) c.loop-window.window c.loop-window.widest _ _ c.loop-window.invariant c.width-width.ensures (omega arith) (omega arith) (λ m a b. omega (arith, a, b))

pub returns : goal.returns
returns g c =
    let e : c.loop-window.window ≡ g.M.Meaning.count c.args.of.now = omega (arith, c.windows-window-end.ensures) in
    subst (λ (n : ℕ). IsWidest (g.M.Meaning.wide c.args.of.now) n c.loop-window.widest) e c.loop-window.invariant
