use Rattle.std.proofs.Common.{◌≡◌, ℕ, subst, arith}
use Rattle.window_places.specs.Places.{ArePlaces}
use Rattle.window_places.proofs.Placing.{places_more, places_none}
use Rattle.window_places.proofs.places.places_of.Goals as goal

pub loop-window-init : goal.loop-window-init
loop-window-init g c = places_none (g.M.Meaning.wide c.args.of.now) _ c.new-starts.ensures.items

pub loop-window-preserved : goal.loop-window-preserved
loop-window-preserved g c = places_more (g.M.Meaning.wide c.args.of.now) c.loop-window.window c.loop-window.starts.items _ c.loop-window.next _ _ c.loop-window.invariant c.width-width.ensures c.in_ok-push.ensures.items c.in_ok-next.ensures

pub returns : goal.returns
returns g c =
    let e : c.loop-window.window ≡ g.M.Meaning.count c.args.of.now = omega (arith, c.windows-window-end.ensures) in
    subst (λ (n : ℕ). ArePlaces (g.M.Meaning.wide c.args.of.now) n c.loop-window.starts.items c.loop-window.next) e c.loop-window.invariant
