use Rattle.std.proofs.Common.{◌≡◌, ℕ, ◌<◌, Bool, List, sym, ◌∙◌, subst, arith}
use Rattle.atomic_table.specs.Seated.{TableId}
use Rattle.window_words.specs.Seating.{dealing_view}
use Rattle.table_board.specs.Tables.{AreStarts, IsFirst, seated}
use Rattle.table_board.proofs.Tabling.{all_dealt, owners_more, hub_more, next_is, deal_asks}
use Rattle.table_board.proofs.table.TableBoard.deal_all.Goals as goal

pub first-hub-requires-clause-first : goal.first-hub-requires-clause-first
first-hub-requires-clause-first g c = subst (λ (z : TableId × g.row.M.Denot × Bool). IsFirst z.0 z.1 (g.M.Meaning.count z.1) c.args.first) (sym c.self.view_is) c.requires.first

pub first-hub-requires-clause-key : goal.first-hub-requires-clause-key
first-hub-requires-clause-key g c = c.self.invariant.same_key

pub first-hub-requires-clause-starts : goal.first-hub-requires-clause-starts
first-hub-requires-clause-starts g c = subst (λ (z : List ℕ). AreStarts (g.M.Meaning.wide c.self.inside.of) (g.M.Meaning.count c.self.inside.of) z c.self.inside.table.shared.table_id.words) (sym c.as_slice-starts.ensures.value) c.self.invariant.laid

pub loop-window-init : goal.loop-window-init
loop-window-init g c = record {
  hub = subst (λ (z : TableId × g.row.M.Denot × Bool). c.first-hub.result ≡ seated z.0 z.1 (dealing_view (g.M.Meaning.count z.1) 0)) c.self.view_is c.first-hub.ensures;
  owners = c.new-seats.ensures.items;
}

pub deal-owner-requires : goal.deal-owner-requires
deal-owner-requires g c =
    let low : c.loop-window.window < g.M.Meaning.count c.self.inside.of = omega (arith, c.windows-window-end.ensures) in
    let t = deal_asks g.M.Meaning.count c.args.self.now.0 c.args.self.now.1 c.loop-window.window _ c.loop-window.invariant.hub
    (subst (λ (z : TableId × g.row.M.Denot × Bool). c.loop-window.window < g.M.Meaning.count z.1) c.self.view_is low) in
    record { hub = t.0; next = t.1; left = t.2 }

pub loop-window-preserved : goal.loop-window-preserved
loop-window-preserved g c = record {
  hub = hub_more c.args.self.now.0 c.args.self.now.1 (g.M.Meaning.count c.args.self.now.1) c.loop-window.window _ _ c.loop-window.invariant.hub c.deal-owner.ensures.hub;
  owners = owners_more c.args.self.now.0 c.args.self.now.1 (g.M.Meaning.count c.args.self.now.1) c.loop-window.window _ _ c.deal-owner.result c.loop-window.invariant.owners
      (next_is c.args.self.now.0 c.args.self.now.1 (g.M.Meaning.count c.args.self.now.1) c.loop-window.window _ _ c.loop-window.invariant.hub c.deal-owner.ensures.owner) c.in_ok-push.ensures.items;
}

pub returns : goal.returns
returns g c =
    let whole : c.loop-window.window ≡ g.M.Meaning.count c.self.inside.of = omega (arith, c.windows-window-end.ensures) in
    all_dealt c.args.self.now.0 c.args.self.now.1 (g.M.Meaning.count c.args.self.now.1) c.loop-window.window _ _ _ c.loop-window.invariant.hub c.loop-window.invariant.owners
    (subst (λ (z : TableId × g.row.M.Denot × Bool). c.loop-window.window ≡ g.M.Meaning.count z.1) c.self.view_is whole) (c.from_vec.ensures ∙ c.in_ok-insert.ensures.items)
