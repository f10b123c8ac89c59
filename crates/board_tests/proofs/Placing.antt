-- The seats of a fresh board stand for the actors that are put there.
use Rattle.std.proofs.Common.{true, refl, sym, ap, subst, arith, ◌∙◌, ◌≡◌, ℕ, suc, ◌+◌, ◌-◌, ◌<◌, ◌≤◌, List, [], length, get_or}
use Rattle.std.proofs.lemmas.List.{length-replicate}
use Rattle.std.proofs.lemmas.List.FromFn.{get_or-map-range_with_len}
use Rattle.window_words.specs.Seating.{fresh_views, no_view, owner_view}
use Rattle.window_words.specs.Views.{one}
use Rattle.window_words.specs.declared.views.View.{View}
use Rattle.put_codec.specs.Layouts.{layout_in, width_of, windows_of}
use Rattle.put_codec.specs.declared.layout.Layout.{Layout}
use Rattle.put_read.specs.SpokeReads.{IsSpokeWindow}
use Rattle.lagrangian_spoke.specs.Spokes.{IsNewSeat}
use Rattle.rank_writer.specs.Writers.{IsFresh, IsWithin, StandsFor, pending_in}
use Rattle.rank_writer.specs.declared.writer.RankWriter.{RankWriter}
use Rattle.board_tests.specs.Sitting.{IsGiven, WritesNext}
use Rattle.board_tests.specs.declared.given.Given.{Given}
use Rattle.board_tests.proofs.Writing.{layout_is}

-- the seat at a place of a fresh board
abbrev pub placed : Given → ℕ → View
placed g place = get_or (fresh_views (windows_of g.of.layout)) place no_view

module _ (g : Given) (is : IsGiven g) where
  many : windows_of g.of.layout ≡ g.run.options.ranks + (g.run.options.lagrangian + g.run.options.xhat)
  many = ap windows_of (layout_is g is)

  pub some_windows : g.run.options.ranks + 3 ≤ windows_of g.of.layout
  some_windows = let all = many in let three = is.spokes in omega arith

  -- behind the hub's seat each owner's
  owner : (place w : ℕ) → place ≡ w + 1 → place ≤ windows_of g.of.layout → placed g place ≡ owner_view (windows_of g.of.layout) w
  owner place w e below = let next : place ≡ suc w = omega arith in
      ap (λ (z : ℕ). get_or (fresh_views (windows_of g.of.layout)) z no_view) next
      ∙ get_or-map-range_with_len (owner_view (windows_of g.of.layout)) 0 (windows_of g.of.layout) w w no_view (omega arith) (omega arith)

  wide_view : (w : ℕ) → g.run.options.ranks ≤ length (owner_view (windows_of g.of.layout) w).accepted
  wide_view w = let some = some_windows in let none : List ℕ = [] in let long = length-replicate (windows_of g.of.layout) none in omega arith

  pub reads_window : IsSpokeWindow g.run g.run.options.ranks
  reads_window = let all : windows_of g.of.layout ≡ windows_of (layout_in g.run) = many in let some = some_windows in record { behind = omega arith; there = omega arith }

  pub fresh_reader : (place w : ℕ) → place ≡ w + 1 → place ≤ windows_of g.of.layout → g.run.options.ranks ≤ length (placed g place).accepted
  fresh_reader place w e below = subst (λ (v : View). g.run.options.ranks ≤ length v.accepted) (sym (owner place w e below)) (wide_view w)

  pub fresh_spoke : (place : ℕ) → place ≡ g.run.options.ranks + 1 → place ≤ windows_of g.of.layout → IsNewSeat g.run.options.ranks (g.run.options.ranks + 0) (placed g place)
  fresh_spoke place e below = let same : g.run.options.ranks + 0 ≡ g.run.options.ranks = omega arith in
      subst (IsNewSeat g.run.options.ranks (g.run.options.ranks + 0)) (sym (owner place g.run.options.ranks e below)) (record {
        owns = ap (λ (z : ℕ). one z []) (sym same);
        free = refl;
        wide = wide_view g.run.options.ranks;
      })

  pub fresh_rank : (place : ℕ) (w : RankWriter) → 1 ≤ place → place ≤ g.run.options.ranks → IsFresh g.of.layout (place - 1) w → WritesNext g.run (placed g place) w
  fresh_rank place w first last new =
      let some = some_windows in
      let e : place ≡ w.rank + 1 = omega (arith, new.rank_is) in
      let nothing = new.last in
      subst (λ (z : Layout × View). StandsFor z.0 z.1 w (w.last + 1)) (λ i. (layout_is g is i, sym (owner place w.rank e (omega arith)) i)) (record {
        there = let ranks : g.of.layout.ranks ≡ g.run.options.ranks = ap (λ (z : Layout). z.ranks) (layout_is g is) in omega arith;
        width = new.width ∙ ap (width_of g.of.layout) (sym new.rank_is);
        within = subst (λ p. IsWithin w.width p) (sym new.writing) tt;
        closed = [];
        owns = refl;
        last = sym nothing;
        writes = sym (ap (λ p. pending_in p (w.last + 1)) new.writing);
      })

  -- the hub's seat is the hub's, and hasn't stopped
  pub fresh_hub : (place : ℕ) → place ≡ 0 → ((placed g place).hub ≡ true) × ((placed g place).stopped ≡ 0)
  fresh_hub place e = subst (λ (z : ℕ). ((placed g z).hub ≡ true) × ((placed g z).stopped ≡ 0)) (sym e) (refl, refl)

  -- how many ranks the layout has
  pub rank_there : (place : ℕ) → 1 ≤ place → place ≤ g.run.options.ranks → place - 1 < g.of.layout.ranks
  rank_there place first last = let ranks : g.of.layout.ranks ≡ g.run.options.ranks = ap (λ (z : Layout). z.ranks) (layout_is g is) in omega arith
