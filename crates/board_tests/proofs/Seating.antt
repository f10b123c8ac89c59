-- The seats of a table's fresh board.
use Rattle.std.proofs.Common.{sym, ap, subst, arith, ◌∙◌, ◌≡◌, ℕ, suc, ◌≤◌, List, [], ◌∷◌, ◌++◌, length, get_or}
use Rattle.std.proofs.lemmas.List.{get_or-map, get_or_append_left, length-append, length-map}
use Rattle.std.proofs.lemmas.List.FromFn.{length-map-range_with_len}
use Rattle.std.proofs.Math.Seq.{get_or-append_seam}
use Rattle.atomic_table.specs.Seated.{TableId}
use Rattle.window_words.specs.Seating.{fresh_views, no_view, owner_view}
use Rattle.window_words.specs.declared.views.View.{View}
use Rattle.table_board.specs.Tables.{SeatValue, all_seats, seated}
use Rattle.put_codec.specs.Layouts.{windows_of}
use Rattle.put_codec.specs.declared.run_meaning.RunMeaning.{RunMeaning}
use Rattle.board_tests.specs.Desks.{AreFreshSeats, IsFreshSeat}
use Rattle.board_tests.specs.Sitting.{Sits, SitsFresh}
use Rattle.board_tests.specs.declared.actors.Actor.{Actor}
use Rattle.board_tests.specs.declared.given.Given.{Given}

abbrev SeatAt : Type 0
SeatAt = SeatValue RunMeaning

many_seats : (table : TableId) (of : RunMeaning) (count : ℕ) → length (all_seats table of count) ≡ suc count
many_seats table of count = length-map (fresh_views count) (seated table of) ∙ ap suc (length-map-range_with_len (owner_view count) 0 count)

module _ (g : Given) where
  -- the seats that a fresh board gives out
  fresh_all : (table : TableId) → AreFreshSeats g (all_seats table g.of (windows_of g.of.layout))
  fresh_all table =
      let long = many_seats table g.of (windows_of g.of.layout) in
      let views = length-map (fresh_views (windows_of g.of.layout)) (seated table g.of) in (
        omega arith,
        λ place d below. let is = get_or-map (seated table g.of) (fresh_views (windows_of g.of.layout)) place no_view d (omega arith) in
            (ap (λ (z : SeatAt). z.1) is, ap (λ (z : SeatAt). z.2) is),
      )

  pub fresh_seats : (table : TableId) (of : RunMeaning) (seats : List SeatAt) → of ≡ g.of → seats ≡ all_seats table of (windows_of of.layout) → AreFreshSeats g seats
  fresh_seats table of seats same all = subst (AreFreshSeats g) (sym (all ∙ ap (λ (m : RunMeaning). all_seats table m (windows_of m.layout)) same)) (fresh_all table)

  -- the last of them, and the others
  pub last_seat : (seats rest : List SeatAt) (s : SeatAt) → AreFreshSeats g seats → seats ≡ rest ++ s ∷ [] → (length rest ≤ windows_of g.of.layout) × IsFreshSeat g (length rest) s × AreFreshSeats g rest
  last_seat seats rest s fresh e = let long = length-append rest (s ∷ []) in let many = ap length e in let few = fresh.0 in (
    omega arith,
    subst (IsFreshSeat g (length rest)) (ap (λ (z : List SeatAt). get_or z (length rest) s) e ∙ get_or-append_seam rest s [] s) (fresh.1 (length rest) s (omega arith)),
    (
      omega arith,
      λ place d below. subst (IsFreshSeat g place) (ap (λ (z : List SeatAt). get_or z place d) e ∙ get_or_append_left rest (s ∷ []) d place below) (fresh.1 place d (omega arith)),
    ),
  )

  -- an actor of a fresh board sits at its seat
  pub sits_down : (place : ℕ) (s : SeatAt) (a : Actor) → IsFreshSeat g place s → SitsFresh g place a → Sits g.run s.2 a
  sits_down place s a is sits = subst (λ (v : View). Sits g.run v a) (sym is.1) sits
