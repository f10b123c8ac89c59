-- The actors at the seats of a board on one thread, after what one of them did.
use Rattle.std.proofs.Common.{refl, sym, ap, subst, arith, ◌∙◌, ◌≡◌, ◌≢◌, ℕ, ◌+◌, ◌<◌, ◌≤◌, List, length, get_or, set, get_or-set_other, get_or-set_same}
use Rattle.std.proofs.Common.{inl, inr}
use mathlib.Core.Logic.{dite}
use native.Mathlib.Decide.{ℕ_discrete}
use Rattle.std.proofs.lemmas.List.{get_or_append_left, length-append, length-set}
use Rattle.std.proofs.Common.{◌++◌, ◌∷◌, []}
use Rattle.std.proofs.Math.Seq.{get_or-append_seam}
use Rattle.window_words.specs.declared.views.View.{View}
use Rattle.plain_board.specs.Plain.{LeavesAll, PlainValue, fresh_board, no_view, selected}
use Rattle.put_codec.specs.Layouts.{width_of, windows_of}
use Rattle.put_codec.specs.declared.run_meaning.RunMeaning.{RunMeaning}
use Rattle.board_tests.specs.Desks.{AreFresh, IsPlainDesk, StaysBut, viewed}
use Rattle.board_tests.specs.Sitting.{IsGiven, Makes, Sits, SitsFresh}
use Rattle.board_tests.specs.declared.actors.Actor.{Actor}
use Rattle.board_tests.specs.declared.actors.Actor.TheVariants.{Gone}
use Rattle.board_tests.specs.declared.given.Given.{Given}

abbrev Boards : Type 0
Boards = PlainValue RunMeaning

abbrev Makes_plain : Boards → Boards → Type 0
Makes_plain b b' = Makes (LeavesAll (λ (m : RunMeaning). m.layout.ranks) (λ (m : RunMeaning). width_of m.layout)) b b'

module _ (b b1 b2 : Boards) (seat : ℕ) (e1 : b1 ≡ (b.0, b.1, b.2, seat)) where
  both : (ws : List ℕ) (x : View) → b2 ≡ (b1.0, ws, set b1.2 b1.3 x, b1.3) → b2 ≡ (b.0, ws, set b.2 seat x, seat)
  both ws x e = e ∙ (λ i. ((e1 i).0, ws, set (e1 i).2 (e1 i).3 x, (e1 i).3))

  stays_still : b2 ≡ b1 → StaysBut seat b b2
  stays_still e = record {
    meaning = ap (λ (z : Boards). z.0) (e ∙ e1);
    others = λ j other. ap (λ (z : Boards). get_or z.2 j no_view) (e ∙ e1);
  }

  stays_called : (ws : List ℕ) (x : View) → b2 ≡ (b1.0, ws, set b1.2 b1.3 x, b1.3) → StaysBut seat b b2
  stays_called ws x e = record {
    meaning = ap (λ (z : Boards). z.0) (both ws x e);
    others = λ j other. ap (λ (z : Boards). get_or z.2 j no_view) (both ws x e) ∙ get_or-set_other b.2 seat j x no_view other;
  }

  -- only the view of the selected seat is changed
  pub stays : Makes_plain b1 b2 → StaysBut seat b b2
  stays (inl e) = stays_still e
  stays (inr m) = stays_called _ _ m.2.1

  at_seat : Makes_plain b1 b2 → b2.3 ≡ seat
  at_seat (inl e) = ap (λ (z : Boards). z.3) (e ∙ e1)
  at_seat (inr m) = ap (λ (z : Boards). z.3) (both _ _ m.2.1)

  pub here : (P : View → Type 0) → P (viewed b seat) → P (selected b1)
  here P h = subst (λ (z : Boards). P (selected z)) (sym e1) h

  pub there : (P : View → Type 0) → Makes_plain b1 b2 → P (selected b2) → P (viewed b2 seat)
  there P m h = subst (λ (z : ℕ). P (get_or b2.2 z no_view)) (at_seat m) h

-- an actor is there in place of another
pub acted : (g : Given) (b b' : Boards) (actors : List Actor) (seat : ℕ) (a : Actor) → IsPlainDesk g b actors → seat < length actors → StaysBut seat b b' → Sits g.run (viewed b' seat) a → IsPlainDesk g b' (set actors seat a)
acted g b b' actors seat a desk l stays sits = record {
  given = desk.given;
  of = stays.meaning ∙ desk.of;
  few = subst (λ (n : ℕ). n ≤ windows_of g.of.layout + 1) (sym (length-set actors seat a)) desk.few;
  sits = λ i d below. dite (ℕ_discrete i seat)
      (λ (e : i ≡ seat). subst (λ (z : ℕ). Sits g.run (viewed b' z) (get_or (set actors seat a) z d)) (sym e)
      (subst (Sits g.run (viewed b' seat)) (sym (get_or-set_same actors seat a d l)) sits))
      (λ (e : i ≢ seat). let long = length-set actors seat a in
      subst (Sits g.run (viewed b' i)) (sym (get_or-set_other actors seat i a d e))
      (subst (λ (v : View). Sits g.run v (get_or actors i d)) (sym (stays.others i e)) (desk.sits i d (omega arith))));
}

pub same_board : (seat : ℕ) (b : Boards) → StaysBut seat b b
same_board seat b = record { meaning = refl; others = λ j other. refl }

-- one more actor at a fresh board
pub one_more : (g : Given) (actors actors' : List Actor) (n : ℕ) (a : Actor) → AreFresh g actors → n ≡ length actors → n ≤ windows_of g.of.layout → SitsFresh g n a → actors' ≡ actors ++ a ∷ [] → AreFresh g actors'
one_more g actors actors' n a fresh at few sits e = subst (AreFresh g) (sym e) (let long = length-append actors (a ∷ []) in (
  omega arith,
  λ place d below. dite (ℕ_discrete place (length actors))
      (λ (same : place ≡ length actors). subst (λ (z : ℕ). SitsFresh g z (get_or (actors ++ a ∷ []) z d)) (sym same)
      (subst (SitsFresh g (length actors)) (sym (get_or-append_seam actors a [] d)) (subst (λ (z : ℕ). SitsFresh g z a) at sits)))
      (λ (other : place ≢ length actors). subst (SitsFresh g place) (sym (get_or_append_left actors (a ∷ []) d place (omega arith))) (fresh.1 place d (omega arith))),
))

pub no_actors : (g : Given) → AreFresh g []
no_actors g = (omega arith, λ place d below. absurd (omega arith))

-- the desk of a fresh board
pub fresh_desk : (g : Given) (b : Boards) (actors : List Actor) → IsGiven g → b ≡ fresh_board (λ (m : RunMeaning). width_of m.layout) (λ (m : RunMeaning). windows_of m.layout) g.of → AreFresh g actors → IsPlainDesk g b actors
fresh_desk g b actors is e fresh = record {
  given = is;
  of = ap (λ (z : Boards). z.0) e;
  few = fresh.0;
  sits = λ i d below. subst (λ (z : Boards). Sits g.run (viewed z i) (get_or actors i d)) (sym e) (fresh.1 i d below);
}

pub more_actors : (actors actors' : List Actor) (n : ℕ) (a : Actor) → n ≡ length actors → actors' ≡ actors ++ a ∷ [] → n + 1 ≡ length actors'
more_actors actors actors' n a at e = let long = length-append actors (a ∷ []) in let all = ap length e in omega arith

-- an actor that was taken away, and is there again behind what it did
pub acted_again : (g : Given) (b b' : Boards) (actors : List Actor) (seat : ℕ) (x a : Actor) → IsPlainDesk g b actors → seat < length actors → x ≡ Gone → StaysBut seat b b' → Sits g.run (viewed b' seat) a → IsPlainDesk g b' (set (set actors seat x) seat a)
acted_again g b b' actors seat x a desk l e stays sits =
    acted g b b' (set actors seat x) seat a (acted g b b actors seat x desk l (same_board seat b) (subst (Sits g.run (viewed b seat)) (sym e) tt))
    (subst (λ (n : ℕ). seat < n) (sym (length-set actors seat x)) l) stays sits
