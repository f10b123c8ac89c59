-- What each seat of a board knows after a call of one of them.
use Rattle.std.proofs.Common.{sym, ap, ◌∙◌, subst, ◌≡◌, ◌≢◌, ℕ, List, get_or, set, get_or-set_other}
use Rattle.window_words.specs.declared.views.View.{View}
use Rattle.plain_board.specs.Plain.{PlainValue, no_view, selected}
use Rattle.put_codec.specs.declared.run_meaning.RunMeaning.{RunMeaning}
use Rattle.sp_model.specs.declared.run.Run.{Run}
use Rattle.spoke_tests.specs.Seats.{IsBoard, StaysBut, viewed}

abbrev pub Boards : Type 0
Boards = PlainValue RunMeaning

-- a board whose seat was selected
abbrev pub Selects : ℕ → Boards → Boards → Type 0
Selects seat b b1 = b1 ≡ (b.0, b.1, b.2, seat)

-- and then a call, which leaves this view
abbrev pub Leaves : Boards → List ℕ → View → Boards → Type 0
Leaves b1 ws x b2 = b2 ≡ (b1.0, ws, set b1.2 b1.3 x, b1.3)

-- what the selected seat knows
module _ (b b1 : Boards) (seat : ℕ) (e1 : Selects seat b b1) where
  pub here : (P : View → Type 0) → P (viewed b seat) → P (selected b1)
  here P h = subst (λ (z : Boards). P (selected z)) (sym e1) h

  pub board_here : (run : Run) → IsBoard run b → IsBoard run b1
  board_here run h = ap (λ (z : Boards). z.0.run.value) e1 ∙ h

  pub meaning_here : b1.0 ≡ b.0
  meaning_here = ap (λ (z : Boards). z.0) e1

  module _ (b2 : Boards) (ws : List ℕ) (x : View) (e2 : Leaves b1 ws x b2) where
    both : b2 ≡ (b.0, ws, set b.2 seat x, seat)
    both = e2 ∙ (λ i. ((e1 i).0, ws, set (e1 i).2 (e1 i).3 x, (e1 i).3))

    pub stays : StaysBut seat b b2
    stays = record {
      meaning = ap (λ (z : Boards). z.0) both;
      others = λ j other. ap (λ (z : Boards). get_or z.2 j no_view) both ∙ get_or-set_other b.2 seat j x no_view other;
    }

    pub there : (P : View → Type 0) → P (selected b2) → P (viewed b2 seat)
    there P h = subst (λ (z : ℕ). P (get_or b2.2 z no_view)) (ap (λ (z : Boards). z.3) both) h

    -- where it is a function of what it knew
    pub knows_now : (f : View → View) → selected b2 ≡ f (selected b1) → viewed b2 seat ≡ f (viewed b seat)
    knows_now f e = let at_seat : b2.3 ≡ seat = ap (λ (z : Boards). z.3) both in
        ap (λ (z : ℕ). get_or b2.2 z no_view) (sym at_seat) ∙ (e ∙ ap (λ (z : Boards). f (selected z)) e1)

-- another seat's facts stay
module _ (seat : ℕ) (b b' : Boards) (stays : StaysBut seat b b') where
  pub board_on : (run : Run) → IsBoard run b → IsBoard run b'
  board_on run h = ap (λ (z : RunMeaning). z.run.value) stays.meaning ∙ h

  pub seat_on : (P : View → Type 0) (j : ℕ) → j ≢ seat → P (viewed b j) → P (viewed b' j)
  seat_on P j other h = subst P (sym (stays.others j other)) h
