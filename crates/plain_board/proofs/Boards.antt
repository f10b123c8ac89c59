-- What a plain board keeps, from the seat that makes a call to the whole board.
use Rattle.std.proofs.Common.{◌≡◌, ℕ, ◌+◌, ◌<◌, ◌≤◌, ◌^◌, zero, suc, List, [], ◌∷◌, map, length, get_or, set, sym, refl, ap, ◌∙◌, subst, arith, get_or-set_other, get_or-set_same, length-set}
use Rattle.std.proofs.lemmas.List.{get_or-map, length-map, map-set}
use Rattle.std.proofs.lemmas.List.Elements.{All-get_or, All-set}
use mathlib.Core.Logic.{dite}
use native.Mathlib.Decide.{ℕ_discrete, dec_le}
use Rattle.window_words.specs.Views.{after}
use Rattle.window_words.specs.Rule.{Windows}
use Rattle.window_words.specs.declared.views.View.{View}
use Rattle.window_words.specs.declared.views.Call.{Call}
use Rattle.plain_board.specs.declared.seat.PlainSeat.{PlainSeat}
use Rattle.plain_board.specs.Seats.{shown, IsRoomy, KeepsRoom}
use Rattle.plain_board.specs.Plain.{PlainValue, no_view, state, words_after, answer_of, TellsOwn, LeavesAll, IsFew, PlainRule}
use Rattle.plain_board.proofs.Roominess.{roomy_after}

-- a list of short words stays one where a short word is stored
pub short_after : (ws : List ℕ) (p n : ℕ) → ((i : ℕ) → get_or ws i 0 < 2 ^ 64) → n < 2 ^ 64 → (i : ℕ) → get_or (set ws p n) i 0 < 2 ^ 64
short_after ws p n short fits i = dite (ℕ_discrete i p)
    (λ same. dite (dec_le (p + 1) (length ws))
    (λ inside. let e = get_or-set_same ws p n 0 (omega arith) in let e' : get_or (set ws p n) i 0 ≡ n = ap (λ (z : ℕ). get_or (set ws p n) z 0) same ∙ e in omega arith)
    (λ outside. let e = past (set ws p n) i (let l = length-set ws p n in omega arith) in omega arith))
    (λ other. let e = get_or-set_other ws p i n 0 other in let s = short i in omega arith)
  where
    past : (xs : List ℕ) (j : ℕ) → length xs ≤ j → get_or xs j 0 ≡ 0
    past [] j l = refl
    past (x ∷ xs) zero l = absurd (omega arith)
    past (x ∷ xs) (suc j) l = past xs j (omega arith)

module _ {M : Type 0} (E : M → ℕ → ℕ → List ℕ) (W : M → ℕ → ℕ) (C Ld L : M → ℕ) (of : M) (words starts : List ℕ) (seats : List PlainSeat) (at : ℕ) (r : PlainRule E W C Ld L of words starts seats at) (s : PlainSeat) (is : s ≡ get_or seats at s) where
  abbrev views : List View
  views = map shown seats

  -- the selected view is what the selected seat shows
  pub seen : get_or views at no_view ≡ shown s
  seen = get_or-map shown seats at s no_view r.at_seat ∙ ap shown (sym is)

  pub low : at < length views
  low = let l = length-map seats shown in let a = r.at_seat in omega arith

  pub few : IsFew (Ld of) (shown s)
  few = subst (λ (z : PlainSeat). IsFew (Ld of) (shown z)) (sym is) (All-get_or (λ (z : PlainSeat). IsFew (Ld of) (shown z)) seats at s r.at_seat r.few)

  pub roomy : IsRoomy (Ld of) (C of) r.widest (L of) s
  roomy = subst (IsRoomy (Ld of) (C of) r.widest (L of)) (sym is) (All-get_or (IsRoomy (Ld of) (C of) r.widest (L of)) seats at s r.at_seat r.rooms)

  -- what the board keeps, where the words and the selected seat are new
  pub keeps_on : (ws : List ℕ) (s' : PlainSeat) (v : View) → shown s' ≡ v → KeepsRoom s s' → Windows (E of) (W of) (C of) (Ld of) (L of) of (state of ws (set views at v)) → IsFew (Ld of) v → ((p : ℕ) → get_or ws p 0 < 2 ^ 64)
      → PlainRule E W C Ld L of ws starts (set seats at s') at
  keeps_on ws s' v shows keeps rule fews short =
      let same : set views at v ≡ map shown (set seats at s') = ap (set views at) (sym shows) ∙ sym (map-set shown seats at s') in
      let long = length-set seats at s' in let inside = r.at_seat in let all = r.all_seats in record {
        rule = subst (λ (vs : List View). Windows (E of) (W of) (C of) (Ld of) (L of) of (state of ws vs)) same rule;
        short = short;
        many = r.many;
        begin = r.begin;
        at_seat = omega arith;
        all_seats = omega arith;
        few = All-set (λ (z : PlainSeat). IsFew (Ld of) (shown z)) seats at s' (subst (IsFew (Ld of)) (sym shows) fews) r.few;
        widest = r.widest;
        wide_most = r.wide_most;
        rooms = All-set (IsRoomy (Ld of) (C of) r.widest (L of)) seats at s' (roomy_after (Ld of) (C of) r.widest (L of) s s' roomy keeps) r.rooms;
      }

  -- the whole board after a call
  pub leaves_all : (call : Call) (n : ℕ) (ws : List ℕ) (s' : PlainSeat) → shown s' ≡ after (Ld of) call n (shown s) → ws ≡ words_after (W of) call (shown s) words → n ≡ answer_of (W of) call (shown s) words → TellsOwn (Ld of) call n (shown s)
      → LeavesAll Ld W (of, words, views, at) call n (of, ws, map shown (set seats at s'), at)
  leaves_all call n ws s' shows stored answers tells =
      let all : map shown (set seats at s') ≡ set views at (after (Ld of) call n (shown s)) = map-set shown seats at s' ∙ ap (set views at) shows in
      subst (λ (v : View). (n ≡ answer_of (W of) call v words) × ◌≡◌ {A = PlainValue M} (of, ws, map shown (set seats at s'), at) (of, words_after (W of) call v words, set views at (after (Ld of) call n v), at) × TellsOwn (Ld of) call n v) (sym seen)
      (answers, λ i. (of, stored i, all i, at), tells)

  -- the selected view after a call
  pub view_after : (call : Call) (n : ℕ) (s' : PlainSeat) → shown s' ≡ after (Ld of) call n (shown s) → get_or (map shown (set seats at s')) at no_view ≡ after (Ld of) call n (get_or views at no_view)
  view_after call n s' shows = let l = length-set seats at s' in let a = r.at_seat in
      get_or-map shown (set seats at s') at s' no_view (omega arith) ∙ (ap shown (get_or-set_same seats at s' s' a) ∙ (shows ∙ ap (after (Ld of) call n) (sym seen)))
