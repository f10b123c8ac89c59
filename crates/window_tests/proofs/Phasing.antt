-- What each step of a put or a reading asks of a board, and where it leaves it.
use Rattle.std.proofs.Common.{◌≡◌, ℕ, ◌+◌, ◌<◌, ◌≤◌, suc, List, [], ◌∷◌, ◌++◌, get_or, set, sym, refl, ap, ◌∙◌, subst, arith, get_or-set_other}
use Rattle.std.specs.Prelude.{Option}
use Rattle.std.proofs.lemmas.List.FromFn.{get_or-map-range_with_len}
use Rattle.window_words.specs.Views.{pending, gained}
use Rattle.window_words.specs.Conditions.{MayOpen, IsNotAhead, IsNextWord, IsAllPut}
use Rattle.window_words.specs.declared.views.View.{View}
use Rattle.window_words.specs.declared.views.Pending.{Pending}
use Rattle.window_words.specs.declared.views.Call.TheVariants.{Open, Put, Close}
use Rattle.window_words.proofs.Listed.{last_push}
use Rattle.plain_board.specs.Seats.{first_window}
use Rattle.plain_board.specs.Plain.{PlainValue, no_view, selected, fresh_board, fresh_views, owner_view}
use Rattle.window_tests.specs.declared.tiny.Tiny.{Tiny}
use Rattle.stamped_read.specs.Readers.{Reader}
use Rattle.stamped_read.specs.Promises.{ReadsFor}
use Rattle.window_tests.specs.Words.{word_at, words_at}
use Rattle.window_tests.specs.Phases.{viewed, entry_of, HasPut, IsLeaders, IsPutting, IsReadAt, StaysBut, WritesAt}

abbrev pub wide : Tiny → ℕ → ℕ
wide t w = t.width

-- the word at a place of an entry
pub word_stands : (width w k c : ℕ) → c < width → get_or (words_at width w k) c 0 ≡ word_at w k c
word_stands width w k c below = get_or-map-range_with_len (word_at w k) 0 width c c 0 below (omega arith)

-- a board whose seat was selected
abbrev Selects : ℕ → PlainValue Tiny → PlainValue Tiny → Type 0
Selects seat b b1 = b1 ≡ (b.0, b.1, b.2, seat)

-- and then a call, which leaves this view
abbrev Leaves : PlainValue Tiny → List ℕ → View → PlainValue Tiny → Type 0
Leaves b1 ws x b2 = b2 ≡ (b1.0, ws, set b1.2 b1.3 x, b1.3)

module _ (b b1 b2 : PlainValue Tiny) (seat : ℕ) (e1 : Selects seat b b1) (ws : List ℕ) (x : View) (e2 : Leaves b1 ws x b2) where
  both : b2 ≡ (b.0, ws, set b.2 seat x, seat)
  both = e2 ∙ (λ i. ((e1 i).0, ws, set (e1 i).2 (e1 i).3 x, (e1 i).3))

  pub stays : StaysBut seat b b2
  stays = record {
    meaning = ap (λ (z : PlainValue Tiny). z.0) both;
    others = λ j other. ap (λ (z : PlainValue Tiny). get_or z.2 j no_view) both ∙ get_or-set_other b.2 seat j x no_view other;
  }

  -- what the seat knows then, where it is a function of what it knew
  pub knows_now : (f : View → View) → selected b2 ≡ f (selected b1) → viewed b2 seat ≡ f (viewed b seat)
  knows_now f e = let at_seat : b2.3 ≡ seat = ap (λ (z : PlainValue Tiny). z.3) both in
      ap (λ (z : ℕ). get_or b2.2 z no_view) (sym at_seat) ∙ (e ∙ ap (λ (z : PlainValue Tiny). f (selected z)) e1)

  -- a reader that reads for the seat reads for it among all seats
  pub reads_there : (s : Reader) → seat ≡ 0 → ReadsFor (entry_of b1.0) (wide b1.0) b1.0.windows (selected b2) s → IsReadAt b2 s
  reads_there s hub h = let at_seat : b2.3 ≡ 0 = ap (λ (z : PlainValue Tiny). z.3) both ∙ hub in
      let meaning : b1.0 ≡ b2.0 = sym (ap (λ (z : PlainValue Tiny). z.0) e2) in
      subst (λ (z : Tiny × ℕ). ReadsFor (entry_of z.0) (wide z.0) z.0.windows (get_or b2.2 z.1 no_view) s) (λ i. (meaning i, at_seat i)) h

-- the views after each step
pub put_opened : (w k : ℕ) (v v' : View) → HasPut w k v → v' ≡ gained (Open (k + 1)) 0 v → IsPutting w k 0 v'
put_opened w k v v' h e = (h.0, ap (λ (z : View). z.owned) e ∙ h.1, ap (λ (z : View). z.pending) e)

pub word_put : (w k c n : ℕ) (v v' : View) → IsPutting w k c v → v' ≡ gained (Put n) 0 v → IsPutting w k (c + 1) v'
word_put w k c n v v' h e = (h.0, ap (λ (z : View). z.owned) e ∙ h.1, ap (λ (z : View). z.pending) e ∙ ap (λ (z : Option Pending). (gained (Put n) 0 record v { pending = z }).pending) h.2)

pub put_closed : (w k c : ℕ) (v v' : View) → IsPutting w k c v → v' ≡ gained Close 0 v → HasPut w (k + 1) v'
put_closed w k c v v' h e = let last = last_push h.0 (k + 1) in (
  h.0 ++ (k + 1) ∷ [],
  ap (λ (z : View). z.owned) e ∙ (λ i. (gained Close 0 record v { owned = h.1 i; pending = h.2 i }).owned),
  omega arith,
  ap (λ (z : View). z.pending) e,
)

-- what each step asks
module _ (b b1 : PlainValue Tiny) (seat : ℕ) (e1 : Selects seat b b1) where
  chosen : PlainValue Tiny
  chosen = (b.0, b.1, b.2, seat)

  pub may_open : (w k : ℕ) → HasPut w k (viewed b seat) → k + 1 ≤ b.0.most → MayOpen b1.0.most (selected b1) (k + 1)
  may_open w k h top = let low = h.2 in subst (λ (z : PlainValue Tiny). MayOpen z.0.most (selected z) (k + 1)) (sym e1) (w, h.0, h.1, h.3, omega arith, top, omega arith)

  pub not_ahead : (w k n : ℕ) → HasPut w k (viewed b seat) → w < b.0.leaders → IsNotAhead b1.0.leaders (selected b1) n
  not_ahead w k n h leads = subst (λ (z : PlainValue Tiny). IsNotAhead z.0.leaders (selected z) n) (sym e1)
      (λ w' closed owned past. let same : w ≡ w' = ap first_window (sym h.1 ∙ owned) in absurd (omega arith))

  pub next_word : (w k c n : ℕ) → IsPutting w k c (viewed b seat) → c < b.0.width → n ≡ word_at w (k + 1) c → IsNextWord entry_of wide b1.0 (selected b1) n
  next_word w k c n h more is = subst (λ (z : PlainValue Tiny). IsNextWord entry_of wide z.0 (selected z) n) (sym e1)
      (w, h.0, pending (k + 1) c, h.1, h.2, more, is ∙ sym (word_stands b.0.width w (k + 1) c more))

  -- a reader reads for the selected hub's seat
  pub reads_here : (s : Reader) → seat ≡ 0 → IsReadAt b s → ReadsFor (entry_of b1.0) (wide b1.0) b1.0.windows (selected b1) s
  reads_here s hub h = subst (λ (z : PlainValue Tiny). ReadsFor (entry_of z.0) (wide z.0) z.0.windows (selected z) s) (sym e1)
      (subst (λ (z : ℕ). ReadsFor (entry_of b.0) (wide b.0) b.0.windows (viewed b z) s) (sym hub) h)

  pub all_put : (w k : ℕ) → IsPutting w k b.0.width (viewed b seat) → IsAllPut (wide b1.0) (selected b1)
  all_put w k h = subst (λ (z : PlainValue Tiny). IsAllPut (wide z.0) (selected z)) (sym e1) (w, h.0, pending (k + 1) b.0.width, h.1, h.2, refl)

-- steps counted
wrote_first : (width w k step : ℕ) (v : View) → step ≡ 0 → IsPutting w k 0 v → WritesAt width w k (step + 1) v
wrote_first width w k step v e h = record {
  before = λ z. absurd (omega arith);
  between = λ c is l. let same : 0 ≡ c = omega arith in subst (λ (z : ℕ). IsPutting w k z v) same h;
  behind = λ is. absurd (omega arith);
}

wrote_next : (width w k step c : ℕ) (v : View) → step ≡ c + 1 → c + 1 ≤ width → IsPutting w k (c + 1) v → WritesAt width w k (step + 1) v
wrote_next width w k step c v e l h = record {
  before = λ z. absurd (omega arith);
  between = λ d is m. let same : c + 1 ≡ d = omega arith in subst (λ (z : ℕ). IsPutting w k z v) same h;
  behind = λ is. absurd (omega arith);
}

wrote_last : (width w k step : ℕ) (v : View) → step ≡ width + 1 → HasPut w (k + 1) v → WritesAt width w k (step + 1) v
wrote_last width w k step v e h = record {
  before = λ z. absurd (omega arith);
  between = λ d is m. absurd (omega arith);
  behind = λ is. h;
}

pub wrote_none : (width w k : ℕ) (v : View) → HasPut w k v → WritesAt width w k 0 v
wrote_none width w k v h = record {
  before = λ z. h;
  between = λ c is l. absurd (omega arith);
  behind = λ is. absurd (omega arith);
}

-- what stays, stays after one more call
stays_still : (seat : ℕ) (b : PlainValue Tiny) → StaysBut seat b b
stays_still seat b = record { meaning = refl; others = λ j other. refl }

stays_on : (seat : ℕ) (b b1 b2 : PlainValue Tiny) → StaysBut seat b b1 → StaysBut seat b1 b2 → StaysBut seat b b2
stays_on seat b b1 b2 h h' = record { meaning = h'.meaning ∙ h.meaning; others = λ j other. h'.others j other ∙ h.others j other }

leads_on : (seat w k : ℕ) (b b' : PlainValue Tiny) → IsLeaders w k b → StaysBut seat b b' → IsLeaders w k b'
leads_on seat w k b b' h stays = record {
  leads = subst (λ (t : Tiny). w < t.leaders) (sym stays.meaning) h.leads;
  below = subst (λ (t : Tiny). w < t.windows) (sym stays.meaning) h.below;
  most = subst (λ (t : Tiny). k ≤ t.most) (sym stays.meaning) h.most;
  low = h.low;
  small = h.small;
}

width_on : (seat width : ℕ) (b b' : PlainValue Tiny) → width ≡ b.0.width → StaysBut seat b b' → width ≡ b'.0.width
width_on seat width b b' e stays = e ∙ ap (λ (t : Tiny). t.width) (sym stays.meaning)

-- where the owner of a window stands among the seats of a fresh board
pub fresh_owner : (count w : ℕ) → w < count → get_or (fresh_views count) (w + 1) no_view ≡ owner_view count w
fresh_owner count w below = let one : w + 1 ≡ suc w = omega arith in
    ap (λ (z : ℕ). get_or (fresh_views count) z no_view) one ∙ get_or-map-range_with_len (owner_view count) 0 count w w no_view below (omega arith)

-- the owner of a window of a fresh board has put nothing
pub fresh_put : (t : Tiny) (b : PlainValue Tiny) (w : ℕ) → b ≡ fresh_board wide (λ (x : Tiny). x.windows) t → w < t.windows → HasPut w 0 (viewed b (w + 1))
fresh_put t b w e below = subst (λ (z : PlainValue Tiny). HasPut w 0 (viewed z (w + 1))) (sym e)
    (subst (HasPut w 0) (sym (fresh_owner t.windows w below)) ([], refl, omega arith, refl))
