-- A fresh table meets the rule, and its seats are dealt one behind the other.
use Rattle.std.proofs.Common.{◌≡◌, true, ℕ, zero, suc, ◌+◌, ◌*◌, ◌<◌, ◌≤◌, ◌^◌, List, [], ◌∷◌, ◌++◌, map, length, replicate, sym, refl, ap, ◌∙◌, subst, arith}
use Rattle.std.specs.Prelude.{All, Option, Some, None, is_some, IsSome}
use Rattle.std.specs.List.{range_with_len}
use Rattle.std.proofs.lemmas.List.{length-replicate, map-append}
use Rattle.std.proofs.lemmas.List.FromFn.{map-range_with_len_more}
use Rattle.std.proofs.lemmas.List.Elements.{All-nil}
use mathlib.Core.Option.{some, some-injective, some-ne-none}
use lib.ListN.{get_elem?}
use Rattle.atomic_table.specs.Table.{Me, opening}
use Rattle.atomic_table.specs.Seated.{TableId}
use Rattle.atomic_table.specs.declared.shared.Seat.{Seat}
use Rattle.base_words.proofs.FirstAnswers.{no_some, same_some}
use Rattle.window_places.specs.Places.{ArePlaces}
use Rattle.window_words.specs.Conditions.{HasClosed}
use Rattle.window_words.specs.Views.{pending}
use Rattle.window_words.specs.Rule.{start, stamp, Account, Knows, Windows}
use Rattle.window_words.specs.Seating.{dealing_view, owner_view, one_more_dealt, next_owner}
use Rattle.window_words.specs.declared.views.Known.{Known}
use Rattle.window_words.specs.declared.views.Owned.{Owned}
use Rattle.window_words.proofs.Listed.{same_all}
use Rattle.window_words.proofs.Sharing.{none_accepted}
use Rattle.table_board.specs.Tables.{AreStarts, IsFirst, SeatValue, Stands, seated, all_seats, first_seat}
use Rattle.table_board.specs.Seats.{Sits}

abbrev no_entries : List ℕ
no_entries = []

abbrev nought : ℕ
nought = 0

only : {A : Type 0} (x y : A) (j : ℕ) → get_elem? (x ∷ []) j ≡ some y → (j ≡ 0) × (x ≡ y)
only x y zero e = (refl, some-injective x y e)
only x y (suc j) e = absurd (some-ne-none y (sym e))

module _ {M : Type 0} (entry : ℕ → ℕ → List ℕ) (wide : ℕ → ℕ) (count lead most : ℕ) (of : M) where
  abbrev ws : List ℕ
  ws = replicate (start wide count) 0

  first_knows : Knows entry wide count ws 0 0 (λ w. 0) 0 (dealing_view count 0)
  first_knows = record {
    hubs = λ _. (refl, refl, sym (same_all nought (start wide count) 0));
    owns = All-nil (Account entry wide 0 ws (λ w. 0) 0 None);
    reads = tt;
    accepted = λ w. none_accepted (λ k. 2 * k ≤ stamp wide ws w) count w;
    from_one = λ w. none_accepted (λ k. 1 ≤ k) count w;
  }

  -- a table of zeros with the hub's seat alone
  opens_well : Windows entry wide count lead most of (opening ws [] (first_seat count of))
  opens_well = record {
    hub = 0;
    dealt = 0;
    owner = λ w. 0;
    long = length-replicate (start wide count) 0;
    in_range = omega arith;
    new = λ w l b. same_all nought (start wide count) (start wide w);
    top = λ w b. let z = same_all nought (start wide count) (start wide w) in omega arith;
    whole = λ w k b pos e i l. let z = same_all nought (start wide count) (start wide w) in absurd (omega arith);
    same = λ j v m at is. sym (same_some (ap (λ (z : Known M). z.of) (only (first_seat count of) v j at).1 ∙ is));
    each = λ j v at. let t = only (first_seat count of) v j at in subst (λ (z : ℕ × Known M). Knows entry wide count ws 0 0 (λ w. 0) z.0 z.1.view) (λ i. (sym t.0 i, t.1 i)) first_knows;
    following = λ w u past b l. let at_w = same_all nought (start wide count) (start wide w) in let at_u = same_all nought (start wide count) (start wide u) in omega arith;
    listed = λ i j v u at_v at_u. subst (λ (z : Known M). All (HasClosed v.view) z.view.owned) (only (first_seat count of) u j at_u).1 (All-nil (HasClosed v.view));
  }

pub fresh_rule : {M : Type 0} (E : M → ℕ → ℕ → List ℕ) (W : M → ℕ → ℕ) (C Ld L : M → ℕ) (of : M) (words starts : List ℕ) (n : ℕ) → ArePlaces (W of) (C of) starts n → words ≡ replicate n 0 → Windows (E of) (W of) (C of) (Ld of) (L of) of (opening words [] (first_seat (C of) of))
fresh_rule {M} E W C Ld L of words starts n places zero_words = let all : words ≡ replicate (start (W of) (C of)) 0 = zero_words ∙ ap (λ (z : ℕ). replicate z nought) places.2 in
    subst (λ (z : List ℕ). Windows (E of) (W of) (C of) (Ld of) (L of) of (opening z [] (first_seat (C of) of))) (sym all) (opens_well (E of) (W of) (C of) (Ld of) (L of) of)

pub fresh_stands : {M : Type 0} (W : M → ℕ → ℕ) (C : M → ℕ) (table : TableId) (key of : M) (words ws starts : List ℕ) (n : ℕ) (s : Seat ℕ (Known M)) → ArePlaces (W of) (C of) starts n → words ≡ replicate n 0 → ws ≡ words → length words < 2 ^ 64 → table.words ≡ length ws → s.table_id ≡ table → s.me ≡ (first_seat (C of) of, []) → key ≡ of
    → Stands W C table key of starts (Some s)
fresh_stands {M} W C table key of words ws starts n s places zero_words same few long one first keyed =
    let many : length words ≡ n = ap length zero_words ∙ length-replicate n 0 in let all : table.words ≡ n = long ∙ (ap length same ∙ many) in record {
      same_key = keyed;
      laid = ((places.0, places.1, all ∙ places.2), omega arith);
      first = λ s' is. subst (λ (z : Seat ℕ (Known M)). IsFirst table of (C of) z) (same_some is) (one, first);
    }

-- the first seat of a table
pub first_sits : {M : Type 0} (W : M → ℕ → ℕ) (C L : M → ℕ) (table : TableId) (key : M) (id : TableId) (me : Me ℕ (Known M)) (of : M) (starts : List ℕ) → id ≡ table → me ≡ (first_seat (C of) of, []) → key ≡ of → AreStarts (W of) (C of) starts table.words
    → Sits W C L table key id me of starts None 0 0 0
first_sits {M} W C L table key id me of starts same first keyed laid = subst (λ (m : Me ℕ (Known M)). Sits W C L table key id m of starts None 0 0 0) (sym first) record {
  same_table = same;
  same_key = keyed;
  same_of = refl;
  holds_none = refl;
  laid = laid;
  own = refl;
  below = All-nil (λ (a : Owned). a.window < C of);
  writing = λ k c is. no_some (pending k c) is;
  reading = λ q is. no_some q is;
}

pub first_shows : {M : Type 0} (C : M → ℕ) (table id : TableId) (me : Me ℕ (Known M)) (of : M) → id ≡ table → me ≡ (first_seat (C of) of, []) → seated id of me.0.view ≡ seated table of (dealing_view (C of) 0)
first_shows {M} C table id me of same first = λ i. (same i, of, (first i).0.view)

-- so many windows are dealt
abbrev pub owners : {M : Type 0} → TableId → M → ℕ → ℕ → List (SeatValue M)
owners table of count n = map (seated table of) (map (owner_view count) (range_with_len 0 n))

pub owners_more : {M : Type 0} (table : TableId) (of : M) (count n : ℕ) (seats seats' : List (SeatValue M)) (s : SeatValue M) → seats ≡ owners table of count n → s ≡ seated table of (owner_view count n) → seats' ≡ seats ++ s ∷ [] → seats' ≡ owners table of count (n + 1)
owners_more {M} table of count n seats seats' s all is pushed = pushed ∙ ((λ i. all i ++ is i ∷ [])
    ∙ (sym (map-append (seated table of) (map (owner_view count) (range_with_len 0 n)) (owner_view count n ∷ []))
    ∙ ap (map (seated table of)) (sym (map-range_with_len_more (owner_view count) 0 n n (omega arith)))))

-- what the hub's seat is asked, knows and gives where it hands out window n
pub deal_asks : {M : Type 0} (C : M → ℕ) (table : TableId) (of : M) (n : ℕ) (hub : SeatValue M) → hub ≡ seated table of (dealing_view (C of) n) → n < C of → (hub.2.hub ≡ true) × (n ≡ hub.2.dealt) × (n < C hub.1)
deal_asks {M} C table of n hub is low = subst (λ (z : SeatValue M). (z.2.hub ≡ true) × (n ≡ z.2.dealt) × (n < C z.1)) (sym is) (refl, refl, low)

pub hub_more : {M : Type 0} (table : TableId) (of : M) (count n : ℕ) (hub hub' : SeatValue M) → hub ≡ seated table of (dealing_view count n) → hub' ≡ seated hub.0 hub.1 (one_more_dealt hub.2) → hub' ≡ seated table of (dealing_view count (n + 1))
hub_more {M} table of count n hub hub' is more = more ∙ ap (λ (z : SeatValue M). seated z.0 z.1 (one_more_dealt z.2)) is

pub next_is : {M : Type 0} (table : TableId) (of : M) (count n : ℕ) (hub s : SeatValue M) → hub ≡ seated table of (dealing_view count n) → s ≡ seated hub.0 hub.1 (next_owner hub.2) → s ≡ seated table of (owner_view count n)
next_is {M} table of count n hub s is given = given ∙ (ap (λ (z : SeatValue M). seated z.0 z.1 (next_owner z.2)) is ∙ ap (λ (z : ℕ). seated table of (owner_view z n)) (length-replicate count no_entries))

pub all_dealt : {M : Type 0} (table : TableId) (of : M) (count n : ℕ) (hub : SeatValue M) (seats seats' : List (SeatValue M)) → hub ≡ seated table of (dealing_view count n) → seats ≡ owners table of count n → n ≡ count → seats' ≡ hub ∷ seats → seats' ≡ all_seats table of count
all_dealt {M} table of count n hub seats seats' is all whole front = front ∙ ((λ i. is i ∷ all i) ∙ ap (λ (z : ℕ). seated table of (dealing_view count z) ∷ owners table of count z) whole)

-- a seat that is still there is taken out, and then none is there
pub held : {A : Type 0} (o r : Option A) → is_some o ≡ true → r ≡ o → IsSome r
held o r there e = ap is_some e ∙ there

pub given_out : {M : Type 0} (W : M → ℕ → ℕ) (C : M → ℕ) (table : TableId) (key of : M) (starts : List ℕ) (hub hub' : Option (Seat ℕ (Known M))) → Stands W C table key of starts hub → hub' ≡ None → Stands W C table key of starts hub'
given_out {M} W C table key of starts hub hub' h e = record { same_key = h.same_key; laid = h.laid; first = λ s is. no_some s (sym e ∙ is) }
