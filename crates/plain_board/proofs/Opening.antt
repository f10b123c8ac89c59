-- A fresh board meets the rule.
use Rattle.std.proofs.Common.{◌≡◌, ℕ, zero, suc, ◌+◌, ◌*◌, ◌<◌, ◌≤◌, List, [], ◌∷◌, ◌++◌, map, length, get_or, replicate, sym, refl, ap, ◌∙◌, subst, arith}
use Rattle.std.specs.Prelude.{All, Option, Some, None}
use Rattle.std.specs.List.{range_with_len, Contains}
use Rattle.std.proofs.lemmas.List.{get_or-map, length-map, length-replicate, map-append}
use Rattle.std.proofs.lemmas.List.FromFn.{length-map-range_with_len, map-range_with_len_more}
use Rattle.std.proofs.lemmas.List.Elements.{All-append, All-cons, All-nil}
use Rattle.base_words.proofs.FirstAnswers.{no_some, same_some}
use Rattle.window_places.specs.Places.{ArePlaces}
use mathlib.Core.Option.{some, some-injective, some-ne-none}
use mathlib.Core.Logic.{dite}
use native.Mathlib.Decide.{ℕ_discrete}
use lib.ListN.{get_elem?}
use Rattle.wide_num.specs.RoomContents.{Contents, with_room, room_of}
use Rattle.window_words.specs.Views.{last_of}
use Rattle.window_words.specs.Rule.{start, stamp, Account, Knows, Windows}
use Rattle.window_words.specs.Steps.{known}
use Rattle.window_words.specs.declared.views.View.{View}
use Rattle.window_words.specs.declared.views.Known.{Known}
use Rattle.window_words.specs.declared.views.Owned.{Owned}
use Rattle.window_words.proofs.Sharing.{none_accepted}
use Rattle.window_words.proofs.Listed.{same_all}
use Rattle.plain_board.specs.declared.seat.PlainSeat.{PlainSeat}
use Rattle.plain_board.specs.Tracks.{items_of}
use Rattle.plain_board.specs.Seats.{shown, room_for, IsRoomy}
use Rattle.plain_board.specs.Fresh.{IsWidest, fresh_track}
use Rattle.plain_board.specs.Plain.{state, hub_view, owner_view, fresh_views, fresh_board, IsFew, PlainRule}

abbrev nought : ℕ
nought = 0

-- what stands in the list of known views
known_at : {M : Type 0} (of : M) (f : ℕ → View) (a n j : ℕ) (v : Known M) → get_elem? (map (known of) (map f (range_with_len a n))) j ≡ some v → (j < n) × (known of (f (a + j)) ≡ v)
known_at of f a zero j v e = absurd (some-ne-none v (sym e))
known_at of f a (suc n) zero v e = let here : a + 0 ≡ a = omega arith in (omega arith, ap (λ (i : ℕ). known of (f i)) here ∙ some-injective (known of (f a)) v e)
known_at of f a (suc n) (suc j) v e = let t = known_at of f (a + 1) n j v e in let l = t.0 in let here : a + suc j ≡ a + 1 + j = omega arith in (omega arith, ap (λ (i : ℕ). known of (f i)) here ∙ t.1)

module _ {M : Type 0} (entry : ℕ → ℕ → List ℕ) (wide : ℕ → ℕ) (count lead most : ℕ) (of : M) where
  abbrev ws : List ℕ
  ws = replicate (start wide count) 0

  abbrev K : ℕ → View → Type 0
  K = Knows entry wide count ws 0 count (λ w. w + 1)

  hub_knows : K 0 (hub_view count)
  hub_knows = record {
    hubs = λ _. (refl, refl, sym (same_all nought (start wide count) 0));
    owns = All-nil (Account entry wide count ws (λ w. w + 1) 0 None);
    reads = tt;
    accepted = λ w. none_accepted (λ k. 2 * k ≤ stamp wide ws w) count w;
    from_one = λ w. none_accepted (λ k. 1 ≤ k) count w;
  }

  owner_knows : (w : ℕ) → w < count → K (w + 1) (owner_view count w)
  owner_knows w l = record {
    hubs = λ h. cc;
    owns = All-cons (Account entry wide count ws (λ w. w + 1) (w + 1) None) record { window = w; closed = [] } [] record { below = l; owned = refl; stamped = same_all nought (start wide count) (start wide w); part = tt }
        (All-nil (Account entry wide count ws (λ w. w + 1) (w + 1) None));
    reads = tt;
    accepted = λ j. none_accepted (λ k. 2 * k ≤ stamp wide ws j) count j;
    from_one = λ j. none_accepted (λ k. 1 ≤ k) count j;
  }

  each_knows : (j : ℕ) (v : Known M) → get_elem? (map (known of) (fresh_views count)) j ≡ some v → (Some of ≡ v.of) × K j v.view × (v.view.accepted ≡ replicate count [])
  each_knows zero v e = let is = some-injective (known of (hub_view count)) v e in (ap (λ (z : Known M). z.of) is, subst (λ (z : Known M). K 0 z.view) is hub_knows, sym (ap (λ (z : Known M). z.view.accepted) is))
  each_knows (suc j) v e = let t = known_at of (owner_view count) 0 count j v e in let here : j ≡ 0 + j = omega arith in let next : j + 1 ≡ suc j = omega arith in
      let is : known of (owner_view count j) ≡ v = ap (λ (i : ℕ). known of (owner_view count i)) here ∙ t.1 in
      (ap (λ (z : Known M). z.of) is, subst (λ (z : Known M × ℕ). K z.1 z.0.view) (λ i. (is i, next i)) (owner_knows j t.0), sym (ap (λ (z : Known M). z.view.accepted) is))

  opens_well : Windows entry wide count lead most of (state of ws (fresh_views count))
  opens_well = record {
    hub = 0;
    dealt = count;
    owner = λ w. w + 1;
    long = length-replicate (start wide count) 0;
    in_range = omega arith;
    new = λ w l b. absurd (omega arith);
    top = λ w b. let z = same_all nought (start wide count) (start wide w) in omega arith;
    whole = λ w k b pos e i l. let z = same_all nought (start wide count) (start wide w) in absurd (omega arith);
    same = λ j v m at is. same_some (sym is ∙ sym (each_knows j v at).0);
    each = λ j v at. (each_knows j v at).1;
    following = λ w u past b l. let at_w = same_all nought (start wide count) (start wide w) in let at_u = same_all nought (start wide count) (start wide u) in omega arith;
    listed = λ i j v u at_v at_u k d l. let a : Owned = get_or u.view.owned k d in
        subst (λ (z : List (List ℕ)). All (λ n. (1 ≤ n) × Contains a.closed n) (get_or z a.window [])) (sym (each_knows i v at_v).2) (none_accepted (λ n. (1 ≤ n) × Contains a.closed n) count a.window);
  }

-- a fresh board has room and no entries
abbrev no_entries : List ℕ
no_entries = []

fresh_items : (leaders most a n : ℕ) → map items_of (map (fresh_track leaders most) (range_with_len a n)) ≡ replicate n []
fresh_items leaders most a zero = refl
fresh_items leaders most a (suc n) = ap (λ (z : List (List ℕ)). [] ∷ z) (fresh_items leaders most (a + 1) n)

fresh_rooms : (leaders most a n : ℕ) → map room_of (map (fresh_track leaders most) (range_with_len a n)) ≡ map (room_for leaders most) (range_with_len a n)
fresh_rooms leaders most a zero = refl
fresh_rooms leaders most a (suc n) = let here : room_of (fresh_track leaders most a) ≡ room_for leaders most a = omega arith in let rest = fresh_rooms leaders most (a + 1) n in λ i. here i ∷ rest i

few_accepted_yet : (count w : ℕ) → length (get_or (replicate count no_entries) w no_entries) ≤ last_of (get_or (replicate count no_entries) w no_entries)
few_accepted_yet count w = subst (λ (z : List ℕ). length z ≤ last_of z) (sym (same_all no_entries count w)) (omega arith)

few_hub : (leaders count : ℕ) → IsFew leaders (hub_view count)
few_hub leaders count = record { closed = All-nil (λ a. length a.closed ≤ last_of a.closed); above = λ p e. no_some p e; accepted = λ w _. few_accepted_yet count w }

few_owner : (leaders count w : ℕ) → IsFew leaders (owner_view count w)
few_owner leaders count w = record {
  closed = All-cons (λ a. length a.closed ≤ last_of a.closed) record { window = w; closed = [] } [] (omega arith) (All-nil (λ a. length a.closed ≤ last_of a.closed));
  above = λ p e. no_some p e;
  accepted = λ w _. few_accepted_yet count w;
}

each_few : (leaders count a n : ℕ) → All (IsFew leaders) (map (owner_view count) (range_with_len a n))
each_few leaders count a zero = All-nil (IsFew leaders)
each_few leaders count a (suc n) = All-cons (IsFew leaders) (owner_view count a) _ (few_owner leaders count a) (each_few leaders count (a + 1) n)

fresh_few : (leaders count : ℕ) → All (IsFew leaders) (fresh_views count)
fresh_few leaders count = All-cons (IsFew leaders) (hub_view count) _ (few_hub leaders count) (each_few leaders count 0 count)

few_seats : (leaders : ℕ) (seats : List PlainSeat) → All (IsFew leaders) (map shown seats) → All (λ s. IsFew leaders (shown s)) seats
few_seats leaders seats h k d l = let many = length-map seats shown in subst (IsFew leaders) (get_or-map shown seats k d (shown d) l) (h k (shown d) (omega arith))

fresh_length : (count : ℕ) → length (fresh_views count) ≡ count + 1
fresh_length count = let l = length-map-range_with_len (owner_view count) 0 count in omega arith

-- what a fresh board keeps
fresh_rule : {M : Type 0} (E : M → ℕ → ℕ → List ℕ) (W : M → ℕ → ℕ) (C Ld L : M → ℕ) (of : M) (words starts : List ℕ) (n widest : ℕ) (seats : List PlainSeat) → ArePlaces (W of) (C of) starts n → IsWidest (W of) (C of) widest → words ≡ replicate n 0 → map shown seats ≡ fresh_views (C of)
    → All (IsRoomy (Ld of) (C of) widest (L of)) seats → PlainRule E W C Ld L of words starts seats 0
fresh_rule {M} E W C Ld L of words starts n widest seats places most_wide zero_words views rooms = let many : length seats ≡ C of + 1 = sym (length-map seats shown) ∙ (ap length views ∙ fresh_length (C of)) in
    let all_zero : words ≡ replicate (start (W of) (C of)) 0 = zero_words ∙ ap (λ (z : ℕ). replicate z nought) places.2 in record {
      rule = subst (λ (z : List ℕ × List View). Windows (E of) (W of) (C of) (Ld of) (L of) of (state of z.0 z.1)) (λ i. (sym all_zero i, sym views i)) (opens_well (E of) (W of) (C of) (Ld of) (L of) of);
      short = λ p. subst (λ (z : List ℕ). get_or z p 0 < 18446744073709551616) (sym zero_words) (let z = same_all nought n p in omega arith);
      many = places.0;
      begin = places.1;
      at_seat = omega arith;
      all_seats = many;
      few = few_seats (Ld of) seats (subst (All (IsFew (Ld of))) (sym views) (fresh_few (Ld of) (C of)));
      widest = widest;
      wide_most = most_wide;
      rooms = rooms;
    }

-- the same, by the numbers that the code found
pub fresh_rule_by : {M : Type 0} (E : M → ℕ → ℕ → List ℕ) (W : M → ℕ → ℕ) (C Ld L : M → ℕ) (of : M) (words starts : List ℕ) (n widest windows leaders most : ℕ) (seats : List PlainSeat) → ArePlaces (W of) (C of) starts n → IsWidest (W of) (C of) widest → words ≡ replicate n 0
    → windows ≡ C of → leaders ≡ Ld of → most ≡ L of → map shown seats ≡ fresh_views windows → All (IsRoomy leaders windows widest most) seats → PlainRule E W C Ld L of words starts seats 0
fresh_rule_by {M} E W C Ld L of words starts n widest windows leaders most seats places most_wide zero_words is_count is_lead is_last views rooms =
    fresh_rule E W C Ld L of words starts n widest seats places most_wide zero_words (views ∙ ap fresh_views is_count)
    (subst (λ (z : ℕ × ℕ × ℕ). All (IsRoomy z.0 z.1 widest z.2) seats) (λ i. (is_lead i, is_count i, is_last i)) rooms)

-- and what it shows
pub fresh_shows : {M : Type 0} (W : M → ℕ → ℕ) (C : M → ℕ) (of : M) (words starts : List ℕ) (n : ℕ) (views : List View) → ArePlaces (W of) (C of) starts n → words ≡ replicate n 0 → views ≡ fresh_views (C of)
    → (of, words, views, nought) ≡ fresh_board W C of
fresh_shows {M} W C of words starts n views places zero_words same = let all_zero : words ≡ replicate (start (W of) (C of)) 0 = zero_words ∙ ap (λ (z : ℕ). replicate z nought) places.2 in λ i. (of, all_zero i, same i, nought)

-- one more window
pub widest_more : (wide : ℕ → ℕ) (n widest widest' width : ℕ) → IsWidest wide n widest → width ≡ wide n → width ≤ widest' → widest ≤ widest' → ((m : ℕ) → width ≤ m → widest ≤ m → widest' ≤ m) → IsWidest wide (n + 1) widest'
widest_more wide n widest widest' width p is up high least = (
  (λ w b. dite (ℕ_discrete w n)
      (λ last. let e : wide w ≡ wide n = ap wide last in omega arith)
      (λ other. let h = p.0 w (omega arith) in omega arith)),
  (λ m enough. let e : wide n ≤ m = enough n (omega arith) in least m (omega arith) (p.1 m (λ w b. enough w (omega arith)))),
)

-- one more seat behind the others
pub views_more : (count n : ℕ) (seats seats' : List PlainSeat) (s : PlainSeat) → map shown seats ≡ hub_view count ∷ map (owner_view count) (range_with_len 0 n) → shown s ≡ owner_view count n → seats' ≡ seats ++ s ∷ [] → map shown seats' ≡ hub_view count ∷ map (owner_view count) (range_with_len 0 (n + 1))
views_more count n seats seats' s views is pushed = ap (map shown) pushed ∙ (map-append shown seats (s ∷ [])
    ∙ ((λ i. views i ++ is i ∷ []) ∙ ap (λ (z : List View). hub_view count ∷ z) (sym (map-range_with_len_more (owner_view count) 0 n n (omega arith)))))

-- no window
pub widest_none : (wide : ℕ → ℕ) → IsWidest wide 0 0
widest_none wide = ((λ w l. absurd (omega arith)), (λ m _. omega arith))

-- a seat that owns no window has room, where its tracks have
no_window : {A : Type 0} (o : Option ℕ) (w : ℕ) → o ≡ None → o ≡ Some w → A
no_window o w unowned owned = absurd cc

pub blank_roomy : (leaders most count widest : ℕ) (s : PlainSeat) → s.window ≡ None → s.words ≡ with_room widest → s.accepted.items ≡ map (fresh_track leaders most) (range_with_len 0 count) → IsRoomy leaders count widest most s
blank_roomy leaders most count widest s unowned words accepted = let room : room_of s.words ≡ room_of (with_room widest) = ap room_of words in record {
  closed = λ w e. no_window s.window w unowned e;
  words = omega arith;
  accepted = ap (map room_of) accepted ∙ fresh_rooms leaders most 0 count;
}

pub blank_accepts : (leaders most count : ℕ) (ts : List (Contents ℕ)) → ts ≡ map (fresh_track leaders most) (range_with_len 0 count) → map items_of ts ≡ replicate count []
blank_accepts leaders most count ts e = ap (map items_of) e ∙ fresh_items leaders most 0 count

-- the room of an owner's seat
pub owner_roomy : (leaders count widest most : ℕ) (s s' : PlainSeat) → IsRoomy leaders count widest most s → s.closed ≡ with_room most → s'.closed ≡ s.closed → s'.words ≡ s.words → s'.accepted.items ≡ s.accepted.items → IsRoomy leaders count widest most s'
owner_roomy leaders count widest most s s' room closed same_closed same_words same_accepted =
    let all : room_of s'.closed ≡ room_of (with_room most) = ap room_of (same_closed ∙ closed) in record {
      closed = λ w e. omega arith;
      words = ap room_of same_words ∙ room.words;
      accepted = ap (map room_of) same_accepted ∙ room.accepted;
    }

-- one more window's track behind the others
pub tracks_more : (leaders most n : ℕ) (tracks tracks' : List (Contents ℕ)) (room : ℕ) (track : Contents ℕ) → tracks ≡ map (fresh_track leaders most) (range_with_len 0 n) → room ≡ room_for leaders most n → track ≡ with_room room → tracks' ≡ tracks ++ track ∷ [] → tracks' ≡ map (fresh_track leaders most) (range_with_len 0 (n + 1))
tracks_more leaders most n tracks tracks' room track all is e pushed = pushed ∙ ((λ i. all i ++ (e ∙ ap with_room is) i ∷ []) ∙ sym (map-range_with_len_more (fresh_track leaders most) 0 n n (omega arith)))

-- one more seat has room too
pub rooms_more : (leaders count widest most : ℕ) (seats seats' : List PlainSeat) (s : PlainSeat) → All (IsRoomy leaders count widest most) seats → IsRoomy leaders count widest most s → seats' ≡ seats ++ s ∷ [] → All (IsRoomy leaders count widest most) seats'
rooms_more leaders count widest most seats seats' s all room pushed = subst (All (IsRoomy leaders count widest most)) (sym pushed)
    (All-append (IsRoomy leaders count widest most) seats (s ∷ []) all (All-cons (IsRoomy leaders count widest most) s [] room (All-nil (IsRoomy leaders count widest most))))

-- the hub's seat comes first
first_seat : (seats seats' : List PlainSeat) (s : PlainSeat) → seats ≡ [] → seats' ≡ seats ++ s ∷ [] → seats' ≡ s ∷ []
first_seat seats seats' s none_yet pushed = pushed ∙ ap (λ (z : List PlainSeat). z ++ s ∷ []) none_yet

pub views_one : (count : ℕ) (seats seats' : List PlainSeat) (s : PlainSeat) → seats ≡ [] → seats' ≡ seats ++ s ∷ [] → shown s ≡ hub_view count → map shown seats' ≡ hub_view count ∷ map (owner_view count) (range_with_len 0 0)
views_one count seats seats' s none_yet pushed is = ap (map shown) (first_seat seats seats' s none_yet pushed) ∙ ap (λ (v : View). v ∷ []) is

pub rooms_one : (leaders count widest most : ℕ) (seats seats' : List PlainSeat) (s : PlainSeat) → seats ≡ [] → seats' ≡ seats ++ s ∷ [] → IsRoomy leaders count widest most s → All (IsRoomy leaders count widest most) seats'
rooms_one leaders count widest most seats seats' s none_yet pushed room = subst (All (IsRoomy leaders count widest most)) (sym (first_seat seats seats' s none_yet pushed))
    (All-cons (IsRoomy leaders count widest most) s [] room (All-nil (IsRoomy leaders count widest most)))
