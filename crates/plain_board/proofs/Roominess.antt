-- There is room for one more entry.
use Rattle.std.proofs.Common.{◌≡◌, ℕ, ◌*◌, ◌/◌, ◌<◌, ◌≤◌, Bool, List, [], ◌∷◌, map, length, get_or, if◌then◌else◌, sym, ap, ◌∙◌, subst, arith}
use Rattle.std.specs.Prelude.{All, Option, Some, None}
use Rattle.std.specs.List.{range_with_len}
use Rattle.std.proofs.lemmas.List.{get_or-map, length-map}
use Rattle.std.proofs.lemmas.List.FromFn.{get_or-map-range_with_len, length-map-range_with_len}
use Rattle.std.proofs.lemmas.List.Elements.{All-head, All-weaker}
use Rattle.std.proofs.lemmas.Bool.{le-ltb, lt-ltb}
use Rattle.wide_num.specs.RoomContents.{Contents, room_of}
use Rattle.window_words.specs.Views.{one, last_of, pending}
use Rattle.window_words.specs.declared.views.Owned.{Owned}
use Rattle.window_words.specs.declared.views.Reading.{Reading}
use Rattle.plain_board.specs.declared.seat.Begun.{Begun}
use Rattle.plain_board.specs.declared.seat.PlainSeat.{PlainSeat}
use Rattle.plain_board.specs.Tracks.{items_of, empty}
use Rattle.plain_board.specs.Seats.{shown, owned_of, reading_of, read_count, IsRoomy, KeepsRoom, room_for, HasRoomToEnd}
use Rattle.plain_board.specs.Plain.{IsFew}
use Rattle.window_words.proofs.Stamps.{whole_tells}
use Rattle.plain_board.proofs.Fewness.{above_last}

-- entries are never more than the number of the last, so one above it finds room
room_above : (c : Contents ℕ) (k most : ℕ) → room_of c ≡ most → length c.items ≤ last_of c.items → last_of c.items < k → k ≤ most → 0 < c.spare
room_above c k most room few above low = omega arith

pub roomy_after : (leaders count widest most : ℕ) (s s' : PlainSeat) → IsRoomy leaders count widest most s → KeepsRoom s s' → IsRoomy leaders count widest most s'
roomy_after leaders count widest most s s' r k = record {
  closed = λ w e. k.closed ∙ r.closed w (sym k.window ∙ e);
  words = k.words ∙ r.words;
  accepted = k.accepted ∙ r.accepted;
}

-- a seat that owns a window shows it with the entries that it closed
abbrev items_or : List Owned → List ℕ
items_or [] = []
items_or (a ∷ others) = a.closed

own_closed : (o : Option ℕ) (cs : List ℕ) (w : ℕ) (closed : List ℕ) → owned_of o cs ≡ one w closed → (o ≡ Some w) × (cs ≡ closed)
own_closed None cs w closed e = absurd cc
own_closed (Some x) cs w closed e = (ap Some (ap first e), ap items_or e)
  where
    first : List Owned → ℕ
    first [] = 0
    first (a ∷ others) = a.window

-- a seat with an open entry has room to close it
pub room_to_close : (leaders count widest most k c w : ℕ) (closed : List ℕ) (s : PlainSeat) → IsRoomy leaders count widest most s → IsFew leaders (shown s) → (shown s).owned ≡ one w closed → s.pending ≡ Some (pending k c) → k ≤ most → 0 < s.closed.spare
room_to_close leaders count widest most k c w closed s r f owned is low =
    let own = own_closed s.window s.closed.items w closed owned in
    let owned_so : owned_of s.window s.closed.items ≡ one w s.closed.items = ap (λ (z : Option ℕ). owned_of z s.closed.items) own.0 in
    let here : Owned = record { window = w; closed = s.closed.items } in
    let short : length s.closed.items ≤ last_of s.closed.items = All-head (λ a. length a.closed ≤ last_of a.closed) here [] (subst (λ (z : List Owned). All (λ a. length a.closed ≤ last_of a.closed) z) owned_so f.closed) in
    let below : last_of s.closed.items < k = All-head (λ a. last_of a.closed < k) here [] (subst (λ (z : List Owned). All (λ a. last_of a.closed < k) z) owned_so (f.above (pending k c) is)) in
    room_above s.closed k most (r.closed w own.0) short below low

room_of_track : (leaders count most w : ℕ) (ts : List (Contents ℕ)) → map room_of ts ≡ map (room_for leaders most) (range_with_len 0 count) → w < count → (w < length ts) × (room_of (get_or ts w empty) ≡ room_for leaders most w)
room_of_track leaders count most w ts e l =
    let many : length ts ≡ count = sym (length-map ts room_of) ∙ (ap length e ∙ length-map-range_with_len (room_for leaders most) 0 count) in
    let here : w < length ts = omega arith in
    (here, sym (get_or-map room_of ts w empty 0 here) ∙ (ap (λ (z : List ℕ). get_or z w 0) e ∙ get_or-map-range_with_len (room_for leaders most) 0 count w w 0 l (omega arith)))

leader_room : (leaders most w : ℕ) → w < leaders → room_for leaders most w ≡ 1
leader_room leaders most w l = ap (λ (b : Bool). if b then 1 else most) (lt-ltb w leaders l)

other_room : (leaders most w : ℕ) → leaders ≤ w → room_for leaders most w ≡ most
other_room leaders most w l = ap (λ (b : Bool). if b then 1 else most) (le-ltb w leaders l)

items_at : (ts : List (Contents ℕ)) (w : ℕ) → w < length ts → get_or (map items_of ts) w [] ≡ (get_or ts w empty).items
items_at ts w l = get_or-map items_of ts w empty [] l

-- a seat that ends a reading has room to accept its entry
pub room_to_end : (leaders count widest most n : ℕ) (s : PlainSeat) → IsRoomy leaders count widest most s → IsFew leaders (shown s)
    → ((b : Begun) → s.reading ≡ Some b → (b.window < count) × (n ≤ 2 * most) × All (λ j. 2 * j ≤ n) (get_or (shown s).accepted b.window [])) → HasRoomToEnd leaders n s
room_to_end leaders count widest most n s r f known b is whole =
    let t = known b is in let low = t.0 in let top = t.1 in let k = whole_tells b.first n whole in let half = k.1 in let pos = k.2 in
    let room = room_of_track leaders count most b.window s.accepted.items r.accepted low in
    let here = items_at s.accepted.items b.window room.0 in (
      room.0,
      λ l. let one = leader_room leaders most b.window l in let e = room.1 in omega arith,
      λ past fresh. let all : All (λ j. j ≤ n / 2) (get_or s.accepted.items b.window empty).items =
          All-weaker (λ j. 2 * j ≤ n) (λ j. j ≤ n / 2) (λ j h. omega arith) (get_or s.accepted.items b.window empty).items (subst (λ (z : List ℕ). All (λ j. 2 * j ≤ n) z) here t.2) in
          let above = above_last (get_or s.accepted.items b.window empty).items (n / 2) pos all fresh in
          let short : length (get_or s.accepted.items b.window empty).items ≤ last_of (get_or s.accepted.items b.window empty).items = subst (λ (z : List ℕ). length z ≤ last_of z) here (f.accepted b.window past) in
          room_above (get_or s.accepted.items b.window empty) (n / 2) most (room.1 ∙ other_room leaders most b.window past) short above (omega arith),
    )

abbrev words_or : List ℕ → Option Reading → List ℕ
words_or d None = d
words_or d (Some r) = r.words

begun_words : (o : Option Begun) (ws : List ℕ) (q : Reading) → reading_of o ws ≡ Some q → ws ≡ q.words
begun_words None ws q e = absurd cc
begun_words (Some b) ws q e = ap (words_or ws) e

-- the words of a reading that was begun
pub read_words : (s : PlainSeat) (q : Reading) → (shown s).reading ≡ Some q → length s.words.items ≡ read_count (shown s).reading
read_words s q is = ap length (begun_words s.reading s.words.items q is) ∙ sym (ap read_count is)

-- a seat that reads on has room for the next word
pub room_to_read : (leaders count widest most : ℕ) (s : PlainSeat) → IsRoomy leaders count widest most s → (q : Reading) → (shown s).reading ≡ Some q → length q.words < widest → 0 < s.words.spare
room_to_read leaders count widest most s r q is more = let e = begun_words s.reading s.words.items q is in let room = r.words in let l : length s.words.items ≡ length q.words = ap length e in omega arith
