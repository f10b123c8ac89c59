-- What a plain seat shows after a list of its own grows.
use Rattle.std.specs.List.{list_any}
use Rattle.std.proofs.Common.{◌≡◌, ℕ, ◌<◌, ◌≤◌, Bool, false, nat_eq, nat_lt, if◌then◌else◌, List, [], ◌∷◌, ◌++◌, map, length, get_or, set, sym, refl, ap, ◌∙◌, subst}
use Rattle.std.specs.Prelude.{Option, Some, None}
use Rattle.std.proofs.lemmas.List.{get_or-map, get_or_read, map-set}
use Rattle.std.proofs.lemmas.Bool.{lt-ltb}
use Rattle.std.proofs.Math.Seq.{map-set_same}
use Rattle.wide_num.specs.RoomContents.{Contents, room_of}
use Rattle.window_words.specs.Views.{accept, add_once, close_first, longer}
use Rattle.plain_board.specs.declared.seat.Begun.{Begun}
use Rattle.plain_board.specs.Tracks.{items_of, empty}
use Rattle.plain_board.specs.Seats.{owned_of, reading_of, HasRoomFor}
use Rattle.plain_board.proofs.Fewness.{past_leaders}

pub owned_push : (o : Option ℕ) (closed : List ℕ) (k : ℕ) → owned_of o (closed ++ k ∷ []) ≡ close_first k (owned_of o closed)
owned_push None closed k = refl
owned_push (Some w) closed k = refl

pub reading_push : (o : Option Begun) (words : List ℕ) (n : ℕ) → reading_of o (words ++ n ∷ []) ≡ longer n (reading_of o words)
reading_push None words n = refl
reading_push (Some b) words n = refl

rooms_set : (ts : List (Contents ℕ)) (w : ℕ) (t : Contents ℕ) → room_of t ≡ room_of (get_or ts w empty) → map room_of (set ts w t) ≡ map room_of ts
rooms_set ts w t e = map-set_same room_of ts w t empty e

-- the latest of a leader's entries
pub leader_accepts : (ts : List (Contents ℕ)) (leaders w k : ℕ) (t : Contents ℕ) → w < leaders → t.items ≡ k ∷ [] → map items_of (set ts w t) ≡ accept leaders w k (map items_of ts)
leader_accepts ts leaders w k t l e = map-set items_of ts w t ∙ ap (set (map items_of ts) w) (e ∙ sym (leads (get_or (map items_of ts) w []) w leaders k l))
  where
    leads : (ks : List ℕ) (w leaders k : ℕ) → w < leaders → (if nat_lt w leaders then k ∷ [] else add_once k ks) ≡ k ∷ []
    leads ks w leaders k l = ap (λ (b : Bool). if b then k ∷ [] else add_once k ks) (lt-ltb w leaders l)

-- one more of another's
other_accepts : (ts : List (Contents ℕ)) (leaders w k : ℕ) (old t : Contents ℕ) → leaders ≤ w → w < length ts → get_or ts w empty ≡ old → t.items ≡ add_once k old.items → map items_of (set ts w t) ≡ accept leaders w k (map items_of ts)
other_accepts ts leaders w k old t past inside is e = map-set items_of ts w t ∙ ap (set (map items_of ts) w)
    (e ∙ (ap (λ (z : Contents ℕ). add_once k z.items) (sym is) ∙ (ap (add_once k) (sym (get_or-map items_of ts w empty [] inside)) ∙ sym (past_leaders (get_or (map items_of ts) w []) w leaders k past))))

-- what was found at a window is its track
module _ (leaders w k : ℕ) (ts : List (Contents ℕ)) (old : Contents ℕ) (room : HasRoomFor leaders w k ts) (is : old ≡ get_or ts w old) where
  found : old ≡ get_or ts w empty
  found = get_or_read ts w old room.0 is empty

  pub adding_fits : leaders ≤ w → list_any (λ j. nat_eq j k) old.items ≡ false → 0 < old.spare
  adding_fits past = subst (λ (z : Contents ℕ). list_any (λ j. nat_eq j k) z.items ≡ false → 0 < z.spare) (sym found) (room.2 past)

  pub rooms_kept : (t : Contents ℕ) → room_of t ≡ room_of old → map room_of (set ts w t) ≡ map room_of ts
  rooms_kept t e = rooms_set ts w t (e ∙ ap room_of found)

  pub added : (t : Contents ℕ) → leaders ≤ w → t.items ≡ add_once k old.items → map items_of (set ts w t) ≡ accept leaders w k (map items_of ts)
  added t past e = other_accepts ts leaders w k old t past room.0 (sym found) e
