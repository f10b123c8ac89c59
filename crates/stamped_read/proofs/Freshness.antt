-- A fresh reader of the leaders' windows.
use Rattle.std.proofs.Common.{◌≡◌, ℕ, ◌+◌, ◌<◌, ◌≤◌, List, [], ◌∷◌, ◌++◌, map, length, get_or, sym, ap, ◌∙◌, arith}
use Rattle.std.specs.List.{range_with_len}
use Rattle.std.proofs.lemmas.List.FromFn.{get_or-map-range_with_len, length-map-range_with_len, map-range_with_len_more}
use Rattle.wide_num.specs.RoomContents.{Contents, with_room, room_of}
use Rattle.window_words.specs.declared.views.View.{View}
use Rattle.stamped_read.specs.Readers.{IsReader, fresh_part, fresh_reader}
use Rattle.stamped_read.specs.Promises.{ReadsFor}

abbrev leaders_parts : (ℕ → ℕ) → ℕ → List (Contents ℕ)
leaders_parts wide lead = map (fresh_part wide) (range_with_len 0 lead)

pub parts_more : (wide : ℕ → ℕ) (n width : ℕ) (parts parts' : List (Contents ℕ)) (part : Contents ℕ) → parts ≡ leaders_parts wide n → width ≡ wide n → part ≡ with_room width → parts' ≡ parts ++ part ∷ [] → parts' ≡ leaders_parts wide (n + 1)
parts_more wide n width parts parts' part all is e pushed = pushed ∙ ((λ i. all i ++ (e ∙ ap with_room is) i ∷ []) ∙ sym (map-range_with_len_more (fresh_part wide) 0 n n (omega arith)))

-- the parts of all leaders, once the loop has gone through them
module _ (wide : ℕ → ℕ) (lead n : ℕ) (parts : List (Contents ℕ)) (all : parts ≡ leaders_parts wide n) (done : n ≡ lead) where
  pub fresh_parts : parts ≡ leaders_parts wide lead
  fresh_parts = all ∙ ap (leaders_parts wide) done

  many : length parts ≡ lead
  many = ap (λ (z : List (Contents ℕ)). length z) fresh_parts ∙ length-map-range_with_len (fresh_part wide) 0 lead

  pub fresh_facts : 0 < lead → IsReader (fresh_reader 0 parts)
  fresh_facts some = let long = many in record { below = omega arith; begins_newer = λ b. absurd (cc); follows_newer = λ l. absurd (omega arith) }

  pub fresh_stands : (entry : ℕ → ℕ → List ℕ) (count : ℕ) (v : View) → lead ≤ count → ReadsFor entry wide count v (fresh_reader 0 parts)
  fresh_stands entry count v low = let long = many in record {
    laid = λ i l. (omega arith, ap (λ (z : List (Contents ℕ)). room_of (get_or z i (with_room 0))) fresh_parts ∙ (ap room_of (get_or-map-range_with_len (fresh_part wide) 0 lead i i (with_room 0) (omega arith) (omega arith)) ∙ same wide i));
    reading = λ b. absurd (cc);
    parts = λ i l. absurd (omega arith);
  }
    where
      same : (wide : ℕ → ℕ) (i : ℕ) → room_of (with_room (wide i)) ≡ wide (0 + i)
      same wide i = let z : 0 + i ≡ i = omega arith in omega (arith, ap wide z)

-- a fresh reader of one window of three words
reply_stands : (entry : ℕ → ℕ → List ℕ) (wide : ℕ → ℕ) (count : ℕ) (v : View) (w : ℕ) → w < count → wide w ≡ 3 → ReadsFor entry wide count v (fresh_reader w (with_room 3 ∷ []))
reply_stands entry wide count v w below three = record {
  laid = λ i l. first i (omega arith);
  reading = λ b. absurd (cc);
  parts = λ i l. absurd (omega arith);
}
  where
    first : (i : ℕ) → i ≡ 0 → (w + i < count) × (room_of (get_or (with_room 3 ∷ []) i (with_room 0)) ≡ wide (w + i))
    first i e = let same : w ≡ w + i = omega arith in (omega arith, ap (λ (z : ℕ). room_of (get_or (with_room 3 ∷ []) z (with_room 0))) e ∙ (sym three ∙ ap wide same))
