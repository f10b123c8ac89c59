-- The scenarios by their marks, scenario after scenario: a new mark begins a list, a known one lengthens its list.

use Rattle.std.proofs.Common.{arith, refl, sym, ap, ◌∙◌, ◌≡◌, ℕ, zero, suc, ◌+◌, ◌<◌, ◌==◌, Bool, true, false, cond, not, ◌||◌, List, [], ◌∷◌, ◌++◌, map, length, get_or, set, Option, Some, None, is_some, append-nil}
use Rattle.std.specs.List.{count_by, position, range_with_len}
use Rattle.std.specs.Option.{option_or}
use Rattle.std.proofs.lemmas.List.Sums.{sum_by-append}
use Rattle.std.proofs.lemmas.List.{length-map, map-append}
use Rattle.std.proofs.lemmas.List.Quantifiers.{position-Some}
use Rattle.base_words.proofs.FirstAnswers.{option_or_none}
use Rattle.base_words.proofs.Positions.{passes_is}
use Rattle.tree_core.specs.Marks.{alike, firsts, groups, is_marked_before}
use Rattle.tree_core.proofs.Listing.{any_counted, any_more, filter_more, joined_at, joined_none, none_pass, ones, place_push}

-- the place of the list of a mark
abbrev pub place_of : (ℕ → ℕ) → ℕ → ℕ → Option ℕ
place_of mark n key = position (λ f. mark f == key) (firsts mark n)

pub firsts_old : (mark : ℕ → ℕ) (n : ℕ) → is_marked_before mark n (mark n) ≡ true → firsts mark (suc n) ≡ firsts mark n
firsts_old mark n h = filter_more (λ s. not (is_marked_before mark s (mark s))) n ∙ ap (λ t. firsts mark n ++ cond (not t) (n ∷ []) []) h ∙ append-nil (firsts mark n)

pub firsts_new : (mark : ℕ → ℕ) (n : ℕ) → is_marked_before mark n (mark n) ≡ false → firsts mark (suc n) ≡ firsts mark n ++ n ∷ []
firsts_new mark n h = filter_more (λ s. not (is_marked_before mark s (mark s))) n ∙ ap (λ t. firsts mark n ++ cond (not t) (n ∷ []) []) h

counted : (u t : Bool) (m : ℕ) → m ≡ cond t 1 0 → (u ≡ true → t ≡ false) → m + (0 + cond u 1 0) ≡ cond (t || u) 1 0
counted true true m e h = cc (h refl)
counted true false m e h = omega (arith, e)
counted false true m e h = omega (arith, e)
counted false false m e h = omega (arith, e)

kept : (u t : Bool) → (u ≡ true → t ≡ true) → ones t ≡ ones (t || u)
kept true true h = refl
kept true false h = cc (h refl)
kept false true h = refl
kept false false h = refl

-- among the first scenarios a mark that is taken stands once, any other not at all
pub key_count : (mark : ℕ → ℕ) (n key : ℕ) → count_by (λ f. mark f == key) (firsts mark n) ≡ cond (is_marked_before mark n key) 1 0
key_count mark zero key = refl
key_count mark (suc n) key = by_taken (is_marked_before mark n (mark n)) refl (key_count mark n key) ∙ ap (λ b. cond b 1 0) (sym (any_more (λ u. mark u == key) n))
  where
    same_mark : (mark n == key) ≡ true → mark n ≡ key
    same_mark s = grind arith

    by_taken : (t : Bool) → is_marked_before mark n (mark n) ≡ t → count_by (λ f. mark f == key) (firsts mark n) ≡ cond (is_marked_before mark n key) 1 0 → count_by (λ f. mark f == key) (firsts mark (suc n)) ≡ cond (is_marked_before mark n key || (mark n == key)) 1 0
    by_taken false e r =
        ap (count_by (λ f. mark f == key)) (firsts_new mark n e)
        ∙ sum_by-append (λ f. cond (mark f == key) 1 0) (firsts mark n) (n ∷ [])
        ∙ counted (mark n == key) (is_marked_before mark n key) (count_by (λ f. mark f == key) (firsts mark n)) r (λ s. ap (is_marked_before mark n) (sym (same_mark s)) ∙ e)
    by_taken true e r =
        ap (count_by (λ f. mark f == key)) (firsts_old mark n e) ∙ r ∙ kept (mark n == key) (is_marked_before mark n key) (λ s. ap (is_marked_before mark n) (sym (same_mark s)) ∙ e)

-- a mark has a place exactly where it is taken
pub place_taken : (mark : ℕ → ℕ) (n key : ℕ) → is_some (place_of mark n key) ≡ is_marked_before mark n key
place_taken mark n key =
    sym (passes_is (λ f. mark f == key) (firsts mark n)) ∙ any_counted (λ f. mark f == key) (firsts mark n) (is_marked_before mark n key) (key_count mark n key)

pub alike_more : (mark : ℕ → ℕ) (n f : ℕ) → alike mark (suc n) f ≡ alike mark n f ++ cond (mark f == mark n) (n ∷ []) []
alike_more mark n f = filter_more (λ u. mark f == mark u) n

groups_more : (mark : ℕ → ℕ) (n : ℕ) (fs : List ℕ) → map (alike mark (suc n)) fs ≡ map (λ f. alike mark n f ++ cond (mark f == mark n) (n ∷ []) []) fs
groups_more mark n [] = refl
groups_more mark n (f ∷ fs) = ap (λ g. g ∷ map (alike mark (suc n)) fs) (alike_more mark n f) ∙ ap (λ gs. (alike mark n f ++ cond (mark f == mark n) (n ∷ []) []) ∷ gs) (groups_more mark n fs)

-- a scenario of a mark that isn't taken begins a list
groups_new : (mark : ℕ → ℕ) (n : ℕ) → place_of mark n (mark n) ≡ None → groups mark (suc n) ≡ groups mark n ++ (n ∷ []) ∷ []
groups_new mark n h =
    let free : is_marked_before mark n (mark n) ≡ false = sym (place_taken mark n (mark n)) ∙ ap is_some h in
    let alone : alike mark n n ≡ [] = none_pass (λ u. mark n == mark u) (λ u. mark u == mark n) (λ u. grind arith) (range_with_len 0 n) free in
    let same : (mark n == mark n) ≡ true = grind arith in
    groups_more mark n (firsts mark (suc n))
    ∙ ap (map (λ f. alike mark n f ++ cond (mark f == mark n) (n ∷ []) [])) (firsts_new mark n free)
    ∙ map-append (λ f. alike mark n f ++ cond (mark f == mark n) (n ∷ []) []) (firsts mark n) (n ∷ [])
    ∙ ap (λ gs. gs ++ (alike mark n n ++ cond (mark n == mark n) (n ∷ []) []) ∷ []) (joined_none (λ f. mark f == mark n) (alike mark n) n (firsts mark n) (key_count mark n (mark n) ∙ ap (λ t. cond t 1 0) free))
    ∙ ap (λ g. groups mark n ++ (g ++ cond (mark n == mark n) (n ∷ []) []) ∷ []) alone
    ∙ ap (λ t. groups mark n ++ cond t (n ∷ []) [] ∷ []) same

-- a scenario of a mark that is taken goes to the end of the list of the mark
groups_old : (mark : ℕ → ℕ) (n k : ℕ) → place_of mark n (mark n) ≡ Some k → groups mark (suc n) ≡ set (groups mark n) k (get_or (groups mark n) k [] ++ n ∷ [])
groups_old mark n k h =
    let taken : is_marked_before mark n (mark n) ≡ true = sym (place_taken mark n (mark n)) ∙ ap is_some h in
    groups_more mark n (firsts mark (suc n))
    ∙ ap (map (λ f. alike mark n f ++ cond (mark f == mark n) (n ∷ []) [])) (firsts_old mark n taken)
    ∙ joined_at (λ f. mark f == mark n) (alike mark n) n (firsts mark n) k (key_count mark n (mark n) ∙ ap (λ t. cond t 1 0) taken) h

-- the places of the marks after a new one
places_new : (mark : ℕ → ℕ) (n key : ℕ) → place_of mark n (mark n) ≡ None → place_of mark (suc n) key ≡ cond (mark n == key) (Some (length (firsts mark n))) (place_of mark n key)
places_new mark n key h =
    let free : is_marked_before mark n (mark n) ≡ false = sym (place_taken mark n (mark n)) ∙ ap is_some h in
    ap (position (λ f. mark f == key)) (firsts_new mark n free) ∙ place_push (λ f. mark f == key) (firsts mark n) n ∙ by_same (mark n == key) (λ s. ap (place_of mark n) (sym (same_mark s)) ∙ h)
  where
    same_mark : (mark n == key) ≡ true → mark n ≡ key
    same_mark s = grind arith

    by_same : (u : Bool) → (u ≡ true → place_of mark n key ≡ None) → option_or (place_of mark n key) (cond u (Some (length (firsts mark n))) None) ≡ cond u (Some (length (firsts mark n))) (place_of mark n key)
    by_same true r = ap (λ o. option_or o (Some (length (firsts mark n)))) (r refl)
    by_same false r = option_or_none (place_of mark n key)

-- the places stay where the mark is taken
places_old : (mark : ℕ → ℕ) (n k key : ℕ) → place_of mark n (mark n) ≡ Some k → place_of mark (suc n) key ≡ place_of mark n key
places_old mark n k key h =
    let taken : is_marked_before mark n (mark n) ≡ true = sym (place_taken mark n (mark n)) ∙ ap is_some h in
    ap (position (λ f. mark f == key)) (firsts_old mark n taken)

-- the loop's step where the mark has a place: no place changes, and its list grows
pub step_old : (mark : ℕ → ℕ) (n key k : ℕ) (f : ℕ → Option ℕ) → key ≡ mark n → ((q : ℕ) → f q ≡ place_of mark n q) → f key ≡ Some k →
    ((q : ℕ) → f q ≡ place_of mark (n + 1) q) × (groups mark (n + 1) ≡ set (groups mark n) k (get_or (groups mark n) k [] ++ n ∷ []))
step_old mark n key k f same places found =
    let at : place_of mark n (mark n) ≡ Some k = ap (place_of mark n) (sym same) ∙ sym (places key) ∙ found in
    let e : suc n ≡ n + 1 = omega arith in
    ((λ q. places q ∙ sym (places_old mark n k q at) ∙ ap (λ m. place_of mark m q) e), ap (groups mark) (sym e) ∙ groups_old mark n k at)

-- the loop's step where the mark has no place: it gets the next one, and a list of its own
pub step_new : (mark : ℕ → ℕ) (n key len : ℕ) (f g : ℕ → Option ℕ) → key ≡ mark n → ((q : ℕ) → f q ≡ place_of mark n q) → f key ≡ None → len ≡ length (groups mark n) → ((q : ℕ) → g q ≡ cond (key == q) (Some len) (f q)) →
    ((q : ℕ) → g q ≡ place_of mark (n + 1) q) × (groups mark (n + 1) ≡ groups mark n ++ (n ∷ []) ∷ [])
step_new mark n key len f g same places none long put =
    let at : place_of mark n (mark n) ≡ None = ap (place_of mark n) (sym same) ∙ sym (places key) ∙ none in
    let e : suc n ≡ n + 1 = omega arith in
    let many : len ≡ length (firsts mark n) = long ∙ length-map (firsts mark n) (alike mark n) in (
      (λ q.
          put q
          ∙ ap (λ m. cond (key == q) (Some m) (f q)) many
          ∙ ap (λ o. cond (key == q) (Some (length (firsts mark n))) o) (places q)
          ∙ ap (λ m. cond (m == q) (Some (length (firsts mark n))) (place_of mark n q)) same
          ∙ sym (places_new mark n q at)
          ∙ ap (λ m. place_of mark m q) e),
      ap (groups mark) (sym e) ∙ groups_new mark n at,
    )

-- a place is that of a list
pub place_below : (mark : ℕ → ℕ) (n key k : ℕ) → place_of mark n key ≡ Some k → k < length (groups mark n)
place_below mark n key k h = omega (arith, (position-Some (λ f. mark f == key) (firsts mark n) k 0 h).0, length-map (firsts mark n) (alike mark n))
