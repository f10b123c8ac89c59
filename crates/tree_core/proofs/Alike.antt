-- The scenarios of one mark: which they are, in which order, and that each scenario is among those of one mark.

use Rattle.std.proofs.Common.{arith, refl, sym, ap, subst, ◌∙◌, ◌≡◌, ℕ, zero, suc, ◌+◌, ◌<◌, ◌≤◌, ◌==◌, Bool, true, false, cond, not, List, [], ◌∷◌, ◌++◌, length, get_or, Option, Some, None, is_some}
use Rattle.std.specs.List.{All, AllPairs, Contains, count_by, flat_map, range_with_len}
use Rattle.std.proofs.lemmas.List.{get_or_default}
use Rattle.std.proofs.lemmas.List.Elements.{All-append, All-nil, All-weaker}
use Rattle.std.proofs.lemmas.List.Folds.{Any-from_list_any, list_any_at}
use Rattle.std.proofs.lemmas.List.FromFn.{get_or-range_with_len, length-range_with_len}
use Rattle.std.proofs.lemmas.List.Kept.{AllPairs-filter}
use Rattle.std.proofs.lemmas.List.Quantifiers.{position-Some}
use Rattle.std.proofs.lemmas.List.Sums.{sum_by-append, sum_by-cons}
use Rattle.base_words.proofs.NumberTests.{same_from_test}
use Rattle.tree_core.specs.Marks.{alike, firsts, is_marked_before}
use Rattle.tree_core.proofs.FirstOnes.{alike_more, firsts_new, firsts_old, key_count, place_of, place_taken}
use Rattle.tree_core.proofs.Listing.{any_counted, none_pass, ones}

range_ascends : (n : ℕ) → AllPairs (λ x y. x < y) (range_with_len 0 n)
range_ascends n i j d l m =
    let m' : j < n = omega (arith, length-range_with_len 0 n) in
    omega (arith, get_or-range_with_len 0 n i d (omega arith), get_or-range_with_len 0 n j d m')

pub alike_ascends : (mark : ℕ → ℕ) (n f : ℕ) → AllPairs (λ x y. x < y) (alike mark n f)
alike_ascends mark n f = AllPairs-filter (λ x y. x < y) (λ u. mark f == mark u) (range_with_len 0 n) (range_ascends n)

pub firsts_ascend : (mark : ℕ → ℕ) (n : ℕ) → AllPairs (λ x y. x < y) (firsts mark n)
firsts_ascend mark n = AllPairs-filter (λ x y. x < y) (λ s. not (is_marked_before mark s (mark s))) (range_with_len 0 n) (range_ascends n)

-- a scenario below n of a mark
pub record IsAlike (mark : ℕ → ℕ) (n f s : ℕ) : Type 0 where
  pub below : s < n
  pub same : mark f ≡ mark s

one_alike : (mark : ℕ → ℕ) (n f : ℕ) → All (IsAlike mark (suc n) f) (cond (mark f == mark n) (n ∷ []) [])
one_alike mark n f = by_test (mark f == mark n) refl
  where
    by_test : (t : Bool) → (mark f == mark n) ≡ t → All (IsAlike mark (suc n) f) (cond t (n ∷ []) [])
    by_test true e k d l =
        let same : mark f ≡ mark n = grind arith in
        let first : k ≡ 0 = omega arith in
        let at : get_or (n ∷ []) k d ≡ n = ap (λ i. get_or (n ∷ []) i d) first in
        record { below = omega arith; same = same ∙ ap mark (sym at) }
    by_test false e k d l = absurd (omega arith)

pub alike_all : (mark : ℕ → ℕ) (n f : ℕ) → All (IsAlike mark n f) (alike mark n f)
alike_all mark zero f = All-nil (IsAlike mark zero f)
alike_all mark (suc n) f =
    let P : List ℕ → Type 0 = All (IsAlike mark (suc n) f) in
    subst P (sym (alike_more mark n f))
    (All-append (IsAlike mark (suc n) f) (alike mark n f) (cond (mark f == mark n) (n ∷ []) [])
    (All-weaker (IsAlike mark n f) (IsAlike mark (suc n) f) (λ s h. record { below = omega arith; same = h.same }) (alike mark n f) (alike_all mark n f)) (one_alike mark n f))

-- the first scenario of a mark
pub record IsFirst (mark : ℕ → ℕ) (n f : ℕ) : Type 0 where
  pub below : f < n
  pub first : is_marked_before mark f (mark f) ≡ false

pub firsts_all : (mark : ℕ → ℕ) (n : ℕ) → All (IsFirst mark n) (firsts mark n)
firsts_all mark zero = All-nil (IsFirst mark zero)
firsts_all mark (suc n) = by_taken (is_marked_before mark n (mark n)) refl (All-weaker (IsFirst mark n) (IsFirst mark (suc n)) (λ f h. record { below = omega arith; first = h.first }) (firsts mark n) (firsts_all mark n))
  where
    by_taken : (t : Bool) → is_marked_before mark n (mark n) ≡ t → All (IsFirst mark (suc n)) (firsts mark n) → All (IsFirst mark (suc n)) (firsts mark (suc n))
    by_taken true e r = let P : List ℕ → Type 0 = All (IsFirst mark (suc n)) in subst P (sym (firsts_old mark n e)) r
    by_taken false e r =
        let P : List ℕ → Type 0 = All (IsFirst mark (suc n)) in
        let last : All (IsFirst mark (suc n)) (n ∷ []) = λ k d l. let zeroth : zero ≡ k = omega arith in let Q : ℕ → Type 0 = λ i. IsFirst mark (suc n) (get_or (n ∷ []) i d) in subst Q zeroth (record { below = omega arith; first = e }) in
        subst P (sym (firsts_new mark n e)) (All-append (IsFirst mark (suc n)) (firsts mark n) (n ∷ []) r last)

-- a list that begins with a number
pub record BeginsWith (f : ℕ) (xs : List ℕ) : Type 0 where
  pub filled : 0 < length xs
  pub first : get_or xs 0 0 ≡ f

begins_append : (f : ℕ) (xs ys : List ℕ) → BeginsWith f xs → BeginsWith f (xs ++ ys)
begins_append f [] ys h = absurd (let l = h.filled in omega arith)
begins_append f (x ∷ xs) ys h = record { filled = omega arith; first = h.first }

-- the scenarios of a first one's mark begin with it
pub alike_begins : (mark : ℕ → ℕ) (n f : ℕ) → IsFirst mark n f → BeginsWith f (alike mark n f)
alike_begins mark zero f h = absurd (let l = h.below in omega arith)
alike_begins mark (suc n) f h = by_last (f == n) refl (λ l. alike_begins mark n f (record { below = l; first = h.first }))
  where
    by_last : (t : Bool) → (f == n) ≡ t → (f < n → BeginsWith f (alike mark n f)) → BeginsWith f (alike mark (suc n) f)
    by_last true e r =
        let same : f ≡ n = grind arith in
        let alone : alike mark f f ≡ [] = none_pass (λ u. mark f == mark u) (λ u. mark u == mark f) (λ u. grind arith) (range_with_len 0 f) h.first in
        let own : (mark f == mark f) ≡ true = grind arith in
        let P : List ℕ → Type 0 = BeginsWith f in
        let Q : ℕ → Type 0 = λ m. BeginsWith f (alike mark (suc m) f) in
        let whole : alike mark (suc f) f ≡ f ∷ [] = alike_more mark f f ∙ ap (λ l. l ++ cond (mark f == mark f) (f ∷ []) []) alone ∙ ap (λ t. cond t (f ∷ []) []) own in
        subst Q same (subst P (sym whole) (record { filled = omega arith; first = refl }))
    by_last false e r =
        let P : List ℕ → Type 0 = BeginsWith f in
        let before : f < n = (let l = h.below in grind arith) in
        subst P (sym (alike_more mark n f)) (begins_append f (alike mark n f) (cond (mark f == mark n) (n ∷ []) []) (r before))

-- a scenario past the end isn't among those of a mark
alike_past : (mark : ℕ → ℕ) (n f s : ℕ) → n ≤ s → count_by (λ u. u == s) (alike mark n f) ≡ 0
alike_past mark zero f s h = refl
alike_past mark (suc n) f s h =
    let other : (n == s) ≡ false = grind arith in
    ap (count_by (λ u. u == s)) (alike_more mark n f)
    ∙ sum_by-append (λ u. cond (u == s) 1 0) (alike mark n f) (cond (mark f == mark n) (n ∷ []) [])
    ∙ ap (λ m. m + count_by (λ u. u == s) (cond (mark f == mark n) (n ∷ []) [])) (alike_past mark n f s (omega arith))
    ∙ by_test (mark f == mark n) other
  where
    by_test : (t : Bool) → (n == s) ≡ false → 0 + count_by (λ u. u == s) (cond t (n ∷ []) []) ≡ 0
    by_test true e = ap (λ v. 0 + (0 + cond v 1 0)) e
    by_test false e = refl

-- a scenario stands once among those of its mark, and not among those of another
pub alike_count : (mark : ℕ → ℕ) (n f s : ℕ) → s < n → count_by (λ u. u == s) (alike mark n f) ≡ cond (mark f == mark s) 1 0
alike_count mark zero f s h = absurd (omega arith)
alike_count mark (suc n) f s h =
    ap (count_by (λ u. u == s)) (alike_more mark n f)
    ∙ sum_by-append (λ u. cond (u == s) 1 0) (alike mark n f) (cond (mark f == mark n) (n ∷ []) [])
    ∙ by_last (n == s) refl (λ l. alike_count mark n f s l) (λ l. alike_past mark n f s l)
  where
    at_end : (t u : Bool) → (n == s) ≡ u → count_by (λ v. v == s) (cond t (n ∷ []) []) ≡ cond t (cond u 1 0) 0
    at_end true u e = ap (λ v. 0 + cond v 1 0) e ∙ omega arith
    at_end false u e = refl

    none : (t : Bool) → cond t 0 0 ≡ zero
    none true = refl
    none false = refl

    by_last : (u : Bool) → (n == s) ≡ u → (s < n → count_by (λ v. v == s) (alike mark n f) ≡ cond (mark f == mark s) 1 0) → (n ≤ s → count_by (λ v. v == s) (alike mark n f) ≡ 0) → count_by (λ v. v == s) (alike mark n f) + count_by (λ v. v == s) (cond (mark f == mark n) (n ∷ []) []) ≡ cond (mark f == mark s) 1 0
    by_last true e r p =
        let same : n ≡ s = grind arith in
        let q : ones (mark f == mark n) ≡ ones (mark f == mark s) = ap (λ m. ones (mark f == mark m)) same in
        let c : count_by (λ v. v == s) (alike mark n f) ≡ 0 = p (omega arith) in
        omega (arith, at_end (mark f == mark n) true e, q, c)
    by_last false e r p =
        let before : s < n = grind arith in
        omega (arith, at_end (mark f == mark n) false e, r before, none (mark f == mark n))

-- counted over several marks
alike_counts : (mark : ℕ → ℕ) (n s : ℕ) (fs : List ℕ) → s < n → count_by (λ u. u == s) (flat_map (alike mark n) fs) ≡ count_by (λ f. mark f == mark s) fs
alike_counts mark n s [] h = refl
alike_counts mark n s (f ∷ fs) h =
    sum_by-append (λ u. cond (u == s) 1 0) (alike mark n f) (flat_map (alike mark n) fs)
    ∙ ap (λ m. m + count_by (λ u. u == s) (flat_map (alike mark n) fs)) (alike_count mark n f s h)
    ∙ ap (λ m. cond (mark f == mark s) 1 0 + m) (alike_counts mark n s fs h)
    ∙ sym (sum_by-cons (λ g. cond (mark g == mark s) 1 0) f fs)

-- the mark of a scenario is taken behind it
taken_below : (mark : ℕ → ℕ) (n s : ℕ) → s < n → is_marked_before mark n (mark s) ≡ true
taken_below mark n s h =
    let at : get_or (range_with_len 0 n) s 0 ≡ s = get_or-range_with_len 0 n s 0 h ∙ omega arith in
    let own : (mark s == mark s) ≡ true = grind arith in
    list_any_at (λ u. mark u == mark s) (range_with_len 0 n) s 0 (omega (arith, length-range_with_len 0 n)) (ap (λ u. mark u == mark s) at ∙ own)

-- a scenario below n stands once among those of all marks
pub stands_once : (mark : ℕ → ℕ) (n s : ℕ) → s < n → count_by (λ u. u == s) (flat_map (alike mark n) (firsts mark n)) ≡ 1
stands_once mark n s h = alike_counts mark n s (firsts mark n) h ∙ key_count mark n (mark s) ∙ ap (λ t. cond t 1 0) (taken_below mark n s h)

-- what is counted stands in the list
pub counted_in : (xs : List ℕ) (s : ℕ) → count_by (λ u. u == s) xs ≡ 1 → Contains xs s
counted_in xs s h =
    let found = Any-from_list_any (λ u. u == s) xs (any_counted (λ u. u == s) xs true h) in
    let same : found.1 ≡ s = same_from_test (found.1) s found.4 in
    let P : ℕ → Type 0 = λ u. get_or xs found.0 u ≡ u in
    (found.0, found.2, subst P same found.3)

-- the first scenario of a mark
pub record HasFirst (mark : ℕ → ℕ) (n s f : ℕ) : Type 0 where
  pub listed : Contains (firsts mark n) f
  pub same : mark f ≡ mark s

pub first_found : (mark : ℕ → ℕ) (n s : ℕ) → s < n → (f : ℕ) × HasFirst mark n s f
first_found mark n s h = by_place (place_of mark n (mark s)) refl (place_taken mark n (mark s) ∙ taken_below mark n s h)
  where
    by_place : (o : Option ℕ) → place_of mark n (mark s) ≡ o → is_some (place_of mark n (mark s)) ≡ true → (f : ℕ) × HasFirst mark n s f
    by_place None e t = absurd (let x = sym (ap is_some e) ∙ t in cc)
    by_place (Some k) e t =
        let at = position-Some (λ f. mark f == mark s) (firsts mark n) k 0 e in
        let f = get_or (firsts mark n) k 0 in
        (f, record { listed = (k, at.0, get_or_default (firsts mark n) k f 0 at.0); same = same_from_test (mark f) (mark s) at.1 })
