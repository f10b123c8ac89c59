-- One number more in a range: what a test, a filter and a place make of it.

use Rattle.std.proofs.Common.{arith, refl, sym, ap, ◌∙◌, ◌≡◌, ℕ, zero, suc, ◌+◌, ◌<◌, nat_lt, Bool, true, false, cond, not, ◌||◌, List, [], ◌∷◌, ◌++◌, length, get_or, Option, Some, None, map, set, append-nil}
use Rattle.std.specs.List.{AllByRecursion, count_by, filter, list_any, position, position_or_len, range_with_len}
use Rattle.std.specs.Option.{option_map, option_or}
use Rattle.std.proofs.lemmas.List.Elements.{filter-append}
use Rattle.std.proofs.lemmas.List.Folds.{list_any-append}
use Rattle.std.proofs.lemmas.List.Sums.{position_or_len_is, prefix_len_stops, sum_by-cons}
use Rattle.base_words.proofs.ListSumsByNumber.{range_more}
use Rattle.base_words.proofs.Booleans.{or_false}
use Rattle.base_words.proofs.Comparisons.{not_not}
use Rattle.base_words.proofs.FirstAnswers.{same_some}
use Rattle.base_words.proofs.Positions.{place-cons}

range_push : (n : ℕ) → range_with_len 0 (suc n) ≡ range_with_len 0 n ++ n ∷ []
range_push n = let e : 0 + n ≡ n = omega arith in range_more 0 n ∙ ap (λ m. range_with_len 0 n ++ m ∷ []) e

-- 1 where a test holds, else 0
abbrev pub ones : Bool → ℕ
ones t = cond t 1 0

pub any_more : (p : ℕ → Bool) (n : ℕ) → list_any p (range_with_len 0 (suc n)) ≡ (list_any p (range_with_len 0 n) || p n)
any_more p n = ap (list_any p) (range_push n) ∙ list_any-append p (range_with_len 0 n) (n ∷ []) ∙ ap (λ b. list_any p (range_with_len 0 n) || b) (or_false (p n))

pub filter_more : (p : ℕ → Bool) (n : ℕ) → filter p (range_with_len 0 (suc n)) ≡ filter p (range_with_len 0 n) ++ cond (p n) (n ∷ []) []
filter_more p n = ap (filter p) (range_push n) ∙ filter-append p (range_with_len 0 n) (n ∷ [])

-- the place in a list with one more item at the end
pub place_push : {X : Type 0} (p : X → Bool) (xs : List X) (x : X) → position p (xs ++ x ∷ []) ≡ option_or (position p xs) (cond (p x) (Some (length xs)) None)
place_push p [] x = place-cons p x []
place_push p (y ∷ xs) x =
    place-cons p y (xs ++ x ∷ [])
    ∙ ap (λ o. cond (p y) (Some 0) (option_map (λ k. k + 1) o)) (place_push p xs x)
    ∙ by_test (p y) (position p xs) (p x)
    ∙ ap (λ o. option_or o (cond (p x) (Some (length (y ∷ xs))) None)) (sym (place-cons p y xs))
  where
    by_test : (t : Bool) (o : Option ℕ) (u : Bool) → cond t (Some 0) (option_map (λ k. k + 1) (option_or o (cond u (Some (length xs)) None))) ≡ option_or (cond t (Some 0) (option_map (λ k. k + 1) o)) (cond u (Some (suc (length xs))) None)
    by_test true o u = refl
    by_test false (Some k) u = refl
    by_test false None true = ap Some (omega arith)
    by_test false None false = refl

any_is_counted : {X : Type 0} (p : X → Bool) (xs : List X) → list_any p xs ≡ nat_lt 0 (count_by p xs)
any_is_counted p [] = refl
any_is_counted {X} p (x ∷ xs) = by_test (p x) (count_by p xs) (any_is_counted p xs) ∙ ap (nat_lt 0) (sym (sum_by-cons (λ y. cond (p y) 1 0) x xs))
  where
    by_test : (t : Bool) (m : ℕ) → list_any p xs ≡ nat_lt 0 m → (t || list_any p xs) ≡ nat_lt 0 (cond t 1 0 + m)
    by_test true m e = grind arith
    by_test false m e = e ∙ ap (nat_lt 0) (omega arith)

-- an item passes where one is counted
pub any_counted : {X : Type 0} (p : X → Bool) (xs : List X) (t : Bool) → count_by p xs ≡ cond t 1 0 → list_any p xs ≡ t
any_counted p xs true h = any_is_counted p xs ∙ ap (nat_lt 0) h
any_counted p xs false h = any_is_counted p xs ∙ ap (nat_lt 0) h

-- two tests that answer the same: where no item passes one, a filter by the other keeps none
pub none_pass : {X : Type 0} (p q : X → Bool) → ((x : X) → p x ≡ q x) → (xs : List X) → list_any q xs ≡ false → filter p xs ≡ []
none_pass p q same [] h = refl
none_pass {X} p q same (x ∷ xs) h = by_test (q x) (same x) h (λ r. none_pass p q same xs r)
  where
    by_test : (t : Bool) → p x ≡ t → (t || list_any q xs) ≡ false → (list_any q xs ≡ false → filter p xs ≡ []) → filter p (x ∷ xs) ≡ []
    by_test true e g r = cc
    by_test false e g r = ap (λ t. cond t (x ∷ filter p xs) (filter p xs)) e ∙ r g

-- lists that a test leaves as they are, since no item passes
pub joined_none : {A : Type 0} (p : A → Bool) (g : A → List ℕ) (n : ℕ) (fs : List A) → count_by p fs ≡ 0 → map (λ f. g f ++ cond (p f) (n ∷ []) []) fs ≡ map g fs
joined_none p g n [] h = refl
joined_none {A} p g n (f ∷ fs) h = by_test (p f) refl (sym (sum_by-cons (λ x. cond (p x) 1 0) f fs) ∙ h) (λ r. joined_none p g n fs r)
  where
    by_test : (t : Bool) → p f ≡ t → cond t 1 0 + count_by p fs ≡ 0 → (count_by p fs ≡ 0 → map (λ x. g x ++ cond (p x) (n ∷ []) []) fs ≡ map g fs) → map (λ x. g x ++ cond (p x) (n ∷ []) []) (f ∷ fs) ≡ map g (f ∷ fs)
    by_test true e c r = absurd (omega arith)
    by_test false e c r = ap (λ t. (g f ++ cond t (n ∷ []) []) ∷ map (λ x. g x ++ cond (p x) (n ∷ []) []) fs) e ∙ ap (λ l. l ∷ map (λ x. g x ++ cond (p x) (n ∷ []) []) fs) (append-nil (g f)) ∙ ap (λ ls. g f ∷ ls) (r (omega arith))

-- the one list whose item passes grows
pub joined_at : {A : Type 0} (p : A → Bool) (g : A → List ℕ) (n : ℕ) (fs : List A) (k : ℕ) → count_by p fs ≡ 1 → position p fs ≡ Some k → map (λ f. g f ++ cond (p f) (n ∷ []) []) fs ≡ set (map g fs) k (get_or (map g fs) k [] ++ n ∷ [])
joined_at p g n [] k h e = absurd (omega arith)
joined_at {A} p g n (f ∷ fs) k h e = by_test (p f) refl (sym (sum_by-cons (λ x. cond (p x) 1 0) f fs) ∙ h) (sym (place-cons p f fs) ∙ e) (λ j r q. joined_at p g n fs j r q)
  where
    at_head : (m : ℕ) → zero ≡ m → (g f ++ n ∷ []) ∷ map g fs ≡ set (map g (f ∷ fs)) m (get_or (map g (f ∷ fs)) m [] ++ n ∷ [])
    at_head zero q = refl
    at_head (suc m) q = absurd (omega arith)

    behind : (o : Option ℕ) → option_map (λ j. j + 1) o ≡ Some k → (j : ℕ) × (o ≡ Some j) × (k ≡ suc j)
    behind None q = cc
    behind (Some j) q = (j, refl, omega (arith, same_some q))

    by_test : (t : Bool) → p f ≡ t → cond t 1 0 + count_by p fs ≡ 1 → cond t (Some 0) (option_map (λ j. j + 1) (position p fs)) ≡ Some k → ((j : ℕ) → count_by p fs ≡ 1 → position p fs ≡ Some j → map (λ x. g x ++ cond (p x) (n ∷ []) []) fs ≡ set (map g fs) j (get_or (map g fs) j [] ++ n ∷ [])) → map (λ x. g x ++ cond (p x) (n ∷ []) []) (f ∷ fs) ≡ set (map g (f ∷ fs)) k (get_or (map g (f ∷ fs)) k [] ++ n ∷ [])
    by_test true t c q r = ap (λ u. (g f ++ cond u (n ∷ []) []) ∷ map (λ x. g x ++ cond (p x) (n ∷ []) []) fs) t ∙ ap (λ ls. (g f ++ n ∷ []) ∷ ls) (joined_none p g n fs (omega arith)) ∙ at_head k (same_some q)
    by_test false t c q r =
        let found = behind (position p fs) q in
        let rest = r found.0 (omega arith) found.1 in
        ap (λ u. (g f ++ cond u (n ∷ []) []) ∷ map (λ x. g x ++ cond (p x) (n ∷ []) []) fs) t
        ∙ ap (λ l. l ∷ map (λ x. g x ++ cond (p x) (n ∷ []) []) fs) (append-nil (g f))
        ∙ ap (λ ls. g f ∷ ls) rest
        ∙ ap (λ m. set (map g (f ∷ fs)) m (get_or (map g (f ∷ fs)) m [] ++ n ∷ [])) (sym found.2)

pub no_place : {X : Type 0} (p : X → Bool) (xs : List X) (i : ℕ) (d : X) → i ≡ length xs → ((k : ℕ) → k < i → p (get_or xs k d) ≡ false) → position p xs ≡ None
no_place p xs i d h before =
    let place = position_or_len_is p xs i d (omega arith) before (λ l. absurd (omega arith)) in
    let past : nat_lt i (length xs) ≡ false = grind arith in
    ap (λ k. cond (nat_lt k (length xs)) (Some k) None) place ∙ ap (λ t. cond t (Some i) None) past

-- tests that agree on the items of a list have one first place
pub place_same : {X : Type 0} (p q : X → Bool) (xs : List X) → AllByRecursion (λ x. p x ≡ q x) xs → position_or_len p xs ≡ position_or_len q xs
place_same p q [] h = refl
place_same p q (x ∷ xs) h = ap (λ b. cond (not b) (1 + position_or_len p xs) 0) h.0 ∙ ap (λ n. cond (not (q x)) (1 + n) 0) (place_same p q xs h.1)

-- an item passes at the first place that is there
pub place_passes : {X : Type 0} (p : X → Bool) (xs : List X) (d : X) → position_or_len p xs < length xs → p (get_or xs (position_or_len p xs) d) ≡ true
place_passes p xs d h = not_not (p (get_or xs (position_or_len p xs) d)) (prefix_len_stops (λ x. not (p x)) xs d h)
