-- One pair of words more.
use Rattle.std.proofs.Common.{arith, ◌≡◌, ◌∙◌, ap, ℕ, ◌+◌, Bool, true, false, List, [], ◌∷◌, ◌++◌, cond, filter, add-one, refl, ◌<◌, ◌&&◌}
use Rattle.std.proofs.lemmas.List.Folds.{list_all-append, list_all_at}
use Rattle.std.proofs.lemmas.List.FromFn.{get_or-range_with_len, length-range_with_len}
use Rattle.std.specs.List.{list_all, range_with_len}
use Rattle.std.specs.Str.{bytes_eq}
use Rattle.base_words.proofs.ListSumsByNumber.{range_more}
use Rattle.run_words.specs.Settings.{IsBelow, given_by, name_of, pairs_before, with_one}
use Rattle.run_words.specs.declared.given.Given.{Given}
use Rattle.run_words.specs.declared.given.Given.TheVariants.{Never, Once, Again}

-- the numbers below the next one
range_next : (n : ℕ) → range_with_len 0 (n + 1) ≡ range_with_len 0 n ++ n ∷ []
range_next n =
    let same : 0 + n ≡ n = omega arith in
    ap (range_with_len 0) (add-one n) ∙ range_more 0 n ∙ ap (λ m. range_with_len 0 n ++ m ∷ []) same

filter_push : (p : ℕ → Bool) (ks : List ℕ) (k : ℕ) (b : Bool) → p k ≡ b → filter p (ks ++ k ∷ []) ≡ filter p ks ++ cond b (k ∷ []) []
filter_push p [] k b e = ap (λ c. cond c (k ∷ []) []) e
filter_push p (j ∷ ks) k b e = by_test (p j) (filter_push p ks k b e)
  where
    by_test : (c : Bool) → filter p (ks ++ k ∷ []) ≡ filter p ks ++ cond b (k ∷ []) [] → cond c (j ∷ filter p (ks ++ k ∷ [])) (filter p (ks ++ k ∷ [])) ≡ cond c (j ∷ filter p ks) (filter p ks) ++ cond b (k ∷ []) []
    by_test true h = ap (λ ks. j ∷ ks) h
    by_test false h = h

given_more : (ks : List ℕ) (k : ℕ) → given_by (ks ++ k ∷ []) ≡ with_one (given_by ks) k
given_more [] k = refl
given_more (j ∷ []) k = refl
given_more (j ∷ i ∷ ks) k = refl

given_same : (ks : List ℕ) → given_by (ks ++ []) ≡ given_by ks
given_same [] = refl
given_same (j ∷ []) = refl
given_same (j ∷ i ∷ ks) = refl

-- a pair of the name
pub named_more : (name : List ℕ) (words : List (List ℕ)) (k : ℕ) → bytes_eq (name_of words k) name ≡ true → given_by (pairs_before name words (k + 1)) ≡ with_one (given_by (pairs_before name words k)) k
named_more name words k e =
    ap given_by (ap (filter (λ j. bytes_eq (name_of words j) name)) (range_next k) ∙ filter_push (λ j. bytes_eq (name_of words j) name) (range_with_len 0 k) k true e)
    ∙ given_more (pairs_before name words k) k

-- a pair of another name
pub other_more : (name : List ℕ) (words : List (List ℕ)) (k : ℕ) → bytes_eq (name_of words k) name ≡ false → given_by (pairs_before name words (k + 1)) ≡ given_by (pairs_before name words k)
other_more name words k e =
    ap given_by (ap (filter (λ j. bytes_eq (name_of words j) name)) (range_next k) ∙ filter_push (λ j. bytes_eq (name_of words j) name) (range_with_len 0 k) k false e)
    ∙ given_same (pairs_before name words k)

-- a pair below the next one
pub below_with : (given : Given) (k : ℕ) → IsBelow (with_one given k) (k + 1)
below_with Never k = omega arith
below_with (Once other) k = tt
below_with Again k = tt

pub below_more : (given : Given) (k : ℕ) → IsBelow given k → IsBelow given (k + 1)
below_more Never k h = tt
below_more (Once other) k h = omega (arith, h)
below_more Again k h = tt

-- all numbers below the next one pass, or one below n fails
pub all_more : (p : ℕ → Bool) (n : ℕ) → list_all p (range_with_len 0 n) ≡ true → p n ≡ true → list_all p (range_with_len 0 (n + 1)) ≡ true
all_more p n all has =
    ap (list_all p) (range_next n) ∙ list_all-append p (range_with_len 0 n) (n ∷ []) ∙ ap (λ b. b && list_all p (n ∷ [])) all ∙ ap (λ b. b && true) has

pub one_fails : (p : ℕ → Bool) (n k : ℕ) → k < n → p k ≡ false → list_all p (range_with_len 0 n) ≡ false
one_fails p n k h fails =
    let at : 0 + k ≡ k = omega arith in
    list_all_at p (range_with_len 0 n) k 0 (omega (arith, h, length-range_with_len 0 n)) (ap p (get_or-range_with_len 0 n k 0 h ∙ at) ∙ fails)
