-- Lists that grow by one, and the lists of accepted entries.
use Rattle.std.proofs.Common.{◌≡◌, ℕ, zero, suc, ◌+◌, ◌-◌, ◌*◌, ◌<◌, ◌≤◌, Bool, true, false, List, [], ◌∷◌, ◌++◌, length, get_or, replicate, set, refl, subst, arith, length-append, nat_lt, nat_eq, if◌then◌else◌}
use Rattle.std.specs.Prelude.{All}
use Rattle.std.specs.List.{list_any, Contains}
use Rattle.std.proofs.lemmas.List.Elements.{All-append, All-cons, All-get_or, All-nil, Contains-get_or}
use Rattle.window_words.specs.Views.{last_of, accept}

pub push_at : (ks : List ℕ) (k n : ℕ) → n ≡ length ks → get_or (ks ++ k ∷ []) n 0 ≡ k
push_at [] k zero e = refl
push_at [] k (suc n) e = absurd (omega arith)
push_at (x ∷ xs) k zero e = absurd (omega arith)
push_at (x ∷ xs) k (suc n) e = push_at xs k n (omega arith)

pub push_before : (ks : List ℕ) (k n : ℕ) → n < length ks → get_or (ks ++ k ∷ []) n 0 ≡ get_or ks n 0
push_before [] k n l = absurd (omega arith)
push_before (x ∷ xs) k zero l = refl
push_before (x ∷ xs) k (suc n) l = push_before xs k n (omega arith)

pub length_push : (ks : List ℕ) (k : ℕ) → length (ks ++ k ∷ []) ≡ length ks + 1
length_push ks k = let a = length-append ks (k ∷ []) in omega arith

pub last_push : (ks : List ℕ) (k : ℕ) → last_of (ks ++ k ∷ []) ≡ k
last_push ks k = let a = length_push ks k in push_at ks k _ (omega arith)

each_set : (P : ℕ → ℕ → Type 0) (acc : List (List ℕ)) (w : ℕ) (ks : List ℕ) → ((j : ℕ) → All (P j) (get_or acc j [])) → All (P w) ks → (j : ℕ) → All (P j) (get_or (set acc w ks) j [])
each_set P [] w ks each mine j = each j
each_set P (x ∷ xs) zero ks each mine zero = mine
each_set P (x ∷ xs) zero ks each mine (suc j) = each (suc j)
each_set P (x ∷ xs) (suc w) ks each mine zero = each zero
each_set P (x ∷ xs) (suc w) ks each mine (suc j) = each_set (λ v. P (suc v)) xs w ks (λ v. each (suc v)) mine j

chosen : (P : ℕ → Type 0) (k : ℕ) (ks : List ℕ) (b c : Bool) → All P ks → P k → All P (if b then k ∷ [] else (if c then ks else (ks ++ k ∷ [])))
chosen P k ks true c all p = All-cons P k [] p (All-nil P)
chosen P k ks false true all p = all
chosen P k ks false false all p = All-append P ks (k ∷ []) all (All-cons P k [] p (All-nil P))

-- a list of one value has it at each place, and past the end as well
pub same_all : {A : Type 0} (d : A) (n i : ℕ) → get_or (replicate n d) i d ≡ d
same_all d zero i = refl
same_all d (suc n) zero = refl
same_all d (suc n) (suc i) = same_all d n i

-- what follows from two facts of each item
pub both_all : {A : Type 0} (P Q R : A → Type 0) → ((x : A) → P x → Q x → R x) → (xs : List A) → All P xs → All Q xs → All R xs
both_all P Q R f xs p q = λ k d l. f (get_or xs k d) (p k d l) (q k d l)

-- what holds of all accepted entries and of one more holds after it is accepted
pub each_accept : (P : ℕ → ℕ → Type 0) (leaders w k : ℕ) (acc : List (List ℕ)) → ((j : ℕ) → All (P j) (get_or acc j [])) → P w k → (j : ℕ) → All (P j) (get_or (accept leaders w k acc) j [])
each_accept P leaders w k acc each p = each_set P acc w _ each (chosen (P w) k (get_or acc w []) (nat_lt w leaders) (list_any (λ j. nat_eq j k) (get_or acc w [])) (each w) p)

-- the last of a list whose items are below n, or 0
pub last_below : (ks : List ℕ) (n : ℕ) → All (λ k. 2 * k ≤ n) ks → 2 * last_of ks ≤ n
last_below [] n all = omega arith
last_below (x ∷ xs) n all = let here : length (x ∷ xs) - 1 < length (x ∷ xs) = omega arith in All-get_or (λ k. 2 * k ≤ n) (x ∷ xs) (length (x ∷ xs) - 1) 0 here all

-- a list has its last item
pub has_last : (ks : List ℕ) (k : ℕ) → 1 ≤ k → last_of ks ≡ k → Contains ks k
has_last [] k pos e = absurd (omega arith)
has_last (x ∷ xs) k pos e = let here : length (x ∷ xs) - 1 < length (x ∷ xs) = omega arith in
    subst (λ (z : ℕ). Contains (x ∷ xs) z) e (Contains-get_or (x ∷ xs) (length (x ∷ xs) - 1) 0 here)
