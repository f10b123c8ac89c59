-- Where in a list the first item stands that passes a test.

use Rattle.std.proofs.Common.{arith, refl, sym, ap, ◌∙◌, ◌≡◌, ℕ, suc, ◌+◌, ◌<◌, nat_lt, Bool, true, false, cond, not, ◌||◌, List, [], ◌∷◌, length, map, get_or, Option, Some, None, is_some}
use Rattle.std.specs.List.{All, Contains, list_any, position, position_or_len}
use Rattle.std.specs.Option.{option_map}
use Rattle.std.proofs.lemmas.List.Sums.{position_or_len_is}
use Rattle.std.proofs.lemmas.List.Elements.{All-cons, All-nil}
use Rattle.base_words.proofs.Booleans.{or_left, or_right}
use Rattle.std.proofs.lemmas.List.{get_or-map, length-map}

above_step : (b rest : Bool) (n len : ℕ) → (rest ≡ true → n < len) → (b || rest) ≡ true → cond (not b) (1 + n) 0 < suc len
above_step true rest n len on e = omega arith
above_step false rest n len on e = omega (arith, on e)

-- it is there where an item passes
pub place_there : {X : Type 0} (p : X → Bool) (xs : List X) → list_any p xs ≡ true → position_or_len p xs < length xs
place_there p [] e = absurd (cc e)
place_there p (x ∷ xs) e = above_step (p x) (list_any p xs) (position_or_len p xs) (length xs) (place_there p xs) e

shift_place : (a b : ℕ) → cond (nat_lt (1 + a) (suc b)) (Some (1 + a)) None ≡ option_map (λ k. k + 1) (cond (nat_lt a b) (Some a) None)
shift_place a b = by_test (nat_lt a b) (nat_lt (1 + a) (suc b)) (grind arith)
  where
    by_test : (t u : Bool) → u ≡ t → cond u (Some (1 + a)) None ≡ option_map (λ k. k + 1) (cond t (Some a) None)
    by_test true u e = ap (λ v. cond v (Some (1 + a)) None) e ∙ ap Some (omega arith)
    by_test false u e = ap (λ v. cond v (Some (1 + a)) None) e

-- the first place that passes, item by item
pub place-cons : {X : Type 0} (p : X → Bool) (x : X) (xs : List X) → position p (x ∷ xs) ≡ cond (p x) (Some 0) (option_map (λ k. k + 1) (position p xs))
place-cons {X} p x xs = by_test (p x)
  where
    by_test : (t : Bool) → cond (nat_lt (cond (not t) (1 + position_or_len p xs) 0) (suc (length xs))) (Some (cond (not t) (1 + position_or_len p xs) 0)) None ≡ cond t (Some 0) (option_map (λ k. k + 1) (position p xs))
    by_test true = let e : nat_lt 0 (suc (length xs)) ≡ true = grind arith in ap (λ v. cond v (Some 0) None) e
    by_test false = shift_place (position_or_len p xs) (length xs)

-- an item passes exactly where there is a place
pub passes_is : {X : Type 0} (p : X → Bool) (xs : List X) → list_any p xs ≡ is_some (position p xs)
passes_is p [] = refl
passes_is p (x ∷ xs) = by_test (p x) (position p xs) (passes_is p xs) ∙ ap is_some (sym (place-cons p x xs))
  where
    by_test : (t : Bool) (o : Option ℕ) → list_any p xs ≡ is_some o → (t || list_any p xs) ≡ is_some (cond t (Some 0) (option_map (λ k. k + 1) o))
    by_test true o e = refl
    by_test false None e = e
    by_test false (Some k) e = e

-- the first place that passes
pub place_at : {X : Type 0} (p : X → Bool) (xs : List X) (i : ℕ) (d : X) → i < length xs → ((k : ℕ) → k < i → p (get_or xs k d) ≡ false) → p (get_or xs i d) ≡ true → position p xs ≡ Some i
place_at p xs i d h before at =
    let place = position_or_len_is p xs i d (omega arith) before (λ l. at) in
    let there : nat_lt i (length xs) ≡ true = grind arith in
    ap (λ k. cond (nat_lt k (length xs)) (Some k) None) place ∙ ap (λ t. cond t (Some i) None) there

-- no item passes where there is no first one
pub any_none : {X : Type 0} (p : X → Bool) (xs : List X) → position p xs ≡ None → list_any p xs ≡ false
any_none p xs e = passes_is p xs ∙ ap is_some e

-- one does where there is a first one
pub any_some : {X : Type 0} (p : X → Bool) (xs : List X) (k : ℕ) → position p xs ≡ Some k → list_any p xs ≡ true
any_some p xs k e = passes_is p xs ∙ ap is_some e

pub none_in : {X : Type 0} (x : X) → Contains [] x → ⊥
none_in x (k, lt, is) = omega (arith, lt)

-- where no item passes, each fails
pub none_at : {X : Type 0} (p : X → Bool) (xs : List X) → list_any p xs ≡ false → All (λ x. p x ≡ false) xs
none_at p [] e = All-nil (λ x. p x ≡ false)
none_at p (x ∷ xs) e = All-cons (λ x. p x ≡ false) x xs (or_left (p x) (list_any p xs) e) (none_at p xs (or_right (p x) (list_any p xs) e))

pub contains_map : {X Y : Type 0} (g : X → Y) (xs : List X) (x : X) → Contains xs x → Contains (map g xs) (g x)
contains_map g xs x at = (at.0, omega (arith, length-map xs g, at.1), get_or-map g xs at.0 x (g x) at.1 ∙ ap g at.2)
