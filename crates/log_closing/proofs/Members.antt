-- What stands in a list that a function made of another.

use Rattle.std.proofs.Common.{arith, refl, sym, ap, subst, ◌∙◌, ◌≡◌, ℕ, zero, suc, ◌<◌, List, [], ◌∷◌, length, map, get_or, Option, Some, None}
use Rattle.std.proofs.lemmas.List.{get_or-map, length-map}
use Rattle.std.proofs.lemmas.List.Elements.{Contains-get_or}
use Rattle.std.specs.List.{Contains, cons_option, filter_map}

pub contains_here : {X : Type 0} (xs : List X) (x y : X) → x ≡ y → Contains (x ∷ xs) y
contains_here xs x y e = (0, omega arith, e)

pub contains_there : {X : Type 0} (xs : List X) (x y : X) → Contains xs y → Contains (x ∷ xs) y
contains_there xs x y (k, l, e) = (suc k, omega arith, e)

contains_optional : {X : Type 0} (xs : List X) (o : Option X) (y : X) → Contains xs y → Contains (cons_option o xs) y
contains_optional xs None y h = h
contains_optional xs (Some x) y h = contains_there xs x y h

-- what a function gives of an item
pub given_there : {X : Type 0} {Y : Type 0} (f : X → Option Y) (xs : List X) (x : X) (y : Y) → Contains xs x → f x ≡ Some y → Contains (filter_map f xs) y
given_there f [] x y (k, l, e) h = absurd (omega arith)
given_there f (z ∷ xs) x y (zero, l, e) h = subst (λ o. Contains (cons_option o (filter_map f xs)) y) (sym (ap f e ∙ h)) (contains_here (filter_map f xs) y y refl)
given_there f (z ∷ xs) x y (suc k, l, e) h = contains_optional (filter_map f xs) (f z) y (given_there f xs x y (k, omega arith, e) h)

-- and what it was given of
pub given_from : {X : Type 0} {Y : Type 0} (f : X → Option Y) (xs : List X) (y : Y) → Contains (filter_map f xs) y → (x : X) × Contains xs x × (f x ≡ Some y)
given_from f [] y (k, l, e) = absurd (omega arith)
given_from {X} {Y} f (z ∷ xs) y h = by_given (f z) refl h (λ g. given_from f xs y g)
  where
    behind : (x : X) × Contains xs x × (f x ≡ Some y) → (x : X) × Contains (z ∷ xs) x × (f x ≡ Some y)
    behind r = (r.0, contains_there xs z r.0 r.1, r.2)

    by_given : (o : Option Y) → f z ≡ o → Contains (cons_option o (filter_map f xs)) y → (Contains (filter_map f xs) y → (x : X) × Contains xs x × (f x ≡ Some y)) → (x : X) × Contains (z ∷ xs) x × (f x ≡ Some y)
    by_given None p g more = behind (more g)
    by_given (Some w) p (zero, l, e) more = (z, contains_here xs z z refl, p ∙ ap Some e)
    by_given (Some w) p (suc k, l, e) more = behind (more (k, omega arith, e))

module _ {X : Type 0} {Y : Type 0} (f : X → Option Y) (xs : List X) (ys : List Y) (same : map f xs ≡ map Some ys) where
  long : length xs ≡ length ys
  long = sym (length-map xs f) ∙ (ap length same ∙ length-map ys Some)

  at_place : (k : ℕ) (x : X) (y : Y) → k < length xs → f (get_or xs k x) ≡ Some (get_or ys k y)
  at_place k x y l = sym (get_or-map f xs k x None l) ∙ (ap (λ os. get_or os k None) same ∙ get_or-map Some ys k y None (omega (arith, long)))

  -- lists that are the same seen by two functions
  pub seen_there : (d : X) (y : Y) → Contains ys y → (x : X) × Contains xs x × (f x ≡ Some y)
  seen_there d y (k, l, e) =
      let m : k < length xs = omega (arith, long) in
      (get_or xs k d, Contains-get_or xs k d m, at_place k d y m ∙ ap Some e)

  pub seen_from : (d : Y) (x : X) → Contains xs x → (y : Y) × Contains ys y × (f x ≡ Some y)
  seen_from d x (k, l, e) = (get_or ys k d, Contains-get_or ys k d (omega (arith, long)), ap f (sym e) ∙ at_place k x d l)
