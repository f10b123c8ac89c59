-- the first answer that the items of a list give: where none gives one, where one does, and step by step.

use Rattle.std.proofs.Common.{refl, sym, ap, ◌∙◌, ◌≡◌, ℕ, ◌+◌, ◌<◌, List, [], ◌∷◌, ◌++◌, length, get_or, take, drop, Option, Some, None}
use Rattle.std.specs.Option.{option_or}
use Rattle.std.specs.List.{AllByRecursion}
use Rattle.std.proofs.lemmas.List.{take-append-drop, take_more}
use Rattle.base_words.specs.FirstAnswers.{first_some}

pub same_some : {X : Type 0} {a b : X} → Some a ≡ Some b → a ≡ b
same_some e = cc

pub no_some : {A B : Type 0} (x : A) → None ≡ Some x → B
no_some x e = absurd cc

option_or_assoc : {B : Type 0} (a b c : Option B) → option_or a (option_or b c) ≡ option_or (option_or a b) c
option_or_assoc None b c = refl
option_or_assoc (Some v) b c = refl

pub option_or_none : {B : Type 0} (a : Option B) → option_or a None ≡ a
option_or_none None = refl
option_or_none (Some v) = refl

pub first_some-append : {A B : Type 0} (f : A → Option B) (xs ys : List A) → first_some f (xs ++ ys) ≡ option_or (first_some f xs) (first_some f ys)
first_some-append f [] ys = refl
first_some-append f (x ∷ xs) ys = ap (option_or (f x)) (first_some-append f xs ys) ∙ option_or_assoc (f x) (first_some f xs) (first_some f ys)

pub left_none : {B : Type 0} (a b : Option B) → option_or a b ≡ None → a ≡ None
left_none None b h = refl
left_none (Some v) b h = cc

pub right_none : {B : Type 0} (a b : Option B) → option_or a b ≡ None → b ≡ None
right_none None b h = h
right_none (Some v) b h = cc

-- no answer where no item gives one
pub first_some-none : {A B : Type 0} (f : A → Option B) (xs : List A) → AllByRecursion (λ x. f x ≡ None) xs → first_some f xs ≡ None
first_some-none f [] h = refl
first_some-none f (x ∷ xs) h = ap (λ a. option_or a (first_some f xs)) h.0 ∙ first_some-none f xs h.1

-- where there is no answer, no item gives one
pub first_some-all_none : {A B : Type 0} (f : A → Option B) (xs : List A) → first_some f xs ≡ None → AllByRecursion (λ x. f x ≡ None) xs
first_some-all_none f [] h = tt
first_some-all_none f (x ∷ xs) h = (left_none (f x) (first_some f xs) h, first_some-all_none f xs (right_none (f x) (first_some f xs) h))

-- the answer is that of the first items, where they give one
pub first_some-found : {A B : Type 0} (f : A → Option B) (xs : List A) (i : ℕ) (b : B) → first_some f (take i xs) ≡ Some b → first_some f xs ≡ Some b
first_some-found f xs i b h =
    ap (first_some f) (sym (take-append-drop i xs)) ∙ first_some-append f (take i xs) (drop i xs) ∙ ap (λ a. option_or a (first_some f (drop i xs))) h

-- a step of a loop: one more item that gives no answer
pub first_some-none_more : {A B : Type 0} (f : A → Option B) (xs : List A) (i : ℕ) (d : A) → i < length xs → first_some f (take i xs) ≡ None → f (get_or xs i d) ≡ None → first_some f (take (i + 1) xs) ≡ None
first_some-none_more f xs i d h none last = ap (first_some f) (take_more xs i d h) ∙ first_some-append f (take i xs) (get_or xs i d ∷ []) ∙ ap (λ a. option_or a (option_or (f (get_or xs i d)) None)) none ∙ ap (λ a. option_or a None) last

-- the end of a loop: the first item that gives an answer
pub first_some-at : {A B : Type 0} (f : A → Option B) (xs : List A) (i : ℕ) (d : A) (b : B) → i < length xs → first_some f (take i xs) ≡ None → f (get_or xs i d) ≡ Some b → first_some f xs ≡ Some b
first_some-at f xs i d b h none found =
    first_some-found f xs (i + 1) b
    (ap (first_some f) (take_more xs i d h) ∙ first_some-append f (take i xs) (get_or xs i d ∷ []) ∙ ap (λ a. option_or a (option_or (f (get_or xs i d)) None)) none ∙ ap (λ a. option_or a None) found)
