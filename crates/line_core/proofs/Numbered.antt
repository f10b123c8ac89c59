-- names by their numbers: a new one goes last
use Rattle.std.proofs.Common.{◌≡◌, ℕ, ◌<◌, Bool, false, ◌||◌, List, [], ◌∷◌, ◌++◌, map, position, slice_get, get_or, Some, None, refl, sym, ap, subst, ◌∙◌, if◌then◌else◌, arith}
use Rattle.std.specs.List.{list_any, position_or_len, AllByRecursion, IsDistinct}
use Rattle.std.specs.Str.{bytes_eq}
use Rattle.std.proofs.lemmas.Bool.{false_from_ne_true}
use Rattle.std.proofs.lemmas.Bool.Decides.{nat_tests}
use Rattle.std.proofs.lemmas.Option.{slice_get_within, get_or_from_slice_get}
use Rattle.std.proofs.lemmas.Grind.{common_steps}
use Rattle.std.proofs.lemmas.List.{map-append}
use Rattle.std.proofs.lemmas.List.Sums.{position_or_len_is}
use Rattle.std.proofs.lemmas.Map.Made.{AllPairs-from_IsDistinct}
use Rattle.std.proofs.lemmas.Slice.Eq.{bytes_eq-Decides}
use Rattle.base_words.proofs.Positions.{any_none}
use Rattle.indexmap.specs.IndexSet.{insert_key}
use Rattle.line_core.specs.Names.{number_of, AreDistinct}

-- a test of the images is a test of the elements
pub position-images : {X Y : Type 0} (p : Y → Bool) (f : X → Y) (xs : List X) → position p (map f xs) ≡ position (λ x. p (f x)) xs
position-images p f [] = refl
position-images p f (x ∷ xs) = grind (arith, common_steps, position-images p f xs)

pub list_any-images : {X Y : Type 0} (p : Y → Bool) (f : X → Y) (xs : List X) → list_any p (map f xs) ≡ list_any (λ x. p (f x)) xs
list_any-images p f [] = refl
list_any-images p f (x ∷ xs) = ap (λ b. p (f x) || b) (list_any-images p f xs)

-- a name that isn't there goes last
pub add_new : {V : Type 0} (f : V → List ℕ) (keys new : List V) (copy : V) (name : List ℕ) (names : List (List ℕ)) → f copy ≡ name → map f keys ≡ names → number_of name names ≡ None → new ≡ insert_key (λ a b. bytes_eq (f a) (f b)) keys copy → map f new ≡ names ++ name ∷ []
add_new f keys new copy name names is all none inserted =
    let images = list_any-images (bytes_eq (f copy)) f keys in
    let missing : position (bytes_eq (f copy)) (map f keys) ≡ None = ap (λ n. position (bytes_eq n) (map f keys)) is ∙ ap (number_of name) all ∙ none in
    let absent = sym images ∙ any_none (bytes_eq (f copy)) (map f keys) missing in
    ap (map f) (inserted ∙ ap (λ b. if b then keys else keys ++ copy ∷ []) absent)
    ∙ map-append f keys (copy ∷ [])
    ∙ ap (λ ns. ns ++ f copy ∷ []) all
    ∙ ap (λ n. names ++ n ∷ []) is

distinct_tail : {X Y : Type 0} (p : Y → Bool) (f : X → Y) (xs : List X) → AllByRecursion (λ x. p (f x) ≡ false) xs → AllByRecursion (λ y. p y ≡ false) (map f xs)
distinct_tail p f [] h = tt
distinct_tail p f (x ∷ xs) h = (h.0, distinct_tail p f xs h.1)

-- elements whose images differ have distinct images
distinct_images : {X Y : Type 0} (eq : Y → Y → Bool) (f : X → Y) (xs : List X) → IsDistinct (λ a b. eq (f a) (f b)) xs → IsDistinct eq (map f xs)
unfolding IsDistinct
distinct_images eq f [] h = tt
distinct_images eq f (x ∷ xs) h = (distinct_tail (eq (f x)) f xs h.0, distinct_images eq f xs h.1)

pub are_distinct : {V : Type 0} (f : V → List ℕ) (keys : List V) (names : List (List ℕ)) → map f keys ≡ names → IsDistinct (λ a b. bytes_eq (f a) (f b)) keys → AreDistinct names
are_distinct f keys names all h = subst AreDistinct all (AllPairs-from_IsDistinct bytes_eq-Decides (map f keys) (distinct_images bytes_eq f keys h))

-- a name is found under its own number
pub own_number : (names : List (List ℕ)) (name : List ℕ) (n : ℕ) → AreDistinct names → slice_get names n ≡ Some name → number_of name names ≡ Some n
own_number names name n distinct e =
    let within = slice_get_within names n name e in
    let here = get_or_from_slice_get names n name [] e in
    let before = λ (k : ℕ) (h : k < n). false_from_ne_true (bytes_eq name (get_or names k []))
    (λ same. distinct k n [] h within (sym ((bytes_eq-Decides name (get_or names k [])).0 same) ∙ sym here)) in
    let first : position_or_len (bytes_eq name) names ≡ n =
    position_or_len_is (bytes_eq name) names n [] (omega arith) before (λ h. (bytes_eq-Decides name (get_or names n [])).1 (sym here)) in
    grind (arith, nat_tests)
