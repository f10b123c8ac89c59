-- The weights of all combinations add up to the product of the elements' sums of weights.
use Rattle.std.proofs.Common.{arith, refl, sym, ap, ◌∙◌, ◌≡◌, ◌+◌, ◌*◌, ℕ, zero, suc, get_or, length, map, List, [], ◌∷◌, ◌++◌, append_assoc}
use Rattle.std.specs.List.{flat_map, range_with_len, sum_by}
use Rattle.std.proofs.lemmas.List.{length_push}
use Rattle.std.proofs.lemmas.List.Sums.{sum_by-append, sum_by-cons}
use Rattle.std.proofs.Math.Nat.{mul_assoc, mul_comm}
use Rattle.std.proofs.Math.Seq.{get_or-append_seam}
use Rattle.smps_stoch.specs.declared.stoch.Element.{Element}
use Rattle.smps_stoch.specs.declared.stoch.Realisation.{Realisation}
use Rattle.smps_stoch.specs.StochData.{no_realisation}
use Rattle.scenario_lists.specs.Combinations.{all_choices, choices_of, chosen_at, combinations, weight_below}
use Rattle.scenario_lists.specs.ScenarioList.{weight_in}
use Rattle.scenario_lists.specs.Values.{size_of, sums_product, weight_sum}
use Rattle.scenario_lists.proofs.Order.{in_order}

-- the size of the weight of the realisation that a choice chooses of an element
abbrev chosen_size : Element → ℕ → ℕ
chosen_size e choice = size_of (get_or e.realisations choice no_realisation)

weights_cons : (e : Element) (es : List Element) (choice : ℕ) (choices : List ℕ) (n : ℕ) → weight_below (e ∷ es) (choice ∷ choices) (suc n) ≡ chosen_size e choice * weight_below es choices n
weights_cons e es choice choices zero = omega arith
weights_cons e es choice choices (suc n) =
    ap (λ w. w * size_of (chosen_at es choices n)) (weights_cons e es choice choices n)
    ∙ omega (arith, mul_assoc (chosen_size e choice) (weight_below es choices n) (size_of (chosen_at es choices n)))

pub weight_cons : (e : Element) (es : List Element) (choice : ℕ) (choices : List ℕ) → weight_in (e ∷ es) (choice ∷ choices) ≡ chosen_size e choice * weight_in es choices
weight_cons e es choice choices = weights_cons e es choice choices (length es)

-- sums of multiples, and sums over lists made of others
multiples : {X : Type 0} (f g : X → ℕ) (a : ℕ) (xs : List X) → ((x : X) → f x ≡ a * g x) → sum_by f xs ≡ a * sum_by g xs
multiples f g a [] same = omega arith
multiples f g a (x ∷ xs) same =
    let l = sum_by-cons f x xs in
    let r = sum_by-cons g x xs in
    let rest = multiples f g a xs same in
    l ∙ (ap (λ n. n + sum_by f xs) (same x) ∙ (ap (λ n. a * g x + n) rest ∙ (distributed a (g x) (sum_by g xs) ∙ ap (λ n. a * n) (sym r))))
  where
    distributed : (a b c : ℕ) → a * b + a * c ≡ a * (b + c)
    distributed zero b c = omega arith
    distributed (suc a) b c = omega (arith, distributed a b c)

mapped : {X Y : Type 0} (f : Y → ℕ) (h : X → Y) (xs : List X) → sum_by f (map h xs) ≡ sum_by (λ x. f (h x)) xs
mapped f h [] = refl
mapped f h (x ∷ xs) = sum_by-cons f (h x) (map h xs) ∙ (ap (λ n. f (h x) + n) (mapped f h xs) ∙ sym (sum_by-cons (λ y. f (h y)) x xs))

spread : {X Y : Type 0} (f : Y → ℕ) (h : X → List Y) (g : X → ℕ) (xs : List X) → ((x : X) → sum_by f (h x) ≡ g x) → sum_by f (flat_map h xs) ≡ sum_by g xs
spread f h g [] same = refl
spread f h g (x ∷ xs) same =
    sum_by-append f (h x) (flat_map h xs)
    ∙ (ap (λ n. n + sum_by f (flat_map h xs)) (same x) ∙ (ap (λ n. g x + n) (spread f h g xs same) ∙ sym (sum_by-cons g x xs)))

-- a sum over the numbers of a list's items is one over the items
by_number : (rs front : List Realisation) → sum_by (λ k. size_of (get_or (front ++ rs) k no_realisation)) (range_with_len (length front) (length rs)) ≡ sum_by size_of rs
by_number [] front = refl
by_number (r ∷ rs) front =
    let f : ℕ → ℕ = λ k. size_of (get_or (front ++ r ∷ rs) k no_realisation) in
    let later = range_with_len (length front + 1) (length rs) in
    let whole : (front ++ r ∷ []) ++ rs ≡ front ++ r ∷ rs = append_assoc front (r ∷ []) rs in
    let rest : sum_by f later ≡ sum_by size_of rs =
    ap (λ xs. sum_by (λ k. size_of (get_or xs k no_realisation)) later) (sym whole)
    ∙ (ap (λ a. sum_by (λ k. size_of (get_or ((front ++ r ∷ []) ++ rs) k no_realisation)) (range_with_len a (length rs))) (sym (length_push front r))
    ∙ by_number rs (front ++ r ∷ [])) in
    sum_by-cons f (length front) later
    ∙ (ap (λ x. size_of x + sum_by f later) (get_or-append_seam front r rs no_realisation)
    ∙ (ap (λ n. size_of r + n) rest ∙ sym (sum_by-cons size_of r rs)))

all_sum : (es : List Element) → sum_by (weight_in es) (all_choices es) ≡ sums_product es
all_sum [] = refl
all_sum (e ∷ es) =
    let whole = weight_in (e ∷ es) in
    let sum = sum_by (weight_in es) (all_choices es) in
    let row : (choice : ℕ) → sum_by whole (map (λ rest. choice ∷ rest) (all_choices es)) ≡ sum * chosen_size e choice = λ choice.
    mapped whole (λ rest. choice ∷ rest) (all_choices es)
    ∙ (multiples (λ rest. whole (choice ∷ rest)) (weight_in es) (chosen_size e choice) (all_choices es) (weight_cons e es choice)
    ∙ mul_comm (chosen_size e choice) sum) in
    let numbers = range_with_len 0 (length e.realisations) in
    spread whole (λ choice. map (λ rest. choice ∷ rest) (all_choices es)) (λ choice. sum * chosen_size e choice) numbers row
    ∙ (multiples (λ choice. sum * chosen_size e choice) (chosen_size e) sum numbers (λ choice. refl)
    ∙ (ap (λ n. sum * n) (by_number e.realisations [])
    ∙ (mul_comm sum (weight_sum e)
    ∙ ap (λ n. weight_sum e * n) (all_sum es))))

pub sum_of_weights : (es : List Element) → sum_by (weight_in es) (map (choices_of es) (range_with_len 0 (combinations es))) ≡ sums_product es
sum_of_weights es = ap (sum_by (weight_in es)) (in_order es) ∙ all_sum es
