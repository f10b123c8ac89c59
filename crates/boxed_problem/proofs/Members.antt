-- The list of a box's points holds each point of the box, and no other.
use Rattle.std.proofs.Common.{arith, refl, ap, sym, subst, inl, inr, ◌∙◌, ◌≡◌, ◌⊎◌, ℕ, zero, suc, Bool, true, false, List, [], ◌∷◌, ◌++◌, map, ℤ, pos, ◌+ℤ◌, ◌-ℤ◌, ◌≤ℤ◌, ◌<ℤ◌, if◌then◌else◌, int_lt}
use Rattle.std.proofs.lemmas.Int.{ints}
use Rattle.std.specs.List.{AllByRecursion, filter, flat_map}
use Rattle.boxed_problem.specs.Sides.{Filled}
use Rattle.boxed_problem.specs.Odometer.{OnSides}
use Rattle.boxed_problem.specs.Points.{box_points, run_from, side_count}
use Rattle.boxed_problem.specs.declared.parts.Side.{Side}
use Rattle.boxed_problem.proofs.Listing.{count_is}
use Rattle.base_words.proofs.Comparisons.{below_from_test, above_from_test}

-- the point stands in the list
abbrev pub Member : List ℤ → List (List ℤ) → Type 0
Member x [] = ⊥
Member x (y ∷ ys) = (x ≡ y) ⊎ Member x ys

member_left : (x : List ℤ) (xs ys : List (List ℤ)) → Member x xs → Member x (xs ++ ys)
member_left x [] ys h = absurd h
member_left x (y ∷ xs) ys (inl e) = inl e
member_left x (y ∷ xs) ys (inr h) = inr (member_left x xs ys h)

member_right : (x : List ℤ) (xs ys : List (List ℤ)) → Member x ys → Member x (xs ++ ys)
member_right x [] ys h = h
member_right x (y ∷ xs) ys h = inr (member_right x xs ys h)

member_map : (v : ℤ) (x : List ℤ) (xs : List (List ℤ)) → Member x xs → Member (v ∷ x) (map (λ y. v ∷ y) xs)
member_map v x [] h = absurd h
member_map v x (y ∷ xs) (inl e) = inl (ap (λ z. v ∷ z) e)
member_map v x (y ∷ xs) (inr h) = inr (member_map v x xs h)

-- what holds of all holds of a member
pub member_all : (P : List ℤ → Type 0) (x : List ℤ) (xs : List (List ℤ)) → AllByRecursion P xs → Member x xs → P x
member_all P x [] a h = absurd h
member_all P x (y ∷ xs) a (inl e) = subst P (sym e) a.0
member_all P x (y ∷ xs) a (inr h) = member_all P x xs a.1 h

pub all_members : (P : List ℤ → Type 0) (xs : List (List ℤ)) → ((x : List ℤ) → Member x xs → P x) → AllByRecursion P xs
all_members P [] h = tt
all_members P (y ∷ xs) h = (h y (inl refl), all_members P xs (λ x m. h x (inr m)))

pub all_append : (P : List ℤ → Type 0) (xs ys : List (List ℤ)) → AllByRecursion P xs → AllByRecursion P ys → AllByRecursion P (xs ++ ys)
all_append P [] ys a b = b
all_append P (x ∷ xs) ys a b = (a.0, all_append P xs ys a.1 b)

pub all_map : (P Q : List ℤ → Type 0) (f : List ℤ → List ℤ) (xs : List (List ℤ)) → ((x : List ℤ) → Q x → P (f x)) → AllByRecursion Q xs → AllByRecursion P (map f xs)
all_map P Q f [] h a = tt
all_map P Q f (x ∷ xs) h a = (h x a.0, all_map P Q f xs h a.1)

-- a filter keeps what passes, and nothing else
pub member_filter : (p : List ℤ → Bool) (x : List ℤ) (xs : List (List ℤ)) → Member x xs → p x ≡ true → Member x (filter p xs)
member_filter p x [] h t = absurd h
member_filter p x (y ∷ xs) (inl e) t =
    let q : p y ≡ true = ap p (sym e) ∙ t in
    subst (λ b. Member x (if b then (y ∷ filter p xs) else filter p xs)) (sym q) (inl e)
member_filter p x (y ∷ xs) (inr h) t = by_test (p y) (member_filter p x xs h t)
  where
    by_test : (b : Bool) → Member x (filter p xs) → Member x (if b then (y ∷ filter p xs) else filter p xs)
    by_test true m = inr m
    by_test false m = m

pub filter_member : (p : List ℤ → Bool) (x : List ℤ) (xs : List (List ℤ)) → Member x (filter p xs) → Member x xs × (p x ≡ true)
filter_member p x [] h = absurd h
filter_member p x (y ∷ xs) h = by_test (p y) refl (λ m. filter_member p x xs m) h
  where
    by_test : (b : Bool) → p y ≡ b → (Member x (filter p xs) → Member x xs × (p x ≡ true)) → Member x (if b then (y ∷ filter p xs) else filter p xs) → Member x (y ∷ xs) × (p x ≡ true)
    by_test true e r (inl d) = (inl d, ap p d ∙ e)
    by_test true e r (inr m) = let q = r m in (inr q.0, q.1)
    by_test false e r m = let q = r m in (inr q.0, q.1)

-- each point of a box is in its list
member_run : (v : ℤ) (x : List ℤ) (xs : List (List ℤ)) (n : ℕ) (a : ℤ) → Member x xs → a ≤ℤ v → v <ℤ (a +ℤ pos n) → Member (v ∷ x) (flat_map (λ w. map (λ y. w ∷ y) xs) (run_from a n))
member_run v x xs zero a h l u = absurd (omega (arith, ints))
member_run v x xs (suc n) a h l u = by_test (int_lt a v) refl (λ k. member_run v x xs n (a +ℤ pos 1) h (omega (arith, ints)) (omega (arith, ints)))
  where
    by_test : (t : Bool) → int_lt a v ≡ t → (a <ℤ v → Member (v ∷ x) (flat_map (λ w. map (λ y. w ∷ y) xs) (run_from (a +ℤ pos 1) n))) → Member (v ∷ x) (flat_map (λ w. map (λ y. w ∷ y) xs) (run_from a (suc n)))
    by_test true e r = member_right (v ∷ x) (map (λ y. a ∷ y) xs) (flat_map (λ w. map (λ y. w ∷ y) xs) (run_from (a +ℤ pos 1) n)) (r (below_from_test a v e))
    by_test false e r =
        let k = above_from_test a v e in
        let same : v ≡ a = omega (arith, ints) in
        member_left (v ∷ x) (map (λ y. a ∷ y) xs) (flat_map (λ w. map (λ y. w ∷ y) xs) (run_from (a +ℤ pos 1) n)) (subst (λ w. Member (w ∷ x) (map (λ y. a ∷ y) xs)) (sym same) (member_map a x xs h))

pub point_listed : (box : List Side) (x : List ℤ) → OnSides box x → Member x (box_points box)
point_listed [] [] h = inl refl
point_listed [] (v ∷ x) h = absurd h
point_listed (s ∷ ss) [] h = absurd h
point_listed (s ∷ ss) (v ∷ x) h =
    let n = count_is (s.upper -ℤ s.lower) (omega (arith, ints, h.0.0, h.0.1)) in
    member_run v x (box_points ss) (side_count s) s.lower (point_listed ss x h.1) h.0.0 (omega (arith, ints, h.0.1, n))

-- each point in the list of a box lies on its sides
on_run : (s : Side) (ss : List Side) (n : ℕ) (a : ℤ) → s.lower ≤ℤ a → (a +ℤ pos n) ≤ℤ (s.upper +ℤ pos 1) → AllByRecursion (OnSides ss) (box_points ss) →
    AllByRecursion (OnSides (s ∷ ss)) (flat_map (λ w. map (λ y. w ∷ y) (box_points ss)) (run_from a n))
on_run s ss zero a l u h = tt
on_run s ss (suc n) a l u h =
    all_append (OnSides (s ∷ ss)) (map (λ y. a ∷ y) (box_points ss)) (flat_map (λ w. map (λ y. w ∷ y) (box_points ss)) (run_from (a +ℤ pos 1) n))
    (all_map (OnSides (s ∷ ss)) (OnSides ss) (λ y. a ∷ y) (box_points ss) (λ y o. ((l, omega (arith, ints)), o)) h)
    (on_run s ss n (a +ℤ pos 1) (omega (arith, ints)) (omega (arith, ints)) h)

pub listed_on : (box : List Side) → Filled box → AllByRecursion (OnSides box) (box_points box)
listed_on [] f = (tt, tt)
listed_on (s ∷ ss) f =
    let n = count_is (s.upper -ℤ s.lower) (omega (arith, ints, f.0)) in
    on_run s ss (side_count s) s.lower (omega (arith, ints)) (omega (arith, ints, n)) (listed_on ss f.1)
