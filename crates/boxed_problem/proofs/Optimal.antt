-- The first feasible point of least value, in plain words.
use Rattle.std.proofs.Common.{arith, refl, ap, sym, subst, inl, inr, ◌∙◌, ◌≡◌, ◌⊎◌, Bool, true, false, List, [], ◌∷◌, ℤ, ◌≤ℤ◌, ◌<ℤ◌, Option, Some, None, if◌then◌else◌, int_lt}
use Rattle.std.proofs.lemmas.Int.{ints}
use Rattle.std.proofs.lemmas.List.Elements.{recursion_from_All}
use Rattle.boxed_problem.specs.Sides.{Filled}
use Rattle.boxed_problem.specs.Objective.{value_of}
use Rattle.boxed_problem.specs.Odometer.{OnSides}
use Rattle.boxed_problem.specs.Optimum.{Feasible, IsBest, IsFirstLeast, Precedes, best_of, feasible_points, first_least, lower_of, meets_all, priced}
use Rattle.boxed_problem.specs.Points.{box_points}
use Rattle.boxed_problem.specs.declared.parts.Best.{Best}
use Rattle.boxed_problem.specs.declared.parts.Side.{Side}
use Rattle.boxed_problem.specs.Data.{Problem}
use Rattle.boxed_problem.specs.declared.problem.Boxed.{Boxed}
use Rattle.boxed_problem.proofs.Listing.{in_on, on_in}
use Rattle.boxed_problem.proofs.Members.{Member, filter_member, listed_on, member_all, member_filter, point_listed}
use Rattle.boxed_problem.proofs.Ordered.{Ascending, compared, filter_ascends, points_ascend, precedes_not_both}
use Rattle.boxed_problem.proofs.RowTests.{feasible_from, feasible_meets}
use Rattle.base_words.proofs.Comparisons.{below_from_test, above_from_test}

-- the first least point of a list in order, in plain words
pub record IsLeastIn (b : Problem) (xs : List (List ℤ)) (best : Best) : Type 0 where
  pub member : Member best.point xs
  pub value : best.value ≡ value_of b best.point
  pub least : (x : List ℤ) → Member x xs → best.value ≤ℤ value_of b x
  pub first : (x : List ℤ) → Member x xs → Precedes x best.point → best.value <ℤ value_of b x

-- the head of a list in order, where no later point is lower
head_least : (b : Problem) (x : List ℤ) (xs : List (List ℤ)) → Ascending (x ∷ xs) → ((y : List ℤ) → Member y xs → value_of b x ≤ℤ value_of b y) → IsLeastIn b (x ∷ xs) (priced b x)
head_least b x xs a h = record { member = inl refl; value = refl; least = leasts; first = firsts }
  where
    leasts : (y : List ℤ) → Member y (x ∷ xs) → value_of b x ≤ℤ value_of b y
    leasts y (inl e) = let d = ap (value_of b) e in omega (arith, ints, d)
    leasts y (inr m) = h y m

    firsts : (y : List ℤ) → Member y (x ∷ xs) → Precedes y x → value_of b x <ℤ value_of b y
    firsts y (inl e) p = let q = subst (λ z. Precedes z x) e p in absurd (precedes_not_both x x q q)
    firsts y (inr m) p = absurd (precedes_not_both y x p (member_all (Precedes x) y xs a.0 m))

-- a later point that is lower than the head
later_least : (b : Problem) (x : List ℤ) (xs : List (List ℤ)) (best : Best) → best.value <ℤ value_of b x → IsLeastIn b xs best → IsLeastIn b (x ∷ xs) best
later_least b x xs best l r = record { member = inr r.member; value = r.value; least = leasts; first = firsts }
  where
    leasts : (y : List ℤ) → Member y (x ∷ xs) → best.value ≤ℤ value_of b y
    leasts y (inl e) = let d = ap (value_of b) e in omega (arith, ints, d)
    leasts y (inr m) = r.least y m

    firsts : (y : List ℤ) → Member y (x ∷ xs) → Precedes y best.point → best.value <ℤ value_of b y
    firsts y (inl e) p = let d = ap (value_of b) e in omega (arith, ints, d)
    firsts y (inr m) p = r.first y m p

least_none : (b : Problem) (xs : List (List ℤ)) → first_least b xs ≡ None → xs ≡ []
least_none b [] e = refl
least_none b (x ∷ xs) e = absurd cc

pub least_is : (b : Problem) (xs : List (List ℤ)) (r : Best) → Ascending xs → first_least b xs ≡ Some r → IsLeastIn b xs r
least_is b [] r a e = absurd cc
least_is b (x ∷ xs) r a e = by_rest (first_least b xs) refl (λ q d. least_is b xs q a.1 d) e
  where
    by_test : (q : Best) (t : Bool) → int_lt q.value (value_of b x) ≡ t → IsLeastIn b xs q → Some (if t then q else priced b x) ≡ Some r → IsLeastIn b (x ∷ xs) r
    by_test q true h i d =
        let same : q ≡ r = cc in
        subst (λ z. IsLeastIn b (x ∷ xs) z) same (later_least b x xs q (below_from_test q.value (value_of b x) h) i)
    by_test q false h i d =
        let same : priced b x ≡ r = cc in
        let k = above_from_test q.value (value_of b x) h in
        subst (λ z. IsLeastIn b (x ∷ xs) z) same (head_least b x xs a (λ y m. let n = i.least y m in omega (arith, ints)))

    by_rest : (o : Option Best) → first_least b xs ≡ o → ((q : Best) → first_least b xs ≡ Some q → IsLeastIn b xs q) → Some (lower_of (priced b x) o) ≡ Some r → IsLeastIn b (x ∷ xs) r
    by_rest None h i d =
        let same : priced b x ≡ r = cc in
        let nothing : xs ≡ [] = least_none b xs h in
        subst (λ z. IsLeastIn b (x ∷ xs) z) same (head_least b x xs a (λ y m. absurd (subst (λ l. Member y l) nothing m)))
    by_rest (Some q) h i d = by_test q (int_lt q.value (value_of b x)) refl (i q h) d

-- no side of a Boxed is empty
pub filled_of : (b : Boxed) → Filled b.columns
filled_of b = recursion_from_All (λ (s : Side). s.lower ≤ℤ s.upper) b.columns b.facts.filled

-- the list of feasible points holds just these
feasible_listed : (b : Problem) (x : List ℤ) → Feasible b x → Member x (feasible_points b)
feasible_listed b x f = member_filter (meets_all b) x (box_points b.columns) (point_listed b.columns x (in_on b.columns x f.inside)) (feasible_meets b x f)

listed_feasible : (b : Problem) (x : List ℤ) → Filled b.columns → Member x (feasible_points b) → Feasible b x
listed_feasible b x filled m =
    let p = filter_member (meets_all b) x (box_points b.columns) m in
    feasible_from b x (on_in b.columns x (member_all (OnSides b.columns) x (box_points b.columns) (listed_on b.columns filled) p.0)) p.1

-- the best is what plain words say
pub best_is : (b : Problem) (o : Option Best) → Filled b.columns → o ≡ best_of b → IsBest b o
unfolding best_of
best_is b None filled e = λ x f.
    let nothing = least_none b (feasible_points b) (sym e) in
    subst (λ l. Member x l) nothing (feasible_listed b x f)
best_is b (Some r) filled e =
    let i = least_is b (feasible_points b) r (filter_ascends (meets_all b) (box_points b.columns) (points_ascend b.columns)) (sym e) in
    record {
      feasible = listed_feasible b r.point filled i.member;
      value = i.value;
      least = λ x f. i.least x (feasible_listed b x f);
      first = λ x f p. i.first x (feasible_listed b x f) p;
    }

abbrev priced_at : List ℤ → ℤ → Best
priced_at x v = record { point = x; value = v }

-- only the best is what plain words say
best_unique : (b : Problem) (r q : Best) → IsFirstLeast b r → IsFirstLeast b q → r ≡ q
best_unique b r q h k = by_order (compared r.point q.point (h.feasible.inside.long ∙ sym k.feasible.inside.long))
  where
    by_order : Precedes r.point q.point ⊎ ((r.point ≡ q.point) ⊎ Precedes q.point r.point) → r ≡ q
    by_order (inl p) =
        let l = k.first r.point h.feasible p in
        let m = h.least q.point k.feasible in
        absurd (omega (arith, ints, h.value, k.value))
    by_order (inr (inl e)) =
        let v : r.value ≡ q.value = h.value ∙ (ap (value_of b) e ∙ sym k.value) in
        ap (λ z. priced_at z r.value) e ∙ ap (λ z. priced_at q.point z) v
    by_order (inr (inr p)) =
        let l = h.first q.point k.feasible p in
        let m = k.least r.point h.feasible in
        absurd (omega (arith, ints, h.value, k.value))

pub is_best : (b : Problem) (o : Option Best) → Filled b.columns → IsBest b o → o ≡ best_of b
is_best b o filled h = by_best o (best_of b) h (best_is b (best_of b) filled refl)
  where
    by_best : (o p : Option Best) → IsBest b o → IsBest b p → o ≡ p
    by_best None None h k = refl
    by_best None (Some q) h k = absurd (h q.point k.feasible)
    by_best (Some r) None h k = absurd (k r.point h.feasible)
    by_best (Some r) (Some q) h k = ap (λ z. Some z) (best_unique b r q h k)
