-- Going over the points one by one finds the first feasible one of least value.
use Rattle.std.proofs.Common.{arith, refl, ap, sym, ◌∙◌, ◌≡◌, Bool, true, false, ◌&&◌, List, [], ◌∷◌, ℤ, int_lt, Option, Some, None, if◌then◌else◌}
use Rattle.std.proofs.lemmas.Int.{ints}
use Rattle.std.specs.List.{fold, filter}
use Rattle.boxed_problem.specs.Objective.{value_of}
use Rattle.boxed_problem.specs.Optimum.{improves, better, best_of, first_least, lower_of, priced, feasible_points, meets_all}
use Rattle.boxed_problem.specs.Points.{box_points}
use Rattle.boxed_problem.specs.declared.parts.Best.{Best}
use Rattle.boxed_problem.specs.Data.{Problem}

-- the best so far, after the points of a list one by one
abbrev pub best_after : Problem → Option Best → List (List ℤ) → Option Best
best_after b best xs = fold (better b) best xs

-- the better of the best so far and the best of what follows
abbrev pub merged : Option Best → Option Best → Option Best
merged best None = best
merged None (Some later) = Some later
merged (Some best) (Some later) = Some (lower_of best (Some later))

merged_three : (a p r : Best) → merged (if int_lt p.value a.value then Some p else Some a) (Some r) ≡ merged (Some a) (Some (if int_lt r.value p.value then r else p))
merged_three a p r = by_tests (int_lt p.value a.value) (int_lt r.value p.value) (int_lt r.value a.value) refl refl refl
  where
    by_tests : (t u w : Bool) → int_lt p.value a.value ≡ t → int_lt r.value p.value ≡ u → int_lt r.value a.value ≡ w →
        merged (if t then Some p else Some a) (Some r) ≡ merged (Some a) (Some (if u then r else p))
    by_tests true true true e f g = ap (λ q. Some (if q then r else p)) f ∙ sym (ap (λ q. Some (if q then r else a)) g)
    by_tests true true false e f g = absurd (grind (arith, ints))
    by_tests true false w e f g = ap (λ q. Some (if q then r else p)) f ∙ sym (ap (λ q. Some (if q then p else a)) e)
    by_tests false true w e f g = refl
    by_tests false false true e f g = absurd (grind (arith, ints))
    by_tests false false false e f g = ap (λ q. Some (if q then r else a)) g ∙ sym (ap (λ q. Some (if q then p else a)) e)

merged_one : (b : Problem) (best : Option Best) (x : List ℤ) (rest : Option Best) →
    merged (if improves (value_of b x) best then Some (priced b x) else best) rest ≡ merged best (Some (lower_of (priced b x) rest))
merged_one b None x None = refl
merged_one b None x (Some r) = refl
merged_one b (Some a) x None = by_test (int_lt (value_of b x) a.value)
  where
    by_test : (t : Bool) → (if t then Some (priced b x) else Some a) ≡ Some (if t then priced b x else a)
    by_test true = refl
    by_test false = refl
merged_one b (Some a) x (Some r) = merged_three a (priced b x) r

-- going over the points one by one finds the first least one that meets the rows
pub best_after-is : (b : Problem) (best : Option Best) (xs : List (List ℤ)) → best_after b best xs ≡ merged best (first_least b (filter (meets_all b) xs))
best_after-is b best [] = refl
best_after-is b best (x ∷ xs) = best_after-is b (better b best x) xs ∙ by_test (meets_all b x) refl
  where
    by_test : (t : Bool) → meets_all b x ≡ t →
        merged (if t && improves (value_of b x) best then Some (priced b x) else best) (first_least b (filter (meets_all b) xs)) ≡ merged best (first_least b (if t then (x ∷ filter (meets_all b) xs) else filter (meets_all b) xs))
    by_test true h = merged_one b best x (first_least b (filter (meets_all b) xs))
    by_test false h = refl

pub merged_none : (o : Option Best) → merged None o ≡ o
merged_none None = refl
merged_none (Some r) = refl

pub best_of-is : (b : Problem) → best_after b None (box_points b.columns) ≡ best_of b
unfolding best_of
best_of-is b = best_after-is b None (box_points b.columns) ∙ merged_none (first_least b (feasible_points b))
