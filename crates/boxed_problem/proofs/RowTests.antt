-- The test of all rows at once holds exactly where each row is met.
use Rattle.std.proofs.Common.{arith, refl, sym, subst, ◌∙◌, ◌≡◌, ℕ, zero, suc, ◌<◌, Bool, true, false, nat_lt, List, length, ℤ}
use Rattle.std.proofs.lemmas.Bool.{and_from}
use Rattle.boxed_problem.specs.BoxedFacts.{limits_at}
use Rattle.boxed_problem.specs.Optimum.{Feasible, meets_all}
use Rattle.boxed_problem.specs.Points.{InBox}
use Rattle.boxed_problem.specs.Rows.{activity, meets, meets_rows}
use Rattle.boxed_problem.specs.declared.parts.Limits.{Limits}
use Rattle.boxed_problem.specs.declared.parts.Entry.{Entry}
use Rattle.boxed_problem.specs.Data.{Problem}
use Rattle.base_words.proofs.Comparisons.{both_left, both_right}

-- what holds of all rows holds of each
pub row_met : (n : ℕ) (rows : List Limits) (entries : List Entry) (x : List ℤ) (i : ℕ) → meets_rows n rows entries x ≡ true → i < n → meets (limits_at rows i) (activity entries x i) ≡ true
row_met zero rows entries x i h l = absurd (omega arith)
row_met (suc n) rows entries x i h l = by_place (nat_lt i n) refl (λ k. row_met n rows entries x i (both_left (meets_rows n rows entries x) (meets (limits_at rows n) (activity entries x n)) h) k)
  where
    by_place : (t : Bool) → nat_lt i n ≡ t → (i < n → meets (limits_at rows i) (activity entries x i) ≡ true) → meets (limits_at rows i) (activity entries x i) ≡ true
    by_place true e r = let k : i < n = grind arith in r k
    by_place false e r =
        let k : n ≡ i = grind arith in
        subst (λ j. meets (limits_at rows j) (activity entries x j) ≡ true) k (both_right (meets_rows n rows entries x) (meets (limits_at rows n) (activity entries x n)) h)

-- where each row is met, all are
rows_met : (n : ℕ) (rows : List Limits) (entries : List Entry) (x : List ℤ) → ((i : ℕ) → i < n → meets (limits_at rows i) (activity entries x i) ≡ true) → meets_rows n rows entries x ≡ true
rows_met zero rows entries x h = refl
rows_met (suc n) rows entries x h = and_from (meets_rows n rows entries x) (meets (limits_at rows n) (activity entries x n)) (rows_met n rows entries x (λ i l. h i (omega arith))) (h n (omega arith))

-- where one row isn't met, not all are
pub row_fails : (n : ℕ) (rows : List Limits) (entries : List Entry) (x : List ℤ) (i : ℕ) → i < n → meets (limits_at rows i) (activity entries x i) ≡ false → meets_rows n rows entries x ≡ false
row_fails n rows entries x i l h = by_test (meets_rows n rows entries x) refl
  where
    by_test : (t : Bool) → meets_rows n rows entries x ≡ t → t ≡ false
    by_test true e = sym (row_met n rows entries x i e l) ∙ h
    by_test false e = refl

pub feasible_from : (b : Problem) (x : List ℤ) → InBox b.columns x → meets_all b x ≡ true → Feasible b x
feasible_from b x i h = record { inside = i; rows = λ k l. row_met (length b.rows) b.rows b.entries x k h l }

pub feasible_meets : (b : Problem) (x : List ℤ) → Feasible b x → meets_all b x ≡ true
feasible_meets b x f = rows_met (length b.rows) b.rows b.entries x f.rows
