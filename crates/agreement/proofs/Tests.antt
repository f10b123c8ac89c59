-- What the tests of single values and columns say.

use Rattle.std.proofs.Common.{arith, refl, sym, ap, subst, ◌∙◌, ◌≡◌, ◌↔◌, ℕ, ◌+◌, ◌<◌, nat_eq, nat_lt, Bool, true, false, IsTrue, List, ℤ, FitsSigned, to_z, of_z}
use Rattle.std.proofs.lemmas.Int.{to_z-of_z}
use Rattle.std.specs.Int.{w64}
use Rattle.base_words.proofs.Booleans.{not_both}
use Rattle.base_words.proofs.NumberTests.{less_from_test, not_less_from_test, same_from_test, test_from_same}
use Rattle.run_calls.specs.MultiplierTests.{is_of_stage, node_at}
use Rattle.sp_model.specs.Plans.{stage_of}
use Rattle.sp_model.specs.declared.run.Run.{Run}
use Rattle.agreement.specs.Agreeing.{AreOne, IsOneIn}

-- what holds below a number and of it
pub one_more : (P : ℕ → Type 0) (n : ℕ) → ((k : ℕ) → k < n → P k) → P n → (k : ℕ) → k < n + 1 → P k
one_more P n old last k l = by_place (nat_lt k n) refl
  where
    by_place : (b : Bool) → nat_lt k n ≡ b → P k
    by_place true e = old k (less_from_test k n e)
    by_place false e = let same : n ≡ k = omega (arith, l, not_less_from_test k n e) in subst P same last

-- equal bits are equal numbers
pub same_bits : (a b u v : ℤ) → FitsSigned w64 a → FitsSigned w64 b → a ≡ u → b ≡ v → IsTrue (nat_eq (of_z w64 a) (of_z w64 b)) ↔ (u ≡ v)
same_bits a b u v fa fb p q = (
  λ t. sym p ∙ (sym (to_z-of_z w64 a fa) ∙ (ap (to_z w64) (same_from_test (of_z w64 a) (of_z w64 b) t) ∙ (to_z-of_z w64 b fb ∙ q))),
  λ e. test_from_same (of_z w64 a) (of_z w64 b) (ap (of_z w64) (p ∙ (e ∙ sym q))),
)

module _ (run : Run) (x : List ℤ) (i j : ℕ) where
  -- a column of another stage
  pub other_stage : is_of_stage run i j ≡ false → IsTrue true ↔ IsOneIn run x i j
  other_stage t = (λ on e. absurd (not_both (is_of_stage run i j) (test_from_same (stage_of run j) ((node_at run i).stage) e) t), λ h. refl)

  pub own_stage : (b : Bool) → is_of_stage run i j ≡ true → IsTrue b ↔ AreOne run x i j → IsTrue b ↔ IsOneIn run x i j
  own_stage b t is = (λ on e. is.0 on, λ h. is.1 (h (same_from_test (stage_of run j) ((node_at run i).stage) t)))
