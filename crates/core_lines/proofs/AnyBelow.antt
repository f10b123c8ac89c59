-- Whether one of the numbers below n passes.
use Rattle.std.proofs.Common.{◌≡◌, refl, sym, ◌∙◌, ap, ℕ, zero, suc, ◌+◌, ◌<◌, Bool, true, false, inl, inr, add-one, arith}
use Rattle.std.specs.Prelude.{◌||◌}
use Rattle.std.proofs.lemmas.Bool.{cases_eq}
use Rattle.base_words.proofs.Booleans.{or_true}
use Rattle.core_lines.specs.Boxes.{any_below}

pub any_more : (n : ℕ) (p : ℕ → Bool) → any_below n p ≡ false → p n ≡ false → any_below (n + 1) p ≡ false
any_more n p before now = ap (λ m. any_below m p) (add-one n) ∙ ap (λ b. b || p n) before ∙ now

pub any_at : (n : ℕ) (p : ℕ → Bool) (j : ℕ) → j < n → p j ≡ true → any_below n p ≡ true
any_at zero p j lt is = absurd (omega (arith, lt))
any_at (suc n) p j lt is = elim (cases_eq j n) as (λ _. (any_below n p || p n) ≡ true) [
  | inl e ↦ ap (λ b. any_below n p || b) (ap p (sym e) ∙ is) ∙ or_true (any_below n p)
  | inr ne ↦ ap (λ b. b || p n) (any_at n p j (omega arith) is)
]

pub any_same : (n : ℕ) (p q : ℕ → Bool) → ((j : ℕ) → j < n → p j ≡ q j) → any_below n p ≡ any_below n q
any_same zero p q same = refl
any_same (suc n) p q same = ap (λ b. b || p n) (any_same n p q (λ j lt. same j (omega arith))) ∙ ap (λ b. any_below n q || b) (same n (omega arith))
