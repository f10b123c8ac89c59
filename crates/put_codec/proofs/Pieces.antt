-- Pieces of one length, one after another: how long they are together, and where their items stand.
use Rattle.std.proofs.Common.{arith, refl, sym, ap, ◌∙◌, ◌≡◌, ℕ, zero, suc, ◌+◌, ◌*◌, ◌-◌, ◌<◌, nat_lt, Bool, true, false, List, length, get_or}
use Rattle.std.proofs.lemmas.List.{get_or_append_left, get_or-append_right, length-append}
use Rattle.std.proofs.lemmas.Nat.{mul-add-lt}
use Rattle.std.proofs.Math.Nat.{mul_comm, suc-mul}
use Rattle.base_words.specs.Gathered.{gathered}
use Rattle.base_words.proofs.NumberTests.{less_from_test, not_less_from_test}

module _ {X : Type 0} (w : ℕ) (f : ℕ → List X) (even : (c : ℕ) → length (f c) ≡ w) where
  pub pieces_length : (n : ℕ) → length (gathered n f) ≡ n * w
  pieces_length zero = omega arith
  pieces_length (suc n) = omega (arith, length-append (gathered n f) (f n), pieces_length n, even n, suc-mul n w)

  pub piece_at : (n c j : ℕ) (d : X) → c < n → j < w → get_or (gathered n f) (c * w + j) d ≡ get_or (f c) j d
  piece_at zero c j d h l = absurd (omega arith)
  piece_at (suc n) c j d h l = by_test (nat_lt c n) refl (λ k. piece_at n c j d k l)
    where
      by_test : (t : Bool) → nat_lt c n ≡ t → (c < n → get_or (gathered n f) (c * w + j) d ≡ get_or (f c) j d) → get_or (gathered (suc n) f) (c * w + j) d ≡ get_or (f c) j d
      by_test true e r =
          let k = less_from_test c n e in
          get_or_append_left (gathered n f) (f n) d (c * w + j) (omega (arith, pieces_length n, mul-add-lt c w j n k l, mul_comm n w)) ∙ r k
      by_test false e r =
          let over = not_less_from_test c n e in
          let same : c ≡ n = omega arith in
          let long : n * w + j - n * w ≡ j = omega arith in
          ap (λ i. get_or (gathered (suc n) f) (i * w + j) d) same
          ∙ (get_or-append_right (gathered n f) (f n) (n * w) (n * w + j) d (pieces_length n) (omega arith)
          ∙ (ap (λ i. get_or (f n) i d) long ∙ ap (λ i. get_or (f i) j d) (sym same)))
