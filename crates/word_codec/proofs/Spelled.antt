-- Words are those of one value, or the first is found that shows that they are of none.
use Rattle.std.proofs.Common.{◌≡◌, ◌≢◌, ◌^◌, ℕ, ◌+◌, ◌*◌, ◌/◌, ◌%◌, ◌<◌, ℤ, pos, List, [], ◌∷◌, length, take, get_or, sym, refl, ap, ◌∙◌, subst, arith, inl, ⊎_elim}
use Rattle.std.specs.Prelude.{Some, None, FitsSigned}
use Rattle.std.specs.Int.{cast_unsigned, cast_signed, w64, w128}
use Rattle.std.proofs.lemmas.Int.{ints, to_z-of_z}
use Rattle.std.proofs.lemmas.Nat.{div-mul-add, mod-mul-add}
use Rattle.word_codec.specs.Spelling.{bits_of, high_of, low_of, IsValue, cell_words, reply_words, AreCellWords, AreReplyWords, IsFirstOff}

-- three words are the list of them
pub three : (ws : List ℕ) → length ws ≡ 3 → ws ≡ get_or ws 0 0 ∷ get_or ws 1 0 ∷ get_or ws 2 0 ∷ []
three [] l = absurd (omega arith)
three (a ∷ []) l = absurd (omega arith)
three (a ∷ b ∷ []) l = absurd (omega arith)
three (a ∷ b ∷ c ∷ []) l = refl
three (a ∷ b ∷ c ∷ d ∷ ws) l = absurd (omega arith)

-- the halves of a number that was put together
high_joined : (v : ℤ) (h l : ℕ) → bits_of v ≡ h * 2 ^ 64 + l → l < 2 ^ 64 → high_of v ≡ h
high_joined v h l e small = ap (λ (n : ℕ). n / 2 ^ 64) e ∙ div-mul-add h (2 ^ 64) l small

low_joined : (v : ℤ) (h l : ℕ) → bits_of v ≡ h * 2 ^ 64 + l → l < 2 ^ 64 → low_of v ≡ l
low_joined v h l e small = ap (λ (n : ℕ). n % 2 ^ 64) e ∙ mod-mul-add h (2 ^ 64) l small

-- a value that a nonleaf column may have has a word of its own
value_word : (x : ℤ) (c : ℕ) → IsValue x → cast_unsigned w64 x ≡ c → IsValue (cast_signed w64 c)
value_word x c is e = let low = is.0 in let high = is.1 in let fits : FitsSigned w64 x = grind (arith, ints) in
    subst IsValue (sym (ap (cast_signed w64) (sym e) ∙ to_z-of_z w64 x fits)) is

module _ (ws : List ℕ) (l : length ws ≡ 3) where
  pub cell_is : (m x : ℤ) → bits_of m ≡ get_or ws 0 0 * 2 ^ 64 + get_or ws 1 0 → get_or ws 1 0 < 2 ^ 64 → cast_unsigned w64 x ≡ get_or ws 2 0 → ws ≡ cell_words m x
  cell_is m x e small last = three ws l ∙ (λ i. sym (high_joined m (get_or ws 0 0) (get_or ws 1 0) e small) i ∷ sym (low_joined m (get_or ws 0 0) (get_or ws 1 0) e small) i ∷ sym last i ∷ [])

  pub cell_off : (m : ℤ) → FitsSigned w128 m → bits_of m ≡ get_or ws 0 0 * 2 ^ 64 + get_or ws 1 0 → get_or ws 1 0 < 2 ^ 64 → (IsValue (cast_signed w64 (get_or ws 2 0)) → ⊥) → IsFirstOff AreCellWords ws 2
  cell_off m fits e small none = subst (λ (z : List ℕ). IsFirstOff AreCellWords z 2) (sym (three ws l)) (
    (cell_words m (pos 0), (m, pos 0, fits, (grind (arith, ints), grind (arith, ints)), refl), λ i. high_joined m (get_or ws 0 0) (get_or ws 1 0) e small i ∷ low_joined m (get_or ws 0 0) (get_or ws 1 0) e small i ∷ []),
    λ b. none (value_word b.1.1 (get_or ws 2 0) b.1.3 (ap (λ (z : List ℕ). get_or (take 3 z) 2 0) (sym b.1.4) ∙ ap (λ (z : List ℕ). get_or z 2 0) b.2)),
  )

  pub none_is : get_or ws 0 0 ≡ 0 → get_or ws 1 0 ≡ 0 → get_or ws 2 0 ≡ 0 → ws ≡ reply_words None
  none_is e f g = three ws l ∙ (λ i. e i ∷ f i ∷ g i ∷ [])

  pub some_is : (v : ℤ) → get_or ws 0 0 ≡ 1 → bits_of v ≡ get_or ws 1 0 * 2 ^ 64 + get_or ws 2 0 → get_or ws 2 0 < 2 ^ 64 → ws ≡ reply_words (Some v)
  some_is v one e small = three ws l ∙ (λ i. one i ∷ sym (high_joined v (get_or ws 1 0) (get_or ws 2 0) e small) i ∷ sym (low_joined v (get_or ws 1 0) (get_or ws 2 0) e small) i ∷ [])

  pub mark_off : 1 < get_or ws 0 0 → IsFirstOff AreReplyWords ws 0
  mark_off big = subst (λ (z : List ℕ). IsFirstOff AreReplyWords z 0) (sym (three ws l)) (
    (reply_words None, inl refl, refl),
    λ b. ⊎_elim (λ e. let is = ap (λ (z : List ℕ). get_or (take 1 z) 0 0) (sym e) ∙ ap (λ (z : List ℕ). get_or z 0 0) b.2 in omega arith)
        (λ s. let is = ap (λ (z : List ℕ). get_or (take 1 z) 0 0) (sym s.2) ∙ ap (λ (z : List ℕ). get_or z 0 0) b.2 in omega arith) b.1,
  )

  -- a reply that isn't there has only words 0
  pub first_off : get_or ws 0 0 ≡ 0 → get_or ws 1 0 ≢ 0 → IsFirstOff AreReplyWords ws 1
  first_off zero_mark other = subst (λ (z : List ℕ). IsFirstOff AreReplyWords z 1) (sym (three ws l)) (
    (reply_words None, inl refl, λ i. sym zero_mark i ∷ []),
    λ b. ⊎_elim (λ e. other (sym (ap (λ (z : List ℕ). get_or (take 2 z) 1 0) (sym e) ∙ ap (λ (z : List ℕ). get_or z 1 0) b.2)))
        (λ s. let is = ap (λ (z : List ℕ). get_or (take 2 z) 0 0) (sym s.2) ∙ ap (λ (z : List ℕ). get_or z 0 0) b.2 in omega arith) b.1,
  )

  pub second_off : get_or ws 0 0 ≡ 0 → get_or ws 1 0 ≡ 0 → get_or ws 2 0 ≢ 0 → IsFirstOff AreReplyWords ws 2
  second_off zero_mark first other = subst (λ (z : List ℕ). IsFirstOff AreReplyWords z 2) (sym (three ws l)) (
    (reply_words None, inl refl, λ i. sym zero_mark i ∷ sym first i ∷ []),
    λ b. ⊎_elim (λ e. other (sym (ap (λ (z : List ℕ). get_or (take 3 z) 2 0) (sym e) ∙ ap (λ (z : List ℕ). get_or z 2 0) b.2)))
        (λ s. let is = ap (λ (z : List ℕ). get_or (take 3 z) 0 0) (sym s.2) ∙ ap (λ (z : List ℕ). get_or z 0 0) b.2 in omega arith) b.1,
  )
