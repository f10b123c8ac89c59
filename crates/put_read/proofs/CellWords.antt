-- One spelling for one cell, and how a put grows cell after cell.
use Rattle.std.proofs.Common.{arith, refl, sym, ap, ◌∙◌, ◌≡◌, ℕ, ◌+◌, ◌*◌, ◌<◌, ◌≤◌, ◌^◌, List, [], ◌∷◌, length, get_or, set, ℤ, pos, FitsSigned, ◌⊎◌, inl, inr, get_or-set_other, get_or-set_same, length-set}
use Rattle.std.specs.Int.{cast_signed, cast_unsigned, w64, w128}
use Rattle.std.proofs.lemmas.Bool.{cases_lt}
use Rattle.std.proofs.lemmas.Int.{ints, to_z-of_z}
use Rattle.std.proofs.lemmas.Nat.{div-add-mod'}
use Rattle.base_words.specs.Sums.{number_at}
use Rattle.word_codec.specs.Spelling.{AreCellWords, IsFirstOff, IsValue, bits_of, cell_words, high_of, low_of}
use Rattle.run_calls.specs.declared.put.Put.{Put}
use Rattle.put_codec.specs.Entries.{AgreeBelow}
use Rattle.put_read.specs.Cells.{HasCell, HasPlaces, KeepsShape}

-- a signed number is found in its bits again
bits_once : (a b : ℤ) → FitsSigned w128 a → FitsSigned w128 b → bits_of a ≡ bits_of b → a ≡ b
bits_once a b f g e = sym (to_z-of_z w128 a f) ∙ (ap (cast_signed w128) e ∙ to_z-of_z w128 b g)

halves_once : (a b : ℤ) → high_of a ≡ high_of b → low_of a ≡ low_of b → bits_of a ≡ bits_of b
halves_once a b h l = sym (div-add-mod' (bits_of a) (2 ^ 64)) ∙ ((λ i. h i * 2 ^ 64 + l i) ∙ div-add-mod' (bits_of b) (2 ^ 64))

value_fits : (x : ℤ) → IsValue x → FitsSigned w64 x
value_fits x is = let low = is.0 in let high = is.1 in grind (arith, ints)

values_once : (x y : ℤ) → IsValue x → FitsSigned w64 y → cast_unsigned w64 x ≡ cast_unsigned w64 y → x ≡ y
values_once x y is fits e = sym (to_z-of_z w64 x (value_fits x is)) ∙ (ap (cast_signed w64) e ∙ to_z-of_z w64 y fits)

-- three words that a cell has
three_are : (ws three : List ℕ) (i : ℕ) (m x : ℤ) → HasCell ws i m x → three ≡ get_or ws (3 * i) 0 ∷ get_or ws (3 * i + 1) 0 ∷ get_or ws (3 * i + 2) 0 ∷ [] → three ≡ cell_words m x
three_are ws three i m x has e =
    let first : get_or ws (3 * i) 0 ≡ high_of m = ap (λ n. get_or ws n 0) (at_zero i) ∙ has 0 (omega arith) in
    e ∙ (λ t. first t ∷ has 1 (omega arith) t ∷ has 2 (omega arith) t ∷ [])
  where
    at_zero : (i : ℕ) → 3 * i ≡ 3 * i + 0
    at_zero i = omega arith

cell_once : (ws three : List ℕ) (i : ℕ) (m x n y : ℤ) → three ≡ get_or ws (3 * i) 0 ∷ get_or ws (3 * i + 1) 0 ∷ get_or ws (3 * i + 2) 0 ∷ [] → three ≡ cell_words n y → FitsSigned w128 n → FitsSigned w64 y
    → FitsSigned w128 m → IsValue x → HasCell ws i m x → (n ≡ m) × (y ≡ x)
cell_once ws three i m x n y e read fn fy fm is has =
    let same : cell_words n y ≡ cell_words m x = sym read ∙ three_are ws three i m x has e in (
      bits_once n m fn fm (halves_once n m (ap (λ (z : List ℕ). get_or z 0 0) same) (ap (λ (z : List ℕ). get_or z 1 0) same)),
      sym (values_once x y is fy (sym (ap (λ (z : List ℕ). get_or z 2 0) same))),
    )

-- words that a cell has aren't off anywhere
pub never_off : (ws three : List ℕ) (i at : ℕ) (m x : ℤ) → three ≡ get_or ws (3 * i) 0 ∷ get_or ws (3 * i + 1) 0 ∷ get_or ws (3 * i + 2) 0 ∷ [] → FitsSigned w128 m → IsValue x → HasCell ws i m x → IsFirstOff AreCellWords three at → ⊥
never_off ws three i at m x e fm is has off = off.1 (three, (m, x, fm, is, three_are ws three i m x has e), refl)

-- a put with one cell more
module _ (put put' given : Put) (place : ℕ) (m x : ℤ) (room : HasPlaces put place 1) (ms : put'.multipliers.values ≡ set put.multipliers.values place m) (xs : put'.x ≡ set put.x place x) where
  pub one_more : AgreeBelow place put given → m ≡ number_at given.multipliers.values place → x ≡ number_at given.x place → AgreeBelow (place + 1) put' given
  one_more old em ex = record {
    multipliers = λ c l. ap (λ z. number_at z c) ms ∙ item put.multipliers.values given.multipliers.values m c l room.multipliers em (old.multipliers c);
    x = λ c l. ap (λ z. number_at z c) xs ∙ item put.x given.x x c l room.x ex (old.x c);
  }
    where
      item : (ys zs : List ℤ) (v : ℤ) (c : ℕ) → c < place + 1 → place + 1 ≤ length ys → v ≡ number_at zs place → (c < place → number_at ys c ≡ number_at zs c) → number_at (set ys place v) c ≡ number_at zs c
      item ys zs v c l room e old = by_place (cases_lt c place)
        where
          by_place : (c < place) ⊎ (place ≤ c) → number_at (set ys place v) c ≡ number_at zs c
          by_place (inl less) = get_or-set_other ys place c v (pos 0) (λ same. absurd (omega arith)) ∙ old less
          by_place (inr more) =
              let same : c ≡ place = omega arith in
              ap (number_at (set ys place v)) same ∙ (get_or-set_same ys place v (pos 0) (omega arith) ∙ (e ∙ ap (number_at zs) (sym same)))

  shape_kept : put'.number ≡ put.number → KeepsShape put put'
  shape_kept n = record { number = n; multipliers = ap (λ (z : List ℤ). length z) ms ∙ length-set put.multipliers.values place m; x = ap (λ (z : List ℤ). length z) xs ∙ length-set put.x place x }
