-- A put that is filled cell after cell and part after part becomes the put whose words were read.
use Rattle.std.proofs.Common.{arith, refl, sym, ap, ◌∙◌, ◌≡◌, ℕ, ◌+◌, ◌*◌, ◌/◌, ◌<◌, List, length, get_or, ℤ, pos, FitsSigned}
use Rattle.std.proofs.lemmas.List.{ext_get_or}
use Rattle.base_words.specs.Sums.{number_at}
use Rattle.std.specs.Int.{w128}
use Rattle.word_codec.specs.Spelling.{IsValue}
use Rattle.run_calls.specs.declared.put.Put.{Put}
use Rattle.put_codec.specs.declared.layout.Layout.{Layout}
use Rattle.put_codec.specs.Entries.{AgreeBelow, IsSpelled, part_words, words_at}
use Rattle.put_codec.specs.Layouts.{cells_of, start_of}
use Rattle.put_codec.proofs.Fitting.{part_length}
use Rattle.put_codec.proofs.Pieces.{piece_at}
use Rattle.put_read.specs.Cells.{HasCell, HasCells, HasPlaces, KeepsShape}

-- while cells are taken: the lists keep their lengths, and as many cells agree
pub record IsTaking (words : List ℕ) (start : ℕ) (old put : Put) (index : ℕ) : Type 0 where
  pub shape : KeepsShape old put
  pub agrees : (given : Put) → IsSpelled given → HasCells words start given → AgreeBelow start old given → AgreeBelow (start + index) put given

taking_begins : (words : List ℕ) (start : ℕ) (put : Put) → IsTaking words start put put 0
taking_begins words start put = record {
  shape = record { number = refl; multipliers = refl; x = refl };
  agrees = λ given spelled has old. record { multipliers = λ c l. old.multipliers c (omega arith); x = λ c l. old.x c (omega arith) };
}

place_free : (words : List ℕ) (start : ℕ) (old put : Put) (index : ℕ) → HasPlaces old start (length words / 3) → index < length words / 3 → IsTaking words start old put index → HasPlaces put (start + index) 1
place_free words start old put index room l t = let ms = t.shape.multipliers in let xs = t.shape.x in let rm = room.multipliers in let rx = room.x in record { multipliers = omega arith; x = omega arith }

pub taking_more : (words : List ℕ) (start : ℕ) (old put put' : Put) (index : ℕ) (m x : ℤ) → index < length words / 3 → IsTaking words start old put index
    → ((n y : ℤ) → FitsSigned w128 n → IsValue y → HasCell words index n y → (m ≡ n) × (x ≡ y))
    → KeepsShape put put' → ((given : Put) → AgreeBelow (start + index) put given → m ≡ number_at given.multipliers.values (start + index) → x ≡ number_at given.x (start + index) → AgreeBelow (start + index + 1) put' given)
    → IsTaking words start old put' (index + 1)
taking_more words start old put put' index m x l t is shape more = record {
  shape = record { number = shape.number ∙ t.shape.number; multipliers = shape.multipliers ∙ t.shape.multipliers; x = shape.x ∙ t.shape.x };
  agrees = λ given spelled has before.
      let cell = is (number_at given.multipliers.values (start + index)) (number_at given.x (start + index)) (spelled.multipliers (start + index)) (spelled.x (start + index)) (has index l) in
      let all = more given (t.agrees given spelled has before) cell.0 cell.1 in
      record { multipliers = λ c h. all.multipliers c (omega arith); x = λ c h. all.x c (omega arith) };
}

taking_ends : (words : List ℕ) (start : ℕ) (old put : Put) (index : ℕ) → index ≡ length words / 3 → IsTaking words start old put index
    → (given : Put) → IsSpelled given → HasCells words start given → AgreeBelow start old given → AgreeBelow (start + length words / 3) put given
taking_ends words start old put index e t given spelled has before =
    let all = t.agrees given spelled has before in record { multipliers = λ c h. all.multipliers c (omega arith); x = λ c h. all.x c (omega arith) }

-- the words of a part are those of its cells
pub part_cells : (layout : Layout) (i : ℕ) (given : Put) (words : List ℕ) → words ≡ part_words layout i given → HasCells words (start_of layout i) given
part_cells layout i given words e c l j h =
    let long : length words ≡ 3 * cells_of layout i = ap (λ (z : List ℕ). length z) e ∙ part_length layout i given in
    let place : 3 * c + j ≡ c * 3 + j = omega arith in
    ap (λ (z : List ℕ). get_or z (3 * c + j) 0) e ∙ (ap (λ n. get_or (part_words layout i given) n 0) place ∙ piece_at 3 (λ k. words_at given (start_of layout i + k)) (λ k. refl) (cells_of layout i) c j 0 (omega arith) h)

-- two puts of one number whose lists are equally long and agree
pub same_put : (put given : Put) (n : ℕ) → put.number ≡ given.number → length put.multipliers.values ≡ n → length given.multipliers.values ≡ n → length put.x ≡ n → length given.x ≡ n → AgreeBelow n put given → put ≡ given
same_put put given n number lm gm lx gx all =
    let ms : put.multipliers.values ≡ given.multipliers.values = ext_get_or (pos 0) put.multipliers.values given.multipliers.values (lm ∙ sym gm) (λ c l. all.multipliers c (omega arith)) in
    let xs : put.x ≡ given.x = ext_get_or (pos 0) put.x given.x (lx ∙ sym gx) (λ c l. all.x c (omega arith)) in
    λ t. record { number = number t; multipliers = record { values = ms t }; x = xs t }
