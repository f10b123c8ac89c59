-- Where the words of a rank's part stand.
use Rattle.std.proofs.Common.{arith, refl, sym, ap, ◌∙◌, ◌≡◌, ℕ, ◌+◌, ◌/◌, ◌%◌, ◌<◌, get_or, ℤ}
use Rattle.std.proofs.lemmas.Nat.{div-add-mod'}
use Rattle.base_words.specs.Sums.{number_at}
use Rattle.word_codec.specs.Spelling.{cell_words}
use Rattle.run_calls.specs.declared.put.Put.{Put}
use Rattle.put_codec.specs.declared.layout.Layout.{Layout}
use Rattle.put_codec.specs.Entries.{part_words, words_at}
use Rattle.put_codec.specs.Layouts.{cells_of, start_of, width_of}
use Rattle.put_codec.proofs.Pieces.{piece_at}
use Rattle.put_codec.proofs.Places.{rank_width}

-- word index of a part is a word of the cell that it lies in
pub word_at : (layout : Layout) (i index : ℕ) (put : Put) → i < layout.ranks → index < width_of layout i → get_or (part_words layout i put) index 0 ≡ get_or (words_at put (start_of layout i + index / 3)) (index % 3) 0
word_at layout i index put l below =
    let wide = rank_width layout i l in
    ap (λ n. get_or (part_words layout i put) n 0) (sym (div-add-mod' index 3))
    ∙ piece_at 3 (λ c. words_at put (start_of layout i + c)) (λ c. refl) (cells_of layout i) (index / 3) (index % 3) 0 (omega arith) (omega arith)

-- the same of a cell that the code read
pub cell_is : (layout : Layout) (i index a word : ℕ) (put : Put) (multiplier x : ℤ) → i < layout.ranks → index < width_of layout i → a ≡ start_of layout i → multiplier ≡ number_at put.multipliers.values (a + index / 3) → x ≡ number_at put.x (a + index / 3)
    → word ≡ get_or (cell_words multiplier x) (index % 3) 0 → word ≡ get_or (part_words layout i put) index 0
cell_is layout i index a word put multiplier x l below at m v is =
    is
    ∙ (λ t. get_or (cell_words (m t) (v t)) (index % 3) 0)
    ∙ ap (λ n. get_or (words_at put (n + index / 3)) (index % 3) 0) at
    ∙ sym (word_at layout i index put l below)
