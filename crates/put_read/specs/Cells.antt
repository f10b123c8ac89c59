-- Cells of a put and the words that they have.

use Rattle.std.specs.Prelude.{◌≡◌, ℕ, ◌+◌, ◌*◌, ◌/◌, ◌<◌, ◌≤◌, List, length, slice_index, ℤ}
use Rattle.base_words.specs.Sums.{number_at}
use Rattle.word_codec.specs.Spelling.{cell_words}
use Rattle.run_calls.specs.declared.put.Put.{Put}

-- the three words of number i among some words are those of a multiplier and a value
abbrev pub HasCell : List ℕ → ℕ → ℤ → ℤ → Type 0
HasCell words i multiplier x =
    (j : ℕ) → j < 3 → slice_index words (3 * i + j) ≡ slice_index (cell_words multiplier x) j

-- some words are those of a put's cells from a place on
abbrev pub HasCells : List ℕ → ℕ → Put → Type 0
HasCells words start put =
    (i : ℕ) → i < length words / 3
    → HasCell words i (number_at put.multipliers.values (start + i)) (number_at put.x (start + i))

-- a put has room for so many cells from a place on
pub record HasPlaces (put : Put) (start cells : ℕ) : Type 0 where
  pub multipliers : start + cells ≤ length put.multipliers.values
  pub x : start + cells ≤ length put.x

-- the lists of a put keep their lengths, and it its number
pub record KeepsShape (put put' : Put) : Type 0 where
  pub number : put'.number ≡ put.number
  pub multipliers : length put'.multipliers.values ≡ length put.multipliers.values
  pub x : length put'.x ≡ length put.x
