-- Where the windows of a meaning lie among the words of a board.
use Rattle.std.specs.Prelude.{◌≡◌, ◌<◌, ℕ, List, length, slice_index}
use Rattle.window_words.specs.Rule.{start}

-- where the windows begin, and how many words there are
abbrev pub ArePlaces : (ℕ → ℕ) → ℕ → List ℕ → ℕ → Type 0
ArePlaces wide count starts words =
    (length starts ≡ count) × ((w : ℕ) → w < count → slice_index starts w ≡ start wide w)
    × (words ≡ start wide count)
