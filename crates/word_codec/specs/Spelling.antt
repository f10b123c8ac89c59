-- The words of a multiplier with a value, and of a reply.
use Rattle.std.specs.Prelude.{◌≡◌, ℕ, ◌+◌, ◌/◌, ◌%◌, ◌^◌, ℤ, pos, ◌≤ℤ◌, neg_ℤ, List, [], ◌∷◌, take, Option, Some, None, FitsSigned, ◌⊎◌}
use Rattle.std.specs.Int.{cast_unsigned, w64, w128}

-- the bits of a number of 128 bits in two's complement
abbrev pub bits_of : ℤ → ℕ
bits_of z = cast_unsigned w128 z

-- the high and the low 64 of them
abbrev pub high_of : ℤ → ℕ
high_of z = bits_of z / 2 ^ 64

abbrev pub low_of : ℤ → ℕ
low_of z = bits_of z % 2 ^ 64

-- a value of a nonleaf column is at most this far from 0
abbrev pub max_value : ℕ
max_value = 1000000000

abbrev pub IsValue : ℤ → Type 0
IsValue x = (neg_ℤ (pos max_value) ≤ℤ x) × (x ≤ℤ pos max_value)

-- a multiplier and a value
abbrev pub cell_words : ℤ → ℤ → List ℕ
cell_words multiplier x = high_of multiplier ∷ low_of multiplier ∷ cast_unsigned w64 x ∷ []

-- a reply, or none
abbrev pub reply_words : Option ℤ → List ℕ
reply_words None = 0 ∷ 0 ∷ 0 ∷ []
reply_words (Some v) = 1 ∷ high_of v ∷ low_of v ∷ []

-- the words of some multiplier and value
abbrev pub AreCellWords : List ℕ → Type 0
AreCellWords words =
    (multiplier x : ℤ) × FitsSigned w128 multiplier × IsValue x × (words ≡ cell_words multiplier x)

-- the words of some reply
abbrev pub AreReplyWords : List ℕ → Type 0
AreReplyWords words =
    (words ≡ reply_words None) ⊎ ((v : ℤ) × FitsSigned w128 v × (words ≡ reply_words (Some v)))

-- the first n words are those that some value begins with
abbrev pub BeginAlike : (List ℕ → Type 0) → List ℕ → ℕ → Type 0
BeginAlike are words n = (given : List ℕ) × are given × (take n given ≡ take n words)

-- word i is the first that shows that no value has these words
abbrev pub IsFirstOff : (List ℕ → Type 0) → List ℕ → ℕ → Type 0
IsFirstOff are words i = BeginAlike are words i × (BeginAlike are words (i + 1) → ⊥)
