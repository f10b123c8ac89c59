-- The outcome of a file told by places: which line is the first with a fault, or the first that
-- ends the file.
use Rattle.std.specs.Prelude.{◌≡◌, ℕ, ◌+◌, ◌<◌, Bool, true, false, List, length, take, slice_index_or, Option, Some, None}
use Rattle.smps_words.specs.Outcomes.{Outcome}
use Rattle.smps_words.specs.Outcomes.Outcome.{Faulty, Ended, Endless}

-- the n-th item, from 0, is there and is this one
abbrev pub IsAt : {L : Type 0} → List L → ℕ → L → Type 0
IsAt xs n line = (n < length xs) × (slice_index_or xs n line ≡ line)

-- no line before place n has a fault or ends the file
abbrev pub CleanTo : {L K : Type 0} → (List L → L → Option K) → (L → Bool) → List L → ℕ → Type 0
CleanTo {L} fault ends xs n = (m : ℕ) → m < n → (d : L)
    → (fault (take m xs) (slice_index_or xs m d) ≡ None) × (ends (slice_index_or xs m d) ≡ false)

-- a faulty line is there and no line before it has a fault or ends the file; so for the line that
-- ends it
abbrev pub Says : {L K : Type 0} → (List L → L → Option K) → (L → Bool) → List L
    → Outcome L K (List L) → Type 0
Says fault ends xs (Faulty line kind) =
    (n : ℕ) × IsAt xs n line × (fault (take n xs) line ≡ Some kind) × CleanTo fault ends xs n
Says {L} fault ends xs (Ended before) = (n : ℕ) × (line : L) × IsAt xs n line
    × (before ≡ take (n + 1) xs) × (fault (take n xs) line ≡ None) × (ends line ≡ true)
    × CleanTo fault ends xs n
Says fault ends xs Endless = CleanTo fault ends xs (length xs)
