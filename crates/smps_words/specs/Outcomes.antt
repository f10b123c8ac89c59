-- What a file comes to when each of its lines is judged by the lines before it.
use Rattle.std.specs.Prelude.{◌≡◌, ℕ, Bool, true, false, if◌then◌else◌, List, [], ◌∷◌, ◌++◌, fold, Option, Some, None, Result, Ok, Err}
use Rattle.smps_words.specs.TextLines.{TextLine}

-- the first line with a fault, or what stands up to the line that ends the file, or neither
pub data Outcome (L K B : Type 0) : Type 0 where
  Faulty : L → K → Outcome L K B
  Ended : B → Outcome L K B
  Endless : Outcome L K B

-- a line with a fault stops the file, one that ends it without a fault too, and after any other
-- line what comes later decides
abbrev pub judged : {L K B : Type 0} → Option K → Bool → L → B → Outcome L K B → Outcome L K B
judged (Some kind) ends line after later = Faulty line kind
judged None true line after later = Ended after
judged None false line after later = later

-- line by line, each judged by the lines before it
abbrev pub outcome : {L K : Type 0} → (List L → L → Option K) → (L → Bool) → List L → List L
    → Outcome L K (List L)
outcome fault ends before [] = Endless
outcome fault ends before (line ∷ rest) = judged (fault before line) (ends line) line
    (before ++ line ∷ []) (outcome fault ends (before ++ line ∷ []) rest)

-- the same where each line is judged by a state that the lines before it have made
abbrev pub folded : {L K B : Type 0} → (B → L → Option K) → (L → Bool) → (B → L → B) → B → List L
    → Outcome L K B
folded fault ends next state [] = Endless
folded fault ends next state (line ∷ rest) = judged (fault state line) (ends line) line
    (next state line) (folded fault ends next (next state line) rest)

-- what the lines up to the end say, in place of the lines
abbrev pub seen_by : {L K B C : Type 0} → (B → C) → Outcome L K B → Outcome L K C
seen_by of (Faulty line kind) = Faulty line kind
seen_by of (Ended before) = Ended (of before)
seen_by of Endless = Endless

-- the data of a file, or the number and the kind of its first fault; a file without an end has that
-- fault at its last line
abbrev pub answer_of : {K B D : Type 0} → (B → D) → ℕ → K → Outcome TextLine K B → Result D (ℕ × K)
answer_of data_of last no_end (Faulty line kind) = Err (line.number, kind)
answer_of data_of last no_end (Ended before) = Ok (data_of before)
answer_of data_of last no_end Endless = Err (last, no_end)

-- all that the lines tell, one after another, each by the lines before it
abbrev pub all_told : {L X : Type 0} → (List L → L → List X) → List L → List L → List X
all_told tells before [] = []
all_told tells before (line ∷ rest) = tells before line ++ all_told tells (before ++ line ∷ []) rest

-- the last of the items, or another value where there is none
abbrev pub last_or : {X : Type 0} → X → List X → X
last_or other items = fold (λ last x. x) other items

-- what the last of the items that pass says, or another value where none passes
abbrev pub latest : {X V : Type 0} → (X → Bool) → (X → V) → V → List X → V
latest passes says other items = fold (λ last x. if passes x then says x else last) other items

-- what a list of lines says goes on line by line: one more line changes it as the step does
pub record GoesOn {L B : Type 0} (of : List L → B) (next : B → L → B) : Type 0 where
  pub more : (lines : List L) (line : L) → of (lines ++ line ∷ []) ≡ next (of lines) line

-- the first of the items, if there is one
abbrev pub first_or_none : {X : Type 0} → List X → Option X
first_or_none [] = None
first_or_none (x ∷ xs) = Some x
