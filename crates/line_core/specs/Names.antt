-- names numbered in the order in which they came
use Rattle.std.specs.Prelude.{◌≡◌, ◌≢◌, ℕ, List, [], ◌∷◌, ◌++◌, length, position, Option, None, Some, Result, Ok, Err}
use Rattle.std.specs.List.{AllPairs}
use Rattle.std.specs.Str.{bytes_eq}
use Rattle.line_core.specs.declared.name_list.NameFault.{NameFault}
use Rattle.line_core.specs.declared.name_list.NameFault.TheVariants.{Twice, Memory}

-- the number of a name, from 0, if it is there
abbrev pub number_of : List ℕ → List (List ℕ) → Option ℕ
number_of name names = position (bytes_eq name) names

-- no two names are the same
abbrev pub AreDistinct : List (List ℕ) → Type 0
AreDistinct names = AllPairs (λ one other. one ≢ other) names

-- what `add` answers, and what it leaves: a new name goes last, and an error changes nothing;
-- memory is asked for a new name alone
abbrev pub AddAnswers : List (List ℕ) → List (List ℕ) → List ℕ → Result ℕ NameFault → Type 0
AddAnswers old new name (Ok number) =
    (number_of name old ≡ None) × (number ≡ length old) × (new ≡ old ++ name ∷ [])
AddAnswers old new name (Err (Twice first)) = (number_of name old ≡ Some first) × (new ≡ old)
AddAnswers old new name (Err Memory) = (number_of name old ≡ None) × (new ≡ old)
