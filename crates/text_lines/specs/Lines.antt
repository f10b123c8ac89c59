-- What lines are made of.
use Rattle.std.specs.Prelude.{ℕ, ℤ, List, [], ◌∷◌, ◌++◌, ◌<◌, length, codes, Option, Some, None, slice_index_or}
use Rattle.std.specs.Fmt.{signed_decimal}
use Rattle.std.specs.List.{All}

-- a line: its text and a newline (10)
abbrev pub line_of : List ℕ → List ℕ
line_of text = text ++ 10 ∷ []

-- no line is empty
abbrev pub AreFull : List (List ℕ) → Type 0
AreFull lines = All (λ line. 0 < length line) lines

-- a limit, as a number or as the word `none`
abbrev pub limit_text : Option ℤ → List ℕ
limit_text None = codes "none"
limit_text (Some limit) = signed_decimal limit

-- the name of this number
abbrev pub name_at : List (List ℕ) → ℕ → List ℕ
name_at names k = slice_index_or names k []
