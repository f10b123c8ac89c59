-- The whole numbers that words write.
use Rattle.std.specs.Prelude.{ℕ, List, Bool, Option, Some, None, ◌&&◌, length, if◌then◌else◌, nat_le, option_and_then}
use Rattle.std.specs.List.{list_all}
use Rattle.std.specs.Str.Parse.{digits_value}

-- a digit from 0 to 9
abbrev pub is_digit : ℕ → Bool
is_digit b = nat_le 48 b && nat_le b 57

-- the greatest number of digits
abbrev pub max_digits : ℕ
max_digits = 19

-- the number that one to nineteen digits write, leading zeros allowed; none where the text is
-- anything else
abbrev pub numeral_of : List ℕ → Option ℕ
numeral_of text =
    if nat_le 1 (length text) && nat_le (length text) max_digits
    then (if list_all is_digit text then Some (digits_value 10 text) else None)
    else None

-- a number from the least to the greatest
abbrev pub within : ℕ → ℕ → ℕ → Option ℕ
within least greatest n = if nat_le least n && nat_le n greatest then Some n else None

-- the number from the least to the greatest that a word writes
abbrev pub number_in : ℕ → ℕ → List ℕ → Option ℕ
number_in least greatest word = option_and_then (within least greatest) (numeral_of word)
