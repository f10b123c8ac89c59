-- how a decimal is spelled
use Rattle.std.specs.Prelude.{ℕ, ◌+◌, Bool, true, false, ◌==◌, ◌&&◌, ◌||◌, not, if◌then◌else◌, List, [], ◌∷◌, ◌++◌, length, drop, position, Option, Some, None}
use Rattle.std.specs.Char.{is_ascii_digit}
use Rattle.std.specs.List.{list_all, before_first, after_first}
use Rattle.std.specs.Option.{option_map}
use Rattle.std.specs.Str.Parse.{digits_value}

-- the decimal point
abbrev pub is_point : ℕ → Bool
is_point byte = byte == 46

-- `e` or `E`, the mark of an exponent
abbrev pub is_mark : ℕ → Bool
is_mark byte = (byte == 101) || (byte == 69)

-- whether a text begins with a minus sign
abbrev pub has_minus : List ℕ → Bool
has_minus [] = false
has_minus (byte ∷ rest) = byte == 45

-- a text without the sign, if any, that it begins with
abbrev pub unsigned_text : List ℕ → List ℕ
unsigned_text [] = []
unsigned_text (byte ∷ rest) = if (byte == 43) || (byte == 45) then rest else (byte ∷ rest)

-- what follows the mark of an exponent, where there is a mark
abbrev pub exponent_text : List ℕ → Option (List ℕ)
exponent_text text = option_map (λ mark. drop (mark + 1) text) (position is_mark text)

-- at least one digit, and nothing else
abbrev pub is_digit_string : List ℕ → Bool
is_digit_string [] = false
is_digit_string (byte ∷ rest) = list_all is_ascii_digit (byte ∷ rest)

-- no exponent, or an optional sign and at least one digit
abbrev pub is_exponent : Option (List ℕ) → Bool
is_exponent None = true
is_exponent (Some text) = is_digit_string (unsigned_text text)

-- the power of ten by which an exponent multiplies
abbrev pub raised_by : Option (List ℕ) → ℕ
raised_by None = 0
raised_by (Some text) = if has_minus text then 0 else digits_value 10 (unsigned_text text)

-- the power of ten by which an exponent divides
abbrev pub lowered_by : Option (List ℕ) → ℕ
lowered_by None = 0
lowered_by (Some text) = if has_minus text then digits_value 10 (unsigned_text text) else 0

-- how a number is spelled: its sign, its digits as one row, and the powers of ten by which their
-- number is multiplied and divided
pub record Spelling : Type 0 where
  pub negative : Bool
  pub digits : List ℕ
  pub raised : ℕ
  pub lowered : ℕ

-- each digit behind the point divides by ten
abbrev pub spelled : Bool → List ℕ → List ℕ → Option (List ℕ) → Spelling
spelled negative whole fraction exponent = record {
  negative = negative;
  digits = whole ++ fraction;
  raised = raised_by exponent;
  lowered = length fraction + lowered_by exponent;
}

-- there is a digit before or behind the point
abbrev pub has_digit : List ℕ → List ℕ → Bool
has_digit whole fraction = not ((length whole == 0) && (length fraction == 0))

-- an exponent or none, and at least one digit before it
abbrev pub ends_well : List ℕ → List ℕ → Option (List ℕ) → Bool
ends_well whole fraction exponent = is_exponent exponent && has_digit whole fraction

-- the parts of a number: digits before and behind the point, at least one, and an exponent or none
abbrev pub are_parts : List ℕ → List ℕ → Option (List ℕ) → Bool
are_parts whole fraction exponent =
    (list_all is_ascii_digit whole && list_all is_ascii_digit fraction)
    && ends_well whole fraction exponent

-- the spelling with these parts, if they are a number's
abbrev pub spelling_with : Bool → List ℕ → List ℕ → Option (List ℕ) → Option Spelling
spelling_with negative whole fraction exponent =
    if are_parts whole fraction exponent then Some (spelled negative whole fraction exponent)
    else None

-- the spelling of a text, or none where it is no number: behind the sign and before the mark stand
-- the digits, cut at the first point
unfoldable pub spelling_of : List ℕ → Option Spelling
spelling_of text =
    let number = unsigned_text text in
    let mantissa = before_first is_mark number in
    spelling_with (has_minus text) (before_first is_point mantissa) (after_first is_point mantissa)
    (exponent_text number)
