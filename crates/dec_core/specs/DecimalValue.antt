-- the value of a spelled number, and what a text is read as
use Rattle.std.specs.Prelude.{◌≡◌, ◌≢◌, ℕ, ◌*◌, ◌/◌, ◌%◌, ◌^◌, ◌<◌, ◌≤◌, Bool, ◌==◌, nat_lt, if◌then◌else◌, List, Option, Some, None, Result, Ok, Err, unsigned_abs}
use Rattle.std.specs.List.{position_or_len, range_with_len}
use Rattle.std.specs.Str.Parse.{digits_value}
use Rattle.base_words.specs.Signs.{signed}
use Rattle.dec_core.specs.Spelling.{Spelling, spelling_of}
use Rattle.dec_core.specs.declared.decimal.Decimal.{Decimal}
use Rattle.dec_core.specs.declared.decimal.DecFault.{DecFault}
use Rattle.dec_core.specs.declared.decimal.DecFault.TheVariants.{NotNumber, TooManyPlaces, TooLarge}

-- m / 10^p is the magnitude: the digits' number times the power of ten above, over the power of ten
-- below
abbrev pub IsMagnitude : Spelling → ℕ → ℕ → Type 0
IsMagnitude s m p = m * 10 ^ s.lowered ≡ digits_value 10 s.digits * 10 ^ s.raised * 10 ^ p

-- m / 10^p is the magnitude, and no other way to write it has fewer places
pub record IsValue (s : Spelling) (m p : ℕ) : Type 0 where
  pub exact : IsMagnitude s m p
  pub fewest : (n q : ℕ) → IsMagnitude s n q → p ≤ q

-- whether p places are enough
abbrev pub are_enough : Spelling → ℕ → Bool
are_enough s p = (digits_value 10 s.digits * 10 ^ s.raised * 10 ^ p) % 10 ^ s.lowered == 0

-- the least number of places that is enough, of those below the power of ten below, which is always
-- enough
unfoldable pub places_of : Spelling → ℕ
places_of s = position_or_len (are_enough s) (range_with_len 0 s.lowered)

-- the magnitude of the mantissa at that number of places
unfoldable pub mantissa_of : Spelling → ℕ
mantissa_of s = digits_value 10 s.digits * 10 ^ s.raised * 10 ^ places_of s / 10 ^ s.lowered

-- the mantissa and the places of a spelling are its one value with the fewest places
abbrev pub HasOneValue : Spelling → Type 0
HasOneValue s = (m p : ℕ) → IsValue s m p → (m ≡ mantissa_of s) × (p ≡ places_of s)

-- the greatest number of decimal places
abbrev pub max_places : ℕ
max_places = 9

-- the greatest magnitude of a mantissa
abbrev pub max_mantissa : ℕ
max_mantissa = 10 ^ 36

-- the number m / 10^p with its sign, within these limits
abbrev pub within_limits : Bool → ℕ → ℕ → Result Decimal DecFault
within_limits negative m p =
    if nat_lt max_places p then Err TooManyPlaces
    else (if nat_lt max_mantissa m then Err (TooLarge negative)
    else Ok (record { mantissa = signed negative m; places = p }))

-- a text that is spelled as no number is answered so, and any other by its value within the limits
abbrev pub ReadsAs : Option Spelling → Result Decimal DecFault → Type 0
ReadsAs None result = result ≡ Err NotNumber
ReadsAs (Some s) result = (m p : ℕ) → IsValue s m p → result ≡ within_limits s.negative m p

-- what a spelling is read as
abbrev pub decimal_of_spelling : Option Spelling → Result Decimal DecFault
decimal_of_spelling None = Err NotNumber
decimal_of_spelling (Some s) = within_limits s.negative (mantissa_of s) (places_of s)

-- what a text is read as
unfoldable pub decimal_of : List ℕ → Result Decimal DecFault
decimal_of text = decimal_of_spelling (spelling_of text)

-- a decimal as it is read: within the limits, and a place is there only where it is needed
pub record IsNormal (d : Decimal) : Type 0 where
  pub places : d.places ≤ max_places
  pub mantissa : unsigned_abs d.mantissa ≤ max_mantissa
  pub fewest : 0 < d.places → unsigned_abs d.mantissa % 10 ≢ 0
