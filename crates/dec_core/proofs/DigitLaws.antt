-- the number of a row of digits, one digit more
use Rattle.std.proofs.Common.{◌≡◌, ℕ, ◌+◌, ◌-◌, ◌*◌, ◌<◌, ◌++◌, ◌∷◌, [], List, true, min, length, get_or, take, sym, ap, ◌∙◌, arith}
use Rattle.std.specs.Char.{is_ascii_digit, digit_value}
use Rattle.std.specs.Int.{IsInRange}
use Rattle.std.specs.List.{list_all}
use Rattle.std.specs.Str.Parse.{digits_value}
use Rattle.std.proofs.lemmas.Bool.Decides.{nat_tests}
use Rattle.std.proofs.lemmas.Int.Digits.{digits_value_more, digits_value_push}
use Rattle.std.proofs.lemmas.List.{append_assoc, take_more}
use Rattle.std.proofs.lemmas.List.Sums.{AllPass-from_list_all}
use Rattle.std.proofs.lemmas.Str.{digit_value_digit}

-- an item of a row of digits is a digit
digit_range : (byte : ℕ) → is_ascii_digit byte ≡ true → IsInRange 48 57 byte
digit_range byte h = grind (arith, nat_tests)

-- what an item of a row of digits is worth
digit_at : (ds : List ℕ) (i : ℕ) → list_all is_ascii_digit ds ≡ true → i < length ds → digit_value (get_or ds i 0) + 48 ≡ get_or ds i 0
digit_at ds i h l = digit_value_digit (get_or ds i 0) (digit_range (get_or ds i 0) (AllPass-from_list_all is_ascii_digit ds h i 0 l))

-- one digit more
pub digits_more : (ds : List ℕ) (i : ℕ) → list_all is_ascii_digit ds ≡ true → i < length ds → digits_value 10 (take (i + 1) ds) ≡ digits_value 10 (take i ds) * 10 + (get_or ds i 0 - 48)
digits_more ds i h l =
    let e = digit_at ds i h l in
    omega (arith, digits_value_more 10 ds i l)

-- a cap that is taken at each step
capped_more : (n d c : ℕ) → min (min n c * 10 + d) c ≡ min (n * 10 + d) c
capped_more n d c = omega arith

-- one digit more behind others
pub digits_behind : (front ds : List ℕ) (i : ℕ) → list_all is_ascii_digit ds ≡ true → i < length ds → digits_value 10 (front ++ take (i + 1) ds) ≡ digits_value 10 (front ++ take i ds) * 10 + (get_or ds i 0 - 48)
digits_behind front ds i h l =
    let e = digit_at ds i h l in
    let t : front ++ take (i + 1) ds ≡ front ++ take i ds ++ get_or ds i 0 ∷ [] =
    ap (λ bs. front ++ bs) (take_more ds i 0 l) ∙ sym (append_assoc front (take i ds) (get_or ds i 0 ∷ [])) in
    omega (arith, ap (digits_value 10) t ∙ digits_value_push 10 (front ++ take i ds) (get_or ds i 0))
