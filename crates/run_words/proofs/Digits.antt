-- The number that digits write, one digit more at a time.
use Rattle.std.proofs.Common.{arith, ◌≡◌, ◌≤◌, ◌<◌, ◌+◌, ◌*◌, ◌^◌, ℕ, Bool, true, false, List, take, get_or, length, refl, ◌∙◌, sym, ap, lit≤}
use Rattle.std.specs.List.{list_all}
use Rattle.std.specs.Char.{digit_value}
use Rattle.std.specs.Str.Parse.{digits_value}
use Rattle.std.proofs.Math.Nat.{pow-suc, pow-le-pow_right}
use Rattle.std.proofs.lemmas.Bool.Decides.{nat_tests}
use Rattle.std.proofs.lemmas.Int.Digits.{digits_value_more}
use Rattle.std.proofs.lemmas.List.Folds.{list_all_at}
use Rattle.std.proofs.lemmas.Str.{digit_value_digit}
use Rattle.run_words.specs.Numerals.{is_digit}

digit_from_test : (b : ℕ) → is_digit b ≡ true → (48 ≤ b) × (b ≤ 57)
digit_from_test b e = (grind (arith, nat_tests), grind (arith, nat_tests))

-- each byte of digits lies between 0 and 9
pub digit_in : (text : List ℕ) (i : ℕ) → list_all is_digit text ≡ true → i < length text → (48 ≤ get_or text i 0) × (get_or text i 0 ≤ 57)
digit_in text i all h = digit_from_test (get_or text i 0) (by_test (is_digit (get_or text i 0)) refl)
  where
    by_test : (t : Bool) → is_digit (get_or text i 0) ≡ t → is_digit (get_or text i 0) ≡ true
    by_test true e = e
    by_test false e = let f = list_all_at is_digit text i 0 h e in cc

-- one digit more
pub next_value : (text : List ℕ) (i v d : ℕ) → list_all is_digit text ≡ true → i < length text → v ≡ digits_value 10 (take i text) → d + 48 ≡ get_or text i 0 → v * 10 + d ≡ digits_value 10 (take (i + 1) text)
next_value text i v d all h e f =
    let r = digit_in text i all h in
    let g : digit_value (get_or text i 0) + 48 ≡ get_or text i 0 = digit_value_digit (get_or text i 0) r in
    let s : d ≡ digit_value (get_or text i 0) = omega arith in
    ap (λ n. n * 10 + d) e ∙ (ap (λ n. digits_value 10 (take i text) * 10 + n) s ∙ sym (digits_value_more 10 text i h))

-- the number of i digits, with one more behind it
pub value_below : (i v d : ℕ) → v < 10 ^ i → d ≤ 9 → v * 10 + d < 10 ^ (i + 1)
value_below i v d h k =
    let e : 10 ^ (i + 1) ≡ 10 ^ i * 10 = ap (λ n. 10 ^ n) (omega arith) ∙ pow-suc 10 i in
    omega (arith, e)

pub power_below : (i : ℕ) → i ≤ 19 → 10 ^ i ≤ 10 ^ 19
power_below i h = pow-le-pow_right {n = 10} (lit≤ tt) h
