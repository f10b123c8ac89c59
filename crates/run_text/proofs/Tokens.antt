-- A text of words, each with the blank or the newline behind it, has these words and no others.
use Rattle.std.specs.Prelude.{⊤}
use Rattle.std.proofs.Common.{arith, ◌≡◌, ◌⊎◌, inl, inr, ℕ, suc, ◌+◌, ◌<◌, ◌≤◌, ◌^◌, Bool, true, List, [], ◌∷◌, ◌++◌, ℤ, pos, negsuc, unsigned_abs, Option, Some, None, refl, sym, ap, ◌∙◌, subst, length, get_or, drop, nat_lt, codes, length-append}
use Rattle.std.proofs.lemmas.Fmt.{decimal_is_IsNumeral_wide}
use Rattle.std.proofs.lemmas.Str.Parse.{digit_from_value}
use Rattle.std.specs.Fmt.{decimal, signed_decimal}
use Rattle.std.specs.List.{list_all}
use Rattle.std.specs.Str.Parse.{AllDigits, digits_value}
use Rattle.base_words.proofs.Comparisons.{both_left, both_right}
use Rattle.base_words.proofs.NumberTests.{less_from_test, test_from_less}
use Rattle.std.proofs.lemmas.Bool.{and_from}
use Rattle.run_log.specs.declared.log.Source.{Source}
use Rattle.run_log.specs.declared.log.Source.TheVariants.{Hub, Spoke}
use Rattle.run_text.specs.RunLines.{source_text}
use Rattle.run_text.specs.Telling.{IsLong, IsSource, IsWide, IsWideIfAny}
use Rattle.text_lines.specs.Lines.{limit_text}

-- a word and the byte behind it
abbrev pub Token : Type 0
Token = List ℕ × ℕ

-- no byte of a word is a blank (32) or a newline (10)
abbrev pub is_word : List ℕ → Bool
is_word word = list_all (λ byte. nat_lt 32 byte) word

abbrev pub AreTokens : List Token → Type 0
AreTokens [] = ⊤
AreTokens (t ∷ ts) = (is_word t.0 ≡ true) × (t.1 ≤ 32) × AreTokens ts

-- the text of some tokens
abbrev pub told : List Token → List ℕ
told [] = []
told (t ∷ ts) = t.0 ++ (t.1 ∷ told ts)

first_byte : List ℕ → ℕ
first_byte bytes = get_or bytes 0 0

not_both : (s y : ℕ) → s ≡ y → s ≤ 32 → 32 < y → ⊥
not_both s y e h k = omega arith

-- the first word ends where a blank or a newline stands
first_token : (w v : List ℕ) (s z : ℕ) (r q : List ℕ) → is_word w ≡ true → is_word v ≡ true → s ≤ 32 → z ≤ 32 → w ++ (s ∷ r) ≡ v ++ (z ∷ q) → (w ≡ v) × (s ≡ z) × (r ≡ q)
first_token [] [] s z r q hw hv hs hz e = (refl, ap (λ l. get_or l 0 0) e, ap (drop 1) e)
first_token [] (y ∷ v) s z r q hw hv hs hz e = absurd (not_both s y (ap (λ l. get_or l 0 0) e) hs (less_from_test 32 y (both_left (nat_lt 32 y) (is_word v) hv)))
first_token (x ∷ w) [] s z r q hw hv hs hz e = absurd (not_both z x (sym (ap (λ l. get_or l 0 0) e)) hz (less_from_test 32 x (both_left (nat_lt 32 x) (is_word w) hw)))
first_token (x ∷ w) (y ∷ v) s z r q hw hv hs hz e =
    let rest = first_token w v s z r q (both_right (nat_lt 32 x) (is_word w) hw) (both_right (nat_lt 32 y) (is_word v) hv) hs hz (ap (drop 1) e) in
    let head : x ≡ y = ap (λ l. get_or l 0 0) e in
    ((λ i. head i ∷ rest.0 i), rest.1, rest.2)

-- equal texts have the same tokens
pub same_tokens : (ts us : List Token) → AreTokens ts → AreTokens us → told ts ≡ told us → ts ≡ us
same_tokens [] [] h k e = refl
same_tokens [] (u ∷ us) h k e = absurd (omega (arith, ap length e, length-append u.0 (u.1 ∷ told us)))
same_tokens (t ∷ ts) [] h k e = absurd (omega (arith, ap length e, length-append t.0 (t.1 ∷ told ts)))
same_tokens (t ∷ ts) (u ∷ us) h k e =
    let one = first_token t.0 u.0 t.1 u.1 (told ts) (told us) h.0 k.0 h.1 k.1 e in
    let rest = same_tokens ts us h.2 k.2 one.2 in
    λ i. (one.0 i, one.1 i) ∷ rest i

-- numbers are words, and say which number they are

digits_word : (ds : List ℕ) → AllDigits 10 ds → is_word ds ≡ true
digits_word [] d = refl
digits_word (c ∷ cs) d = and_from (nat_lt 32 c) (is_word cs) (test_from_less 32 c (omega (arith, digit_from_value c d.0))) (digits_word cs d.1)

pub decimal_word : (n : ℕ) → n < 10 ^ 64 → is_word (decimal n) ≡ true
decimal_word n h = digits_word (decimal n) (decimal_is_IsNumeral_wide n h).0.1

pub decimal_same : (m n : ℕ) → m < 10 ^ 64 → n < 10 ^ 64 → decimal m ≡ decimal n → m ≡ n
decimal_same m n h k e = sym (decimal_is_IsNumeral_wide m h).1 ∙ ap (digits_value 10) e ∙ (decimal_is_IsNumeral_wide n k).1

-- the first byte of a number is a digit
never_digit : (c n : ℕ) (cs : List ℕ) → n < 10 ^ 64 → decimal n ≡ c ∷ cs → (c < 48) ⊎ (57 < c) → ⊥
never_digit c n cs h e (inl low) = omega (arith, digit_from_value c (subst (AllDigits 10) e (decimal_is_IsNumeral_wide n h).0.1).0)
never_digit c n cs h e (inr high) = omega (arith, digit_from_value c (subst (AllDigits 10) e (decimal_is_IsNumeral_wide n h).0.1).0)

pub signed_word : (z : ℤ) → unsigned_abs z < 10 ^ 64 → is_word (signed_decimal z) ≡ true
signed_word (pos n) h = decimal_word n h
signed_word (negsuc n) h = decimal_word (suc n) h

pub signed_same : (y z : ℤ) → unsigned_abs y < 10 ^ 64 → unsigned_abs z < 10 ^ 64 → signed_decimal y ≡ signed_decimal z → y ≡ z
signed_same (pos m) (pos n) h k e = ap pos (decimal_same m n h k e)
signed_same (pos m) (negsuc n) h k e = absurd (never_digit 45 m (decimal (suc n)) h e (inl (omega arith)))
signed_same (negsuc m) (pos n) h k e = absurd (never_digit 45 n (decimal (suc m)) k (sym e) (inl (omega arith)))
signed_same (negsuc m) (negsuc n) h k e = ap negsuc (omega (arith, decimal_same (suc m) (suc n) h k (ap (drop 1) e)))

-- a signed number doesn't begin with a letter
never_letter : (c : ℕ) (cs : List ℕ) (z : ℤ) → unsigned_abs z < 10 ^ 64 → 57 < c → c ∷ cs ≡ signed_decimal z → ⊥
never_letter c cs (pos n) h high e = never_digit c n cs h (sym e) (inr high)
never_letter c cs (negsuc n) h high e = omega (arith, ap (λ l. get_or l 0 0) e)

wide : (z : ℤ) → IsWide z → unsigned_abs z < 10 ^ 64
wide z h = omega arith

pub wide_word : (z : ℤ) → IsWide z → is_word (signed_decimal z) ≡ true
wide_word z h = signed_word z (wide z h)

pub wide_same : (y z : ℤ) → IsWide y → IsWide z → signed_decimal y ≡ signed_decimal z → y ≡ z
wide_same y z h k e = signed_same y z (wide y h) (wide z k) e

pub limit_word : (limit : Option ℤ) → IsWideIfAny limit → is_word (limit_text limit) ≡ true
limit_word None h = refl
limit_word (Some z) h = wide_word z h

pub limit_same : (limit other : Option ℤ) → IsWideIfAny limit → IsWideIfAny other → limit_text limit ≡ limit_text other → limit ≡ other
limit_same None None h k e = refl
limit_same None (Some z) h k e = absurd (never_letter 110 (codes "one") z (wide z k) (omega arith) e)
limit_same (Some y) None h k e = absurd (never_letter 110 (codes "one") y (wide y h) (omega arith) (sym e))
limit_same (Some y) (Some z) h k e = ap Some (wide_same y z h k e)

pub long_word : (n : ℕ) → IsLong n → is_word (decimal n) ≡ true
long_word n h = decimal_word n (omega arith)

pub long_same : (m n : ℕ) → IsLong m → IsLong n → decimal m ≡ decimal n → m ≡ n
long_same m n h k e = decimal_same m n (omega arith) (omega arith) e

pub next_word : (n : ℕ) → IsLong n → is_word (decimal (n + 1)) ≡ true
next_word n h = decimal_word (n + 1) (omega arith)

pub next_same : (m n : ℕ) → IsLong m → IsLong n → decimal (m + 1) ≡ decimal (n + 1) → m ≡ n
next_same m n h k e = omega (arith, decimal_same (m + 1) (n + 1) (omega arith) (omega arith) e)

pub source_word : (source : Source) → IsSource source → is_word (source_text source) ≡ true
source_word Hub h = refl
source_word (Spoke i) h = next_word i h

pub source_same : (source other : Source) → IsSource source → IsSource other → source_text source ≡ source_text other → source ≡ other
source_same Hub Hub h k e = refl
source_same Hub (Spoke i) h k e = absurd (never_digit 104 (i + 1) (codes "ub") (omega arith) (sym e) (inr (omega arith)))
source_same (Spoke i) Hub h k e = absurd (never_digit 104 (i + 1) (codes "ub") (omega arith) e (inr (omega arith)))
source_same (Spoke i) (Spoke j) h k e = ap Spoke (next_same i j h k e)
