-- The words of what spokes answered and of the last pair, and what follows from the same words.
use Rattle.std.proofs.Common.{arith, ◌≡◌, ℕ, ◌+◌, ◌*◌, ◌<◌, ◌≤◌, Bool, true, false, if◌then◌else◌, List, [], ◌∷◌, ◌++◌, ℤ, pos, ◌*ℤ◌, unsigned_abs, Option, Some, None, refl, sym, ap, ◌∙◌, length, drop, map, codes, append_assoc, nat_lt}
use Rattle.std.proofs.lemmas.Int.{unsigned_abs-mul}
use Rattle.std.proofs.Math.Nat.{mul-le-mul}
use Rattle.std.specs.Fmt.{decimal, signed_decimal}
use Rattle.std.specs.List.{AllByRecursion, concat}
use Rattle.std.specs.Ordering.{int_eq}
use Rattle.base_words.proofs.Comparisons.{both_left, both_right}
use Rattle.std.proofs.lemmas.Bool.{and_from}
use Rattle.log_words.specs.declared.log.Answer.{Answer}
use Rattle.log_words.specs.declared.log.Answer.TheVariants.{Reply, Skip}
use Rattle.log_words.specs.declared.log.SpokeKind.{SpokeKind}
use Rattle.log_words.specs.declared.log.SpokeKind.TheVariants.{Lagrangian, Xhat}
use Rattle.log_words.specs.declared.log.SpokeLog.{SpokeLog}
use Rattle.run_text.specs.Bodies.{IsWorth, IsWorthIfAny, last_lines, worth_or_none}
use Rattle.std.proofs.lemmas.List.Folds.{concat-append}
use Rattle.run_text.specs.RunLines.{answer_text, kind_text, spoke_text, spokes_lines_from}
use Rattle.run_text.specs.Telling.{IsAnswer, IsLong, IsWide, IsWideIfAny}
use Rattle.run_text.specs.declared.worth.Worth.{Worth}
use Rattle.run_text.proofs.Reading.{byte_at, word_at}
use Rattle.run_text.proofs.Tokens.{AreTokens, Token, is_word, limit_word, long_word, next_word, told, wide_word}
use Rattle.text_lines.specs.Lines.{limit_text, line_of}
use Rattle.wide_num.specs.FractionText.{fraction_text}

-- the words of answers, in front of further ones
abbrev answers_tokens : List Answer → List Token → List Token
answers_tokens [] r = r
answers_tokens (Reply k value ∷ answers) r = (codes "reading", 32) ∷ (decimal k, 32) ∷ (limit_text value, 10) ∷ answers_tokens answers r
answers_tokens (Skip k s opened ∷ answers) r = (codes "skip", 32) ∷ (decimal k, 32) ∷ (decimal (s + 1), 10) ∷ answers_tokens answers r

abbrev kind_word : SpokeKind → List ℕ
kind_word Lagrangian = codes "lagrangian"
kind_word Xhat = codes "xhat"

-- the same of spokes, counted from i
abbrev pub spokes_tokens : ℕ → List SpokeLog → List Token → List Token
spokes_tokens i [] r = r
spokes_tokens i (spoke ∷ spokes) r =
    (codes "spoke", 32) ∷ (decimal (i + 1), 32) ∷ (kind_word spoke.kind, 10) ∷ answers_tokens spoke.answers (spokes_tokens (i + 1) spokes r)

two_told : (a b t : List ℕ) → a ++ (32 ∷ (b ++ (10 ∷ t))) ≡ (((a ++ (32 ∷ [])) ++ b) ++ (10 ∷ [])) ++ t
two_told a b t = simp append_assoc

three_parts : (a b c : List ℕ) → a ++ (b ++ c) ≡ (a ++ b) ++ c
three_parts a b c = sym (append_assoc a b c)

told_answers : (answers : List Answer) (r : List Token) → told (answers_tokens answers r) ≡ concat (map (λ (answer : Answer). line_of (answer_text answer)) answers) ++ told r
told_answers [] r = refl
told_answers (Reply k value ∷ answers) r =
    ap (λ rest. codes "reading " ++ (decimal k ++ (32 ∷ (limit_text value ++ (10 ∷ rest))))) (told_answers answers r)
    ∙ ap (λ rest. codes "reading " ++ rest) (two_told (decimal k) (limit_text value) (concat (map (λ (answer : Answer). line_of (answer_text answer)) answers) ++ told r))
    ∙ three_parts (line_of (answer_text (Reply k value))) (concat (map (λ (answer : Answer). line_of (answer_text answer)) answers)) (told r)
told_answers (Skip k s opened ∷ answers) r =
    ap (λ rest. codes "skip " ++ (decimal k ++ (32 ∷ (decimal (s + 1) ++ (10 ∷ rest))))) (told_answers answers r)
    ∙ ap (λ rest. codes "skip " ++ rest) (two_told (decimal k) (decimal (s + 1)) (concat (map (λ (answer : Answer). line_of (answer_text answer)) answers) ++ told r))
    ∙ three_parts (line_of (answer_text (Skip k s opened))) (concat (map (λ (answer : Answer). line_of (answer_text answer)) answers)) (told r)

kind_told : (a t : List ℕ) (kind : SpokeKind) → a ++ (32 ∷ (kind_word kind ++ (10 ∷ t))) ≡ ((a ++ kind_text kind) ++ (10 ∷ [])) ++ t
kind_told a t Lagrangian = simp append_assoc
kind_told a t Xhat = simp append_assoc

pub told_spokes : (i : ℕ) (spokes : List SpokeLog) (r : List Token) → told (spokes_tokens i spokes r) ≡ concat (spokes_lines_from i spokes) ++ told r
told_spokes i [] r = refl
told_spokes i (spoke ∷ spokes) r =
    let answers = map (λ (answer : Answer). line_of (answer_text answer)) spoke.answers in
    let others = spokes_lines_from (i + 1) spokes in
    let behind : told (answers_tokens spoke.answers (spokes_tokens (i + 1) spokes r)) ≡ concat (answers ++ others) ++ told r =
    told_answers spoke.answers (spokes_tokens (i + 1) spokes r)
    ∙ ap (λ rest. concat answers ++ rest) (told_spokes (i + 1) spokes r)
    ∙ three_parts (concat answers) (concat others) (told r)
    ∙ ap (λ lines. lines ++ told r) (sym (concat-append answers others)) in
    ap (λ rest. codes "spoke " ++ (decimal (i + 1) ++ (32 ∷ (kind_word spoke.kind ++ (10 ∷ rest))))) behind
    ∙ ap (λ rest. codes "spoke " ++ rest) (kind_told (decimal (i + 1)) (concat (answers ++ others) ++ told r) spoke.kind)
    ∙ three_parts (line_of (spoke_text i spoke.kind)) (concat (answers ++ others)) (told r)

answers_are : (answers : List Answer) (r : List Token) → AllByRecursion IsAnswer answers → AreTokens r → AreTokens (answers_tokens answers r)
answers_are [] r h k = k
answers_are (Reply n value ∷ answers) r h k = (refl, omega arith, (long_word n h.0.0, omega arith, (limit_word value h.0.1, omega arith, answers_are answers r h.1 k)))
answers_are (Skip n s opened ∷ answers) r h k = (refl, omega arith, (long_word n h.0.0, omega arith, (next_word s h.0.1, omega arith, answers_are answers r h.1 k)))

kind_is : (kind : SpokeKind) → is_word (kind_word kind) ≡ true
kind_is Lagrangian = refl
kind_is Xhat = refl

pub spokes_are : (i : ℕ) (spokes : List SpokeLog) (r : List Token) → IsLong (i + length spokes) → AllByRecursion (λ (spoke : SpokeLog). AllByRecursion IsAnswer spoke.answers) spokes → AreTokens r → AreTokens (spokes_tokens i spokes r)
spokes_are i [] r few h k = k
spokes_are i (spoke ∷ spokes) r few h k =
    let long : IsLong i = omega arith in
    let less : IsLong ((i + 1) + length spokes) = omega arith in
    (refl, omega arith, (next_word i long, omega arith, (kind_is spoke.kind, omega arith, answers_are spoke.answers (spokes_tokens (i + 1) spokes r) h.0 (spokes_are (i + 1) spokes r less h.1 k))))

-- what stands behind answers is the same
answers_rest : (answers others : List Answer) (r q : List Token) → 107 < byte_at 0 1 r → 107 < byte_at 0 1 q → answers_tokens answers r ≡ answers_tokens others q → r ≡ q
answers_rest [] [] r q a b e = e
answers_rest [] (Reply k value ∷ others) r q a b e = absurd (omega (arith, a, ap (byte_at 0 1) e))
answers_rest [] (Skip k s opened ∷ others) r q a b e = absurd (omega (arith, a, ap (byte_at 0 1) e))
answers_rest (Reply k value ∷ answers) [] r q a b e = absurd (omega (arith, b, ap (byte_at 0 1) e))
answers_rest (Skip k s opened ∷ answers) [] r q a b e = absurd (omega (arith, b, ap (byte_at 0 1) e))
answers_rest (Reply k value ∷ answers) (Reply k' value' ∷ others) r q a b e = answers_rest answers others r q a b (ap (drop 3) e)
answers_rest (Skip k s opened ∷ answers) (Skip k' s' opened' ∷ others) r q a b e = answers_rest answers others r q a b (ap (drop 3) e)
answers_rest (Reply k value ∷ answers) (Skip k' s' opened' ∷ others) r q a b e = absurd (omega (arith, ap (byte_at 0 1) e))
answers_rest (Skip k s opened ∷ answers) (Reply k' value' ∷ others) r q a b e = absurd (omega (arith, ap (byte_at 0 1) e))

spokes_byte : (i : ℕ) (spokes : List SpokeLog) (r : List Token) → byte_at 0 1 r ≡ 111 → 107 < byte_at 0 1 (spokes_tokens i spokes r)
spokes_byte i [] r a = omega (arith, a)
spokes_byte i (spoke ∷ spokes) r a = omega arith

-- what stands behind spokes is the same
pub spokes_rest : (i : ℕ) (spokes others : List SpokeLog) (r q : List Token) → byte_at 0 1 r ≡ 111 → byte_at 0 1 q ≡ 111 → spokes_tokens i spokes r ≡ spokes_tokens i others q → r ≡ q
spokes_rest i [] [] r q a b e = e
spokes_rest i [] (other ∷ others) r q a b e = absurd (omega (arith, a, ap (byte_at 0 1) e))
spokes_rest i (spoke ∷ spokes) [] r q a b e = absurd (omega (arith, b, ap (byte_at 0 1) e))
spokes_rest i (spoke ∷ spokes) (other ∷ others) r q a b e =
    spokes_rest (i + 1) spokes others r q a b
    (answers_rest spoke.answers other.answers (spokes_tokens (i + 1) spokes r) (spokes_tokens (i + 1) others q) (spokes_byte (i + 1) spokes r a) (spokes_byte (i + 1) others q b) (ap (drop 3) e))

-- the words of the last pair
abbrev pub upper_tokens : Option Worth → List Token
upper_tokens None = (codes "upper", 32) ∷ (codes "none", 10) ∷ []
upper_tokens (Some upper) = (codes "upper", 32) ∷ (signed_decimal upper.bound, 32) ∷ (codes "=", 32) ∷ (fraction_text upper.value, 10) ∷ []

abbrev pub last_tokens : Worth → Option Worth → List Token
last_tokens lower upper = (codes "lower", 32) ∷ (signed_decimal lower.bound, 32) ∷ (codes "=", 32) ∷ (fraction_text lower.value, 10) ∷ upper_tokens upper

worth_told : (a f t : List ℕ) → a ++ (32 ∷ 61 ∷ 32 ∷ (f ++ (10 ∷ t))) ≡ (((a ++ (32 ∷ 61 ∷ 32 ∷ [])) ++ f) ++ (10 ∷ [])) ++ t
worth_told a f t = simp append_assoc

told_upper : (upper : Option Worth) → told (upper_tokens upper) ≡ line_of (codes "upper " ++ worth_or_none upper) ++ []
told_upper None = refl
told_upper (Some upper) = ap (λ rest. codes "upper " ++ rest) (worth_told (signed_decimal upper.bound) (fraction_text upper.value) [])

pub told_last : (lower : Worth) (upper : Option Worth) → told (last_tokens lower upper) ≡ concat (last_lines lower upper)
told_last lower upper =
    ap (λ rest. codes "lower " ++ (signed_decimal lower.bound ++ (32 ∷ 61 ∷ 32 ∷ (fraction_text lower.value ++ (10 ∷ rest))))) (told_upper upper)
    ∙ ap (λ rest. codes "lower " ++ rest) (worth_told (signed_decimal lower.bound) (fraction_text lower.value) (line_of (codes "upper " ++ worth_or_none upper) ++ []))

-- what a bound is worth is a word
word_append : (v w : List ℕ) → is_word v ≡ true → is_word w ≡ true → is_word (v ++ w) ≡ true
word_append [] w h k = k
word_append (c ∷ v) w h k = and_from (nat_lt 32 c) (is_word (v ++ w)) (both_left (nat_lt 32 c) (is_word v) h) (word_append v w (both_right (nat_lt 32 c) (is_word v) h) k)

either_word : (t : Bool) (v w : List ℕ) → is_word v ≡ true → is_word w ≡ true → is_word (if t then v else w) ≡ true
either_word true v w h k = h
either_word false v w h k = k

grows : (n k : ℕ) → 0 < k → n ≤ n * k
grows n k h =
    let same : n ≤ n = omega arith in
    let one : 1 ≤ k = omega arith in
    let product = mul-le-mul same one in
    omega (arith, product)

part_wide : (whole part : ℤ) (k : ℕ) → IsWide whole → 0 < k → whole ≡ part *ℤ pos k → IsWide part
part_wide whole part k h some e = omega (arith, ap unsigned_abs e ∙ unsigned_abs-mul part (pos k), grows (unsigned_abs part) k some)

value_word : (unit bound : ℤ) (worth : Worth) → IsWide unit → IsWide bound → IsWorth unit bound worth → is_word (fraction_text worth.value) ≡ true
value_word unit bound worth hu hb w =
    let top = wide_word worth.value.top (part_wide bound worth.value.top w.lowest.1.0 hb w.lowest.1.1 w.lowest.1.2) in
    let bottom = wide_word worth.value.bottom (part_wide unit worth.value.bottom w.lowest.1.0 hu w.lowest.1.1 w.lowest.1.3) in
    either_word (int_eq worth.value.bottom (pos 1)) (signed_decimal worth.value.top) (signed_decimal worth.value.top ++ (47 ∷ signed_decimal worth.value.bottom)) top
    (word_append (signed_decimal worth.value.top) (47 ∷ signed_decimal worth.value.bottom) top bottom)

bound_word : (unit bound : ℤ) (worth : Worth) → IsWide bound → IsWorth unit bound worth → is_word (signed_decimal worth.bound) ≡ true
bound_word unit bound worth h w = ap (λ z. is_word (signed_decimal z)) w.bound_is ∙ wide_word bound h

upper_are : (unit : ℤ) (bound : Option ℤ) (upper : Option Worth) → IsWide unit → IsWideIfAny bound → IsWorthIfAny unit bound upper → AreTokens (upper_tokens upper)
upper_are unit None None hu h w = (refl, omega arith, (refl, omega arith, tt))
upper_are unit None (Some worth) hu h w = absurd w
upper_are unit (Some bound) None hu h w = absurd w
upper_are unit (Some bound) (Some worth) hu h w = (refl, omega arith, (bound_word unit bound worth h w, omega arith, (refl, omega arith, (value_word unit bound worth hu h w, omega arith, tt))))

pub last_are : (unit low : ℤ) (high : Option ℤ) (lower : Worth) (upper : Option Worth) → IsWide unit → IsWide low → IsWideIfAny high → IsWorth unit low lower → IsWorthIfAny unit high upper → AreTokens (last_tokens lower upper)
last_are unit low high lower upper hu hl hh w v =
    (refl, omega arith, (bound_word unit low lower hl w, omega arith, (refl, omega arith, (value_word unit low lower hu hl w, omega arith, upper_are unit high upper hu hh v))))

-- the bound that an upper line tells
bound_told : (unit : ℤ) (bound : Option ℤ) (upper : Option Worth) → IsWorthIfAny unit bound upper → word_at 1 (upper_tokens upper) ≡ limit_text bound
bound_told unit None None w = refl
bound_told unit None (Some worth) w = absurd w
bound_told unit (Some bound) None w = absurd w
bound_told unit (Some bound) (Some worth) w = ap signed_decimal w.bound_is

pub upper_told : (unit unit' : ℤ) (bound bound' : Option ℤ) (upper upper' : Option Worth) → IsWorthIfAny unit bound upper → IsWorthIfAny unit' bound' upper' → upper_tokens upper ≡ upper_tokens upper' → limit_text bound ≡ limit_text bound'
upper_told unit unit' bound bound' upper upper' w w' e = sym (bound_told unit bound upper w) ∙ ap (word_at 1) e ∙ bound_told unit' bound' upper' w'
