-- The stage of a number is one, and it is the number of periods that begin no later.
use Rattle.std.proofs.Common.{◌≡◌, refl, sym, subst, ℕ, suc, zero, ◌+◌, ◌-◌, ◌<◌, ◌≤◌, Bool, true, false, cond, nat_le, List, [], ◌∷◌, length, slice_index, arith, inl, inr}
use Rattle.std.proofs.lemmas.Bool.{cases_lt}
use Rattle.std.proofs.lemmas.Bool.Decides.{nat_tests}
use Rattle.std.proofs.lemmas.List.Recursion.{is_count_by}
use Rattle.std.proofs.lemmas.List.Sums.{count_by-le-length}
use Rattle.smps_words.specs.Stages.{IsStageOf, stage_in}

not_before : (firsts : List ℕ) (number stage other : ℕ) → IsStageOf firsts number stage → IsStageOf firsts number other → stage < other → ⊥
not_before firsts number stage other one two less =
    let there = two.there in
    let begun = two.begun in
    let later = one.later (other - 1) (omega arith) (omega arith) in
    omega arith

pub one_stage : (firsts : List ℕ) (number stage other : ℕ) → IsStageOf firsts number stage → IsStageOf firsts number other → stage ≡ other
one_stage firsts number stage other one two =
    elim (cases_lt stage other) [
      | inl less ↦ absurd (not_before firsts number stage other one two less)
      | inr more ↦ elim (cases_lt other stage) [
        | inl less ↦ absurd (not_before firsts number other stage two one less)
        | inr same ↦ omega (arith, more, same)
      ]
    ]

-- no number is below the one before it
abbrev pub Rises : List ℕ → Type 0
Rises firsts = (k : ℕ) → suc k < length firsts → slice_index firsts k ≤ slice_index firsts (suc k)

rises_behind : (first : ℕ) (rest : List ℕ) → Rises (first ∷ rest) → Rises rest
rises_behind first rest rises k h = rises (suc k) (omega (arith, h))

not_below_first : (first : ℕ) (rest : List ℕ) → Rises (first ∷ rest) → (k : ℕ) → k < length (first ∷ rest) → first ≤ slice_index (first ∷ rest) k
not_below_first first rest rises zero h = omega arith
not_below_first first rest rises (suc k) h =
    let before = not_below_first first rest rises k (omega (arith, h)) in
    let step = rises k (omega (arith, h)) in
    omega (arith, before, step)

-- how many of the numbers aren't greater than this one
abbrev counted : ℕ → List ℕ → ℕ
counted number [] = 0
counted number (first ∷ rest) = cond (nat_le first number) (1 + counted number rest) (counted number rest)

counted_is : (number : ℕ) (firsts : List ℕ) → counted number firsts ≡ stage_in firsts number
counted_is number firsts = is_count_by (counted number) (λ first. nat_le first number) refl (λ first rest. refl) firsts

later_one : (number first : ℕ) (rest : List ℕ) (test : Bool) → nat_le first number ≡ test → Rises (first ∷ rest) → ((k : ℕ) → counted number rest ≤ k → k < length rest → number < slice_index rest k) → (k : ℕ) → cond test (1 + counted number rest) (counted number rest) ≤ k → k < length (first ∷ rest) → number < slice_index (first ∷ rest) k
later_one number first rest true is rises more zero from h = absurd (omega (arith, from))
later_one number first rest true is rises more (suc k) from h = more k (omega (arith, from)) (omega (arith, h))
later_one number first rest false is rises more k from h =
    let front = not_below_first first rest rises k h in
    let less : number < first = grind (arith, nat_tests, is) in
    omega (arith, front, less)

later : (number : ℕ) (firsts : List ℕ) → Rises firsts → (k : ℕ) → counted number firsts ≤ k → k < length firsts → number < slice_index firsts k
later number [] rises k from h = absurd (omega (arith, h))
later number (first ∷ rest) rises k from h = later_one number first rest (nat_le first number) refl rises (later number rest (rises_behind first rest rises)) k from h

begun_one : (number first : ℕ) (rest : List ℕ) (test : Bool) → nat_le first number ≡ test → Rises (first ∷ rest) → counted number rest ≤ length rest → ((k : ℕ) → k < counted number rest → slice_index rest k ≤ number) → (k : ℕ) → k < cond test (1 + counted number rest) (counted number rest) → slice_index (first ∷ rest) k ≤ number
begun_one number first rest true is rises few more zero h = grind (arith, nat_tests, is)
begun_one number first rest true is rises few more (suc k) h = more k (omega (arith, h))
begun_one number first rest false is rises few more k h =
    let front = not_below_first first rest rises (suc k) (omega (arith, h, few)) in
    let less : number < first = grind (arith, nat_tests, is) in
    let no = more k h in
    absurd (omega (arith, front, less, no))

few : (number : ℕ) (firsts : List ℕ) → counted number firsts ≤ length firsts
few number firsts = subst (λ n. n ≤ length firsts) (sym (counted_is number firsts)) (count_by-le-length (λ first. nat_le first number) firsts)

begun : (number : ℕ) (firsts : List ℕ) → Rises firsts → (k : ℕ) → k < counted number firsts → slice_index firsts k ≤ number
begun number [] rises k h = absurd (omega (arith, h))
begun number (first ∷ rest) rises k h = begun_one number first rest (nat_le first number) refl rises (few number rest) (begun number rest (rises_behind first rest rises)) k h

some_begin : (number : ℕ) (firsts : List ℕ) → Rises firsts → 0 < length firsts → slice_index firsts 0 ≡ 0 → 1 ≤ counted number firsts
some_begin number firsts rises some front =
    elim (cases_lt 0 (counted number firsts)) [
      | inl more ↦ omega (arith, more)
      | inr none ↦ let past = later number firsts rises 0 (omega (arith, none)) some in absurd (omega (arith, past, front))
    ]

stage_counted : (firsts : List ℕ) (number : ℕ) → Rises firsts → 0 < length firsts → slice_index firsts 0 ≡ 0 → IsStageOf firsts number (counted number firsts)
stage_counted firsts number rises some front =
    let one = some_begin number firsts rises some front in
    record {
      counted = one;
      there = few number firsts;
      begun = begun number firsts rises (counted number firsts - 1) (omega (arith, one));
      later = later number firsts rises;
    }

-- the count of periods that begin no later is the stage, where they begin in order and the first at 0
pub stage_is : (firsts : List ℕ) (number : ℕ) → Rises firsts → 0 < length firsts → slice_index firsts 0 ≡ 0 → IsStageOf firsts number (stage_in firsts number)
stage_is firsts number rises some front = subst (λ n. IsStageOf firsts number n) (counted_is number firsts) (stage_counted firsts number rises some front)
