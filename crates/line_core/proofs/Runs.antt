-- the fields of a text are its longest runs of bytes that aren't blanks
use Rattle.std.proofs.Common.{◌≡◌, ℕ, ◌+◌, ◌-◌, ◌<◌, ◌≤◌, suc, zero, Bool, true, false, List, [], ◌∷◌, ◌++◌, length, drop, get_or, position, Option, Some, None, refl, sym, ap, ◌∙◌, ◌⊎◌, inl, inr, subst, arith, append-nil}
use Rattle.std.specs.List.{All, AllPairs, Contains}
use Rattle.std.proofs.lemmas.Bool.{cases_lt}
use Rattle.std.proofs.lemmas.Bool.Decides.{nat_tests}
use Rattle.std.proofs.lemmas.Grind.{common_steps}
use Rattle.std.proofs.lemmas.List.Elements.{All-nil, All-cons, All-weaker, Contains-append_right}
use Rattle.std.proofs.lemmas.List.Kept.{AllPairs-cons}
use Rattle.std.proofs.lemmas.List.{get_or-drop}
use Rattle.std.proofs.lemmas.List.Sums.{fails_before_first}
use Rattle.std.proofs.lemmas.List.Quantifiers.{position-Some}
use Rattle.base_words.proofs.Booleans.{not_both}
use Rattle.line_core.specs.Fields.{is_blank, run_span, fields_at}
use Rattle.line_core.specs.Runs.{IsFieldAt, IsFieldOf, IsBefore}
use Rattle.line_core.specs.declared.field_list.Span.{Span}
use Rattle.line_core.proofs.Parts.{fields_turn, fields_end}

-- no element passes where there is no first one
fails_at : {X : Type 0} (p : X → Bool) (xs : List X) (k : ℕ) (d : X) → position p xs ≡ None → k < length xs → p (get_or xs k d) ≡ false
fails_at p xs k d e h = fails_before_first p xs k d (grind (arith, common_steps))

-- no blank stands from a place up to another, and blanks or the ends of the text on both sides
record IsStretch (text : List ℕ) (at stop : ℕ) : Type 0 where
  ordered : at ≤ stop
  within : stop ≤ length text
  solid : (k : ℕ) → at ≤ k → k < stop → is_blank (get_or text k 0) ≡ false
  before : (k : ℕ) → k + 1 ≡ at → is_blank (get_or text k 0) ≡ true
  after : stop < length text → is_blank (get_or text stop 0) ≡ true

-- a stretch with a byte is a run
run_of : (text : List ℕ) (at stop : ℕ) → IsStretch text at stop → at < stop → IsFieldAt text at stop
run_of text at stop s h = record { some = h; within = s.within; unbroken = s.solid; begins = s.before; ends = s.after }

-- a run that begins in a stretch begins and ends with it
begins_with : (text : List ℕ) (at stop first last : ℕ) → IsStretch text at stop → IsFieldAt text first last → at ≤ first → first ≤ stop → first ≡ at
begins_with text at stop first last s r low high =
    elim (cases_lt at first) [
      | inl h ↦ absurd (not_both (is_blank (get_or text (first - 1) 0)) (r.begins (first - 1) (omega arith)) (s.solid (first - 1) (omega arith) (omega arith)))
      | inr h ↦ omega arith
    ]

ends_with : (text : List ℕ) (at stop first last : ℕ) → IsStretch text at stop → IsFieldAt text first last → at ≤ first → first ≤ stop → last ≡ stop
ends_with text at stop first last s r low high =
    elim (cases_lt last stop) [
      | inl h ↦ absurd (not_both (is_blank (get_or text last 0)) (r.ends (omega (arith, s.within))) (s.solid last (omega (arith, r.some)) h))
      | inr h ↦ elim (cases_lt stop last) [
        | inl g ↦ absurd (not_both (is_blank (get_or text stop 0)) (s.after (omega (arith, r.within))) (r.unbroken stop high g))
        | inr g ↦ omega arith
      ]
    ]

abbrev pub the_span : ℕ → ℕ → Span
the_span a b = record { start = a; end = b }

-- a field that begins at a place of the text or behind it
abbrev pub IsFieldFrom : ℕ → ℕ → List ℕ → Span → Type 0
IsFieldFrom start at text span = (start + at ≤ span.start) × IsFieldOf start text span

-- what is said of the fields from a place of the text on
pub record AreFields (start at : ℕ) (text : List ℕ) (spans : List Span) : Type 0 where
  pub each : All (IsFieldFrom start at text) spans
  pub every : (first last : ℕ) → at ≤ first → IsFieldAt text first last → Contains spans (the_span (start + first) (start + last))
  pub rise : AllPairs IsBefore spans

same_span : (a b c d : ℕ) → a ≡ c → b ≡ d → the_span a b ≡ the_span c d
same_span a b c d e f = λ i. the_span (e i) (f i)

-- the rest of the fields, behind a stretch that has no byte
skip_none : (start at : ℕ) (text : List ℕ) (rest : List Span) → IsStretch text at at → AreFields start (at + 1) text rest → AreFields start at text rest
skip_none start at text rest s f = record {
  each = All-weaker (IsFieldFrom start (at + 1) text) (IsFieldFrom start at text) (λ span h. (omega (arith, h.0), h.1)) rest f.each;
  every = λ first last low r. elim (cases_lt at first) [
    | inl h ↦ f.every first last (omega arith) r
    | inr h ↦ absurd (not_both (is_blank (get_or text at 0)) (s.after (omega (arith, r.some, r.within))) (r.unbroken at h (omega (arith, r.some))))
  ];
  rise = f.rise;
}

-- and behind one that has bytes
take_one : (start at n : ℕ) (text : List ℕ) (rest : List Span) → IsStretch text at (at + suc n) → AreFields start (at + (suc n + 1)) text rest → AreFields start at text (the_span (start + at) (start + at + suc n) ∷ rest)
take_one start at n text rest s f =
    let one = the_span (start + at) (start + at + suc n) in
    let first_is : at ≡ start + at - start = omega arith in
    let last_is : at + suc n ≡ start + at + suc n - start = omega arith in
    let run : IsFieldAt text at (at + suc n) = run_of text at (at + suc n) s (omega arith) in
    let low : start + at ≤ start + at = omega arith in
    let here : start ≤ start + at = omega arith in
    record {
      each = All-cons (IsFieldFrom start at text) one rest (low, (here, subst (λ a. IsFieldAt text a (start + at + suc n - start)) first_is (subst (λ b. IsFieldAt text at b) last_is run)))
          (All-weaker (IsFieldFrom start (at + (suc n + 1)) text) (IsFieldFrom start at text) (λ span h. (omega (arith, h.0), h.1)) rest f.each);
      every = λ first last low r. elim (cases_lt (at + suc n) first) [
        | inl h ↦ Contains-append_right (one ∷ []) rest (the_span (start + first) (start + last)) (f.every first last (omega arith) r)
        | inr h ↦
            let begins = begins_with text at (at + suc n) first last s r low h in
            let ends = ends_with text at (at + suc n) first last s r low h in
            (0, omega arith, same_span (start + at) (start + at + suc n) (start + first) (start + last) (omega arith) (omega arith))
      ];
      rise = AllPairs-cons IsBefore one rest (All-weaker (IsFieldFrom start (at + (suc n + 1)) text) (IsBefore one) (λ span h. omega (arith, h.0)) rest f.each) f.rise;
    }

run_some : (start n : ℕ) → run_span start (suc n) ≡ the_span start (start + suc n) ∷ []
run_some start n = grind (arith, nat_tests)

-- so behind each stretch
behind : (start at count : ℕ) (text : List ℕ) (rest : List Span) → IsStretch text at (at + count) → AreFields start (at + (count + 1)) text rest → AreFields start at text (run_span (start + at) count ++ rest)
behind start at zero text rest s f = skip_none start at text rest (subst (IsStretch text at) (omega arith) s) f
behind start at (suc n) text rest s f = subst (λ spans. AreFields start at text (spans ++ rest)) (sym (run_some (start + at) n)) (take_one start at n text rest s f)

-- past the end of the text there are no fields
none_left : (start at : ℕ) (text : List ℕ) → length text ≤ at → AreFields start at text []
none_left start at text h = record {
  each = All-nil _;
  every = λ first last low r. absurd (omega (arith, r.some, r.within));
  rise = λ i j d lt len. absurd (omega arith);
}

-- an element that passes behind a place stands in the list
pub small_place : {X : Type 0} (p : X → Bool) (xs : List X) (at k : ℕ) (d : X) → position p (drop at xs) ≡ Some k → at + k < length xs
small_place p xs at k d e = grind (arith, common_steps, (position-Some p (drop at xs) k d e).0)

-- the stretch up to the next blank
stretch_some : (text : List ℕ) (at k : ℕ) → ((j : ℕ) → j + 1 ≡ at → is_blank (get_or text j 0) ≡ true) → position is_blank (drop at text) ≡ Some k → (at + k < length text) × IsStretch text at (at + k)
stretch_some text at k before e =
    let h = position-Some is_blank (drop at text) k 0 e in
    let small : at + k < length text = grind (arith, common_steps, h.0) in (
      small,
      record {
        ordered = omega arith;
        within = omega arith;
        solid = λ j low high.
            let there : at + (j - at) ≡ j = omega arith in
            ap is_blank (sym (get_or-drop at text (j - at) 0 ∙ ap (λ n. get_or text n 0) there)) ∙ h.2 (j - at) (omega arith);
        before = before;
        after = λ g. ap is_blank (sym (get_or-drop at text k 0)) ∙ h.1;
      },
    )

-- the one up to the end
stretch_none : (text : List ℕ) (at : ℕ) → at ≤ length text → ((j : ℕ) → j + 1 ≡ at → is_blank (get_or text j 0) ≡ true) → position is_blank (drop at text) ≡ None → IsStretch text at (at + (length text - at))
stretch_none text at within before e = record {
  ordered = omega arith;
  within = omega arith;
  solid = λ j low high.
      let there : at + (j - at) ≡ j = omega arith in
      let small : j - at < length (drop at text) = grind (arith, common_steps) in
      ap is_blank (sym (get_or-drop at text (j - at) 0 ∙ ap (λ n. get_or text n 0) there)) ∙ fails_at is_blank (drop at text) (j - at) 0 e small;
  before = before;
  after = λ g. absurd (omega arith);
}

last_fields : (start at : ℕ) (text : List ℕ) → at ≤ length text → ((j : ℕ) → j + 1 ≡ at → is_blank (get_or text j 0) ≡ true) → position is_blank (drop at text) ≡ None → AreFields start at text (fields_at (start + at) (drop at text))
last_fields start at text within before e =
    subst (AreFields start at text) (append-nil _ ∙ sym (fields_end start at text e within))
    (behind start at (length text - at) text [] (stretch_none text at within before e) (none_left start (at + (length text - at + 1)) text (omega arith)))

more_fields : (start at k : ℕ) (text : List ℕ) → ((j : ℕ) → j + 1 ≡ at → is_blank (get_or text j 0) ≡ true) → position is_blank (drop at text) ≡ Some k → AreFields start (at + (k + 1)) text (fields_at (start + (at + (k + 1))) (drop (at + (k + 1)) text)) → AreFields start at text (fields_at (start + at) (drop at text))
more_fields start at k text before e f =
    let s = stretch_some text at k before e in
    subst (AreFields start at text) (sym (fields_turn start at k text e (omega (arith, s.0)))) (behind start at k text _ s.1 f)

pub option_cases : {X : Type 0} (r : Option X) → (r ≡ None) ⊎ ((x : X) × (r ≡ Some x))
option_cases None = inl refl
option_cases (Some x) = inr (x, refl)

next_before : (text : List ℕ) (at k : ℕ) → is_blank (get_or text (at + k) 0) ≡ true → (j : ℕ) → j + 1 ≡ at + (k + 1) → is_blank (get_or text j 0) ≡ true
next_before text at k blank j e =
    let same : j ≡ at + k = omega arith in
    ap (λ n. is_blank (get_or text n 0)) same ∙ blank

are_fields : (n start at : ℕ) (text : List ℕ) → length text ≤ at + n → at ≤ length text → ((j : ℕ) → j + 1 ≡ at → is_blank (get_or text j 0) ≡ true) → AreFields start at text (fields_at (start + at) (drop at text))
are_fields zero start at text many within before =
    elim (option_cases (position is_blank (drop at text))) [
      | inl e ↦ last_fields start at text within before e
      | inr s ↦ absurd (omega (arith, (stretch_some text at s.0 before s.1).0))
    ]
are_fields (suc n) start at text many within before =
    elim (option_cases (position is_blank (drop at text))) [
      | inl e ↦ last_fields start at text within before e
      | inr s ↦
          let stretch = stretch_some text at s.0 before s.1 in
          more_fields start at s.0 text before s.1
          (are_fields n start (at + (s.0 + 1)) text (omega arith) (omega (arith, stretch.0)) (next_before text at s.0 (stretch.1.after stretch.0)))
    ]

all_fields : (start : ℕ) (text : List ℕ) → AreFields start 0 text (fields_at start text)
all_fields start text =
    let none : start + 0 ≡ start = omega arith in
    subst (λ a. AreFields start 0 text (fields_at a text)) none
    (are_fields (length text) start 0 text (omega arith) (omega arith) (λ j e. absurd (omega arith)))

pub each_field : (start : ℕ) (text : List ℕ) → All (IsFieldOf start text) (fields_at start text)
each_field start text = All-weaker (IsFieldFrom start 0 text) (IsFieldOf start text) (λ span h. h.1) (fields_at start text) (all_fields start text).each

pub every_field : (start : ℕ) (text : List ℕ) (span : Span) → IsFieldOf start text span → Contains (fields_at start text) span
every_field start text span h =
    let a : start + (span.start - start) ≡ span.start = omega (arith, h.0) in
    let b : start + (span.end - start) ≡ span.end = omega (arith, h.0, h.1.some) in
    subst (Contains (fields_at start text)) (same_span _ _ span.start span.end a b)
    ((all_fields start text).every (span.start - start) (span.end - start) (omega arith) h.1)

pub fields_rise : (start : ℕ) (text : List ℕ) → AllPairs IsBefore (fields_at start text)
fields_rise start text = (all_fields start text).rise
