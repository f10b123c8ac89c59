-- Two combinations have the same mark at a stage exactly where they choose the same in every element of a period up to it.
use Rattle.std.proofs.Common.{arith, refl, ◌≡◌, ◌↔◌, ◌<◌, ◌≤◌, ◌+◌, ◌*◌, ◌/◌, ◌%◌, ℕ, zero, suc, Bool, true, false, nat_le, if◌then◌else◌, ap, ◌∙◌, sym, subst, inl, inr, length, List, slice_index}
use Rattle.std.proofs.lemmas.Bool.{cases_lt}
use Rattle.std.proofs.lemmas.Bool.Decides.{nat_tests}
use Rattle.std.proofs.lemmas.Nat.{div-mul-add, mod-mul-add}
use Rattle.smps_stoch.specs.declared.stoch.Element.{Element}
use Rattle.scenario_lists.specs.Combinations.{Agree, AreChoices, choice_until, mark_below, mark_in, period_at, realisations_at}

-- the last digits of equal numbers are equal, and so are the numbers before them
digit_same : (a b n d e : ℕ) → d < n → e < n → a * n + d ≡ b * n + e → (a ≡ b) × (d ≡ e)
digit_same a b n d e d_lt e_lt h = (
  sym (div-mul-add a n d d_lt) ∙ (ap (λ x. x / n) h ∙ div-mul-add b n e e_lt),
  sym (mod-mul-add a n d d_lt) ∙ (ap (λ x. x % n) h ∙ mod-mul-add b n e e_lt),
)

-- equal digits make equal marks
marks_same : (es : List Element) (cs ds : List ℕ) (t n : ℕ) → ((k : ℕ) → k < n → choice_until es cs t k ≡ choice_until es ds t k) → mark_below es cs t n ≡ mark_below es ds t n
marks_same es cs ds t zero h = refl
marks_same es cs ds t (suc n) h =
    ap (λ a. a * length (realisations_at es n) + choice_until es cs t n) (marks_same es cs ds t n (λ k lt. h k (omega arith)))
    ∙ ap (λ d. mark_below es ds t n * length (realisations_at es n) + d) (h n (omega arith))

-- equal marks have equal digits
digits_same : (es : List Element) (cs ds : List ℕ) (t n : ℕ) → ((k : ℕ) → k < n → choice_until es cs t k < length (realisations_at es k)) → ((k : ℕ) → k < n → choice_until es ds t k < length (realisations_at es k)) → mark_below es cs t n ≡ mark_below es ds t n → (k : ℕ) → k < n → choice_until es cs t k ≡ choice_until es ds t k
digits_same es cs ds t zero p q h k lt = absurd (omega arith)
digits_same es cs ds t (suc n) p q h k lt =
    let parts = digit_same (mark_below es cs t n) (mark_below es ds t n) (length (realisations_at es n)) (choice_until es cs t n) (choice_until es ds t n) (p n (omega arith)) (q n (omega arith)) h in
    elim (cases_lt k n) [
      | inl before ↦ digits_same es cs ds t n (λ i i_lt. p i (omega arith)) (λ i i_lt. q i (omega arith)) parts.0 k before
      | inr after ↦
          let at : n ≡ k = omega arith in
          let P : ℕ → Type 0 = λ i. choice_until es cs t i ≡ choice_until es ds t i in
          subst P at parts.1
    ]

picked_below : (b : Bool) (c n : ℕ) → c < n → (if b then c else 0) < n
picked_below true c n h = h
picked_below false c n h = omega arith

pub until_below : (es : List Element) (cs : List ℕ) (t : ℕ) → AreChoices es cs → (k : ℕ) → k < length es → choice_until es cs t k < length (realisations_at es k)
until_below es cs t choices k lt = picked_below (nat_le (period_at es k) t) (slice_index cs k) (length (realisations_at es k)) (choices.there k lt)

-- the choice of an element of a period up to the stage is its digit
read : (p t c d : ℕ) → p ≤ t → (if nat_le p t then c else 0) ≡ (if nat_le p t then d else 0) → c ≡ d
read p t c d h e = grind (arith, nat_tests)

written : (p t c d : ℕ) → (p ≤ t → c ≡ d) → (if nat_le p t then c else 0) ≡ (if nat_le p t then d else 0)
written p t c d h = elim (cases_lt t p) [ inl late ↦ grind (arith, nat_tests) | inr early ↦ ap (λ x. if nat_le p t then x else 0) (h early) ]

pub marks_agree : (es : List Element) (cs ds : List ℕ) (t : ℕ) → AreChoices es cs → AreChoices es ds → (mark_in es cs t ≡ mark_in es ds t) ↔ Agree es cs ds t
marks_agree es cs ds t p q = (
  λ h k lt early. read (period_at es k) t (slice_index cs k) (slice_index ds k) early (digits_same es cs ds t (length es) (until_below es cs t p) (until_below es ds t q) h k lt),
  λ h. marks_same es cs ds t (length es) (λ k lt. written (period_at es k) t (slice_index cs k) (slice_index ds k) (h k lt)),
)
