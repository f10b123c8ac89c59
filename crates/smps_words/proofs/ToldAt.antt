-- What lines tell is told by one of them, at its place.
use Rattle.std.proofs.Common.{sym, subst, ℕ, zero, suc, ◌<◌, List, [], ◌∷◌, ◌++◌, length, take, get_or, arith, inl, inr}
use Rattle.std.specs.List.{Contains}
use Rattle.std.proofs.lemmas.List.{append-nil, append_assoc}
use Rattle.std.proofs.lemmas.List.Elements.{Contains-append_cases, Contains-append_left, Contains-append_right}
use Rattle.smps_words.specs.Outcomes.{all_told}

module _ {L X : Type 0} (tells : List L → L → List X) (d : L) (x : X) where
  -- the line at some place tells it
  abbrev pub Told : List L → List L → Type 0
  Told before rest = (n : ℕ) × (n < length rest) × Contains (tells (before ++ take n rest) (get_or rest n d)) x

  pub told_at : (before rest : List L) → Contains (all_told tells before rest) x → Told before rest
  told_at before [] (n, lt, at) = absurd (omega (arith, lt))
  told_at before (line ∷ rest) has = elim (Contains-append_cases (tells before line) (all_told tells (before ++ line ∷ []) rest) x has) [
    | inl now ↦ (0, omega arith, subst (λ (b : List L). Contains (tells b line) x) (sym (append-nil before)) now)
    | inr then ↦
        let later = told_at (before ++ line ∷ []) rest then in
        (suc later.0, omega (arith, later.1), subst (λ (b : List L). Contains (tells b (get_or rest later.0 d)) x) (append_assoc before (line ∷ []) (take later.0 rest)) later.2)
  ]

  pub at_told : (before rest : List L) (n : ℕ) → n < length rest → Contains (tells (before ++ take n rest) (get_or rest n d)) x → Contains (all_told tells before rest) x
  at_told before [] n lt has = absurd (omega (arith, lt))
  at_told before (line ∷ rest) zero lt has =
      Contains-append_left (tells before line) (all_told tells (before ++ line ∷ []) rest) x
      (subst (λ (b : List L). Contains (tells b line) x) (append-nil before) has)
  at_told before (line ∷ rest) (suc n) lt has =
      Contains-append_right (tells before line) (all_told tells (before ++ line ∷ []) rest) x
      (at_told (before ++ line ∷ []) rest n (omega (arith, lt)) (subst (λ (b : List L). Contains (tells b (get_or rest n d)) x) (sym (append_assoc before (line ∷ []) (take n rest))) has))
