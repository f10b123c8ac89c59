-- What one step of the odometer changes.
use Rattle.std.proofs.Common.{arith, refl, ap, sym, ◌∙◌, ◌≡◌, ℕ, zero, suc, true, false, List, [], ◌∷◌, length, set, ℤ, pos, ◌+ℤ◌, ◌≤ℤ◌, ◌<ℤ◌, Option, Some, None, if◌then◌else◌, int_lt}
use Rattle.std.proofs.lemmas.Int.{ints}
use Rattle.boxed_problem.specs.Odometer.{OnSides, next_with, next_point, WrappedFrom}
use Rattle.boxed_problem.specs.Sides.{side_at, corner}
use Rattle.base_words.specs.Sums.{number_at}
use Rattle.boxed_problem.specs.declared.parts.Side.{Side}

next_with-last : (s : Side) (ss : List Side) (v : ℤ) (o : Option (List ℤ)) → o ≡ None → s.upper ≤ℤ v → next_with s ss v o ≡ None
next_with-last s ss v o e h =
    let t : int_lt v s.upper ≡ false = grind (arith, ints) in
    ap (λ p. next_with s ss v p) e ∙ ap (λ q. if q then Some ((v +ℤ pos 1) ∷ corner ss) else None) t

next_with-found : (s : Side) (ss : List Side) (v : ℤ) (o : Option (List ℤ)) → o ≡ None → v <ℤ s.upper → next_with s ss v o ≡ Some ((v +ℤ pos 1) ∷ corner ss)
next_with-found s ss v o e h =
    let t : int_lt v s.upper ≡ true = grind (arith, ints) in
    ap (λ p. next_with s ss v p) e ∙ ap (λ q. if q then Some ((v +ℤ pos 1) ∷ corner ss) else None) t

-- before the first step nothing is wrapped
pub wrapped_none : (box : List Side) (x : List ℤ) → OnSides box x → WrappedFrom (length box) box x x
wrapped_none [] [] h = (refl, refl)
wrapped_none [] (v ∷ x) h = absurd h
wrapped_none (s ∷ ss) [] h = absurd h
wrapped_none (s ∷ ss) (v ∷ x) h = (refl, wrapped_none ss x h.1)

-- a value at its upper end is wrapped too
pub wrapped_more : (j : ℕ) (box : List Side) (old new : List ℤ) → WrappedFrom (suc j) box old new → (side_at box j).upper ≤ℤ number_at new j → WrappedFrom j box old (set new j (side_at box j).lower)
wrapped_more j [] old new h u = absurd h
wrapped_more j (s ∷ ss) [] new h u = absurd h
wrapped_more j (s ∷ ss) (v ∷ x) [] h u = absurd h
wrapped_more zero (s ∷ ss) (v ∷ x) (w ∷ y) h u =
    (next_with-last s ss v (next_point ss x) h.1.0 (omega (arith, ints, h.0)), ap (λ l. s.lower ∷ l) h.1.1)
wrapped_more (suc j) (s ∷ ss) (v ∷ x) (w ∷ y) h u = (h.0, wrapped_more j ss x y h.1 u)

-- a value below its upper end goes up by one
pub wrapped_found : (j : ℕ) (box : List Side) (old new : List ℤ) → WrappedFrom (suc j) box old new → number_at new j <ℤ (side_at box j).upper →
    next_point box old ≡ Some (set new j (number_at new j +ℤ pos 1))
wrapped_found j [] old new h u = absurd h
wrapped_found j (s ∷ ss) [] new h u = absurd h
wrapped_found j (s ∷ ss) (v ∷ x) [] h u = absurd h
wrapped_found zero (s ∷ ss) (v ∷ x) (w ∷ y) h u =
    next_with-found s ss v (next_point ss x) h.1.0 (omega (arith, ints, h.0))
    ∙ (ap (λ z. Some ((z +ℤ pos 1) ∷ corner ss)) (sym h.0) ∙ ap (λ l. Some ((w +ℤ pos 1) ∷ l)) (sym h.1.1))
wrapped_found (suc j) (s ∷ ss) (v ∷ x) (w ∷ y) h u =
    ap (λ o. next_with s ss v o) (wrapped_found j ss x y h.1 u) ∙ ap (λ z. Some (z ∷ set y j (number_at y j +ℤ pos 1))) (sym h.0)
