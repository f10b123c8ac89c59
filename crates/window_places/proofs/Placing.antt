-- Windows lie one behind the other: none, and one more.
use Rattle.std.proofs.Common.{◌≡◌, ℕ, suc, ◌+◌, List, [], ◌∷◌, ◌++◌, length, get_or, sym, refl, ap, ◌∙◌, arith}
use mathlib.Core.Logic.{dite}
use native.Mathlib.Decide.{ℕ_discrete}
use Rattle.window_words.specs.Rule.{start}
use Rattle.window_words.proofs.Listed.{length_push, push_at, push_before}
use Rattle.window_places.specs.Places.{ArePlaces}

-- no window, and one more
pub places_none : (wide : ℕ → ℕ) (starts : List ℕ) → starts ≡ [] → ArePlaces wide 0 starts 1
places_none wide starts none_yet = (ap length none_yet, λ w l. absurd (omega arith), refl)

pub places_more : (wide : ℕ → ℕ) (n : ℕ) (starts starts' : List ℕ) (next next' width : ℕ) → ArePlaces wide n starts next → width ≡ wide n → starts' ≡ starts ++ next ∷ [] → next' ≡ next + width + 1 → ArePlaces wide (n + 1) starts' next'
places_more wide n starts starts' next next' width p is pushed past = let many = p.0 in let l = length_push starts next in let l' : length starts' ≡ length (starts ++ next ∷ []) = ap length pushed in let begin = p.2 in (
  omega arith,
  λ w b. dite (ℕ_discrete w n)
      (λ last. ap (λ (z : List ℕ). get_or z w 0) pushed ∙ (push_at starts next w (omega arith) ∙ (begin ∙ ap (start wide) (sym last))))
      (λ other. ap (λ (z : List ℕ). get_or z w 0) pushed ∙ (push_before starts next w (omega arith) ∙ p.1 w (omega arith))),
  (let e : start wide (suc n) ≡ next' = omega arith in let one : n + 1 ≡ suc n = omega arith in sym (ap (start wide) one ∙ e)),
)
