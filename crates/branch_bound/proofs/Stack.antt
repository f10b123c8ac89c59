-- Lists of boxes still to be opened.
use Rattle.std.proofs.Common.{arith, refl, ap, ◌∙◌, ◌≡◌, ℕ, zero, suc, ◌<◌, List, [], ◌∷◌, ◌++◌, length, ◌≤ℤ◌, ◌<ℤ◌, Some, None, if◌then◌else◌}
use Rattle.std.specs.List.{AllByRecursion}
use Rattle.branch_bound.specs.Halves.{behind, halves, high_half, low_half}
use Rattle.boxed_problem.specs.Sides.{side_at}
use Rattle.boxed_problem.specs.declared.parts.Side.{Side}
use Rattle.base_words.proofs.Comparisons.{test_from_above, test_from_below}
use Rattle.branch_bound.specs.HalvesAt.{halves_at}

-- the first column that isn't single is where a box is halved
pub halves_first : (box : List Side) (j : ℕ) → j < length box → ((k : ℕ) → k < j → (side_at box k).upper ≤ℤ (side_at box k).lower) → (side_at box j).lower <ℤ (side_at box j).upper → halves box ≡ Some (halves_at box j)
halves_first [] j l h w = absurd (omega arith)
halves_first (s ∷ ss) zero l h w = ap (λ t. if t then Some (record { low = low_half s ∷ ss; high = high_half s ∷ ss }) else behind s (halves ss)) (test_from_below s.lower s.upper w)
halves_first (s ∷ ss) (suc j) l h w =
    ap (λ t. if t then Some (record { low = low_half s ∷ ss; high = high_half s ∷ ss }) else behind s (halves ss)) (test_from_above s.lower s.upper (h 0 (omega arith)))
    ∙ ap (λ o. behind s o) (halves_first ss j (omega arith) (λ k m. h (suc k) (omega arith)) w)

-- a box of single columns isn't halved
pub halves_none : (box : List Side) → ((k : ℕ) → k < length box → (side_at box k).upper ≤ℤ (side_at box k).lower) → halves box ≡ None
halves_none [] h = refl
halves_none (s ∷ ss) h =
    ap (λ t. if t then Some (record { low = low_half s ∷ ss; high = high_half s ∷ ss }) else behind s (halves ss)) (test_from_above s.lower s.upper (h 0 (omega arith)))
    ∙ ap (λ o. behind s o) (halves_none ss (λ k m. h (suc k) (omega arith)))

-- what holds of all boxes holds of one more
pub all_push : {A : Type 0} (P : A → Type 0) (boxes : List A) (box : A) → AllByRecursion P boxes → P box → AllByRecursion P (boxes ++ box ∷ [])
all_push P [] box a h = (h, tt)
all_push P (c ∷ boxes) box a h = (a.0, all_push P boxes box a.1 h)

pub all_popped : {A : Type 0} (P : A → Type 0) (boxes : List A) (box : A) → AllByRecursion P (boxes ++ box ∷ []) → AllByRecursion P boxes × P box
all_popped P [] box a = (tt, a.0)
all_popped P (c ∷ boxes) box a = let r = all_popped P boxes box a.1 in ((a.0, r.0), r.1)
