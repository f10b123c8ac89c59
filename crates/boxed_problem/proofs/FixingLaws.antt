-- A problem keeps its facts where its box becomes narrower.
use Rattle.std.proofs.Common.{arith, refl, ap, sym, subst, ◌∙◌, ℕ, zero, suc, ◌<◌, ◌≤◌, List, [], ◌∷◌, length, set, ℤ, ◌≤ℤ◌}
use Rattle.std.proofs.lemmas.Int.{ints}
use Rattle.std.specs.List.{All}
use Rattle.boxed_problem.specs.BoxedFacts.{IsBoxed, column_size}
use Rattle.boxed_problem.specs.Sides.{Filled, Within, side_at}
use Rattle.base_words.specs.Sums.{size_below}
use Rattle.boxed_problem.specs.declared.parts.Entry.{Entry}
use Rattle.boxed_problem.specs.declared.parts.Limits.{Limits}
use Rattle.boxed_problem.specs.declared.parts.Side.{Side}
use Rattle.boxed_problem.proofs.Narrower.{column_size-within, entries_within}
use Rattle.base_words.proofs.SumBounds.{size_below-mono}

-- a side put into a box within the one that stood there
pub set_within : (box : List Side) (j : ℕ) (s : Side) → j < length box → (side_at box j).lower ≤ℤ s.lower → s.lower ≤ℤ s.upper → s.upper ≤ℤ (side_at box j).upper → Filled box → Within (set box j s) box
set_within [] j s h l f u g = absurd (omega arith)
set_within (t ∷ box) zero s h l f u g = record { long = refl; filled = (f, g.1); lower = lowers; upper = uppers }
  where
    lowers : (k : ℕ) → k < length (t ∷ box) → (side_at (t ∷ box) k).lower ≤ℤ (side_at (s ∷ box) k).lower
    lowers zero m = l
    lowers (suc k) m = omega (arith, ints)

    uppers : (k : ℕ) → k < length (t ∷ box) → (side_at (s ∷ box) k).upper ≤ℤ (side_at (t ∷ box) k).upper
    uppers zero m = u
    uppers (suc k) m = omega (arith, ints)
set_within (t ∷ box) (suc j) s h l f u g =
    let r = set_within box j s (omega arith) l f u g.1 in
    record { long = ap suc r.long; filled = (g.0, r.filled); lower = lowers r; upper = uppers r }
  where
    lowers : Within (set box j s) box → (k : ℕ) → k < length (t ∷ box) → (side_at (t ∷ box) k).lower ≤ℤ (side_at (t ∷ set box j s) k).lower
    lowers r zero m = omega (arith, ints)
    lowers r (suc k) m = r.lower k (omega arith)

    uppers : Within (set box j s) box → (k : ℕ) → k < length (t ∷ box) → (side_at (t ∷ set box j s) k).upper ≤ℤ (side_at (t ∷ box) k).upper
    uppers r zero m = omega (arith, ints)
    uppers r (suc k) m = r.upper k (omega arith)

-- a problem keeps its facts over narrower sides
pub boxed_within : (inner outer : List Side) (rows : List Limits) (entries : List Entry) (constant : ℤ) (line square : List ℤ) → All (λ s. s.lower ≤ℤ s.upper) inner → Within inner outer →
    IsBoxed outer rows entries constant line square → IsBoxed inner rows entries constant line square
boxed_within inner outer rows entries constant line square f w b =
    let parts = size_below-mono (length inner) (column_size inner line square) (column_size outer line square) (λ j l. column_size-within inner outer line square j w) in
    let same = ap (λ n. size_below n (column_size outer line square)) w.long in
    record {
      lines = b.lines ∙ sym w.long;
      squares = b.squares ∙ sym w.long;
      filled = f;
      convex = b.convex;
      places = subst (λ n. All (λ e. (e.row < length rows) × (e.column < n)) entries) (sym w.long) b.places;
      ascending = b.ascending;
      value_fits = omega (arith, b.value_fits, parts, same);
      rows_fit = λ i l. omega (arith, b.rows_fit i l, entries_within inner outer i entries w);
    }
