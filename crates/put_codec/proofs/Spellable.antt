-- The cells of each put that a run makes can be spelled.
use Rattle.std.proofs.Common.{arith, sym, ap, subst, ◌≡◌, ℕ, ◌+◌, ◌*◌, ◌/◌, ◌%◌, ◌<◌, ◌≤◌, nat_lt, Bool, true, false, List, length, ℤ, pos, Some, unsigned_abs, FitsSigned, if◌then◌else◌, ◌⊎◌, ⊎_elim, inl, inr, ◌≤ℤ◌}
use Rattle.std.specs.Int.{w128}
use Rattle.std.proofs.lemmas.Int.{ints}
use Rattle.std.proofs.lemmas.Bool.{cases_lt}
use Rattle.std.proofs.lemmas.Nat.{div-add-mod'}
use Rattle.std.proofs.Math.Nat.{div-lt_iff_lt-mul, eq-zero-or-pos, mod-lt}
use Rattle.std.proofs.Math.ListN.{get_or-eq_default}
use Rattle.base_words.specs.Sums.{number_at}
use Rattle.base_words.proofs.Magnitudes.{fits_from_abs}
use Rattle.base_words.proofs.NumberTests.{test_from_less}
use Rattle.boxed_problem.specs.Sides.{side_at}
use Rattle.boxed_problem.specs.declared.parts.Side.{Side}
use Rattle.word_codec.specs.Spelling.{IsValue}
use Rattle.run_calls.proofs.MostBounds.{box_small, early_column, most_small}
use Rattle.sp_model.specs.Changes.{sides}
use Rattle.sp_model.specs.Plans.{multiplier_of}
use Rattle.sp_model.specs.Problems.{scenarios}
use Rattle.sp_model.specs.declared.run.Run.{Run}
use Rattle.put_words.specs.NodeSums.{value_at}
use Rattle.put_words.specs.Puts.{Made, put_of}
use Rattle.put_words.proofs.Inside.{put_inside, put_long}
use Rattle.put_words.proofs.Rises.{put_sized}
use Rattle.put_codec.specs.Entries.{FitsLayout, IsSpelled}
use Rattle.put_codec.specs.Layouts.{layout_in}

-- what holds of the cells of scenarios and columns, and of 0, holds at each place of a list
by_cells : (xs : List ℤ) (n m : ℕ) (P : ℤ → Type 0) → length xs ≡ n * m → P (pos 0) → ((s j : ℕ) → s < n → j < m → P (number_at xs (s * m + j))) → (c : ℕ) → P (number_at xs c)
by_cells xs n m P long zero cells c = by_place (cases_lt c (n * m))
  where
    by_place : (c < n * m) ⊎ (n * m ≤ c) → P (number_at xs c)
    by_place (inl less) =
        let wide = width_above n m c less in
        let is = div-add-mod' c m in
        subst (λ i. P (number_at xs i)) is (cells (c / m) (c % m) ((div-lt_iff_lt-mul wide).1 less) (mod-lt c wide))
      where
        width_above : (n m c : ℕ) → c < n * m → 0 < m
        width_above n m c less = ⊎_elim (λ z. let none : n * m ≡ n * 0 = ap (λ k. n * k) z in absurd (omega arith)) (λ w. w) (eq-zero-or-pos m)
    by_place (inr more) = subst P (sym (get_or-eq_default xs (pos 0) (omega arith))) zero

zero_fits : FitsSigned w128 (pos 0)
zero_fits = fits_from_abs (pos 0) (omega arith)

zero_is : IsValue (pos 0)
zero_is = (grind (arith, ints), grind (arith, ints))

-- a value between the ends of a small box
inside_is : (side : Side) (v : ℤ) → unsigned_abs side.lower ≤ 1000000000 → unsigned_abs side.upper ≤ 1000000000 → side.lower ≤ℤ v → v ≤ℤ side.upper → IsValue v
inside_is side v low high above below = (omega (arith, ints), omega (arith, ints))

-- a multiplier where its column is known to be early
early_multiplier : (b : Bool) (a z : ℤ) → b ≡ true → FitsSigned w128 (if b then a else z) → FitsSigned w128 a
early_multiplier true a z e f = f
early_multiplier false a z e f = absurd (let x = e in cc)

pub put_fits : (run : Run) (k : ℕ) (made : Made) → put_of run k ≡ Some made → FitsLayout (layout_in run) made.put
put_fits run k made e = record { multipliers = put_long run k made e; x = (put_inside run k made e).long }

pub put_spelled : (run : Run) (k : ℕ) (made : Made) → k ≤ run.options.iterations + 1 → put_of run k ≡ Some made → IsSpelled made.put
put_spelled run k made few e =
    let long = put_long run k made e in let inside = put_inside run k made e in let sized = put_sized run k made few e in record {
      multipliers = by_cells made.put.multipliers.values (scenarios run) run.nonleaf (λ v. FitsSigned w128 v) long zero_fits (λ s j l h.
          let small = sized s j l h in let most = most_small run j h in
          early_multiplier (nat_lt j run.nonleaf) (number_at made.put.multipliers.values (s * run.nonleaf + j)) (pos 0) (test_from_less j run.nonleaf h) (fits_from_abs (multiplier_of run made.put.multipliers s j) (omega arith)));
      x = by_cells made.put.x (scenarios run) run.nonleaf IsValue inside.long zero_is (λ s j l h.
          let box = box_small run j (early_column run j h) in
          inside_is (side_at (sides run.program) j) (value_at run made.put.x s j) (omega arith) (omega arith) (inside.lower s j l h) (inside.upper s j l h));
    }
