-- the prices 0 over the scale 1 fit each problem
use Rattle.std.proofs.Common.{arith, refl, ap, ◌∙◌, ◌≡◌, ℕ, zero, suc, ◌*◌, ◌<◌, length, pos, unsigned_abs}
use Rattle.std.proofs.lemmas.Int.{ints}
use Rattle.boxed_problem.specs.Data.{problem_of}
use Rattle.boxed_problem.specs.BoxedFacts.{row_size, value_size}
use Rattle.boxed_problem.specs.PriceFit.{FitsPrices, price_part}
use Rattle.base_words.specs.Sums.{number_at, size_below}
use Rattle.boxed_problem.specs.declared.parts.Prices.{Prices}
use Rattle.boxed_problem.specs.declared.problem.Boxed.{Boxed}

size_below-zero : (n : ℕ) (g : ℕ → ℕ) → ((k : ℕ) → k < n → g k ≡ 0) → size_below n g ≡ 0
size_below-zero zero g h = refl
size_below-zero (suc n) g h = omega (arith, h n (omega arith), size_below-zero n g (λ k l. h k (omega arith)))

pub unpriced_fit : (p : Boxed) (prices : Prices) → prices.scale ≡ pos 1 → length prices.values ≡ length p.rows → ((k : ℕ) → k < length p.rows → number_at prices.values k ≡ pos 0) → FitsPrices (problem_of p) prices
unpriced_fit p prices one' long none = record {
  long = long;
  scale = omega (arith, ints, one');
  signs = λ i l. let z = none i l in record { above = λ e. omega (arith, ints, z); below = λ e. omega (arith, ints, z) };
  size =
      let parts = size_below-zero (length p.rows) (price_part (problem_of p) prices)
      (λ k l. ap (λ v. unsigned_abs v * row_size p.columns p.rows p.entries k) (none k l) ∙ nothing (row_size p.columns p.rows p.entries k)) in
      let s = ap unsigned_abs one' in
      omega (arith, parts, ap (λ m. m * value_size p.columns p.constant p.line p.square) s, once (value_size p.columns p.constant p.line p.square), p.facts.value_fits);
}
  where
    nothing : (m : ℕ) → 0 * m ≡ 0
    nothing m = grind arith

    once : (m : ℕ) → 1 * m ≡ m
    once m = grind arith
