-- Where the cells of each rank begin and end.
use Rattle.std.proofs.Common.{arith, ap, ◌≡◌, ℕ, ◌+◌, ◌*◌, ◌/◌, ◌<◌, ◌≤◌, ◌^◌, Bool, if◌then◌else◌}
use Rattle.std.proofs.Math.Nat.{div-le_of_le-mul, div-mul-le_self, le-div_iff_mul-le, mul-div_cancel_left, mul-le-mul}
use Rattle.base_words.proofs.NumberTests.{test_from_less}
use Rattle.put_codec.specs.declared.layout.Layout.{Layout}
use Rattle.put_codec.specs.Layouts.{all_cells, cells_of, first_of, start_of, width_of}

first_inside : (layout : Layout) (i : ℕ) → i ≤ layout.ranks → first_of layout i ≤ layout.scenarios
first_inside layout i l = div-le_of_le-mul layout.ranks (mul-le-mul l (omega arith))

first_rises : (layout : Layout) (i : ℕ) → 0 < layout.ranks → first_of layout i ≤ first_of layout (i + 1)
first_rises layout i some =
    let more : i * layout.scenarios ≤ (i + 1) * layout.scenarios = mul-le-mul (omega arith) (omega arith) in
    let low = div-mul-le_self (i * layout.scenarios) layout.ranks in
    (le-div_iff_mul-le some).1 (omega arith)

first_last : (layout : Layout) → 0 < layout.ranks → first_of layout layout.ranks ≡ layout.scenarios
first_last layout some = mul-div_cancel_left layout.scenarios some

pub start_inside : (layout : Layout) (i : ℕ) → i ≤ layout.ranks → start_of layout i ≤ all_cells layout
start_inside layout i l = mul-le-mul (first_inside layout i l) (omega arith)

pub start_rises : (layout : Layout) (i : ℕ) → 0 < layout.ranks → start_of layout i ≤ start_of layout (i + 1)
start_rises layout i some = mul-le-mul (first_rises layout i some) (omega arith)

pub start_last : (layout : Layout) → 0 < layout.ranks → start_of layout layout.ranks ≡ all_cells layout
start_last layout some = ap (λ n. n * layout.nonleaf) (first_last layout some)

-- so many cells can be counted
pub few_cells : (layout : Layout) → layout.scenarios < 2 ^ 32 → layout.nonleaf < 2 ^ 32 → all_cells layout < 2 ^ 64
few_cells layout many wide = let most : all_cells layout ≤ 4294967295 * 4294967295 = mul-le-mul {n₂ = 4294967295} {m₂ = 4294967295} (omega arith) (omega arith) in omega arith

-- how many words a rank's part has
pub rank_width : (layout : Layout) (i : ℕ) → i < layout.ranks → width_of layout i ≡ 3 * cells_of layout i
rank_width layout i l = ap (λ (b : Bool). if b then 3 * cells_of layout i else 3) (test_from_less i layout.ranks l)

-- the same for numbers that the code computes
module _ (layout : Layout) (i : ℕ) where
  pub start_small : (a b : ℕ) → i ≤ layout.ranks → a ≡ first_of layout i → b ≡ layout.nonleaf → a * b ≤ all_cells layout
  start_small a b l e d = let inside = first_inside layout i l in mul-le-mul (omega arith) (omega arith)

  pub starts_rise : (a b : ℕ) → i < layout.ranks → a ≡ start_of layout i → b ≡ start_of layout (i + 1) → a ≤ b
  starts_rise a b l e d = let rises = start_rises layout i (omega arith) in omega (arith, e, d)

  pub place_below : (a index : ℕ) → i < layout.ranks → index < width_of layout i → a ≡ start_of layout i → a + index / 3 < all_cells layout
  place_below a index l below e =
      let wide = rank_width layout i l in
      let rises = start_rises layout i (omega arith) in
      let inside = start_inside layout (i + 1) (omega arith) in
      omega (arith, below, e, wide)
