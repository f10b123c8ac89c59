-- no number that the bound forms is greater than the magnitude of the prices

use Rattle.std.proofs.Common.{arith, refl, ap, sym, ◌∙◌, ◌≡◌, ℕ, ◌+◌, ◌*◌, ◌^◌, ◌<◌, ◌≤◌, ◌==◌, Bool, true, false, List, length, take, get_or, ℤ, pos, negsuc, ◌+ℤ◌, ◌*ℤ◌, ◌≤ℤ◌, int_lt, FitsSigned, Option, Some, None, unsigned_abs, if◌then◌else◌}
use Rattle.std.proofs.lemmas.Int.{ints, unsigned_abs-mul}
use Rattle.std.proofs.lemmas.List.Elements.{recursion_from_All}
use Rattle.std.proofs.lemmas.List.Sums.{get_or-le-sum_by, sum_by-take-le}
use Rattle.std.proofs.Math.Nat.{mul-le-mul, mul-le-mul_left}
use Rattle.std.specs.Int.{w128}
use Rattle.std.specs.List.{All, sum_by}
use Rattle.boxed_problem.specs.Data.{Problem}
use Rattle.boxed_problem.specs.BoxedFacts.{column_size, entry_size, limits_at, limits_size, no_entry, value_size}
use Rattle.boxed_problem.specs.PriceFit.{price_part, price_size}
use Rattle.boxed_problem.specs.Sides.{Within, reach, side_at}
use Rattle.base_words.specs.Sums.{number_at, size_below, sum_below}
use Rattle.boxed_problem.specs.declared.parts.Entry.{Entry}
use Rattle.boxed_problem.specs.declared.parts.Limits.{Limits}
use Rattle.boxed_problem.specs.declared.parts.Prices.{Prices}
use Rattle.boxed_problem.specs.declared.parts.Side.{Side}
use Rattle.base_words.proofs.Products.{times_order}
use Rattle.boxed_problem.proofs.Lying.{filled_at, within_reach}
use Rattle.base_words.proofs.Magnitudes.{abs-add, fits_from_abs, abs-less, abs_none}
use Rattle.base_words.proofs.SumBounds.{fold-abs, size_below-le, size_below-part, sum_below-abs, size_below-same, size_below-add, size_below-mono, size_below-times}
use Rattle.safe_bound.specs.Leasts.{least_on}
use Rattle.safe_bound.specs.PriceBound.{entry_price, limit_number, limit_price, limit_sum, paid_limit, reduced_cost, reduced_least, scaled_square, unit_price}
use Rattle.safe_bound.specs.Reducing.{kept_cost, kept_square, reduced_constant}
use Rattle.safe_bound.proofs.KeyedSums.{by_key_size, sum_by-same, sum_by-times}
use Rattle.base_words.specs.ListSums.{sum_z}
use Rattle.base_words.specs.Signs.{limit_size}
use Rattle.safe_bound.proofs.LeastLaws.{least_on-size}
use Rattle.safe_bound.specs.PriceWeights.{limit_weight, weight}

abbrev pub Placed : Problem → Type 0
Placed b = All (λ e. (e.row < length b.rows) × (e.column < length b.columns)) b.entries

-- the magnitude of what column j adds to the scale times the objective and to the prices
abbrev pub column_weight : Problem → Prices → ℕ → ℕ
column_weight b prices j = unsigned_abs prices.scale * column_size b.columns b.line b.square j + sum_by (λ (e : Entry). if e.column == j then weight b prices e else 0) b.entries

-- the magnitude of the price of one unit of column j
abbrev pub unit_size : Problem → Prices → ℕ → ℕ
unit_size b prices j = sum_by (λ (e : Entry). if e.column == j then unsigned_abs (number_at prices.values e.row) * unsigned_abs e.value else 0) b.entries

row_weight : (b : Problem) (prices : Prices) (i : ℕ) →
    unsigned_abs (number_at prices.values i) * sum_by (entry_size b.columns i) b.entries ≡ sum_by (λ (e : Entry). if e.row == i then weight b prices e else 0) b.entries
row_weight b prices i =
    sum_by-times (unsigned_abs (number_at prices.values i)) (entry_size b.columns i) b.entries
    ∙ sum_by-same (λ e. unsigned_abs (number_at prices.values i) * entry_size b.columns i e) (λ (e : Entry). if e.row == i then weight b prices e else 0) b.entries (λ e. by_test e (e.row == i) refl)
  where
    by_test : (e : Entry) (t : Bool) → (e.row == i) ≡ t → unsigned_abs (number_at prices.values i) * (if t then unsigned_abs e.value * reach (side_at b.columns e.column) else 0) ≡ (if t then weight b prices e else 0)
    by_test e true h =
        let same : e.row ≡ i = grind arith in
        sym (ap (λ k. unsigned_abs (number_at prices.values k) * (unsigned_abs e.value * reach (side_at b.columns e.column))) same)
    by_test e false h = omega arith

pub rows_weigh : (b : Problem) (prices : Prices) → Placed b → size_below (length b.rows) (price_part b prices) ≡ size_below (length b.rows) (limit_weight b prices) + sum_by (weight b prices) b.entries
rows_weigh b prices h =
    let m = length b.rows in
    let entries : ℕ → ℕ = λ i. sum_by (λ (e : Entry). if e.row == i then weight b prices e else 0) b.entries in
    let p = size_below-same m (price_part b prices) (λ i. limit_weight b prices i + entries i) (λ i l. omega (arith, row_weight b prices i)) in
    let q = size_below-add m (limit_weight b prices) entries in
    let r = by_key_size (λ (e : Entry). e.row) (weight b prices) m b.entries (recursion_from_All (λ (e : Entry). e.row < length b.rows) b.entries (λ k d l. (h k d l).0)) in
    omega (arith, p, q, r)

columns_weigh : (b : Problem) (prices : Prices) → Placed b →
    size_below (length b.columns) (column_weight b prices) ≡ unsigned_abs prices.scale * size_below (length b.columns) (column_size b.columns b.line b.square) + sum_by (weight b prices) b.entries
columns_weigh b prices h =
    let n = length b.columns in
    let s = unsigned_abs prices.scale in
    let entries : ℕ → ℕ = λ j. sum_by (λ (e : Entry). if e.column == j then weight b prices e else 0) b.entries in
    let p = size_below-add n (λ j. s * column_size b.columns b.line b.square j) entries in
    let q = size_below-times n s (column_size b.columns b.line b.square) in
    let r = by_key_size (λ (e : Entry). e.column) (weight b prices) n b.entries (recursion_from_All (λ (e : Entry). e.column < length b.columns) b.entries (λ k d l. (h k d l).1)) in
    omega (arith, p, q, r)

-- the magnitude of the prices, by limits, constant and columns
price_size-is : (b : Problem) (prices : Prices) → Placed b →
    (size_below (length b.rows) (limit_weight b prices) + unsigned_abs prices.scale * unsigned_abs b.constant) + size_below (length b.columns) (column_weight b prices) ≡ price_size b prices
price_size-is b prices h = omega (arith, rows_weigh b prices h, columns_weigh b prices h)

paid_size : (limits : Limits) (price : ℤ) → unsigned_abs (paid_limit limits price) ≤ limits_size limits
paid_size limits price = by_test (int_lt (pos 0) price)
  where
    size : (o : Option ℤ) → unsigned_abs (limit_number o) ≡ limit_size o
    size None = refl
    size (Some limit) = refl

    by_test : (t : Bool) → unsigned_abs (if t then limit_number limits.lower else limit_number limits.upper) ≤ limits_size limits
    by_test true = omega (arith, size limits.lower)
    by_test false = omega (arith, size limits.upper)

limit_price-size : (b : Problem) (prices : Prices) (i : ℕ) → unsigned_abs (limit_price b prices i) ≤ limit_weight b prices i
limit_price-size b prices i =
    let y = number_at prices.values i in
    let p = unsigned_abs-mul y (paid_limit (limits_at b.rows i) y) in
    let q = mul-le-mul_left (unsigned_abs y) (paid_size (limits_at b.rows i) y) in
    omega (arith, p, q)

-- what is paid for the limits of the first rows fits
pub limit_sum-fits : (b : Problem) (prices : Prices) (i : ℕ) → Placed b → i ≤ length b.rows → price_size b prices ≤ 2 ^ 125 → FitsSigned w128 (sum_below i (limit_price b prices))
limit_sum-fits b prices i h l f =
    let p = sum_below-abs i (limit_price b prices) (limit_weight b prices) (λ k m. limit_price-size b prices k) in
    let q = size_below-le i (length b.rows) (limit_weight b prices) l in
    fits_from_abs (sum_below i (limit_price b prices)) (omega (arith, p, q, price_size-is b prices h))

pub limit_price-fits : (b : Problem) (prices : Prices) (i : ℕ) → Placed b → i < length b.rows → price_size b prices ≤ 2 ^ 125 → FitsSigned w128 (limit_price b prices i)
limit_price-fits b prices i h l f =
    let p = limit_price-size b prices i in
    let q = size_below-part (length b.rows) (limit_weight b prices) i l in
    fits_from_abs (limit_price b prices i) (omega (arith, p, q, price_size-is b prices h))

pub scaled_constant-fits : (b : Problem) (prices : Prices) → Placed b → price_size b prices ≤ 2 ^ 125 → FitsSigned w128 (prices.scale *ℤ b.constant)
scaled_constant-fits b prices h f = fits_from_abs (prices.scale *ℤ b.constant) (omega (arith, unsigned_abs-mul prices.scale b.constant, price_size-is b prices h))

constant_size : (b : Problem) (prices : Prices) → unsigned_abs (reduced_constant b prices) ≤ size_below (length b.rows) (limit_weight b prices) + unsigned_abs prices.scale * unsigned_abs b.constant
constant_size b prices =
    let p = sum_below-abs (length b.rows) (limit_price b prices) (limit_weight b prices) (λ k m. limit_price-size b prices k) in
    let q = unsigned_abs-mul prices.scale b.constant in
    let r = abs-add (limit_sum b prices) (prices.scale *ℤ b.constant) in
    omega (arith, p, q, r)

pub constant_fits : (b : Problem) (prices : Prices) → Placed b → price_size b prices ≤ 2 ^ 125 → FitsSigned w128 (reduced_constant b prices)
constant_fits b prices h f = fits_from_abs (reduced_constant b prices) (omega (arith, constant_size b prices, price_size-is b prices h))

-- the magnitude of an entry's part in the price of a unit
entry_price-size : (prices : Prices) (j : ℕ) (e : Entry) → unsigned_abs (entry_price prices j e) ≤ (if e.column == j then unsigned_abs (number_at prices.values e.row) * unsigned_abs e.value else 0)
entry_price-size prices j e = by_test (e.column == j)
  where
    by_test : (t : Bool) → unsigned_abs (if t then number_at prices.values e.row *ℤ e.value else pos 0) ≤ (if t then unsigned_abs (number_at prices.values e.row) * unsigned_abs e.value else 0)
    by_test true = omega (arith, unsigned_abs-mul (number_at prices.values e.row) e.value)
    by_test false = omega (arith, ints)

unit_upto : (b : Problem) (prices : Prices) (j k : ℕ) → unsigned_abs (sum_z (entry_price prices j) (take k b.entries)) ≤ unit_size b prices j
unit_upto b prices j k =
    let g : Entry → ℕ = λ e. if e.column == j then unsigned_abs (number_at prices.values e.row) * unsigned_abs e.value else 0 in
    omega (arith, fold-abs (entry_price prices j) g (entry_price-size prices j) (pos 0) (take k b.entries), sum_by-take-le g b.entries k)

unit_within : (b : Problem) (prices : Prices) (j : ℕ) → unsigned_abs (unit_price b prices j) ≤ unit_size b prices j
unit_within b prices j =
    let g : Entry → ℕ = λ e. if e.column == j then unsigned_abs (number_at prices.values e.row) * unsigned_abs e.value else 0 in
    omega (arith, fold-abs (entry_price prices j) g (entry_price-size prices j) (pos 0) b.entries)

unit_weight : (b : Problem) (prices : Prices) (j : ℕ) → reach (side_at b.columns j) * unit_size b prices j ≡ sum_by (λ (e : Entry). if e.column == j then weight b prices e else 0) b.entries
unit_weight b prices j =
    let g : Entry → ℕ = λ e. if e.column == j then unsigned_abs (number_at prices.values e.row) * unsigned_abs e.value else 0 in
    sum_by-times (reach (side_at b.columns j)) g b.entries
    ∙ sum_by-same (λ e. reach (side_at b.columns j) * g e) (λ (e : Entry). if e.column == j then weight b prices e else 0) b.entries (λ e. by_test e (e.column == j) refl)
  where
    by_test : (e : Entry) (t : Bool) → (e.column == j) ≡ t → reach (side_at b.columns j) * (if t then unsigned_abs (number_at prices.values e.row) * unsigned_abs e.value else 0) ≡ (if t then weight b prices e else 0)
    by_test e true h =
        let same : e.column ≡ j = grind arith in
        let r = ap (λ k. unsigned_abs (number_at prices.values e.row) * (unsigned_abs e.value * reach (side_at b.columns k))) same in
        omega (arith, r)
    by_test e false h = omega arith

-- the magnitude of what column j adds at its reduced cost
reduced_size : (b : Problem) (prices : Prices) (j : ℕ) →
    unsigned_abs (reduced_cost b prices j) * reach (side_at b.columns j) + unsigned_abs (scaled_square b prices j) * (reach (side_at b.columns j) * reach (side_at b.columns j)) ≤ column_weight b prices j
reduced_size b prices j =
    let m = reach (side_at b.columns j) in
    let s = unsigned_abs prices.scale in
    let line = unsigned_abs (number_at b.line j) in
    let square = unsigned_abs (number_at b.square j) in
    let less = abs-less (prices.scale *ℤ number_at b.line j) (unit_price b prices j) in
    let p = unsigned_abs-mul prices.scale (number_at b.line j) in
    let q = unsigned_abs-mul prices.scale (number_at b.square j) in
    let cost : unsigned_abs (reduced_cost b prices j) ≤ s * line + unit_size b prices j = omega (arith, less, p, unit_within b prices j) in
    let times = mul-le-mul_left m cost in
    let squares = ap (λ n. n * (m * m)) q in
    omega (arith, times, squares, unit_weight b prices j)

-- the same at the numbers that are kept
kept_size : (b : Problem) (prices : Prices) (j : ℕ) →
    unsigned_abs (kept_cost b prices j) * reach (side_at b.columns j) + unsigned_abs (kept_square b prices j) * (reach (side_at b.columns j) * reach (side_at b.columns j)) ≤ column_weight b prices j
kept_size b prices j = by_test (reach (side_at b.columns j) == 0)
  where
    by_test : (t : Bool) → unsigned_abs (if t then pos 0 else reduced_cost b prices j) * reach (side_at b.columns j) + unsigned_abs (if t then pos 0 else scaled_square b prices j) * (reach (side_at b.columns j) * reach (side_at b.columns j)) ≤ column_weight b prices j
    by_test true = omega (arith, ints)
    by_test false = reduced_size b prices j

-- a column's weight is within the magnitude of the prices
pub weight_within : (b : Problem) (prices : Prices) (j : ℕ) → Placed b → j < length b.columns → column_weight b prices j ≤ price_size b prices
weight_within b prices j h l = omega (arith, size_below-part (length b.columns) (column_weight b prices) j l, price_size-is b prices h)

-- a narrower side's part is within that of the column
narrow_size : (line square m n : ℕ) → n ≤ m → line * n + square * (n * n) ≤ line * m + square * (m * m)
narrow_size line square m n h =
    let p = mul-le-mul_left line h in
    let q = mul-le-mul h h in
    let r = mul-le-mul_left square q in
    omega (arith, p, r)

-- what a column adds, at the numbers that are kept, is within 2^125 on a side within its own
pub kept_fits : (b : Problem) (prices : Prices) (box : List Side) (j : ℕ) → Placed b → Within box b.columns → j < length b.columns → price_size b prices ≤ 2 ^ 125 →
    unsigned_abs (kept_cost b prices j) * reach (side_at box j) + unsigned_abs (kept_square b prices j) * (reach (side_at box j) * reach (side_at box j)) ≤ 2 ^ 125
kept_fits b prices box j h w l f =
    let n = narrow_size (unsigned_abs (kept_cost b prices j)) (unsigned_abs (kept_square b prices j)) (reach (side_at b.columns j)) (reach (side_at box j)) (within_reach box b.columns w j) in
    omega (arith, n, kept_size b prices j, weight_within b prices j h l)

-- a column whose box is the single 0 adds nothing
idle_least : (line square : ℤ) (s : Side) → s.lower ≤ℤ s.upper → reach s ≤ 0 → least_on line square s ≡ pos 0
idle_least line square s f z = abs_none (least_on line square s) (omega (arith, least_on-size line square s f, p, q))
  where
    p : unsigned_abs line * reach s ≤ unsigned_abs line * 0
    p = mul-le-mul_left (unsigned_abs line) z

    q : unsigned_abs square * (reach s * reach s) ≤ unsigned_abs square * (0 * 0)
    q = mul-le-mul_left (unsigned_abs square) (mul-le-mul z z)

-- the least at the numbers that are kept is the least at the reduced cost
pub kept_least : (b : Problem) (prices : Prices) (box : List Side) (j : ℕ) → Within box b.columns → least_on (kept_cost b prices j) (kept_square b prices j) (side_at box j) ≡ reduced_least b prices box j
kept_least b prices box j w = by_test (reach (side_at b.columns j) == 0) refl
  where
    by_test : (t : Bool) → (reach (side_at b.columns j) == 0) ≡ t → least_on (if t then pos 0 else reduced_cost b prices j) (if t then pos 0 else scaled_square b prices j) (side_at box j) ≡ reduced_least b prices box j
    by_test true e =
        let none : reach (side_at b.columns j) ≡ 0 = grind arith in
        let narrow : reach (side_at box j) ≤ 0 = omega (arith, none, within_reach box b.columns w j) in
        idle_least (pos 0) (pos 0) (side_at box j) (filled_at box w.filled j) narrow
        ∙ sym (idle_least (reduced_cost b prices j) (scaled_square b prices j) (side_at box j) (filled_at box w.filled j) narrow)
    by_test false e = refl

-- the magnitude of a least at the numbers that are kept
least_weight : (b : Problem) (prices : Prices) (box : List Side) (j : ℕ) → Within box b.columns → unsigned_abs (reduced_least b prices box j) ≤ column_weight b prices j
least_weight b prices box j w =
    let p = least_on-size (kept_cost b prices j) (kept_square b prices j) (side_at box j) (filled_at box w.filled j) in
    let n = narrow_size (unsigned_abs (kept_cost b prices j)) (unsigned_abs (kept_square b prices j)) (reach (side_at b.columns j)) (reach (side_at box j)) (within_reach box b.columns w j) in
    omega (arith, p, n, kept_size b prices j, ap unsigned_abs (kept_least b prices box j w))

-- the reduced constant and the first leasts fit
pub total_fits_upto : (b : Problem) (prices : Prices) (box : List Side) (j : ℕ) → Placed b → Within box b.columns → j ≤ length b.columns → price_size b prices ≤ 2 ^ 125 →
    FitsSigned w128 (reduced_constant b prices +ℤ sum_below j (reduced_least b prices box))
total_fits_upto b prices box j h w l f =
    let s = sum_below-abs j (reduced_least b prices box) (column_weight b prices) (λ k m. least_weight b prices box k w) in
    let p = size_below-le j (length b.columns) (column_weight b prices) l in
    let t = abs-add (reduced_constant b prices) (sum_below j (reduced_least b prices box)) in
    fits_from_abs (reduced_constant b prices +ℤ sum_below j (reduced_least b prices box)) (omega (arith, s, p, t, constant_size b prices, price_size-is b prices h))

-- in a column that isn't the single 0 the price of a unit and the scaled costs fit
unit_small : (b : Problem) (prices : Prices) (j : ℕ) → Placed b → j < length b.columns → 0 < reach (side_at b.columns j) → price_size b prices ≤ 2 ^ 125 → unit_size b prices j ≤ 2 ^ 125
unit_small b prices j h l u f =
    let p : 1 * unit_size b prices j ≤ reach (side_at b.columns j) * unit_size b prices j = mul-le-mul u (omega arith) in
    omega (arith, p, unit_weight b prices j, weight_within b prices j h l)

costs_small : (b : Problem) (prices : Prices) (j : ℕ) → Placed b → j < length b.columns → 0 < reach (side_at b.columns j) → price_size b prices ≤ 2 ^ 125 →
    (unsigned_abs prices.scale * unsigned_abs (number_at b.line j) ≤ 2 ^ 125) × (unsigned_abs prices.scale * unsigned_abs (number_at b.square j) ≤ 2 ^ 125)
    × (unsigned_abs prices.scale * unsigned_abs (number_at b.line j) + unit_size b prices j ≤ 2 ^ 125)
costs_small b prices j h l u f =
    let m = reach (side_at b.columns j) in
    let s = unsigned_abs prices.scale in
    let line = unsigned_abs (number_at b.line j) in
    let square = unsigned_abs (number_at b.square j) in
    let p : line * 1 ≤ line * m = mul-le-mul_left line u in
    let r : 1 * 1 ≤ m * m = mul-le-mul u u in
    let q : square * (1 * 1) ≤ square * (m * m) = mul-le-mul_left square r in
    let a : s * line ≤ s * (line * m) = mul-le-mul_left s (omega (arith, p)) in
    let c : s * square ≤ s * (square * (m * m)) = mul-le-mul_left s (omega (arith, q)) in
    let t : 1 * unit_size b prices j ≤ m * unit_size b prices j = mul-le-mul u (omega arith) in
    let w = weight_within b prices j h l in
    let e = unit_weight b prices j in
    (omega (arith, a, w), omega (arith, c, w), omega (arith, a, t, e, w))

-- in such a column the price of its first entries fits
pub unit_fits_upto : (b : Problem) (prices : Prices) (j k : ℕ) → Placed b → j < length b.columns → 0 < reach (side_at b.columns j) → price_size b prices ≤ 2 ^ 125 → FitsSigned w128 (sum_z (entry_price prices j) (take k b.entries))
unit_fits_upto b prices j k h l u f = fits_from_abs (sum_z (entry_price prices j) (take k b.entries)) (omega (arith, unit_upto b prices j k, unit_small b prices j h l u f))

-- and so does what one entry adds
pub entry_fits : (b : Problem) (prices : Prices) (j k : ℕ) → Placed b → j < length b.columns → 0 < reach (side_at b.columns j) → price_size b prices ≤ 2 ^ 125 → k < length b.entries → FitsSigned w128 (entry_price prices j (get_or b.entries k no_entry))
entry_fits b prices j k h l u f m =
    let g : Entry → ℕ = λ e. if e.column == j then unsigned_abs (number_at prices.values e.row) * unsigned_abs e.value else 0 in
    let p = entry_price-size prices j (get_or b.entries k no_entry) in
    let q = get_or-le-sum_by g b.entries k no_entry m in
    fits_from_abs (entry_price prices j (get_or b.entries k no_entry)) (omega (arith, p, q, unit_small b prices j h l u f))

-- and so do its scaled costs
pub scaled_line-fits : (b : Problem) (prices : Prices) (j : ℕ) → Placed b → j < length b.columns → 0 < reach (side_at b.columns j) → price_size b prices ≤ 2 ^ 125 → FitsSigned w128 (prices.scale *ℤ number_at b.line j)
scaled_line-fits b prices j h l u f = fits_from_abs (prices.scale *ℤ number_at b.line j) (omega (arith, unsigned_abs-mul prices.scale (number_at b.line j), (costs_small b prices j h l u f).0))

pub scaled_square-fits : (b : Problem) (prices : Prices) (j : ℕ) → Placed b → j < length b.columns → 0 < reach (side_at b.columns j) → price_size b prices ≤ 2 ^ 125 → FitsSigned w128 (scaled_square b prices j)
scaled_square-fits b prices j h l u f = fits_from_abs (scaled_square b prices j) (omega (arith, unsigned_abs-mul prices.scale (number_at b.square j), (costs_small b prices j h l u f).1))

pub reduced_cost-fits : (b : Problem) (prices : Prices) (j : ℕ) → Placed b → j < length b.columns → 0 < reach (side_at b.columns j) → price_size b prices ≤ 2 ^ 125 → FitsSigned w128 (reduced_cost b prices j)
reduced_cost-fits b prices j h l u f =
    let less = abs-less (prices.scale *ℤ number_at b.line j) (unit_price b prices j) in
    let p = unsigned_abs-mul prices.scale (number_at b.line j) in
    fits_from_abs (reduced_cost b prices j) (omega (arith, less, p, unit_within b prices j, (costs_small b prices j h l u f).2))

-- the magnitude of the problem with the prices taken into its objective
pub kept_value : (b : Problem) (prices : Prices) (line square : List ℤ) → Placed b → ((j : ℕ) → j < length b.columns → number_at line j ≡ kept_cost b prices j) → ((j : ℕ) → j < length b.columns → number_at square j ≡ kept_square b prices j) →
    value_size b.columns (reduced_constant b prices) line square ≤ price_size b prices
kept_value b prices line square h p q =
    let s = size_below-mono (length b.columns) (column_size b.columns line square) (column_weight b prices) each in
    omega (arith, s, constant_size b prices, price_size-is b prices h)
  where
    each : (j : ℕ) → j < length b.columns → column_size b.columns line square j ≤ column_weight b prices j
    each j l =
        let m = reach (side_at b.columns j) in
        let a = ap (λ z. unsigned_abs z * m) (p j l) in
        let c = ap (λ z. unsigned_abs z * (m * m)) (q j l) in
        omega (arith, a, c, kept_size b prices j)

-- a scaled square isn't negative
pub kept_square-positive : (b : Problem) (prices : Prices) (j : ℕ) → pos 1 ≤ℤ prices.scale → pos 0 ≤ℤ number_at b.square j → pos 0 ≤ℤ kept_square b prices j
kept_square-positive b prices j h k = by_test (reach (side_at b.columns j) == 0)
  where
    product : (s q : ℤ) → pos 1 ≤ℤ s → pos 0 ≤ℤ q → pos 0 ≤ℤ (s *ℤ q)
    product (pos n) q h k = let o = times_order n (pos 0) q k in omega (arith, ints, o)
    product (negsuc n) q h k = absurd (omega (arith, ints))

    by_test : (t : Bool) → pos 0 ≤ℤ (if t then pos 0 else scaled_square b prices j)
    by_test true = omega (arith, ints)
    by_test false = product prices.scale (number_at b.square j) h k
