-- the total that prices give, over the scale, is at most the objective at each feasible point in the box

use Rattle.std.proofs.Common.{arith, refl, ap, sym, ◌∙◌, ◌≡◌, ℕ, zero, suc, ◌<◌, Bool, true, false, ◌==◌, List, get_or, length, ℤ, pos, negsuc, ◌+ℤ◌, ◌-ℤ◌, ◌*ℤ◌, ◌≤ℤ◌, ◌<ℤ◌, int_lt, int_le, Option, Some, None, if◌then◌else◌}
use Rattle.std.proofs.lemmas.Int.{ints}
use Rattle.std.proofs.lemmas.List.Elements.{recursion_from_All}
use Rattle.std.proofs.Math.IntN.{*ℤ_comm, pred_ℤ-*ℤ, suc_ℤ-*ℤ}
use Rattle.std.specs.List.{All, AllByRecursion}
use Rattle.wide_num.specs.Quotients.{IsCeiling}
use Rattle.boxed_problem.specs.Data.{Problem}
use Rattle.boxed_problem.specs.BoxedFacts.{limits_at}
use Rattle.boxed_problem.specs.Objective.{curve, value_of, value_part}
use Rattle.boxed_problem.specs.Optimum.{Feasible}
use Rattle.boxed_problem.specs.Points.{InBox}
use Rattle.boxed_problem.specs.PriceFit.{FitsPrices, HasSign}
use Rattle.boxed_problem.specs.Rows.{activity, activity_part, is_above, is_below, meets}
use Rattle.boxed_problem.specs.Sides.{Within, side_at}
use Rattle.base_words.specs.Sums.{number_at, sum_below}
use Rattle.boxed_problem.specs.declared.parts.Entry.{Entry}
use Rattle.boxed_problem.specs.declared.parts.Limits.{Limits}
use Rattle.boxed_problem.specs.declared.parts.Prices.{Prices}
use Rattle.boxed_problem.specs.declared.parts.Side.{Side}
use Rattle.base_words.proofs.Comparisons.{both_left, both_right, most_from_test}
use Rattle.base_words.proofs.Products.{sum_times, times_one, times_order, times_sum, times_turn, zero_times}
use Rattle.base_words.specs.ListSums.{sum_z}
use Rattle.base_words.proofs.ListSums.{sum_z-by, sum_z-same, sum_z-times}
use Rattle.base_words.proofs.ListSumsByNumber.{sum_below-add, sum_below-same}
use Rattle.base_words.proofs.SumBounds.{sum_below-mono}
use Rattle.safe_bound.specs.PriceBound.{IsPriceBound, entry_price, limit_number, limit_price, limit_sum, paid_limit, price_total, priced_activity, reduced_cost, reduced_least, scaled_square, unit_price}
use Rattle.safe_bound.proofs.KeyedSums.{by_key, sum_below-times}
use Rattle.safe_bound.proofs.LeastLaws.{least_on-le}

-- a product with the opposite of a number
minus_times : (b c : ℤ) → ((pos 0 -ℤ b) *ℤ c) ≡ (pos 0 -ℤ (b *ℤ c))
minus_times b c =
    let d = sum_times (pos 0 -ℤ b) b c in
    let n : ((pos 0 -ℤ b) +ℤ b) ≡ pos 0 = omega (arith, ints) in
    let e = ap (λ z. z *ℤ c) n in
    omega (arith, ints, d, e, zero_times c)

-- products in three
pub times_assoc : (a b c : ℤ) → (a *ℤ (b *ℤ c)) ≡ ((a *ℤ b) *ℤ c)
times_assoc (pos zero) b c = zero_times (b *ℤ c) ∙ sym (ap (λ z. z *ℤ c) (zero_times b) ∙ zero_times c)
times_assoc (pos (suc n)) b c =
    let e = ap (λ z. z *ℤ c) (suc_ℤ-*ℤ (pos n) b) ∙ sum_times (pos n *ℤ b) b c in
    omega (arith, ints, suc_ℤ-*ℤ (pos n) (b *ℤ c), e, times_assoc (pos n) b c)
times_assoc (negsuc zero) b c =
    let e = ap (λ z. z *ℤ c) (pred_ℤ-*ℤ (pos 0) b) in
    let f : ((pos 0 *ℤ b) -ℤ b) ≡ ((pos 0 *ℤ b) +ℤ (pos 0 -ℤ b)) = omega (arith, ints) in
    let g = ap (λ z. z *ℤ c) f ∙ sum_times (pos 0 *ℤ b) (pos 0 -ℤ b) c in
    let z = ap (λ z. z *ℤ c) (zero_times b) ∙ zero_times c in
    let m = minus_times b c in
    omega (arith, ints, pred_ℤ-*ℤ (pos 0) (b *ℤ c), zero_times (b *ℤ c), e, g, z, m)
times_assoc (negsuc (suc n)) b c =
    let e = ap (λ z. z *ℤ c) (pred_ℤ-*ℤ (negsuc n) b) in
    let f : ((negsuc n *ℤ b) -ℤ b) ≡ ((negsuc n *ℤ b) +ℤ (pos 0 -ℤ b)) = omega (arith, ints) in
    let g = ap (λ z. z *ℤ c) f ∙ sum_times (negsuc n *ℤ b) (pos 0 -ℤ b) c in
    let m = minus_times b c in
    omega (arith, ints, pred_ℤ-*ℤ (negsuc n) (b *ℤ c), e, g, m, times_assoc (negsuc n) b c)

-- what an entry costs at a point: its row's price times the entry times the column's value
abbrev entry_cost : Prices → List ℤ → Entry → ℤ
entry_cost prices x e = (number_at prices.values e.row *ℤ e.value) *ℤ number_at x e.column

-- parts that are the same at every entry
same_parts : (f g : Entry → ℤ) (es : List Entry) → ((e : Entry) → f e ≡ g e) → sum_z f es ≡ sum_z g es
same_parts f g es h = sum_z-same f g es (recursion_from_All (λ e. f e ≡ g e) es (λ k d l. h (get_or es k d)))

-- a row's price times its activity, entry by entry
row_cost : (b : Problem) (prices : Prices) (x : List ℤ) (i : ℕ) →
    (number_at prices.values i *ℤ activity b.entries x i) ≡ sum_z (λ (e : Entry). if e.row == i then entry_cost prices x e else pos 0) b.entries
row_cost b prices x i =
    sym (sum_z-times (number_at prices.values i) (activity_part x i) b.entries)
    ∙ same_parts (λ e. number_at prices.values i *ℤ activity_part x i e) (λ (e : Entry). if e.row == i then entry_cost prices x e else pos 0) b.entries (λ e. by_test e (e.row == i) refl)
  where
    by_test : (e : Entry) (t : Bool) → (e.row == i) ≡ t → (number_at prices.values i *ℤ (if t then e.value *ℤ number_at x e.column else pos 0)) ≡ (if t then entry_cost prices x e else pos 0)
    by_test e true h =
        let same : e.row ≡ i = grind arith in
        times_assoc (number_at prices.values i) e.value (number_at x e.column) ∙ sym (ap (λ k. (number_at prices.values k *ℤ e.value) *ℤ number_at x e.column) same)
    by_test e false h = omega (arith, ints)

-- the price of a column's units, entry by entry
column_cost : (b : Problem) (prices : Prices) (x : List ℤ) (j : ℕ) →
    (unit_price b prices j *ℤ number_at x j) ≡ sum_z (λ (e : Entry). if e.column == j then entry_cost prices x e else pos 0) b.entries
column_cost b prices x j =
    sum_z-by (entry_price prices j) (number_at x j) b.entries
    ∙ same_parts (λ e. entry_price prices j e *ℤ number_at x j) (λ (e : Entry). if e.column == j then entry_cost prices x e else pos 0) b.entries (λ e. by_test e (e.column == j) refl)
  where
    by_test : (e : Entry) (t : Bool) → (e.column == j) ≡ t → ((if t then number_at prices.values e.row *ℤ e.value else pos 0) *ℤ number_at x j) ≡ (if t then entry_cost prices x e else pos 0)
    by_test e true h =
        let same : e.column ≡ j = grind arith in
        sym (ap (λ k. (number_at prices.values e.row *ℤ e.value) *ℤ number_at x k) same)
    by_test e false h = zero_times (number_at x j)

-- what is paid for the rows is what is paid for the columns' units
priced_columns : (b : Problem) (prices : Prices) (x : List ℤ) → All (λ e. (e.row < length b.rows) × (e.column < length b.columns)) b.entries →
    priced_activity b prices x ≡ sum_below (length b.columns) (λ j. unit_price b prices j *ℤ number_at x j)
priced_columns b prices x h =
    sum_below-same (length b.rows) (λ i. number_at prices.values i *ℤ activity b.entries x i) (λ i. sum_z (λ (e : Entry). if e.row == i then entry_cost prices x e else pos 0) b.entries) (λ i l. row_cost b prices x i)
    ∙ (by_key (λ (e : Entry). e.row) (entry_cost prices x) (length b.rows) b.entries rows
    ∙ (sym (by_key (λ (e : Entry). e.column) (entry_cost prices x) (length b.columns) b.entries columns)
    ∙ sym (sum_below-same (length b.columns) (λ j. unit_price b prices j *ℤ number_at x j) (λ j. sum_z (λ (e : Entry). if e.column == j then entry_cost prices x e else pos 0) b.entries) (λ j l. column_cost b prices x j))))
  where
    rows : AllByRecursion (λ (e : Entry). e.row < length b.rows) b.entries
    rows = recursion_from_All (λ (e : Entry). e.row < length b.rows) b.entries (λ k d l. (h k d l).0)

    columns : AllByRecursion (λ (e : Entry). e.column < length b.columns) b.entries
    columns = recursion_from_All (λ (e : Entry). e.column < length b.columns) b.entries (λ k d l. (h k d l).1)

-- the scale times what a column adds is what it adds at the reduced cost and what its units are priced
column_split : (s line square u x : ℤ) → (s *ℤ curve line square x) ≡ (curve ((s *ℤ line) -ℤ u) (s *ℤ square) x +ℤ (u *ℤ x))
column_split s line square u x =
    let a = times_sum s (line *ℤ x) (square *ℤ (x *ℤ x)) in
    let p = times_assoc s line x in
    let q = times_assoc s square (x *ℤ x) in
    let d = sum_times ((s *ℤ line) -ℤ u) u x in
    let n : (((s *ℤ line) -ℤ u) +ℤ u) ≡ (s *ℤ line) = omega (arith, ints) in
    let e = ap (λ z. z *ℤ x) n in
    omega (arith, ints, a, p, q, d, e)

-- the scale times the objective less the sum of price times activity, column by column
pub by_columns : (b : Problem) (prices : Prices) (x : List ℤ) → All (λ e. (e.row < length b.rows) × (e.column < length b.columns)) b.entries →
    ((prices.scale *ℤ value_of b x) -ℤ priced_activity b prices x) ≡ ((prices.scale *ℤ b.constant) +ℤ sum_below (length b.columns) (λ j. curve (reduced_cost b prices j) (scaled_square b prices j) (number_at x j)))
by_columns b prices x h =
    let n = length b.columns in
    let f : ℕ → ℤ = value_part b.line b.square x in
    let reduced : ℕ → ℤ = λ j. curve (reduced_cost b prices j) (scaled_square b prices j) (number_at x j) in
    let units : ℕ → ℤ = λ j. unit_price b prices j *ℤ number_at x j in
    let a = times_sum prices.scale b.constant (sum_below n f) in
    let p = sum_below-times prices.scale n f in
    let q = sum_below-same n (λ j. prices.scale *ℤ f j) (λ j. reduced j +ℤ units j) (λ j l. column_split prices.scale (number_at b.line j) (number_at b.square j) (unit_price b prices j) (number_at x j)) in
    let r = sum_below-add n reduced units in
    let t = priced_columns b prices x h in
    omega (arith, ints, a, p, q, r, t)

-- a price pays at most for the activity of a row that is met
paid_below : (limits : Limits) (price a : ℤ) → HasSign limits price → meets limits a ≡ true → (price *ℤ paid_limit limits price) ≤ℤ (price *ℤ a)
paid_below limits price a s m = by_sign price s refl
  where
    low : (o : Option ℤ) (n : ℕ) → limits.lower ≡ o → (o ≡ None → pos n ≤ℤ pos 0) → pos 0 <ℤ pos n → (pos n *ℤ limit_number o) ≤ℤ (pos n *ℤ a)
    low None n e h l = absurd (omega (arith, ints, h refl))
    low (Some limit) n e h l = times_order n limit a (most_from_test limit a (sym (ap (λ o. is_above o a) e) ∙ both_left (is_above limits.lower a) (is_below limits.upper a) m))

    high : (o : Option ℤ) (n : ℕ) → limits.upper ≡ o → (o ≡ None → pos 0 ≤ℤ negsuc n) → (negsuc n *ℤ limit_number o) ≤ℤ (negsuc n *ℤ a)
    high None n e h = absurd (omega (arith, ints, h refl))
    high (Some limit) n e h = times_turn n a limit (most_from_test a limit (sym (ap (λ o. is_below o a) e) ∙ both_right (is_above limits.lower a) (is_below limits.upper a) m))

    by_sign : (y : ℤ) → HasSign limits y → price ≡ y → (y *ℤ paid_limit limits y) ≤ℤ (y *ℤ a)
    by_sign (pos n) h e = by_test (int_lt (pos 0) (pos n)) refl
      where
        by_test : (t : Bool) → int_lt (pos 0) (pos n) ≡ t → (pos n *ℤ (if t then limit_number limits.lower else limit_number limits.upper)) ≤ℤ (pos n *ℤ a)
        by_test true d = low limits.lower n refl h.below (grind (arith, ints))
        by_test false d =
            let none : pos n ≡ pos 0 = grind (arith, ints) in
            let l = ap (λ z. z *ℤ limit_number limits.upper) none ∙ zero_times (limit_number limits.upper) in
            let r = ap (λ z. z *ℤ a) none ∙ zero_times a in
            omega (arith, ints, l, r)
    by_sign (negsuc n) h e = high limits.upper n refl h.above

-- what is paid for the limits is at most what is paid for the activities
pub limits_below : (b : Problem) (prices : Prices) (x : List ℤ) → ((i : ℕ) → i < length b.rows → HasSign (limits_at b.rows i) (number_at prices.values i)) → Feasible b x →
    limit_sum b prices ≤ℤ priced_activity b prices x
limits_below b prices x s f =
    sum_below-mono (length b.rows) (limit_price b prices) (λ i. number_at prices.values i *ℤ activity b.entries x i)
    (λ i l. paid_below (limits_at b.rows i) (number_at prices.values i) (activity b.entries x i) (s i l) (f.rows i l))

-- the leasts are at most what the columns add at a point of the box
leasts_below : (b : Problem) (prices : Prices) (box : List Side) (x : List ℤ) → length box ≡ length b.columns → InBox box x →
    sum_below (length b.columns) (reduced_least b prices box) ≤ℤ sum_below (length b.columns) (λ j. curve (reduced_cost b prices j) (scaled_square b prices j) (number_at x j))
leasts_below b prices box x e i =
    sum_below-mono (length b.columns) (reduced_least b prices box) (λ j. curve (reduced_cost b prices j) (scaled_square b prices j) (number_at x j))
    (λ j l. let m : j < length box = omega (arith, e) in least_on-le (reduced_cost b prices j) (scaled_square b prices j) (side_at box j) (number_at x j) (i.lower j m) (i.upper j m))

-- the total is at most the scale times the objective at each feasible point in the box
total_below : (b : Problem) (prices : Prices) (box : List Side) (x : List ℤ) → All (λ e. (e.row < length b.rows) × (e.column < length b.columns)) b.entries →
    ((i : ℕ) → i < length b.rows → HasSign (limits_at b.rows i) (number_at prices.values i)) → length box ≡ length b.columns → Feasible b x → InBox box x →
    price_total b prices box ≤ℤ (prices.scale *ℤ value_of b x)
total_below b prices box x p s e f i =
    let a = by_columns b prices x p in
    let l = limits_below b prices x s f in
    let m = leasts_below b prices box x e i in
    omega (arith, ints, a, l, m)

-- a quotient rounded up is at most a number whose multiple is at least the dividend
ceiling_below : (a s q v : ℤ) → pos 1 ≤ℤ s → IsCeiling a s q → a ≤ℤ (s *ℤ v) → q ≤ℤ v
ceiling_below a (negsuc n) q v p c h = absurd (omega (arith, ints))
ceiling_below a (pos n) q v p c h = by_test (int_le q v) refl
  where
    by_test : (t : Bool) → int_le q v ≡ t → q ≤ℤ v
    by_test true e = most_from_test q v e
    by_test false e =
        let above : (v +ℤ pos 1) ≤ℤ q = grind (arith, ints) in
        let o = times_order n (v +ℤ pos 1) q above in
        let d = times_sum (pos n) v (pos 1) in
        let u = times_one (pos n) in
        let t = *ℤ_comm q (pos n) in
        absurd (omega (arith, ints, o, d, u, t, c.1))

-- there is one quotient rounded up
pub ceiling_only : (a s p q : ℤ) → pos 1 ≤ℤ s → IsCeiling a s p → IsCeiling a s q → p ≡ q
ceiling_only a s p q l c d =
    let x = ceiling_below a s p q l c (omega (arith, ints, d.0, *ℤ_comm s q)) in
    let y = ceiling_below a s q p l d (omega (arith, ints, c.0, *ℤ_comm s p)) in
    omega (arith, ints, x, y)

-- the bound is at most the objective at each feasible point in the box
pub bound_below : (b : Problem) (prices : Prices) (box : List Side) (v : ℤ) → All (λ e. (e.row < length b.rows) × (e.column < length b.columns)) b.entries → FitsPrices b prices → Within box b.columns →
    IsPriceBound b prices box v → (x : List ℤ) → Feasible b x → InBox box x → v ≤ℤ value_of b x
bound_below b prices box v p f w c x g i = ceiling_below (price_total b prices box) prices.scale v (value_of b x) f.scale c (total_below b prices box x p f.signs w.long g i)
