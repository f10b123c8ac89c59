-- How great the numbers of a hedged problem become.

use Rattle.std.proofs.Common.{arith, refl, sym, ap, subst, ◌∙◌, ◌≡◌, ℕ, ◌+◌, ◌*◌, ◌^◌, ◌<◌, ◌≤◌, max, nat_lt, Bool, true, false, List, length, map, get_or, ℤ, pos, negsuc, ◌+ℤ◌, ◌-ℤ◌, ◌*ℤ◌, ◌≤ℤ◌, unsigned_abs, if◌then◌else◌}
use Rattle.std.proofs.lemmas.Int.{ints, unsigned_abs-mul}
use Rattle.std.proofs.lemmas.List.{length-map}
use Rattle.std.proofs.lemmas.List.Elements.{All-map, recursion_from_All}
use Rattle.std.proofs.lemmas.List.FromFn.{get_or-map-range_with_len, get_or-range_with_len, length-map-range_with_len, length-range_with_len}
use Rattle.std.proofs.Math.IntN.{*ℤ-zero}
use Rattle.std.proofs.Math.Nat.{mul_comm, mul-le-mul}
use Rattle.std.specs.Int.{int_div_euclid}
use Rattle.std.specs.List.{All, range_with_len, sum_by}
use Rattle.base_words.specs.Sums.{number_at, size_below}
use Rattle.base_words.proofs.Magnitudes.{abs-add, abs-less}
use Rattle.base_words.proofs.Products.{times_order}
use Rattle.base_words.proofs.SumBounds.{size_below-add, size_below-mono, size_below-part, size_below-times}
use Rattle.boxed_problem.specs.Data.{Problem, problem_of}
use Rattle.boxed_problem.specs.BoxedFacts.{column_size, IsBoxed, value_size}
use Rattle.tree_core.specs.Nodes.{IsNode, no_node}
use Rattle.boxed_problem.specs.declared.problem.Boxed.{Boxed}
use Rattle.sp_model.specs.Changes.{side_of, sides}
use Rattle.run_calls.specs.MultiplierTests.{AreSized, most_at, node_at}
use Rattle.sp_model.specs.Plans.{multiplier_of}
use Rattle.sp_model.specs.Problems.{no_scenario, problem_in, scenarios}
use Rattle.sp_model.specs.Reaching.{box_reach, hedge_part, hedge_reach, greatest}
use Rattle.sp_model.specs.declared.plan.Multipliers.{Multipliers}
use Rattle.sp_model.specs.declared.run.Run.{Run}
use Rattle.sp_model.proofs.Bounds.{factor_abs, reach_parts}
use Rattle.sp_model.proofs.DataFacts.{boxed_is}
use Rattle.sp_model.proofs.Sizes.{greatest_le}
use Rattle.put_words.specs.Hedged.{hedged_in, hedged_line, hedged_square, pull}
use Rattle.put_words.specs.Objectives.{with_objective}
use Rattle.put_words.specs.NodeSums.{AreInside, bundle, node_for, sum_of, weight_at}
use Rattle.put_words.proofs.Rises.{node_below, weight_above}
use Rattle.sp_model.proofs.CostSpans.{cost_span, line_part, line_parts_le}
use Rattle.put_words.proofs.Spans.{cut_le}
use Rattle.sp_model.proofs.LeastSums.{total_abs_is, weight_size}
use Rattle.base_words.proofs.NumberTests.{less_from_test}
use Rattle.base_words.proofs.Quotients.{floor_small}
use Rattle.put_words.proofs.Weights.{node_sum_abs, weight_sum}

raw_is : (w r m : ℕ) → w * (w * (2 * r * m)) ≡ 2 * r * (w * w) * m
raw_is w r m = grind arith

-- the raw part of the reach bounds all weighted sums
pub raw_room : (run : Run) (j : ℕ) → j < run.nonleaf → unsigned_abs run.total * (unsigned_abs run.total * (2 * unsigned_abs run.options.rho * box_reach run.program j)) ≤ 2 ^ 120
raw_room run j h =
    let w = unsigned_abs run.total in
    let r = unsigned_abs run.options.rho in
    let m = box_reach run.program j in
    let columns = range_with_len 0 run.nonleaf in
    let most = greatest (map (box_reach run.program) columns) in
    let at = ap (box_reach run.program) (get_or-range_with_len 0 run.nonleaf j 0 h) in
    let zeroth : 0 + j ≡ j = omega arith in
    let own = greatest_le (box_reach run.program) columns j 0 (omega (arith, length-range_with_len 0 run.nonleaf)) in
    let below : m ≤ max 1 most = omega (arith, at, ap (box_reach run.program) zeroth, own) in
    let same : 2 * r * (w * w) ≤ 2 * r * (w * w) = omega arith in
    let raw = (reach_parts run).2 in
    omega (arith, mul-le-mul same below, raw_is w r m, raw)

-- a weight is at most the total
pub size_le : (run : Run) (s : ℕ) → s < scenarios run → weight_size run s ≤ unsigned_abs run.total
size_le run s l = omega (arith, size_below-part (scenarios run) (weight_size run) s l, total_abs_is run)

pull_is : (r w u m : ℕ) → (2 * (r * w)) * (u * m) ≡ u * (w * (2 * r * m))
pull_is r w u m = grind arith

pub twice_abs : (a : ℤ) → unsigned_abs (pos 2 *ℤ a) ≡ 2 * unsigned_abs a
twice_abs a = unsigned_abs-mul (pos 2) a

-- the numerator of a pull
pub pull_numerator_abs : (run : Run) (x : List ℤ) (ns : List ℕ) (j s : ℕ) → AreInside run x → All (λ u. u < scenarios run) ns → j < run.nonleaf →
    unsigned_abs ((pos 2 *ℤ (run.options.rho *ℤ weight_at run s)) *ℤ sum_of run x ns j) ≤ sum_by (weight_size run) ns * (weight_size run s * (2 * unsigned_abs run.options.rho * box_reach run.program j))
pull_numerator_abs run x ns j s inside below h =
    let r = unsigned_abs run.options.rho in
    let w = weight_size run s in
    let u = sum_by (weight_size run) ns in
    let m = box_reach run.program j in
    let rate : unsigned_abs (pos 2 *ℤ (run.options.rho *ℤ weight_at run s)) ≡ 2 * (r * w) = twice_abs (run.options.rho *ℤ weight_at run s) ∙ ap (λ k. 2 * k) (unsigned_abs-mul run.options.rho (weight_at run s)) in
    let same : 2 * (r * w) ≤ 2 * (r * w) = omega arith in
    let whole = unsigned_abs-mul (pos 2 *ℤ (run.options.rho *ℤ weight_at run s)) (sum_of run x ns j) in
    omega (arith, whole, ap (λ k. k * unsigned_abs (sum_of run x ns j)) rate, mul-le-mul same (node_sum_abs run x ns j inside below h), pull_is r w u m)

pub pull_abs : (run : Run) (x : List ℤ) (s j : ℕ) → AreInside run x → s < scenarios run → j < run.nonleaf → unsigned_abs (pull run x s j) ≤ weight_size run s * (2 * unsigned_abs run.options.rho * box_reach run.program j)
pull_abs run x s j inside l h =
    let n = node_for run s j in
    let ns = bundle run s j in
    let fact : IsNode run.program.tree.stages (scenarios run) (node_at run n) = run.facts.tree.nodes n no_node (node_below run s j l h) in
    let u = sum_by (weight_size run) ns in
    let z = (pos 2 *ℤ (run.options.rho *ℤ weight_at run s)) *ℤ sum_of run x ns j in
    let weight = weight_sum run ns (recursion_from_All (λ k. k < scenarios run) ns fact.there) in
    let most = weight_size run s * (2 * unsigned_abs run.options.rho * box_reach run.program j) in
    let bound = floor_small z u most (weight_above run ns fact.there fact.filled) (subst (λ k. unsigned_abs z ≤ k) (mul_comm u most) (pull_numerator_abs run x ns j s inside fact.there h)) in
    omega (arith, bound, ap (λ d. unsigned_abs (int_div_euclid z d)) weight)

-- the linear and the square part of a column
hedged_line_at : (run : Run) (multipliers : Multipliers) (x : List ℤ) (s j : ℕ) → j < length run.program.columns → number_at (hedged_in run multipliers x s).line j ≡ hedged_line run multipliers x s j
unfolding hedged_in
hedged_line_at run multipliers x s j h = get_or-map-range_with_len (hedged_line run multipliers x s) 0 (length run.program.columns) j j (pos 0) h (omega arith)

hedged_square_at : (run : Run) (multipliers : Multipliers) (x : List ℤ) (s j : ℕ) → j < length run.program.columns → number_at (hedged_in run multipliers x s).square j ≡ hedged_square run s j
unfolding hedged_in
hedged_square_at run multipliers x s j h = get_or-map-range_with_len (hedged_square run s) 0 (length run.program.columns) j j (pos 0) h (omega arith)

line_abs : (c p q : ℤ) → unsigned_abs ((pos 2 *ℤ (c +ℤ p)) -ℤ q) ≤ 2 * (unsigned_abs c + unsigned_abs p) + unsigned_abs q
line_abs c p q =
    omega (arith, abs-less (pos 2 *ℤ (c +ℤ p)) q, twice_abs (c +ℤ p), abs-add c p)

part_is : (c p q m : ℕ) → (2 * (c + p) + q) * m ≡ 2 * (c * m) + 2 * p * m + q * m
part_is c p q m = grind arith

draw_is : (w r m : ℕ) → w * (2 * r * m) * m ≡ 2 * (r * w * (m * m))
draw_is w r m = grind arith

penalty_is : (w r m : ℕ) → 3 * r * w * (m * m) ≡ 3 * (r * w * (m * m))
penalty_is w r m = grind arith

rate_is : (w r m : ℕ) → r * w * (m * m) ≡ (m * m) * r * w
rate_is w r m = grind arith

-- what a column adds to a hedged objective
hedged_part_le : (run : Run) (multipliers : Multipliers) (x : List ℤ) (s j : ℕ) → AreSized run multipliers → AreInside run x → s < scenarios run → (b : Bool) → nat_lt j run.nonleaf ≡ b →
    unsigned_abs (if b then (pos 2 *ℤ (number_at (problem_in run s).line j +ℤ multiplier_of run multipliers s j)) -ℤ pull run x s j else pos 2 *ℤ number_at (problem_in run s).line j) * box_reach run.program j
    + unsigned_abs (if b then run.options.rho *ℤ weight_at run s else pos 0) * (box_reach run.program j * box_reach run.program j)
    ≤ 2 * line_part run s j + (if b then hedge_part run.program run.options run.total j else 0)
hedged_part_le run multipliers x s j sized inside l true e =
    let h = less_from_test j run.nonleaf e in
    let r = unsigned_abs run.options.rho in
    let w = unsigned_abs run.total in
    let m = box_reach run.program j in
    let most = most_at run j in
    let c = number_at (problem_in run s).line j in
    let p = multiplier_of run multipliers s j in
    let q = pull run x s j in
    let same : m ≤ m = omega arith in
    let same_square : m * m ≤ m * m = omega arith in
    let same_unit : 2 * r * m ≤ 2 * r * m = omega arith in
    let same_rate : r ≤ r = omega arith in
    let weight = size_le run s l in
    let line = mul-le-mul (line_abs c p q) same in
    let twice : 2 * unsigned_abs p ≤ 2 * most = omega (arith, sized s j l h) in
    let price = mul-le-mul twice same in
    let drawn : unsigned_abs q ≤ w * (2 * r * m) = omega (arith, pull_abs run x s j inside l h, mul-le-mul weight same_unit) in
    let draw = mul-le-mul drawn same in
    let square = mul-le-mul (mul-le-mul same_rate weight) same_square in
    omega (arith, line, part_is (unsigned_abs c) (unsigned_abs p) (unsigned_abs q) m, price, draw, draw_is w r m, square, ap (λ k. k * (m * m)) (unsigned_abs-mul run.options.rho (weight_at run s)), penalty_is w r m)
hedged_part_le run multipliers x s j sized inside l false e =
    let m = box_reach run.program j in
    let c = number_at (problem_in run s).line j in
    omega (arith, ap (λ k. k * m) (twice_abs c), double (unsigned_abs c) m)
  where
    double : (a m : ℕ) → 2 * a * m ≡ 2 * (a * m)
    double a m = grind arith

-- the size of a hedged problem
hedged_span : (run : Run) (multipliers : Multipliers) (x : List ℤ) (s : ℕ) → AreSized run multipliers → AreInside run x → s < scenarios run →
    value_size (sides run.program) (pos 0) (hedged_in run multipliers x s).line (hedged_in run multipliers x s).square ≤ 2 ^ 122
hedged_span run multipliers x s sized inside l =
    let n = length run.program.columns in
    let p = hedged_in run multipliers x s in
    let part = hedge_part run.program run.options run.total in
    let cut : ℕ → ℕ = λ j. if nat_lt j run.nonleaf then part j else 0 in
    let doubled : ℕ → ℕ = λ j. 2 * line_part run s j in
    let each = size_below-mono n (column_size (sides run.program) p.line p.square) (λ j. doubled j + cut j) (λ j h.
    let m = box_reach run.program j in
    omega (arith, ap (λ z. unsigned_abs z * m) (hedged_line_at run multipliers x s j h), ap (λ z. unsigned_abs z * (m * m)) (hedged_square_at run multipliers x s j h), hedged_part_le run multipliers x s j sized inside l (nat_lt j run.nonleaf) refl)) in
    let long = ap (λ k. size_below k (column_size (sides run.program) p.line p.square)) (length-map run.program.columns side_of) in
    let same : cost_span run.program ≤ cost_span run.program = omega arith in
    let line = mul-le-mul (factor_abs run s l) same in
    let some : 1 ≤ scenarios run = run.facts.counts.some_scenarios in
    let one : 1 ≤ 2 * length run.program.scenarios = omega arith in
    let same_hedge : hedge_reach run.program run.options run.total run.nonleaf ≤ hedge_reach run.program run.options run.total run.nonleaf = omega arith in
    let hedge = mul-le-mul one same_hedge in
    let total = (reach_parts run).0 in
    omega (arith, each, long, size_below-add n doubled cut, size_below-times n 2 (line_part run s), cut_le n run.nonleaf part, line_parts_le run s l, line, total, hedge, (reach_parts run).1)

not_negative : (a b : ℤ) → pos 1 ≤ℤ a → pos 1 ≤ℤ b → pos 0 ≤ℤ (a *ℤ b)
not_negative (pos n) b h k =
    let order = times_order n (pos 0) b (omega (arith, ints)) in
    subst (λ z. z ≤ℤ (pos n *ℤ b)) (*ℤ-zero (pos n)) order
not_negative (negsuc n) b h k = absurd (omega (arith, ints))

-- a hedged problem is one that fits its type
hedged_boxed : (run : Run) (multipliers : Multipliers) (x : List ℤ) (s : ℕ) → AreSized run multipliers → AreInside run x → s < scenarios run →
    IsBoxed (sides run.program) (problem_in run s).rows (problem_in run s).entries (pos 0) (map (hedged_line run multipliers x s) (range_with_len 0 (length run.program.columns))) (map (hedged_square run s) (range_with_len 0 (length run.program.columns)))
unfolding hedged_in
hedged_boxed run multipliers x s sized inside l =
    let old = boxed_is run s l in
    let columns = range_with_len 0 (length run.program.columns) in
    record {
      lines = length-map-range_with_len (hedged_line run multipliers x s) 0 (length run.program.columns) ∙ sym (length-map run.program.columns side_of);
      squares = length-map-range_with_len (hedged_square run s) 0 (length run.program.columns) ∙ sym (length-map run.program.columns side_of);
      filled = old.filled;
      convex = All-map (λ q. pos 0 ≤ℤ q) (hedged_square run s) columns (λ k d h. square (nat_lt (get_or columns k d) run.nonleaf));
      places = old.places;
      ascending = old.ascending;
      value_fits = hedged_span run multipliers x s sized inside l;
      rows_fit = old.rows_fit;
    }
  where
    square : (b : Bool) → pos 0 ≤ℤ (if b then run.options.rho *ℤ weight_at run s else pos 0)
    square true = not_negative run.options.rho (weight_at run s) run.facts.options_fit.some_rho (run.facts.scenarios s no_scenario l).positive
    square false = omega (arith, ints)

-- a scenario's problem with the hedged objective
pub hedged_ready : (run : Run) (multipliers : Multipliers) (x : List ℤ) (s : ℕ) (b : Boxed) (line square : List ℤ) → AreSized run multipliers → AreInside run x → s < scenarios run → problem_of b ≡ problem_in run s →
    line ≡ map (hedged_line run multipliers x s) (range_with_len 0 (length run.program.columns)) → square ≡ map (hedged_square run s) (range_with_len 0 (length run.program.columns)) → IsBoxed b.columns b.rows b.entries (pos 0) line square
hedged_ready run multipliers x s b line square sized inside l e d q =
    let columns : b.columns ≡ (problem_in run s).columns = ap (λ (p : Problem). p.columns) e in
    let rows : b.rows ≡ (problem_in run s).rows = ap (λ (p : Problem). p.rows) e in
    let entries : b.entries ≡ (problem_in run s).entries = ap (λ (p : Problem). p.entries) e in
    rw (columns, rows, entries, d, q) (hedged_boxed run multipliers x s sized inside l)

pub hedged_same : (run : Run) (multipliers : Multipliers) (x : List ℤ) (s : ℕ) (p : Problem) (line square : List ℤ) → p ≡ problem_in run s →
    line ≡ map (hedged_line run multipliers x s) (range_with_len 0 (length run.program.columns)) → square ≡ map (hedged_square run s) (range_with_len 0 (length run.program.columns)) → with_objective p (pos 0) line square ≡ hedged_in run multipliers x s
unfolding hedged_in
hedged_same run multipliers x s p line square e d q = ap (λ (o : Problem). with_objective o (pos 0) line square) e ∙ ap (λ z. with_objective (problem_in run s) (pos 0) z square) d ∙ ap (λ z. with_objective (problem_in run s) (pos 0) (map (hedged_line run multipliers x s) (range_with_len 0 (length run.program.columns))) z) q
