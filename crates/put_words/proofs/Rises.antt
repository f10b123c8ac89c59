-- How far multipliers move at most.

use Rattle.std.proofs.Common.{arith, ap, subst, ◌≡◌, ℕ, suc, ◌+◌, ◌*◌, ◌-◌, ◌<◌, ◌≤◌, ◌==◌, Bool, true, false, List, length, take, get_or, ℤ, neg_ℤ, ◌-ℤ◌, ◌*ℤ◌, unsigned_abs, Some, if◌then◌else◌}
use Rattle.std.proofs.lemmas.Int.{unsigned_abs-mul}
use Rattle.std.proofs.lemmas.List.Elements.{All-take, recursion_from_All}
use Rattle.std.proofs.lemmas.List.Sums.{get_or-le-sum_by, sum_by-take-le}
use Rattle.std.proofs.Math.Nat.{mul-le-mul, mul_comm, suc-mul}
use Rattle.std.specs.Int.{int_div_euclid}
use Rattle.std.specs.List.{All, AllPairs, sum_by}
use Rattle.base_words.specs.ListSums.{sum_z}
use Rattle.base_words.proofs.Magnitudes.{abs-add, abs-less, abs_opposite}
use Rattle.base_words.proofs.SumBounds.{size_below-part}
use Rattle.base_words.proofs.Quotients.{floor_small}
use Rattle.tree_core.specs.Nodes.{IsNode, no_node, scenarios_at}
use Rattle.tree_core.proofs.Finding.{node_there}
use Rattle.run_calls.specs.MultiplierTests.{AreSized, node_at}
use Rattle.sp_model.specs.Plans.{multiplier_of, stage_of}
use Rattle.sp_model.specs.Problems.{scenarios}
use Rattle.sp_model.specs.Reaching.{box_reach, step_reach}
use Rattle.sp_model.specs.declared.plan.Multipliers.{Multipliers}
use Rattle.sp_model.specs.declared.run.Run.{Run}
use Rattle.run_calls.proofs.MemberSums.{members_le, sum_abs, sum_by-times}
use Rattle.put_words.specs.NextMultipliers.{front_of, last_of, move_in, next_of, no_multipliers, rise}
use Rattle.put_words.specs.NodeSums.{AreInside, bundle, node_for, sum_of, value_at, weight_at, weight_of}
use Rattle.put_words.specs.Puts.{Made, put_of}
use Rattle.put_words.proofs.Bundles.{stands}
use Rattle.put_words.proofs.Inside.{each_put}
use Rattle.put_words.proofs.Moves.{next_at, nothing_at}
use Rattle.sp_model.proofs.LeastSums.{total_abs_is, weight_size}
use Rattle.put_words.proofs.Weights.{node_sum_abs, value_abs, weight_some, weight_sum}

regroup : (r w u m : ℕ) → (r * w) * (u * m + u * m) ≡ u * (w * (2 * r * m))
regroup r w u m = grind arith

-- the numerator of a rise
pub numerator_abs : (run : Run) (x : List ℤ) (ns : List ℕ) (j s : ℕ) → AreInside run x → All (λ u. u < scenarios run) ns → s < scenarios run → j < run.nonleaf →
    unsigned_abs ((run.options.rho *ℤ weight_at run s) *ℤ ((weight_of run ns *ℤ value_at run x s j) -ℤ sum_of run x ns j)) ≤ sum_by (weight_size run) ns * (weight_size run s * (2 * unsigned_abs run.options.rho * box_reach run.program j))
numerator_abs run x ns j s inside below l h =
    let r = unsigned_abs run.options.rho in
    let w = weight_size run s in
    let u = sum_by (weight_size run) ns in
    let m = box_reach run.program j in
    let weight = ap unsigned_abs (weight_sum run ns (recursion_from_All (λ k. k < scenarios run) ns below)) in
    let same : u ≤ u = omega arith in
    let product : unsigned_abs (weight_of run ns *ℤ value_at run x s j) ≤ u * m = omega (arith, unsigned_abs-mul (weight_of run ns) (value_at run x s j), ap (λ k. k * unsigned_abs (value_at run x s j)) weight, mul-le-mul same (value_abs run x s j inside l h)) in
    let apart : unsigned_abs ((weight_of run ns *ℤ value_at run x s j) -ℤ sum_of run x ns j) ≤ u * m + u * m = omega (arith, abs-less (weight_of run ns *ℤ value_at run x s j) (sum_of run x ns j), product, node_sum_abs run x ns j inside below h) in
    let rate = unsigned_abs-mul run.options.rho (weight_at run s) in
    let same_rate : r * w ≤ r * w = omega arith in
    let whole = unsigned_abs-mul (run.options.rho *ℤ weight_at run s) ((weight_of run ns *ℤ value_at run x s j) -ℤ sum_of run x ns j) in
    omega (arith, whole, ap (λ k. k * unsigned_abs ((weight_of run ns *ℤ value_at run x s j) -ℤ sum_of run x ns j)) rate, mul-le-mul same_rate apart, regroup r w u m)

-- the weight of a node that isn't empty
pub weight_above : (run : Run) (ns : List ℕ) → All (λ u. u < scenarios run) ns → 0 < length ns → 0 < sum_by (weight_size run) ns
weight_above run ns below some =
    let first = get_or ns 0 0 in
    omega (arith, weight_some run first (below 0 0 some), get_or-le-sum_by (weight_size run) ns 0 0 some)

rise_abs : (run : Run) (x : List ℤ) (ns : List ℕ) (j s : ℕ) → AreInside run x → All (λ u. u < scenarios run) ns → 0 < length ns → s < scenarios run → j < run.nonleaf →
    unsigned_abs (rise run x ns j s) ≤ weight_size run s * (2 * unsigned_abs run.options.rho * box_reach run.program j)
rise_abs run x ns j s inside below some l h =
    let u = sum_by (weight_size run) ns in
    let z = (run.options.rho *ℤ weight_at run s) *ℤ ((weight_of run ns *ℤ value_at run x s j) -ℤ sum_of run x ns j) in
    let weight = weight_sum run ns (recursion_from_All (λ k. k < scenarios run) ns below) in
    let most = weight_size run s * (2 * unsigned_abs run.options.rho * box_reach run.program j) in
    let bound = floor_small z u most (weight_above run ns below some) (subst (λ k. unsigned_abs z ≤ k) (mul_comm u most) (numerator_abs run x ns j s inside below l h)) in
    omega (arith, bound, ap (λ d. unsigned_abs (int_div_euclid z d)) weight)

-- the sum of the rises of some of a node's scenarios
pub rises_abs : (run : Run) (x : List ℤ) (ns : List ℕ) (j k : ℕ) → AreInside run x → All (λ u. u < scenarios run) ns → 0 < length ns → j < run.nonleaf →
    unsigned_abs (sum_z (rise run x ns j) (take k ns)) ≤ sum_by (weight_size run) (take k ns) * (2 * unsigned_abs run.options.rho * box_reach run.program j)
rises_abs run x ns j k inside below some h =
    let c = 2 * unsigned_abs run.options.rho * box_reach run.program j in
    let front = take k ns in
    let front_below = All-take (λ u. u < scenarios run) k ns below in
    let each = recursion_from_All (λ s. unsigned_abs (rise run x ns j s) ≤ weight_size run s * c) front (λ i d l. rise_abs run x ns j (get_or front i d) inside below some (front_below i d l) h) in
    omega (arith, sum_abs (rise run x ns j) (λ s. weight_size run s * c) front each, sum_by-times (weight_size run) c front)

-- the weight of a node is at most the total
pub weight_most : (run : Run) (ns : List ℕ) → AllPairs (λ s u. s < u) ns → All (λ u. u < scenarios run) ns → sum_by (weight_size run) ns ≤ unsigned_abs run.total
weight_most run ns pairs below = omega (arith, members_le (weight_size run) (scenarios run) ns pairs below, total_abs_is run)

pub regroup_step : (w r m : ℕ) → w * (2 * r * m) ≡ 2 * r * w * m
regroup_step w r m = grind arith

-- the scenarios of a node
abbrev members_at : Run → ℕ → List ℕ
members_at run n = scenarios_at run.program.tree.nodes n

-- what a rise of a scenario of weight 1 is at most
abbrev unit_rise : Run → ℕ → ℕ
unit_rise run j = 2 * unsigned_abs run.options.rho * box_reach run.program j

-- a move is at most a step
pub move_abs : (run : Run) (x : List ℤ) (n : ℕ) (j s : ℕ) → AreInside run x → n < length run.program.tree.nodes → s < scenarios run → j < run.nonleaf →
    unsigned_abs (move_in run x (scenarios_at run.program.tree.nodes n) j s) ≤ 2 * unsigned_abs run.options.rho * unsigned_abs run.total * box_reach run.program j
move_abs run x n j s inside l below h = by_last (run.facts.tree.nodes n no_node l) (s == last_of (members_at run n))
  where
    by_last : IsNode run.program.tree.stages (scenarios run) (node_at run n) → (b : Bool) → unsigned_abs (if b then neg_ℤ (sum_z (rise run x (members_at run n) j) (front_of (members_at run n))) else rise run x (members_at run n) j s) ≤ 2 * unsigned_abs run.options.rho * unsigned_abs run.total * box_reach run.program j
    by_last fact true =
        let ns = members_at run n in
        let same : unit_rise run j ≤ unit_rise run j = omega arith in
        let front = sum_by-take-le (weight_size run) ns (length ns - 1) in
        let weight : sum_by (weight_size run) (front_of ns) ≤ unsigned_abs run.total = omega (arith, front, weight_most run ns fact.ascending fact.there) in
        omega (arith, abs_opposite (sum_z (rise run x ns j) (front_of ns)), rises_abs run x ns j (length ns - 1) inside fact.there fact.filled h, mul-le-mul weight same, regroup_step (unsigned_abs run.total) (unsigned_abs run.options.rho) (box_reach run.program j))
    by_last fact false =
        let ns = members_at run n in
        let same : unit_rise run j ≤ unit_rise run j = omega arith in
        let weight : weight_size run s ≤ unsigned_abs run.total = omega (arith, size_below-part (scenarios run) (weight_size run) s below, total_abs_is run) in
        omega (arith, rise_abs run x ns j s inside fact.there fact.filled below h, mul-le-mul weight same, regroup_step (unsigned_abs run.total) (unsigned_abs run.options.rho) (box_reach run.program j))

-- the node of a scenario at a column's stage is there
pub node_below : (run : Run) (s j : ℕ) → s < scenarios run → j < run.nonleaf → node_for run s j < length run.program.tree.nodes
node_below run s j l h = node_there run.program.tree.nodes (stage_of run j) s (stands run s j l h)

-- after k moves from 0 no multiplier is above k steps
abbrev WithinSteps : Run → ℕ → Multipliers → Type 0
WithinSteps run k multipliers = (s j : ℕ) → s < scenarios run → j < run.nonleaf → unsigned_abs (multiplier_of run multipliers s j) ≤ k * step_reach run.program run.options run.total j

within_next : (run : Run) (k : ℕ) (multipliers : Multipliers) (x : List ℤ) → AreInside run x → WithinSteps run k multipliers → WithinSteps run (suc k) (next_of run multipliers x)
within_next run k multipliers x inside old s j l h =
    let step = step_reach run.program run.options run.total j in
    let n = node_for run s j in
    let own = move_abs run x n j s inside (node_below run s j l h) l h in
    omega (arith, ap unsigned_abs (next_at run multipliers x s j l h), abs-add (multiplier_of run multipliers s j) (move_in run x (bundle run s j) j s), old s j l h, own, suc-mul k step)

put_within : (run : Run) (k : ℕ) (made : Made) → put_of run k ≡ Some made → WithinSteps run k made.put.multipliers
put_within run k made e = each_put run (λ n multipliers. WithinSteps run n multipliers) (λ s j l h. let none : unsigned_abs (multiplier_of run (no_multipliers run) s j) ≡ 0 = ap unsigned_abs (nothing_at run s j) in omega arith) (λ n multipliers x inside old. within_next run n multipliers x inside old) k made e

pub put_sized : (run : Run) (k : ℕ) (made : Made) → k ≤ run.options.iterations + 1 → put_of run k ≡ Some made → AreSized run made.put.multipliers
put_sized run k made most e s j l h =
    let step = step_reach run.program run.options run.total j in
    let few : k ≤ run.options.iterations + 2 = omega arith in
    let same : step ≤ step = omega arith in
    omega (arith, put_within run k made e s j l h, mul-le-mul few same)
