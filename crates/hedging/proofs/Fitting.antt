-- No number of a move or of a hedged problem leaves 128 bits.

use Rattle.std.proofs.Common.{arith, ap, sym, subst, ◌≡◌, ℕ, ◌+◌, ◌*◌, ◌-◌, ◌^◌, ◌<◌, ◌≤◌, List, length, take, ℤ, pos, neg_ℤ, ◌+ℤ◌, ◌-ℤ◌, ◌*ℤ◌, ◌<ℤ◌, unsigned_abs, FitsSigned}
use Rattle.std.proofs.lemmas.Int.{ints, unsigned_abs-mul}
use Rattle.std.proofs.lemmas.List.Elements.{All-take, recursion_from_All}
use Rattle.std.proofs.lemmas.List.Sums.{sum_by-take-le}
use Rattle.std.proofs.Math.Nat.{mul-le-mul}
use Rattle.std.specs.Int.{w128}
use Rattle.std.specs.List.{sum_by}
use Rattle.base_words.specs.ListSums.{sum_z}
use Rattle.base_words.proofs.Magnitudes.{abs-add, fits_from_abs, abs-less, abs_opposite}
use Rattle.tree_core.specs.Nodes.{no_node, scenarios_at}
use Rattle.run_calls.specs.MultiplierTests.{AreMembers, AreSized}
use Rattle.sp_model.specs.Plans.{multiplier_of}
use Rattle.sp_model.specs.Problems.{scenarios}
use Rattle.sp_model.specs.Reaching.{box_reach}
use Rattle.sp_model.specs.declared.plan.Multipliers.{Multipliers}
use Rattle.sp_model.specs.declared.run.Run.{Run}
use Rattle.run_calls.proofs.MostBounds.{box_small, early_column, most_small, part_small, rho_abs}
use Rattle.sp_model.proofs.Bounds.{total_abs}
use Rattle.put_words.specs.Hedged.{pull}
use Rattle.put_words.specs.NextMultipliers.{front_of, rise}
use Rattle.put_words.specs.NodeSums.{AreInside, sum_of, value_at, weight_at, weight_of}
use Rattle.put_words.proofs.Pulls.{pull_abs, pull_numerator_abs, raw_room, size_le, twice_abs}
use Rattle.put_words.proofs.Rises.{numerator_abs, rises_abs, weight_above, weight_most, regroup_step}
use Rattle.sp_model.proofs.LeastSums.{weight_size}
use Rattle.put_words.proofs.Weights.{node_sum_abs, part_abs, value_abs, weight_sum}

-- total weight times a box
total_box : (run : Run) (j : ℕ) → j < run.nonleaf → unsigned_abs run.total * box_reach run.program j ≤ 2 ^ 90
total_box run j h =
    let total : unsigned_abs run.total ≤ 2 ^ 60 = omega (arith, total_abs run) in
    omega (arith, mul-le-mul total (box_small run j (early_column run j h)))

pub part_fits : (run : Run) (x : List ℤ) (s j : ℕ) → AreInside run x → s < scenarios run → j < run.nonleaf → FitsSigned w128 (weight_at run s *ℤ value_at run x s j)
part_fits run x s j inside l h =
    let same : box_reach run.program j ≤ box_reach run.program j = omega arith in
    fits_from_abs (weight_at run s *ℤ value_at run x s j) (omega (arith, part_abs run x s j inside l h, mul-le-mul (size_le run s l) same, total_box run j h))

-- the weights of some scenarios of a node
front_weight : (run : Run) (ns : List ℕ) (k : ℕ) → AreMembers run ns → sum_by (weight_size run) (take k ns) ≤ unsigned_abs run.total
front_weight run ns k members = omega (arith, sum_by-take-le (weight_size run) ns k, weight_most run ns members.ascending members.there)

node_sum_small : (run : Run) (x : List ℤ) (ns : List ℕ) (j k : ℕ) → AreInside run x → AreMembers run ns → j < run.nonleaf → unsigned_abs (sum_of run x (take k ns) j) ≤ 2 ^ 90
node_sum_small run x ns j k inside members h =
    let same : box_reach run.program j ≤ box_reach run.program j = omega arith in
    omega (arith, node_sum_abs run x (take k ns) j inside (All-take (λ s. s < scenarios run) k ns members.there) h, mul-le-mul (front_weight run ns k members) same, total_box run j h)

pub node_sum_fits : (run : Run) (x : List ℤ) (ns : List ℕ) (j k : ℕ) → AreInside run x → AreMembers run ns → j < run.nonleaf → FitsSigned w128 (sum_of run x (take k ns) j)
node_sum_fits run x ns j k inside members h = fits_from_abs (sum_of run x (take k ns) j) (omega (arith, node_sum_small run x ns j k inside members h))

pub weight_sum_fits : (run : Run) (ns : List ℕ) (k : ℕ) → AreMembers run ns → FitsSigned w128 (weight_of run (take k ns))
weight_sum_fits run ns k members =
    let below = All-take (λ s. s < scenarios run) k ns members.there in
    let weight = ap unsigned_abs (weight_sum run (take k ns) (recursion_from_All (λ s. s < scenarios run) (take k ns) below)) in
    let same : unsigned_abs (weight_of run (take k ns)) ≡ sum_by (weight_size run) (take k ns) = weight in
    fits_from_abs (weight_of run (take k ns)) (omega (arith, same, front_weight run ns k members, total_abs run))

-- the members of a node
pub node_members : (run : Run) (n : ℕ) → n < length run.program.tree.nodes → AreMembers run (scenarios_at run.program.tree.nodes n)
node_members run n l =
    let fact = run.facts.tree.nodes n no_node l in
    record { there = fact.there; ascending = fact.ascending }

pub node_filled : (run : Run) (n : ℕ) → n < length run.program.tree.nodes → 0 < length (scenarios_at run.program.tree.nodes n)
node_filled run n l = (run.facts.tree.nodes n no_node l).filled

pub weight_positive : (run : Run) (n : ℕ) → n < length run.program.tree.nodes → pos 0 <ℤ weight_of run (scenarios_at run.program.tree.nodes n)
weight_positive run n l =
    let ns = scenarios_at run.program.tree.nodes n in
    let there = (node_members run n l).there in
    let some = weight_above run ns there (node_filled run n l) in
    let weight = weight_sum run ns (recursion_from_All (λ s. s < scenarios run) ns there) in
    subst (λ z. pos 0 <ℤ z) (sym weight) (omega (arith, ints, some))

whole_abs : (run : Run) (x : List ℤ) (n s j : ℕ) → AreInside run x → n < length run.program.tree.nodes → s < scenarios run → j < run.nonleaf → unsigned_abs (weight_of run (scenarios_at run.program.tree.nodes n) *ℤ value_at run x s j) ≤ 2 ^ 90
whole_abs run x n s j inside l below h =
    let ns = scenarios_at run.program.tree.nodes n in
    let members = node_members run n l in
    let weight : unsigned_abs (weight_of run ns) ≡ sum_by (weight_size run) ns = ap unsigned_abs (weight_sum run ns (recursion_from_All (λ k. k < scenarios run) ns members.there)) in
    let most : unsigned_abs (weight_of run ns) ≤ unsigned_abs run.total = omega (arith, weight_most run ns members.ascending members.there) in
    omega (arith, unsigned_abs-mul (weight_of run ns) (value_at run x s j), mul-le-mul most (value_abs run x s j inside below h), total_box run j h)

pub whole_fits : (run : Run) (x : List ℤ) (n s j : ℕ) → AreInside run x → n < length run.program.tree.nodes → s < scenarios run → j < run.nonleaf → FitsSigned w128 (weight_of run (scenarios_at run.program.tree.nodes n) *ℤ value_at run x s j)
whole_fits run x n s j inside l below h = fits_from_abs (weight_of run (scenarios_at run.program.tree.nodes n) *ℤ value_at run x s j) (omega (arith, whole_abs run x n s j inside l below h))

all_small : (run : Run) (x : List ℤ) (n j : ℕ) → AreInside run x → n < length run.program.tree.nodes → j < run.nonleaf → unsigned_abs (sum_of run x (scenarios_at run.program.tree.nodes n) j) ≤ 2 ^ 90
all_small run x n j inside l h =
    let ns = scenarios_at run.program.tree.nodes n in
    let same : box_reach run.program j ≤ box_reach run.program j = omega arith in
    let members = node_members run n l in
    omega (arith, node_sum_abs run x ns j inside members.there h, mul-le-mul (weight_most run ns members.ascending members.there) same, total_box run j h)

pub apart_fits : (run : Run) (x : List ℤ) (n s j : ℕ) → AreInside run x → n < length run.program.tree.nodes → s < scenarios run → j < run.nonleaf → FitsSigned w128 ((weight_of run (scenarios_at run.program.tree.nodes n) *ℤ value_at run x s j) -ℤ sum_of run x (scenarios_at run.program.tree.nodes n) j)
apart_fits run x n s j inside l below h =
    let ns = scenarios_at run.program.tree.nodes n in
    let whole = weight_of run ns *ℤ value_at run x s j in
    fits_from_abs (whole -ℤ sum_of run x ns j) (omega (arith, abs-less whole (sum_of run x ns j), whole_abs run x n s j inside l below h, all_small run x n j inside l h))

pub rate_small : (run : Run) (s : ℕ) → s < scenarios run → unsigned_abs (run.options.rho *ℤ weight_at run s) ≤ 2 ^ 90
rate_small run s l =
    let weight : weight_size run s ≤ 2 ^ 60 = omega (arith, size_le run s l, total_abs run) in
    omega (arith, unsigned_abs-mul run.options.rho (weight_at run s), mul-le-mul (rho_abs run) weight)

pub rate_fits : (run : Run) (s : ℕ) → s < scenarios run → FitsSigned w128 (run.options.rho *ℤ weight_at run s)
rate_fits run s l = fits_from_abs (run.options.rho *ℤ weight_at run s) (omega (arith, rate_small run s l))

-- weight times weight times twice the penalty and a box
raw_small : (run : Run) (n s j : ℕ) → n < length run.program.tree.nodes → s < scenarios run → j < run.nonleaf → sum_by (weight_size run) (scenarios_at run.program.tree.nodes n) * (weight_size run s * (2 * unsigned_abs run.options.rho * box_reach run.program j)) ≤ 2 ^ 120
raw_small run n s j l below h =
    let members = node_members run n l in
    let unit = 2 * unsigned_abs run.options.rho * box_reach run.program j in
    let same : unit ≤ unit = omega arith in
    omega (arith, mul-le-mul (weight_most run (scenarios_at run.program.tree.nodes n) members.ascending members.there) (mul-le-mul (size_le run s below) same), raw_room run j h)

pub numerator_fits : (run : Run) (x : List ℤ) (n s j : ℕ) → AreInside run x → n < length run.program.tree.nodes → s < scenarios run → j < run.nonleaf →
    FitsSigned w128 ((run.options.rho *ℤ weight_at run s) *ℤ ((weight_of run (scenarios_at run.program.tree.nodes n) *ℤ value_at run x s j) -ℤ sum_of run x (scenarios_at run.program.tree.nodes n) j))
numerator_fits run x n s j inside l below h =
    let ns = scenarios_at run.program.tree.nodes n in
    fits_from_abs ((run.options.rho *ℤ weight_at run s) *ℤ ((weight_of run ns *ℤ value_at run x s j) -ℤ sum_of run x ns j)) (omega (arith, numerator_abs run x ns j s inside (node_members run n l).there below h, raw_small run n s j l below h))

rises_small : (run : Run) (x : List ℤ) (n j k : ℕ) → AreInside run x → n < length run.program.tree.nodes → j < run.nonleaf → unsigned_abs (sum_z (rise run x (scenarios_at run.program.tree.nodes n) j) (take k (scenarios_at run.program.tree.nodes n))) ≤ 2 ^ 121
rises_small run x n j k inside l h =
    let ns = scenarios_at run.program.tree.nodes n in
    let members = node_members run n l in
    let unit = 2 * unsigned_abs run.options.rho * box_reach run.program j in
    let same : unit ≤ unit = omega arith in
    omega (arith, rises_abs run x ns j k inside members.there (node_filled run n l) h, mul-le-mul (front_weight run ns k members) same, regroup_step (unsigned_abs run.total) (unsigned_abs run.options.rho) (box_reach run.program j), part_small run j (early_column run j h))

pub rises_fit : (run : Run) (x : List ℤ) (n j k : ℕ) → AreInside run x → n < length run.program.tree.nodes → j < run.nonleaf → FitsSigned w128 (sum_z (rise run x (scenarios_at run.program.tree.nodes n) j) (take k (scenarios_at run.program.tree.nodes n)))
rises_fit run x n j k inside l h = fits_from_abs (sum_z (rise run x (scenarios_at run.program.tree.nodes n) j) (take k (scenarios_at run.program.tree.nodes n))) (omega (arith, rises_small run x n j k inside l h))

pub opposite_fits : (run : Run) (x : List ℤ) (n j : ℕ) → AreInside run x → n < length run.program.tree.nodes → j < run.nonleaf → FitsSigned w128 (neg_ℤ (sum_z (rise run x (scenarios_at run.program.tree.nodes n) j) (front_of (scenarios_at run.program.tree.nodes n))))
opposite_fits run x n j inside l h =
    let ns = scenarios_at run.program.tree.nodes n in
    let front = sum_z (rise run x ns j) (front_of ns) in
    fits_from_abs (neg_ℤ front) (omega (arith, abs_opposite front, rises_small run x n j (length ns - 1) inside l h))

pub pull_fits : (run : Run) (x : List ℤ) (n s j : ℕ) → AreInside run x → n < length run.program.tree.nodes → s < scenarios run → j < run.nonleaf → FitsSigned w128 ((pos 2 *ℤ (run.options.rho *ℤ weight_at run s)) *ℤ sum_of run x (scenarios_at run.program.tree.nodes n) j)
pull_fits run x n s j inside l below h =
    let ns = scenarios_at run.program.tree.nodes n in
    fits_from_abs ((pos 2 *ℤ (run.options.rho *ℤ weight_at run s)) *ℤ sum_of run x ns j) (omega (arith, pull_numerator_abs run x ns j s inside (node_members run n l).there h, raw_small run n s j l below h))

pub pull_small : (run : Run) (x : List ℤ) (s j : ℕ) → AreInside run x → s < scenarios run → j < run.nonleaf → unsigned_abs (pull run x s j) ≤ 2 ^ 121
pull_small run x s j inside l h =
    let unit = 2 * unsigned_abs run.options.rho * box_reach run.program j in
    let same : unit ≤ unit = omega arith in
    omega (arith, pull_abs run x s j inside l h, mul-le-mul (size_le run s l) same, regroup_step (unsigned_abs run.total) (unsigned_abs run.options.rho) (box_reach run.program j), part_small run j (early_column run j h))

-- a cost with a multiplier
pub priced_small : (run : Run) (multipliers : Multipliers) (s j : ℕ) (cost : ℤ) → AreSized run multipliers → s < scenarios run → j < run.nonleaf → unsigned_abs cost ≤ 2 ^ 122 → unsigned_abs (cost +ℤ multiplier_of run multipliers s j) ≤ 2 ^ 122 + 2 ^ 120
priced_small run multipliers s j cost sized l h small = omega (arith, abs-add cost (multiplier_of run multipliers s j), sized s j l h, most_small run j h, small)

-- the linear part of a nonleaf column
pub early_fits : (run : Run) (multipliers : Multipliers) (x : List ℤ) (s j : ℕ) (cost : ℤ) → AreSized run multipliers → AreInside run x → s < scenarios run → j < run.nonleaf → unsigned_abs cost ≤ 2 ^ 122 →
    FitsSigned w128 ((pos 2 *ℤ (cost +ℤ multiplier_of run multipliers s j)) -ℤ pull run x s j)
early_fits run multipliers x s j cost sized inside l h small =
    let priced = cost +ℤ multiplier_of run multipliers s j in
    fits_from_abs ((pos 2 *ℤ priced) -ℤ pull run x s j) (omega (arith, abs-less (pos 2 *ℤ priced) (pull run x s j), twice_abs priced, priced_small run multipliers s j cost sized l h small, pull_small run x s j inside l h))
