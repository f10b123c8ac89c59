-- What a node takes of its scenarios' values fits its numbers and lies in the box of its column.

use Rattle.std.proofs.Common.{arith, sym, ap, subst, ◌≡◌, ℕ, ◌*◌, ◌%◌, ◌^◌, ◌<◌, ◌≤◌, List, length, take, get_or, ℤ, pos, ◌+ℤ◌, ◌*ℤ◌, ◌≤ℤ◌, ◌<ℤ◌, unsigned_abs, FitsSigned}
use Rattle.std.proofs.lemmas.Int.{clamps, ints}
use Rattle.std.proofs.lemmas.List.Elements.{All-take, recursion_from_All}
use Rattle.std.proofs.lemmas.List.Sums.{sum_by-take-le}
use Rattle.std.proofs.lemmas.Nat.{mod_below}
use Rattle.std.proofs.Math.Nat.{mul-le-mul}
use Rattle.std.specs.Int.{w128}
use Rattle.std.specs.List.{sum_by}
use Rattle.base_words.proofs.Magnitudes.{abs-add, fits_from_abs}
use Rattle.boxed_problem.specs.Sides.{side_at}
use Rattle.boxed_problem.specs.declared.parts.Side.{Side}
use Rattle.boxed_problem.proofs.Lying.{filled_at}
use Rattle.log_words.specs.Candidates.{cut}
use Rattle.put_words.specs.NodeSums.{AreInside, sum_of, weight_of}
use Rattle.put_words.proofs.Pulls.{twice_abs}
use Rattle.put_words.proofs.Rises.{weight_above, weight_most}
use Rattle.put_words.proofs.Weights.{node_sum_abs, weight_sum}
use Rattle.run_calls.specs.MultiplierTests.{AreMembers}
use Rattle.run_calls.proofs.MostBounds.{box_small, early_column}
use Rattle.sp_model.specs.Changes.{sides}
use Rattle.sp_model.specs.Problems.{scenarios}
use Rattle.sp_model.specs.declared.run.Run.{Run}
use Rattle.sp_model.proofs.Bounds.{total_abs}
use Rattle.sp_model.proofs.LeastSums.{weight_size}
use Rattle.sp_model.proofs.ScenarioPoints.{run_filled}
use Rattle.tree_core.specs.Nodes.{no_node, scenarios_at}
use Rattle.candidates.specs.Choices.{chosen, mean_in}
use Rattle.candidates.specs.declared.choosing.Choice.{Choice}
use Rattle.candidates.specs.declared.choosing.Choice.TheVariants.{Number, Mean}

-- the members of a node
pub node_members : (run : Run) (n : ℕ) → n < length run.program.tree.nodes → AreMembers run (scenarios_at run.program.tree.nodes n)
node_members run n l =
    let fact = run.facts.tree.nodes n no_node l in
    record { there = fact.there; ascending = fact.ascending }

pub node_filled : (run : Run) (n : ℕ) → n < length run.program.tree.nodes → 0 < length (scenarios_at run.program.tree.nodes n)
node_filled run n l = (run.facts.tree.nodes n no_node l).filled

pub weight_sum_fits : (run : Run) (ns : List ℕ) (k : ℕ) → AreMembers run ns → FitsSigned w128 (weight_of run (take k ns))
weight_sum_fits run ns k members =
    let below = All-take (λ s. s < scenarios run) k ns members.there in
    let same : unsigned_abs (weight_of run (take k ns)) ≡ sum_by (weight_size run) (take k ns) = ap unsigned_abs (weight_sum run (take k ns) (recursion_from_All (λ s. s < scenarios run) (take k ns) below)) in
    let most = weight_most run ns members.ascending members.there in
    fits_from_abs (weight_of run (take k ns)) (omega (arith, same, sum_by-take-le (weight_size run) ns k, most, total_abs run))

weight_is : (run : Run) (ns : List ℕ) → AreMembers run ns → weight_of run ns ≡ pos (sum_by (weight_size run) ns)
weight_is run ns members = weight_sum run ns (recursion_from_All (λ s. s < scenarios run) ns members.there)

weight_small : (run : Run) (ns : List ℕ) → AreMembers run ns → unsigned_abs (weight_of run ns) ≤ 2 ^ 60
weight_small run ns members = omega (arith, ap unsigned_abs (weight_is run ns members), weight_most run ns members.ascending members.there, total_abs run)

sum_small : (run : Run) (x : List ℤ) (ns : List ℕ) (j : ℕ) → AreInside run x → AreMembers run ns → j < run.nonleaf → unsigned_abs (sum_of run x ns j) ≤ 2 ^ 90
sum_small run x ns j inside members h =
    let weight : sum_by (weight_size run) ns ≤ 2 ^ 60 = omega (arith, weight_most run ns members.ascending members.there, total_abs run) in
    omega (arith, node_sum_abs run x ns j inside members.there h, mul-le-mul weight (box_small run j (early_column run j h)))

pub twice_sum_fits : (run : Run) (x : List ℤ) (ns : List ℕ) (j : ℕ) → AreInside run x → AreMembers run ns → j < run.nonleaf → FitsSigned w128 (pos 2 *ℤ sum_of run x ns j)
twice_sum_fits run x ns j inside members h = fits_from_abs (pos 2 *ℤ sum_of run x ns j) (omega (arith, twice_abs (sum_of run x ns j), sum_small run x ns j inside members h))

pub numerator_fits : (run : Run) (x : List ℤ) (ns : List ℕ) (j : ℕ) → AreInside run x → AreMembers run ns → j < run.nonleaf → FitsSigned w128 ((pos 2 *ℤ sum_of run x ns j) +ℤ weight_of run ns)
numerator_fits run x ns j inside members h =
    let twice = pos 2 *ℤ sum_of run x ns j in
    fits_from_abs (twice +ℤ weight_of run ns) (omega (arith, abs-add twice (weight_of run ns), twice_abs (sum_of run x ns j), sum_small run x ns j inside members h, weight_small run ns members))

pub twice_weight_fits : (run : Run) (ns : List ℕ) → AreMembers run ns → FitsSigned w128 (pos 2 *ℤ weight_of run ns)
twice_weight_fits run ns members = fits_from_abs (pos 2 *ℤ weight_of run ns) (omega (arith, twice_abs (weight_of run ns), weight_small run ns members))

twice_above : (n : ℕ) → 0 < n → pos 0 <ℤ pos (2 * n)
twice_above n h = omega (arith, ints, h)

pub twice_weight_positive : (run : Run) (ns : List ℕ) → AreMembers run ns → 0 < length ns → pos 0 <ℤ (pos 2 *ℤ weight_of run ns)
twice_weight_positive run ns members some = subst (λ z. pos 0 <ℤ (pos 2 *ℤ z)) (sym (weight_is run ns members)) (twice_above (sum_by (weight_size run) ns) (weight_above run ns members.there some))

-- a value that is cut to a side lies on it
cut_inside : (side : Side) (v : ℤ) → side.lower ≤ℤ side.upper → (side.lower ≤ℤ cut side v) × (cut side v ≤ℤ side.upper)
cut_inside side v filled = (omega (arith, ints, clamps, filled), omega (arith, ints, clamps, filled))

pub side_filled : (run : Run) (j : ℕ) → (side_at (sides run.program) j).lower ≤ℤ (side_at (sides run.program) j).upper
side_filled run j = filled_at (sides run.program) (run_filled run) j

-- what a node takes lies in the column's box
pub chosen_inside : (run : Run) (x : List ℤ) (c : Choice) (i j : ℕ) → AreInside run x → i < length run.program.tree.nodes → j < run.nonleaf →
    ((side_at (sides run.program) j).lower ≤ℤ chosen run x c (scenarios_at run.program.tree.nodes i) j) × (chosen run x c (scenarios_at run.program.tree.nodes i) j ≤ℤ (side_at (sides run.program) j).upper)
chosen_inside run x (Number number) i j inside l h =
    let ns = scenarios_at run.program.tree.nodes i in
    let some = node_filled run i l in
    let place = number % length ns in
    let own : get_or ns place 0 < scenarios run = (node_members run i l).there place 0 (mod_below number (length ns) some) in
    (inside.lower (get_or ns place 0) j own h, inside.upper (get_or ns place 0) j own h)
chosen_inside run x Mean i j inside l h = cut_inside (side_at (sides run.program) j) (mean_in run x (scenarios_at run.program.tree.nodes i) j) (side_filled run j)
