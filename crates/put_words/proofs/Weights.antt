-- Sums of weights, and of weighted values, over a node and over all scenarios.

use Rattle.std.proofs.Common.{arith, refl, ◌≡◌, ℕ, ◌*◌, ◌<◌, ◌≤◌, List, [], ◌∷◌, get_or, ℤ, pos, ◌*ℤ◌, unsigned_abs}
use Rattle.std.proofs.lemmas.Int.{ints, unsigned_abs-mul}
use Rattle.std.proofs.lemmas.List.Elements.{recursion_from_All}
use Rattle.std.proofs.lemmas.List.Sums.{sum_by-cons}
use Rattle.std.proofs.Math.Nat.{mul-le-mul}
use Rattle.std.specs.List.{All, AllByRecursion, sum_by}
use Rattle.base_words.proofs.ListSums.{sum_z-cons}
use Rattle.base_words.proofs.Magnitudes.{abs_between}
use Rattle.sp_model.specs.Changes.{sides}
use Rattle.sp_model.specs.Problems.{no_scenario, scenarios}
use Rattle.sp_model.specs.Reaching.{box_reach}
use Rattle.sp_model.specs.declared.run.Run.{Run}
use Rattle.run_calls.proofs.MemberSums.{sum_abs, sum_by-times}
use Rattle.boxed_problem.specs.Sides.{side_at}
use Rattle.sp_model.proofs.Bounds.{abs_some}
use Rattle.sp_model.proofs.LeastSums.{positive_is, weight_size}
use Rattle.put_words.specs.NodeSums.{AreInside, sum_of, value_at, weight_at, weight_of}

pub weight_is : (run : Run) (s : ℕ) → s < scenarios run → weight_at run s ≡ pos (weight_size run s)
weight_is run s l = positive_is (weight_at run s) (run.facts.scenarios s no_scenario l).positive

pub weight_some : (run : Run) (s : ℕ) → s < scenarios run → 1 ≤ weight_size run s
weight_some run s l = abs_some (weight_at run s) (run.facts.scenarios s no_scenario l).positive

-- the weight of a node, and that it is at most the total
pub weight_sum : (run : Run) (ns : List ℕ) → AllByRecursion (λ s. s < scenarios run) ns → weight_of run ns ≡ pos (sum_by (weight_size run) ns)
weight_sum run [] h = refl
weight_sum run (n ∷ ns) h = omega (arith, ints, sum_z-cons (weight_at run) n ns, sum_by-cons (weight_size run) n ns, weight_is run n h.0, weight_sum run ns h.1)

-- the magnitude of a value in the box of its column
pub value_abs : (run : Run) (x : List ℤ) (s j : ℕ) → AreInside run x → s < scenarios run → j < run.nonleaf → unsigned_abs (value_at run x s j) ≤ box_reach run.program j
value_abs run x s j inside l h = abs_between (side_at (sides run.program) j).lower (side_at (sides run.program) j).upper (value_at run x s j) (inside.lower s j l h) (inside.upper s j l h)

-- a weighted value
pub part_abs : (run : Run) (x : List ℤ) (s j : ℕ) → AreInside run x → s < scenarios run → j < run.nonleaf → unsigned_abs (weight_at run s *ℤ value_at run x s j) ≤ weight_size run s * box_reach run.program j
part_abs run x s j inside l h =
    let same : weight_size run s ≤ weight_size run s = omega arith in
    omega (arith, unsigned_abs-mul (weight_at run s) (value_at run x s j), mul-le-mul same (value_abs run x s j inside l h))

-- a node's weighted sum
pub node_sum_abs : (run : Run) (x : List ℤ) (ns : List ℕ) (j : ℕ) → AreInside run x → All (λ s. s < scenarios run) ns → j < run.nonleaf → unsigned_abs (sum_of run x ns j) ≤ sum_by (weight_size run) ns * box_reach run.program j
node_sum_abs run x ns j inside below h =
    let m = box_reach run.program j in
    let each = recursion_from_All (λ s. unsigned_abs (weight_at run s *ℤ value_at run x s j) ≤ weight_size run s * m) ns (λ k d l. part_abs run x (get_or ns k d) j inside (below k d l) h) in
    omega (arith, sum_abs (λ s. weight_at run s *ℤ value_at run x s j) (λ s. weight_size run s * m) ns each, sum_by-times (weight_size run) m ns)
