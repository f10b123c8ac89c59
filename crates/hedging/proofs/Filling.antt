-- Tables that are filled node after node: where a cell has gained, and that no number leaves 128 bits.

use Rattle.std.proofs.Common.{arith, refl, sym, ap, ◌∙◌, ◌≡◌, ℕ, ◌+◌, ◌*◌, ◌^◌, ◌<◌, ◌≤◌, ◌==◌, ◌&&◌, Bool, true, false, List, map, length, replicate, get_or, set, ℤ, pos, ◌+ℤ◌, unsigned_abs, FitsSigned, if◌then◌else◌}
use Rattle.std.proofs.lemmas.Int.{ints}
use Rattle.std.proofs.lemmas.List.{get_or-replicate, length-replicate, length-set}
use Rattle.std.proofs.lemmas.Nat.{mul-add-lt}
use Rattle.std.proofs.Math.Nat.{mul_comm}
use Rattle.std.specs.Int.{w128}
use Rattle.std.specs.List.{list_any, range_with_len}
use Rattle.base_words.specs.Gathered.{gathered}
use Rattle.base_words.specs.Sums.{number_at}
use Rattle.base_words.proofs.Magnitudes.{abs-add, fits_from_abs}
use Rattle.base_words.proofs.NumberTests.{same_from_test, test_from_less, turned_test}
use Rattle.base_words.proofs.Booleans.{and_false, and_true}
use Rattle.tree_core.specs.Nodes.{holds, scenarios_at}
use Rattle.run_calls.specs.MultiplierTests.{AreLong, AreSized, is_of_stage, node_at}
use Rattle.run_calls.proofs.MostBounds.{early_column, most_small, part_small}
use Rattle.sp_model.specs.Plans.{multiplier_of, stage_of}
use Rattle.sp_model.specs.Problems.{scenarios}
use Rattle.sp_model.specs.declared.plan.Multipliers.{Multipliers}
use Rattle.sp_model.specs.declared.run.Run.{Run}
use Rattle.put_words.specs.Hedged.{pull}
use Rattle.put_words.specs.NextMultipliers.{moved}
use Rattle.put_words.specs.NodeSums.{AreInside, node_for, value_at}
use Rattle.put_words.proofs.Bundles.{found, stands}
use Rattle.put_words.proofs.Rises.{move_abs, node_below}
use Rattle.hedging.specs.Tables.{ArePulls, gain_of, HaveGained, IsTable}
use Rattle.hedging.specs.declared.tables.Gain.{Gain}
use Rattle.hedging.specs.declared.tables.Gain.TheVariants.{Move, Pull}
use Rattle.tree_core.proofs.Listing.{ones}
use Rattle.hedging.proofs.Cells.{cell_gains, joined, table_is}
use Rattle.hedging.proofs.Fitting.{pull_small}
use Rattle.hedging.proofs.Places.{place_test}

-- cells that gain in two parts
pub gained_on : (run : Run) (a b c : ℕ → ℕ → Bool) (gain : ℕ → ℕ → ℤ) (old mid new : List ℤ) → HaveGained run a gain old mid → HaveGained run b gain mid new → ((s j : ℕ) → s < scenarios run → j < run.nonleaf → ones (c s j) ≡ ones (a s j) + ones (b s j)) → HaveGained run c gain old new
gained_on run a b c gain old mid new f g due = record {
  long = g.long ∙ f.long;
  cells = λ s j l h. joined (a s j) (b s j) (c s j) (gain s j) (value_at run old s j) (value_at run mid s j) (value_at run new s j) (f.cells s j l h) (g.cells s j l h) (due s j l h);
}

-- the same by another test
pub gained_as : (run : Run) (a c : ℕ → ℕ → Bool) (gain : ℕ → ℕ → ℤ) (old new : List ℤ) → HaveGained run a gain old new → ((s j : ℕ) → s < scenarios run → j < run.nonleaf → c s j ≡ a s j) → HaveGained run c gain old new
gained_as run a c gain old new f due = record {
  long = f.long;
  cells = λ s j l h. f.cells s j l h ∙ ap (λ t. value_at run old s j +ℤ (if t then gain s j else pos 0)) (sym (due s j l h));
}

stays : (t : Bool) (z g : ℤ) → t ≡ false → z ≡ z +ℤ (if t then g else pos 0)
stays true z g e = absurd (let f = e in cc)
stays false z g e = omega (arith, ints)

-- nothing gained yet
pub none_gained : (run : Run) (c : ℕ → ℕ → Bool) (gain : ℕ → ℕ → ℤ) (old : List ℤ) → ((s j : ℕ) → s < scenarios run → j < run.nonleaf → c s j ≡ false) → HaveGained run c gain old old
none_gained run c gain old due = record {
  long = refl;
  cells = λ s j l h. stays (c s j) (value_at run old s j) (gain s j) (due s j l h);
}

-- a gain is small
gain_small : (run : Run) (x : List ℤ) (gain : Gain) (s j : ℕ) → AreInside run x → s < scenarios run → j < run.nonleaf → unsigned_abs (gain_of run x gain s j) ≤ 2 ^ 121
gain_small run x Pull s j inside l h = pull_small run x s j inside l h
gain_small run x Move s j inside l h = omega (arith, move_abs run x (node_for run s j) j s inside (node_below run s j l h) l h, part_small run j (early_column run j h))

small_where : (t : Bool) (g : ℤ) (most : ℕ) → unsigned_abs g ≤ most → unsigned_abs (if t then g else pos 0) ≤ most
small_where true g most small = small
small_where false g most small = omega (arith, ints)

-- a table in which some cells have gained
pub still_table : (run : Run) (due : ℕ → ℕ → Bool) (x : List ℤ) (gain : Gain) (most limit : ℕ) (old new : List ℤ) → AreInside run x → IsTable run most old → HaveGained run due (gain_of run x gain) old new → most + 2 ^ 121 ≤ limit → IsTable run limit new
still_table run due x gain most limit old new inside table f room = record {
  long = f.long ∙ table.long;
  small = λ s j l h. cell_small s j l h;
}
  where
    cell_small : (s j : ℕ) → s < scenarios run → j < run.nonleaf → unsigned_abs (value_at run new s j) ≤ limit
    cell_small s j l h =
        let part : ℤ = if due s j then gain_of run x gain s j else pos 0 in
        let part_le : unsigned_abs part ≤ 2 ^ 121 = small_where (due s j) (gain_of run x gain s j) (2 ^ 121) (gain_small run x gain s j inside l h) in
        omega (arith, ap unsigned_abs (f.cells s j l h), abs-add (value_at run old s j) part, table.small s j l h, part_le, room)

-- the place of a cell is there
pub place_there : (run : Run) (most s j : ℕ) (cells : List ℤ) → IsTable run most cells → s < scenarios run → j < run.nonleaf → s * run.nonleaf + j < length cells
place_there run most s j cells table l h = omega (arith, mul-add-lt s run.nonleaf j (scenarios run) l h, mul_comm run.nonleaf (scenarios run), table.long)

-- one more gain fits
pub gain_fits : (run : Run) (x : List ℤ) (gain : Gain) (s j : ℕ) (cells : List ℤ) → AreInside run x → IsTable run (2 ^ 125) cells → s < scenarios run → j < run.nonleaf → FitsSigned w128 (value_at run cells s j +ℤ gain_of run x gain s j)
gain_fits run x gain s j cells inside table l h =
    fits_from_abs (value_at run cells s j +ℤ gain_of run x gain s j) (omega (arith, abs-add (value_at run cells s j) (gain_of run x gain s j), table.small s j l h, gain_small run x gain s j inside l h))

-- one cell has gained
pub cell_gained : (run : Run) (most s k : ℕ) (gain : ℕ → ℕ → ℤ) (old new : List ℤ) → IsTable run most old → s < scenarios run → k < run.nonleaf → new ≡ set old (s * run.nonleaf + k) (value_at run old s k +ℤ gain s k) →
    HaveGained run (λ u j. (j == k) && (s == u)) gain old new
cell_gained run most s k gain old new table l h is = record {
  long = ap length is ∙ length-set old (s * run.nonleaf + k) (value_at run old s k +ℤ gain s k);
  cells = λ u j v i. cell_gains run.nonleaf (scenarios run) s k u j old new gain table.long l h v i is;
}

-- whether a node is that of a scenario and a column
node_test : (run : Run) (n s j : ℕ) → n < length run.program.tree.nodes → s < scenarios run → j < run.nonleaf → (node_for run s j == n) ≡ holds s (stage_of run j) (node_at run n)
node_test run n s j l m i = place_test run.program.tree.nodes (stage_of run j) s n (stands run s j m i) (node_below run s j m i) l

-- the cells of a node in a column of its stage are those of its scenarios
pub column_due : (run : Run) (n k s j : ℕ) → n < length run.program.tree.nodes → k < run.nonleaf → is_of_stage run n k ≡ true → s < scenarios run → j < run.nonleaf →
    ((node_for run s j == n) && (j == k)) ≡ ((j == k) && list_any (λ u. u == s) (scenarios_at run.program.tree.nodes n))
column_due run n k s j l h stage m i = by_column (j == k) refl
  where
    has : Bool
    has = list_any (λ u. u == s) (scenarios_at run.program.tree.nodes n)

    by_column : (b : Bool) → (j == k) ≡ b → ((node_for run s j == n) && (j == k)) ≡ ((j == k) && has)
    by_column false e = ap (λ b. (node_for run s j == n) && b) e ∙ and_false (node_for run s j == n) ∙ ap (λ b. b && has) (sym e)
    by_column true e =
        let same : j ≡ k = same_from_test j k e in
        let of_stage : ((node_at run n).stage == stage_of run j) ≡ true = turned_test (stage_of run j) (node_at run n).stage true (ap (λ c. stage_of run c == (node_at run n).stage) same ∙ stage) in
        ap (λ b. (node_for run s j == n) && b) e
        ∙ and_true (node_for run s j == n)
        ∙ node_test run n s j l m i
        ∙ ap (λ b. b && has) of_stage
        ∙ ap (λ b. b && has) (sym e)

-- no cell of a column of another stage is of the node
pub other_due : (run : Run) (n k s j : ℕ) → n < length run.program.tree.nodes → k < run.nonleaf → is_of_stage run n k ≡ false → s < scenarios run → j < run.nonleaf → ((node_for run s j == n) && (j == k)) ≡ false
other_due run n k s j l h stage m i = by_column (j == k) refl
  where
    has : Bool
    has = list_any (λ u. u == s) (scenarios_at run.program.tree.nodes n)

    by_column : (b : Bool) → (j == k) ≡ b → ((node_for run s j == n) && (j == k)) ≡ false
    by_column false e = ap (λ b. (node_for run s j == n) && b) e ∙ and_false (node_for run s j == n)
    by_column true e =
        let same : j ≡ k = same_from_test j k e in
        let of_other : ((node_at run n).stage == stage_of run j) ≡ false = turned_test (stage_of run j) (node_at run n).stage false (ap (λ c. stage_of run c == (node_at run n).stage) same ∙ stage) in
        ap (λ b. (node_for run s j == n) && b) e
        ∙ and_true (node_for run s j == n)
        ∙ node_test run n s j l m i
        ∙ ap (λ b. b && has) of_other

-- the node of a member in a column of the node's stage
pub member_node : (run : Run) (n i j d : ℕ) → n < length run.program.tree.nodes → j < run.nonleaf → is_of_stage run n j ≡ true → i < length (scenarios_at run.program.tree.nodes n) → get_or (scenarios_at run.program.tree.nodes n) i d < scenarios run →
    n ≡ node_for run (get_or (scenarios_at run.program.tree.nodes n) i d) j
member_node run n i j d l h stage k m =
    let s = get_or (scenarios_at run.program.tree.nodes n) i d in
    let of_stage : ((node_at run n).stage == stage_of run j) ≡ true = turned_test (stage_of run j) (node_at run n).stage true stage in
    let held : holds s (stage_of run j) (node_at run n) ≡ true = ap (λ b. b && list_any (λ u. u == s) (scenarios_at run.program.tree.nodes n)) of_stage ∙ found (scenarios_at run.program.tree.nodes n) (get_or (scenarios_at run.program.tree.nodes n) i d) i d k refl in
    sym (same_from_test (node_for run s j) n (node_test run n s j l m h ∙ held))

-- a cell of a table of zeros
zero_cell : (run : Run) (cells : List ℤ) (s j : ℕ) → cells ≡ replicate (scenarios run * run.nonleaf) (pos 0) → s < scenarios run → j < run.nonleaf → value_at run cells s j ≡ pos 0
zero_cell run cells s j is l h =
    ap (λ zs. number_at zs (s * run.nonleaf + j)) is ∙ get_or-replicate (scenarios run * run.nonleaf) (s * run.nonleaf + j) (pos 0) (pos 0) (omega (arith, mul-add-lt s run.nonleaf j (scenarios run) l h, mul_comm run.nonleaf (scenarios run)))

pub zeros_table : (run : Run) (cells : List ℤ) → cells ≡ replicate (scenarios run * run.nonleaf) (pos 0) → IsTable run (2 ^ 122) cells
zeros_table run cells is = record {
  long = ap length is ∙ length-replicate (scenarios run * run.nonleaf) (pos 0);
  small = λ s j l h. omega (arith, ints, ap unsigned_abs (zero_cell run cells s j is l h));
}

from_zero : (z : ℤ) → pos 0 +ℤ z ≡ z
from_zero z = omega (arith, ints)

-- pulls are what zeros gain
pub pulls_gained : (run : Run) (x zeros new : List ℤ) → zeros ≡ replicate (scenarios run * run.nonleaf) (pos 0) → HaveGained run (λ s j. true) (gain_of run x Pull) zeros new → ArePulls run x new
pulls_gained run x zeros new is f =
    record {
      long = f.long ∙ ap length is ∙ length-replicate (scenarios run * run.nonleaf) (pos 0);
      each = λ s j l h. f.cells s j l h ∙ ap (λ z. z +ℤ pull run x s j) (zero_cell run zeros s j is l h) ∙ from_zero (pull run x s j);
    }

-- the number that a multiplier is
multiplier_is : (run : Run) (multipliers : Multipliers) (s j : ℕ) → j < run.nonleaf → multiplier_of run multipliers s j ≡ value_at run multipliers.values s j
multiplier_is run multipliers s j h = ap (λ b. if b then value_at run multipliers.values s j else pos 0) (test_from_less j run.nonleaf h)

-- multipliers that are small enough are a table
pub sized_table : (run : Run) (multipliers : Multipliers) → AreLong run multipliers → AreSized run multipliers → IsTable run (2 ^ 122) multipliers.values
sized_table run multipliers long sized = record {
  long = long;
  small = λ s j l h. omega (arith, ap unsigned_abs (multiplier_is run multipliers s j h), sized s j l h, most_small run j h);
}

-- multipliers that have gained their moves are the moved ones
pub moves_gained : (run : Run) (multipliers : Multipliers) (x new : List ℤ) → AreLong run multipliers → HaveGained run (λ s j. true) (gain_of run x Move) multipliers.values new →
    new ≡ gathered (scenarios run) (λ s. map (moved run multipliers x s) (range_with_len 0 run.nonleaf))
moves_gained run multipliers x new long f =
    table_is (scenarios run) run.nonleaf (moved run multipliers x) new (f.long ∙ long) (λ s j l h.
    f.cells s j l h ∙ ap (λ z. z +ℤ gain_of run x Move s j) (sym (multiplier_is run multipliers s j h)))
