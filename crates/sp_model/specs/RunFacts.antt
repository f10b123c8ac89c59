-- What the type of a run keeps, as facts over its program, options, total weight and number of
-- nonleaf columns.

use Rattle.std.specs.Prelude.{◌≡◌, ℕ, ◌+◌, ◌*◌, ◌^◌, ◌<◌, ◌≤◌, ◌==◌, nat_lt, Bool, true, false, ◌&&◌, length, ℤ, pos, neg_ℤ, ◌≤ℤ◌, int_le, Option, Some, None, slice_index_or}
use Rattle.std.specs.List.{All, AllPairs, count_by, list_any, range_with_len, sum_by}
use Rattle.std.specs.Ordering.{int_eq}
use Rattle.base_words.specs.ListSums.{sum_z}
use Rattle.boxed_problem.specs.BoxedFacts.{ComesBefore, entry_at}
use Rattle.boxed_problem.specs.declared.parts.Entry.{Entry}
use Rattle.tree_core.specs.Nodes.{IsNode, Precedes, SameNode, StandsOnce}
use Rattle.tree_core.specs.declared.tree.Node.{Node}
use Rattle.tree_core.specs.declared.tree.Tree.{Tree}
use Rattle.sp_model.specs.Reaching.{box_reach, run_reach}
use Rattle.sp_model.specs.declared.limits.TheConstants.{MIN_STAGES, MAX_STAGES, MAX_SCENARIOS, MAX_COLUMNS, MAX_ROWS, MAX_CELLS, MAX_NONLEAF_CELLS, MAX_BOX_END, MAX_SCALE, MAX_RHO, MAX_ITERATIONS, MAX_RANKS, MAX_SPOKES, MAX_CANDIDATES, MAX_GAP, MAX_BUDGET, MAX_MISSING, MAX_PLACES}
use Rattle.sp_model.specs.declared.program.Change.{Change}
use Rattle.sp_model.specs.declared.program.Change.TheVariants as change
use Rattle.sp_model.specs.declared.program.Column.{Column}
use Rattle.sp_model.specs.declared.program.Options.{Options}
use Rattle.sp_model.specs.declared.program.Program.{Program}
use Rattle.sp_model.specs.declared.program.Row.{Row}
use Rattle.sp_model.specs.declared.program.Scenario.{Scenario}

-- options in their ranges
pub record OptionFacts (o : Options) : Type 0 where
  pub some_scale : pos 1 ≤ℤ o.scale
  pub scale : o.scale ≤ℤ MAX_SCALE
  pub some_rho : pos 1 ≤ℤ o.rho
  pub rho : o.rho ≤ℤ MAX_RHO
  pub iterations : o.iterations ≤ MAX_ITERATIONS
  pub some_ranks : 1 ≤ o.ranks
  pub ranks : o.ranks ≤ MAX_RANKS
  pub spokes : o.lagrangian + o.xhat ≤ MAX_SPOKES
  pub some_candidates : 1 ≤ o.candidates
  pub candidates : o.candidates ≤ MAX_CANDIDATES
  pub some_gap : pos 0 ≤ℤ o.gap
  pub gap : o.gap ≤ℤ MAX_GAP
  pub some_budget : 1 ≤ o.budget
  pub budget : o.budget ≤ MAX_BUDGET
  pub some_missing : pos 1 ≤ℤ o.missing
  pub missing : o.missing ≤ℤ MAX_MISSING

-- a column of one of the stages, with a box that isn't empty and isn't too wide
pub record IsColumn (stages : ℕ) (column : Column) : Type 0 where
  pub early : 1 ≤ column.stage
  pub late : column.stage ≤ stages
  pub filled : column.lower ≤ℤ column.upper
  pub low : neg_ℤ MAX_BOX_END ≤ℤ column.lower
  pub high : column.upper ≤ℤ MAX_BOX_END

-- whether there is a limit, and no lower limit is above an upper one
abbrev pub are_limits : Option ℤ → Option ℤ → Bool
are_limits None None = false
are_limits None (Some upper) = true
are_limits (Some lower) None = true
are_limits (Some lower) (Some upper) = int_le lower upper

-- a row of one of the stages, with limits
pub record IsRow (stages : ℕ) (row : Row) : Type 0 where
  pub early : 1 ≤ row.stage
  pub late : row.stage ≤ stages
  pub limits : are_limits row.lower row.upper ≡ true

-- whether a change names a row and a column that are there, and gives limits where it gives any
abbrev pub is_change : ℕ → ℕ → Change → Bool
is_change rows columns (change.Cost column value) = nat_lt column columns
is_change rows columns (change.Cell row column value) = nat_lt row rows && nat_lt column columns
is_change rows columns (change.Limits row lower upper) = nat_lt row rows && are_limits lower upper

-- whether two changes are of the same place
abbrev pub is_same_place : Change → Change → Bool
is_same_place (change.Cost column value) (change.Cost column2 value2) = column == column2
is_same_place (change.Cost column value) (change.Cell row2 column2 value2) = false
is_same_place (change.Cost column value) (change.Limits row2 lower2 upper2) = false
is_same_place (change.Cell row column value) (change.Cost column2 value2) = false
is_same_place (change.Cell row column value) (change.Cell row2 column2 value2) =
    (row == row2) && (column == column2)
is_same_place (change.Cell row column value) (change.Limits row2 lower2 upper2) = false
is_same_place (change.Limits row lower upper) (change.Cost column2 value2) = false
is_same_place (change.Limits row lower upper) (change.Cell row2 column2 value2) = false
is_same_place (change.Limits row lower upper) (change.Limits row2 lower2 upper2) = row == row2

-- the number that a change gives a column as its cost or entry; 0 for limits
abbrev pub change_value : Change → ℤ
change_value (change.Cost column value) = value
change_value (change.Cell row column value) = value
change_value (change.Limits row lower upper) = pos 0

-- the greater magnitude of the box ends of the column that a change names; 1 for limits
abbrev pub change_reach : Program → Change → ℕ
change_reach program (change.Cost column value) = box_reach program column
change_reach program (change.Cell row column value) = box_reach program column
change_reach program (change.Limits row lower upper) = 1

-- a weight of at least 1, and changes of different places that are there
pub record IsScenario (program : Program) (scenario : Scenario) : Type 0 where
  pub positive : pos 1 ≤ℤ scenario.weight
  pub changes : All (λ c. is_change (length program.rows) (length program.columns) c
      ≡ true) scenario.changes
  pub apart : AllPairs (λ c d. is_same_place c d ≡ false) scenario.changes

-- a column whose box is the single 0 has the cost 0 and the entries 0, in the core and in all
-- scenarios
pub record IdleFacts (program : Program) : Type 0 where
  pub costs : (j : ℕ) (d : Column) → j < length program.columns → box_reach program j ≡ 0
      → (slice_index_or program.columns j d).cost ≡ pos 0
  pub entries : All (λ (e : Entry). box_reach program e.column ≡ 0
      → e.value ≡ pos 0) program.entries
  pub changes : All (λ (s : Scenario). All
      (λ c. change_reach program c ≡ 0 → change_value c ≡ pos 0) s.changes) program.scenarios

-- the nodes and their scenarios in order, at each stage each scenario once; a node of the last
-- stage has one scenario, and one of a later stage lies in one of the stage before
pub record TreeFacts (tree : Tree) (count : ℕ) : Type 0 where
  pub once : (t s : ℕ) → 1 ≤ t → t ≤ tree.stages → s < count → StandsOnce tree.nodes t s
  pub nodes : All (IsNode tree.stages count) tree.nodes
  pub ordered : AllPairs Precedes tree.nodes
  pub leaves : All (λ (n : Node). n.stage ≡ tree.stages → length n.scenarios ≡ 1) tree.nodes
  pub nested : (t s u : ℕ) → 1 ≤ t → t < tree.stages → s < count → u < count
      → SameNode tree.nodes (t + 1) s u → SameNode tree.nodes t s u
  pub few : length tree.nodes < 2 ^ 32

-- the columns before the leaf stage are the first ones, and there is one of the first stage
pub record StageFacts (program : Program) (nonleaf : ℕ) : Type 0 where
  pub several : MIN_STAGES ≤ program.tree.stages
  pub few : program.tree.stages ≤ MAX_STAGES
  pub columns : All (IsColumn program.tree.stages) program.columns
  pub rows : All (IsRow program.tree.stages) program.rows
  pub rising : AllPairs (λ (a b : Column). a.stage ≤ b.stage) program.columns
  pub some_columns : 0 < length program.columns
  pub first : (d : Column) → (slice_index_or program.columns 0 d).stage ≡ 1
  pub nonleaf_is : nonleaf ≡ count_by
      (λ (c : Column). nat_lt c.stage program.tree.stages) program.columns

-- the counts are within their limits
pub record CountFacts (program : Program) (nonleaf : ℕ) : Type 0 where
  pub some_scenarios : 0 < length program.scenarios
  pub scenarios : length program.scenarios ≤ MAX_SCENARIOS
  pub columns : length program.columns ≤ MAX_COLUMNS
  pub rows : length program.rows ≤ MAX_ROWS
  pub column_cells : length program.scenarios * length program.columns ≤ MAX_CELLS
  pub row_cells : length program.scenarios * length program.rows ≤ MAX_CELLS
  pub changes : sum_by (λ (s : Scenario). length s.changes) program.scenarios ≤ MAX_CELLS
  pub nonleaf_cells : length program.scenarios * nonleaf ≤ MAX_NONLEAF_CELLS

-- what the type of a run keeps
pub record RunFacts (program : Program) (options : Options) (total : ℤ) (nonleaf : ℕ) : Type 0 where
  pub options_fit : OptionFacts options
  pub ranks : options.ranks ≤ length program.scenarios
  pub tree : TreeFacts program.tree (length program.scenarios)
  pub stages : StageFacts program nonleaf
  pub counts : CountFacts program nonleaf
  pub places : All (λ (e : Entry). (e.row < length program.rows)
      × (e.column < length program.columns)) program.entries
  pub ascending : (k : ℕ) → k + 1 < length program.entries
      → ComesBefore (entry_at program.entries k) (entry_at program.entries (k + 1))
  pub scenarios : All (IsScenario program) program.scenarios
  pub idle : IdleFacts program
  pub scaled : list_any (λ p. int_eq program.cost_scale (pos (10 ^ p)))
      (range_with_len 0 (MAX_PLACES + 1)) ≡ true
  pub sum_is : total ≡ sum_z (λ (s : Scenario). s.weight) program.scenarios
  pub within : run_reach program options total nonleaf ≤ 2 ^ 120
