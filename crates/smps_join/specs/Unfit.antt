-- The program of listed scenarios, and that it has a number that leaves 128 bits.
use Rattle.std.specs.Prelude.{◌^◌, ◌⊎◌, List, map, pos, length}
use Rattle.std.specs.List.{Any}
use Rattle.smps_words.specs.declared.core_file.Core.{Core}
use Rattle.smps_words.specs.declared.periods.Periods.{Periods}
use Rattle.smps_stoch.specs.declared.stoch.Stoch.{Stoch}
use Rattle.scenario_lists.specs.ScenarioList.{marks_of}
use Rattle.scenario_lists.specs.declared.data.ScenarioData.{ScenarioData}
use Rattle.tree_core.specs.Marks.{tree_of}
use Rattle.tree_core.specs.declared.tree.Tree.{Tree}
use Rattle.sp_model.specs.declared.program.Program.{Program}
use Rattle.join_words.specs.Parts.{firsts_of, parts_of}
use Rattle.join_words.specs.RunOf.{columns_of, entries_of, rows_of, scaled_cost, scenario_of}
use Rattle.join_words.specs.declared.frame.Frame.{Frame}
use Rattle.join_numbers.specs.Sizes.{IsLarge}
use Rattle.join_numbers.specs.UnfitNumbers.{IsLargeColumn, IsLargeEntry, IsLargeRow, IsLargeScenario}

-- the tree of the scenarios
abbrev pub tree_in : Periods → Stoch → Tree
tree_in periods stoch = tree_of (length periods.columns) (marks_of (length periods.columns) stoch)

-- the program of a frame and of listed scenarios
abbrev pub program_with : Core → Periods → Stoch → Frame → List ScenarioData → Program
program_with core periods stoch frame listed = record {
  columns = columns_of (parts_of core) (firsts_of periods) frame;
  rows = rows_of (parts_of core) (firsts_of periods) frame;
  entries = entries_of (parts_of core) frame;
  constant = scaled_cost frame core.constant;
  cost_scale = pos (10 ^ frame.cost_places);
  scenarios = map (scenario_of (parts_of core) frame) listed;
  tree = tree_in periods stoch;
}

-- a program with a large number
abbrev pub HasUnfit : Program → Type 0
HasUnfit program =
    Any IsLargeColumn program.columns
    ⊎ (Any IsLargeRow program.rows
    ⊎ (Any IsLargeEntry program.entries
    ⊎ (IsLarge program.constant
    ⊎ Any IsLargeScenario program.scenarios)))
