-- The run of a core, its periods, a stoch file and some options.
use Rattle.std.specs.Prelude.{ℕ, ◌*◌, ◌^◌, Bool, ◌||◌, nat_lt, min, if◌then◌else◌, List, length, map, ℤ, pos, Option, Some, None, option_map, slice_index}
use Rattle.std.specs.List.{count_by, filter, filter_map, range_with_len, sum_by}
use Rattle.base_words.specs.ListSums.{sum_z}
use Rattle.boxed_problem.specs.Sides.{side_at}
use Rattle.boxed_problem.specs.declared.parts.Entry.{Entry}
use Rattle.boxed_problem.specs.declared.parts.Limits.{Limits}
use Rattle.dec_core.specs.Scale.{scaled_to}
use Rattle.dec_core.specs.declared.decimal.Decimal.{Decimal}
use Rattle.smps_words.specs.Stages.{stage_in}
use Rattle.smps_words.specs.declared.core_data.CoreEntry.{CoreEntry}
use Rattle.stoch_lines.specs.declared.places.StochEntry.{StochEntry}
use Rattle.stoch_lines.specs.declared.places.StochPlace.{StochPlace}
use Rattle.stoch_lines.specs.declared.places.StochPlace.TheVariants.{Cost, Cell, Right}
use Rattle.tree_core.specs.Marks.{tree_of}
use Rattle.scenario_lists.specs.ScenarioList.{count_of, marks_of, scenarios_of}
use Rattle.scenario_lists.specs.declared.data.ScenarioData.{ScenarioData}
use Rattle.sp_model.specs.Reaching.{run_reach}
use Rattle.sp_model.specs.declared.limits.TheConstants.{MAX_CELLS, MAX_NONLEAF_CELLS, MAX_SCENARIOS}
use Rattle.sp_model.specs.declared.program.Change.{Change}
use Rattle.sp_model.specs.declared.program.Change.TheVariants as change
use Rattle.sp_model.specs.declared.program.Column.{Column}
use Rattle.sp_model.specs.declared.program.Options.{Options}
use Rattle.sp_model.specs.declared.program.Program.{Program}
use Rattle.sp_model.specs.declared.program.Row.{Row}
use Rattle.sp_model.specs.declared.program.Scenario.{Scenario}
use Rattle.join_words.specs.Boxes.{is_idle}
use Rattle.join_words.specs.Framing.{Source, frame_of}
use Rattle.join_words.specs.Limits.{lower_limit, upper_limit}
use Rattle.join_words.specs.Parts.{Firsts, Parts, column_at, row_at, stages_of}
use Rattle.join_words.specs.Powers.{stays}
use Rattle.join_words.specs.declared.frame.Frame.{Frame}

-- a cost, and a number of row i, scaled
abbrev pub scaled_cost : Frame → Decimal → ℤ
scaled_cost frame cost = scaled_to cost frame.cost_places

abbrev pub scaled_in : Frame → ℕ → Decimal → ℤ
scaled_in frame i number = scaled_to number (slice_index frame.row_places i)

-- the cost of column j: 0 where its box is the single 0
abbrev pub cost_of : Parts → Frame → ℕ → ℤ
cost_of parts frame j =
    if is_idle frame.sides j then pos 0 else scaled_cost frame (column_at parts j).cost

-- column j, with this cost
abbrev pub column_with : Firsts → Frame → ℤ → ℕ → Column
column_with firsts frame cost j = record {
  stage = stage_in firsts.columns j;
  lower = (side_at frame.sides j).lower;
  upper = (side_at frame.sides j).upper;
  cost = cost;
}

-- column j
abbrev pub column_of : Parts → Firsts → Frame → ℕ → Column
column_of parts firsts frame j = column_with firsts frame (cost_of parts frame j) j

abbrev pub columns_of : Parts → Firsts → Frame → List Column
columns_of parts firsts frame =
    map (column_of parts firsts frame) (range_with_len 0 (length parts.columns))

-- the range of row i, scaled, none where it has none
abbrev pub range_of : Parts → Frame → ℕ → Option ℤ
range_of parts frame i = option_map (scaled_in frame i) (row_at parts i).range

-- the limits of row i with this right-hand side
abbrev pub lower_of : Parts → Frame → ℕ → Decimal → Option ℤ
lower_of parts frame i rhs =
    lower_limit (row_at parts i).kind (scaled_in frame i rhs) (range_of parts frame i)

abbrev pub upper_of : Parts → Frame → ℕ → Decimal → Option ℤ
upper_of parts frame i rhs =
    upper_limit (row_at parts i).kind (scaled_in frame i rhs) (range_of parts frame i)

-- row i, with these limits
abbrev pub row_with : Firsts → Limits → ℕ → Row
row_with firsts limits i = record {
  stage = stage_in firsts.rows i;
  lower = limits.lower;
  upper = limits.upper;
}

-- the limits of row i with this right-hand side
abbrev pub limits_of : Parts → Frame → ℕ → Decimal → Limits
limits_of parts frame i rhs = record {
  lower = lower_of parts frame i rhs;
  upper = upper_of parts frame i rhs;
}

-- row i
abbrev pub row_of : Parts → Firsts → Frame → ℕ → Row
row_of parts firsts frame i = row_with firsts (limits_of parts frame i (row_at parts i).right) i

abbrev pub rows_of : Parts → Firsts → Frame → List Row
rows_of parts firsts frame = map (row_of parts firsts frame) (range_with_len 0 (length parts.rows))

-- an entry of the run
abbrev pub entry_of : Frame → CoreEntry → Entry
entry_of frame e = record { row = e.row; column = e.column; value = scaled_in frame e.row e.value }

-- the entries of the run: those of columns that stay
abbrev pub entries_of : Parts → Frame → List Entry
entries_of parts frame =
    map (entry_of frame) (filter (λ (e : CoreEntry). stays frame.sides e.column) parts.entries)

-- another cost of column j, none where it has left the run
abbrev pub cost_change : Frame → ℕ → Decimal → Option Change
cost_change frame j value =
    if is_idle frame.sides j then None else Some (change.Cost j (scaled_cost frame value))

-- another entry of row i and column j, none where the column has left the run
abbrev pub cell_change : Frame → ℕ → ℕ → Decimal → Option Change
cell_change frame i j value =
    if is_idle frame.sides j then None else Some (change.Cell i j (scaled_in frame i value))

-- other limits of row i
abbrev pub limits_change : Parts → Frame → ℕ → Decimal → Option Change
limits_change parts frame i value =
    Some (change.Limits i (lower_of parts frame i value) (upper_of parts frame i value))

-- what a value changes at its place
abbrev pub change_at : Parts → Frame → StochPlace → Decimal → Option Change
change_at parts frame (Cost j) value = cost_change frame j value
change_at parts frame (Cell i j) value = cell_change frame i j value
change_at parts frame (Right i) value = limits_change parts frame i value

abbrev pub change_of : Parts → Frame → StochEntry → Option Change
change_of parts frame e = change_at parts frame e.place e.value

-- a scenario: its weight, and what its values change
abbrev pub scenario_of : Parts → Frame → ScenarioData → Scenario
scenario_of parts frame listed = record {
  weight = pos listed.weight;
  changes = filter_map (change_of parts frame) listed.entries;
}

-- the scenarios of the run
abbrev pub run_scenarios : Source → List Scenario
run_scenarios source = map (scenario_of source.parts (frame_of source)) (scenarios_of source.stoch)

-- the program
unfoldable pub program_of : Source → Program
program_of source = record {
  columns = columns_of source.parts source.firsts (frame_of source);
  rows = rows_of source.parts source.firsts (frame_of source);
  entries = entries_of source.parts (frame_of source);
  constant = scaled_cost (frame_of source) source.parts.constant;
  cost_scale = pos (10 ^ (frame_of source).cost_places);
  scenarios = run_scenarios source;
  tree = tree_of (stages_of source.firsts) (marks_of (stages_of source.firsts) source.stoch);
}

-- the options of the run: no more ranks than scenarios
abbrev pub options_of : Source → Options → Options
options_of source options = record options { ranks = min options.ranks (count_of source.stoch) }

-- the sum of the weights
abbrev pub total_of : Source → ℤ
total_of source = sum_z (λ (s : Scenario). s.weight) (run_scenarios source)

-- how many columns have a stage before the last
abbrev pub nonleaf_in : Firsts → ℕ → ℕ
nonleaf_in firsts n =
    count_by (λ j. nat_lt (stage_in firsts.columns j) (stages_of firsts)) (range_with_len 0 n)

abbrev pub nonleaf_of : Source → ℕ
nonleaf_of source = nonleaf_in source.firsts (length source.parts.columns)

-- the reach of the run, and the reach that a refusal tells: 2^127 where it is greater
abbrev pub reach_of : Source → Options → ℕ
reach_of source options =
    run_reach (program_of source) (options_of source options) (total_of source) (nonleaf_of source)

abbrev pub told_reach : Source → Options → ℕ
told_reach source options = min (reach_of source options) (2 ^ 127)

-- whether there are too many scenarios
abbrev pub is_crowded : Source → Bool
is_crowded source = nat_lt MAX_SCENARIOS (count_of source.stoch)

-- whether so many scenarios have too many cells: scenarios times columns, times rows, or times
-- nonleaf columns
abbrev pub has_many_cells : ℕ → ℕ → ℕ → ℕ → Bool
has_many_cells count columns rows nonleaf = nat_lt MAX_CELLS (count * columns)
    || nat_lt MAX_CELLS (count * rows) || nat_lt MAX_NONLEAF_CELLS (count * nonleaf)

-- whether the scenarios of this source have
abbrev pub has_many_listed : Source → Bool
has_many_listed source = has_many_cells (count_of source.stoch) (length source.parts.columns)
    (length source.parts.rows) (nonleaf_of source)

-- whether all scenarios together have too many changes
abbrev pub has_many_changes : Source → Bool
has_many_changes source =
    nat_lt MAX_CELLS (sum_by (λ (s : Scenario). length s.changes) (run_scenarios source))

-- whether there are too many cells
abbrev pub is_too_large : Source → Bool
is_too_large source = has_many_listed source || has_many_changes source

-- whether the reach is too great
abbrev pub is_wide : Source → Options → Bool
is_wide source options = nat_lt (2 ^ 120) (reach_of source options)
