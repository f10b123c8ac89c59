-- All that `show` tells of a run: its columns, its rows, and each scenario with its nodes and the
-- limits of its rows.
use Rattle.std.specs.Prelude.{ℕ, ◌+◌, ◌^◌, List, ◌∷◌, ◌++◌, length, map, codes, decimal, None, slice_index_or}
use Rattle.std.specs.Fmt.{signed_decimal}
use Rattle.std.specs.List.{flat_map, range_with_len}
use Rattle.boxed_problem.specs.declared.parts.Limits.{Limits}
use Rattle.smps_words.specs.declared.core_file.Core.{Core}
use Rattle.sp_model.specs.Plans.{no_column}
use Rattle.sp_model.specs.Problems.{data_at, scenario_at}
use Rattle.sp_model.specs.Values.{limits_in}
use Rattle.sp_model.specs.declared.program.Column.{Column}
use Rattle.sp_model.specs.declared.program.Row.{Row}
use Rattle.sp_model.specs.declared.run.Run.{Run}
use Rattle.tree_core.specs.Nodes.{node_place}
use Rattle.text_lines.specs.Lines.{limit_text, line_of, name_at}

-- what stands past the end of the rows
abbrev pub no_row : Row
no_row = record { stage = 0; lower = None; upper = None }

-- a box, each end behind a blank
abbrev pub box_text : Column → List ℕ
box_text column =
    codes " " ++ signed_decimal column.lower ++ codes " " ++ signed_decimal column.upper

-- a column: its name, its stage and its box
abbrev pub column_text : List ℕ → Column → List ℕ
column_text name column =
    codes "column " ++ name ++ codes " " ++ decimal column.stage ++ box_text column

abbrev pub column_line : Core → Run → ℕ → List ℕ
column_line core run j = line_of
    (column_text (name_at core.column_names j) (slice_index_or run.program.columns j no_column))

-- row i: its name, its stage, and the power of ten by which its numbers were multiplied
abbrev pub row_line : Core → Run → List ℕ → ℕ → List ℕ
row_line core run places i =
    line_of (codes "row " ++ name_at core.row_names i ++ codes " "
    ++ decimal (slice_index_or run.program.rows i no_row).stage ++ codes " "
    ++ decimal (10 ^ slice_index_or places i 0))

-- the node in which scenario s stands at stage t, counted from 1
unfoldable pub node_text : Run → ℕ → ℕ → List ℕ
node_text run s t = codes " " ++ decimal (node_place run.program.tree.nodes s t + 1)

-- its nodes, one for each stage
abbrev pub nodes_text : Run → ℕ → List ℕ
nodes_text run s = flat_map (node_text run s) (range_with_len 1 run.program.tree.stages)

-- scenario s, counted from 1: its weight and its nodes
abbrev pub scenario_line : Run → ℕ → List ℕ
scenario_line run s =
    line_of (codes "scenario " ++ decimal (s + 1) ++ codes " weight "
    ++ signed_decimal (scenario_at run s).weight ++ codes " nodes" ++ nodes_text run s)

-- the line of the limits of row i in scenario s
abbrev pub limits_line : Core → ℕ → ℕ → Limits → List ℕ
limits_line core s i limits =
    line_of (codes "limits " ++ decimal (s + 1) ++ codes " " ++ name_at core.row_names i
    ++ codes " " ++ limit_text limits.lower ++ codes " " ++ limit_text limits.upper)

-- scenario s, and the limits of each row in it
abbrev pub scenario_lines_of : Core → Run → ℕ → List (List ℕ)
scenario_lines_of core run s =
    scenario_line run s ∷ map (λ i. limits_line core s i (limits_in (data_at run s) i))
    (range_with_len 0 (length run.program.rows))

-- all columns, and all rows
abbrev pub column_lines_of : Core → Run → List (List ℕ)
column_lines_of core run =
    map (column_line core run) (range_with_len 0 (length run.program.columns))

abbrev pub row_lines_of : Core → Run → List ℕ → List (List ℕ)
row_lines_of core run places =
    map (row_line core run places) (range_with_len 0 (length run.program.rows))

-- all scenarios, those of one after those of another
abbrev pub all_scenario_lines : Core → Run → List (List ℕ)
all_scenario_lines core run =
    flat_map (scenario_lines_of core run) (range_with_len 0 (length run.program.scenarios))

-- all of it, with the places of the rows' powers of ten
abbrev pub show_lines_of : Core → Run → List ℕ → List (List ℕ)
show_lines_of core run places =
    column_lines_of core run ++ row_lines_of core run places ++ all_scenario_lines core run
