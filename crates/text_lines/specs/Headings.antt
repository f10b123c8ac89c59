-- The heading of every text: what a run counts, and the unit of its bounds.
use Rattle.std.specs.Prelude.{ℕ, ℤ, ◌*ℤ◌, List, [], ◌∷◌, ◌++◌, length, codes, decimal, not}
use Rattle.std.specs.Fmt.{signed_decimal}
use Rattle.std.specs.List.{count_by}
use Rattle.smps_words.specs.declared.core_data.CoreColumn.{CoreColumn}
use Rattle.smps_words.specs.declared.core_file.Core.{Core}
use Rattle.sp_model.specs.declared.run.Run.{Run}
use Rattle.text_lines.specs.Lines.{line_of}

-- one over this number is the unit in which the bounds of a run are whole numbers: scale times
-- total weight times cost scale
abbrev pub unit_of : Run → ℤ
unit_of run = (run.options.scale *ℤ run.total) *ℤ run.program.cost_scale

-- how many columns no marker calls integer, which are taken as whole all the same
unfoldable pub taken_whole : Core → ℕ
taken_whole core = count_by (λ (column : CoreColumn). not column.marked) core.columns

abbrev pub whole_text : Core → List ℕ
whole_text core = codes " taken-whole " ++ decimal (taken_whole core)

-- how many scenarios, periods and nodes there are
abbrev pub tree_line : Run → List ℕ
tree_line run =
    line_of (codes "scenarios " ++ decimal (length run.program.scenarios) ++ codes " periods "
    ++ decimal run.program.tree.stages ++ codes " nodes "
    ++ decimal (length run.program.tree.nodes))

-- how many columns and rows there are
abbrev pub core_line : Core → Run → List ℕ
core_line core run =
    line_of (codes "columns " ++ decimal (length run.program.columns) ++ whole_text core
    ++ codes " rows " ++ decimal (length run.program.rows))

-- the four lines of the heading
abbrev pub heading_of : Core → Run → List (List ℕ)
heading_of core run =
    line_of (codes "sppy 1")
    ∷ tree_line run
    ∷ core_line core run
    ∷ line_of (codes "unit 1/" ++ signed_decimal (unit_of run))
    ∷ []
