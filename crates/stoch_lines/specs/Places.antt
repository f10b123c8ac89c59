-- Places of the core that may differ between scenarios, and their stages.
use Rattle.std.specs.Prelude.{ℕ, ◌+◌, Bool, false, ◌&&◌, ◌||◌, ◌==◌, nat_lt, if◌then◌else◌, List, position, Option, Some, None, codes}
use Rattle.std.specs.Option.{option_map}
use Rattle.std.specs.Str.{bytes_eq}
use Rattle.smps_words.specs.Stages.{stage_in}
use Rattle.smps_words.specs.declared.core_file.Core.{Core}
use Rattle.smps_words.specs.declared.periods.Periods.{Periods}
use Rattle.stoch_lines.specs.declared.places.StochPlace.{StochPlace}
use Rattle.stoch_lines.specs.declared.places.StochPlace.TheVariants.{Cost, Cell, Right}
use Rattle.stoch_lines.specs.declared.places.Source.{Source}
use Rattle.stoch_lines.specs.declared.places.Source.TheVariants.{Place, Block}

-- whether two places are the same
abbrev pub same_place : StochPlace → StochPlace → Bool
same_place (Cost column) (Cost other) = column == other
same_place (Cell row column) (Cell other_row other) = (row == other_row) && (column == other)
same_place (Right row) (Right other) = row == other
same_place _ _ = false

-- whether two lines belong to one element: they have the same place or the same block
abbrev pub same_source : Source → Source → Bool
same_source (Place place) (Place other) = same_place place other
same_source (Block block) (Block other) = block == other
same_source _ _ = false

-- the place of a column in the row of this name, which may be the objective
abbrev pub place_in_column : Core → ℕ → List ℕ → Option StochPlace
place_in_column core column row =
    if bytes_eq row core.objective then Some (Cost column)
    else option_map (λ number. Cell number column) (position (bytes_eq row) core.row_names)

-- the place of the right side of the row of this name
abbrev pub place_on_right : Core → List ℕ → Option StochPlace
place_on_right core row =
    option_map (λ number. Right number) (position (bytes_eq row) core.row_names)

-- whether a first field stands for the right sides, where no column has this name
abbrev pub is_right_name : Core → List ℕ → Bool
is_right_name core first = bytes_eq first (codes "RHS") || bytes_eq first core.right_name

-- the place of a first field that is this column, or no column's name
abbrev pub place_of_first : Core → Option ℕ → List ℕ → List ℕ → Option StochPlace
place_of_first core (Some column) first row = place_in_column core column row
place_of_first core None first row =
    if is_right_name core first then place_on_right core row else None

-- the place that a first field and a row name, if they name one
abbrev pub stoch_place : Core → List ℕ → List ℕ → Option StochPlace
stoch_place core first row =
    place_of_first core (position (bytes_eq first) core.column_names) first row

-- the stage of a place: its row's, or for a cost the column's
abbrev pub stage_of_place : Periods → StochPlace → ℕ
stage_of_place periods (Cost column) = stage_in periods.columns column
stage_of_place periods (Cell row column) = stage_in periods.rows row
stage_of_place periods (Right row) = stage_in periods.rows row

-- whether a place is that of a column in a row of an earlier stage
abbrev pub anticipates : Periods → StochPlace → Bool
anticipates periods (Cell row column) =
    nat_lt (stage_in periods.rows row) (stage_in periods.columns column)
anticipates periods _ = false

-- the number of the period of this name, from 1
abbrev pub period_of : Periods → List ℕ → Option ℕ
period_of periods name = option_map (λ at. at + 1) (position (bytes_eq name) periods.names)
