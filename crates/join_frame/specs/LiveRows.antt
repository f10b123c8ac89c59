-- The row of the run to which a number belongs.
use Rattle.std.specs.Prelude.{ℕ, max, if◌then◌else◌, List, slice_index, slice_set, Option, Some, None}
use Rattle.boxed_problem.specs.declared.parts.Side.{Side}
use Rattle.smps_words.specs.declared.core_data.CoreEntry.{CoreEntry}
use Rattle.stoch_lines.specs.declared.places.StochPlace.{StochPlace}
use Rattle.stoch_lines.specs.declared.places.StochPlace.TheVariants.{Cost, Cell, Right}
use Rattle.join_words.specs.Boxes.{is_idle}

-- the row of a place of the stoch file; none of a cost, and of a column that leaves the run
abbrev pub live_row_of_place : List Side → StochPlace → Option ℕ
live_row_of_place sides (Cost column) = None
live_row_of_place sides (Cell row column) = if is_idle sides column then None else Some row
live_row_of_place sides (Right row) = Some row

-- the row of an entry of the core
abbrev pub live_row_of_entry : List Side → CoreEntry → Option ℕ
live_row_of_entry sides e = if is_idle sides e.column then None else Some e.row

-- some places by row, those of one row raised to a number
abbrev pub raised_at : List ℕ → Option ℕ → ℕ → List ℕ
raised_at places None number = places
raised_at places (Some row) number = slice_set places row (max (slice_index places row) number)
