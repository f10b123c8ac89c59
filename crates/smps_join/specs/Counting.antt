-- How many entries of the scenarios stay in the run.
use Rattle.std.specs.Prelude.{ℕ, not, Bool, true, List, map}
use Rattle.std.specs.List.{count_by, sum_by}
use Rattle.boxed_problem.specs.declared.parts.Side.{Side}
use Rattle.scenario_lists.specs.declared.data.ScenarioData.{ScenarioData}
use Rattle.stoch_lines.specs.declared.places.StochEntry.{StochEntry}
use Rattle.stoch_lines.specs.declared.places.StochPlace.{StochPlace}
use Rattle.stoch_lines.specs.declared.places.StochPlace.TheVariants.{Cost, Cell, Right}
use Rattle.join_words.specs.Boxes.{is_zero}
use Rattle.join_words.specs.Powers.{stays}

-- of each column whether it stays in the run
abbrev pub live_of : List Side → List Bool
live_of sides = map (λ side. not (is_zero side)) sides

-- whether a place stays in the run
abbrev pub is_live : List Side → StochPlace → Bool
is_live sides (Cost column) = stays sides column
is_live sides (Cell row column) = stays sides column
is_live sides (Right row) = true

-- how many of some entries stay
abbrev pub change_count : List Side → List StochEntry → ℕ
change_count sides entries = count_by (λ (e : StochEntry). is_live sides e.place) entries

-- how many of all scenarios' entries stay
abbrev pub changes_count : List Side → List ScenarioData → ℕ
changes_count sides listed = sum_by (λ (s : ScenarioData). change_count sides s.entries) listed
