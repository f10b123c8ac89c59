-- What a line of a stoch file says, given the lines before it as far as they matter.
use Rattle.std.specs.Prelude.{ℕ, ◌+◌, ◌-◌, Bool, true, false, not, ◌&&◌, ◌||◌, ◌==◌, if◌then◌else◌, List, [], ◌∷◌, ◌++◌, length, map, position, slice_get, Option, Some, None, unwrap_or, codes}
use Rattle.std.specs.List.{position_or_len, list_any}
use Rattle.std.specs.Option.{option_map_or}
use Rattle.std.specs.Str.{bytes_eq}
use Rattle.dec_core.specs.declared.decimal.Decimal.{Decimal}
use Rattle.smps_words.specs.declared.core_file.Core.{Core}
use Rattle.smps_words.specs.declared.periods.Periods.{Periods}
use Rattle.smps_words.specs.NumberFields.{number_in}
use Rattle.smps_words.specs.TextLines.{TextLine, field, field_count}
use Rattle.stoch_lines.specs.declared.heading.Heading.{Heading}
use Rattle.stoch_lines.specs.declared.heading.Heading.TheVariants.{Indep, Blocks, Scenarios}
use Rattle.stoch_lines.specs.declared.places.StochEntry.{StochEntry}
use Rattle.stoch_lines.specs.declared.places.StochPlace.{StochPlace}
use Rattle.stoch_lines.specs.declared.places.StochPlace.TheVariants.{Right}
use Rattle.stoch_lines.specs.declared.places.Source.{Source}
use Rattle.stoch_lines.specs.declared.places.Source.TheVariants.{Place, Block}
use Rattle.stoch_lines.specs.declared.state.Chosen.{Chosen}
use Rattle.stoch_lines.specs.declared.state.Saying.{Saying}
use Rattle.stoch_lines.specs.declared.entries.Owned.{Owned}
use Rattle.stoch_lines.specs.declared.state.ScenarioHead.{ScenarioHead}
use Rattle.stoch_lines.specs.Places.{same_source, stoch_place, stage_of_place, period_of}

-- the section that a header's first word begins
abbrev pub heading_of : List ℕ → Option Heading
heading_of word =
    if bytes_eq word (codes "INDEP") then Some Indep
    else (if bytes_eq word (codes "BLOCKS") then Some Blocks
    else (if bytes_eq word (codes "SCENARIOS") then Some Scenarios
    else None))

-- whether a line's first field is the word that begins a realisation of a block
abbrev pub begins_block : TextLine → Bool
begins_block line = bytes_eq (field 0 line) (codes "BL")

-- whether a line's first field is the word that begins a scenario
abbrev pub begins_scenario : TextLine → Bool
begins_scenario line = bytes_eq (field 0 line) (codes "SC")

-- whether a line is a header, which ends what was begun, or has the first field of one that begins
-- a realisation or a scenario
abbrev pub opens_or_ends : TextLine → Bool
opens_or_ends line = line.header || (begins_block line || begins_scenario line)

-- the text of a line's last field
abbrev pub last_field : TextLine → List ℕ
last_field line = field (field_count line - 1) line

-- the column that a line's first field names, if it names one
abbrev pub first_column : Core → TextLine → Option ℕ
first_column core line = position (bytes_eq (field 0 line)) core.column_names

-- the place that a line's first field and its field k name
abbrev pub place_at : Core → ℕ → TextLine → Option StochPlace
place_at core k line = stoch_place core (field 0 line) (field k line)

-- the entry of a line's first field, the row in its field k and the value behind it
abbrev pub entry_at : Core → ℕ → TextLine → StochEntry
entry_at core k line = record {
  place = unwrap_or (place_at core k line) (Right 0);
  value = number_in (field (k + 1) line);
  line = line.number;
}

-- the entries of a line with one or two pairs of row and value
abbrev pub entries_at : Core → TextLine → List StochEntry
entries_at core line =
    entry_at core 1 line ∷ (if field_count line == 5 then entry_at core 3 line ∷ [] else [])

-- the period that a line of INDEP names, if it has five fields
abbrev pub named_period : Periods → TextLine → Option ℕ
named_period periods line = if field_count line == 5 then period_of periods (field 3 line) else None

-- a line of INDEP belongs to the element of its place; its period is the one named, or else the
-- stage of the place
abbrev pub saying_at : Periods → StochPlace → Option ℕ → Decimal → Saying
saying_at periods place named probability = record {
  source = Place place;
  period = unwrap_or named (stage_of_place periods place);
  probability = probability;
}

abbrev pub indep_saying : Core → Periods → TextLine → Saying
indep_saying core periods line =
    saying_at periods (entry_at core 1 line).place (named_period periods line)
    (number_in (last_field line))

-- the number of a block: its own, or the next where no line before has its name
abbrev pub block_number : List (List ℕ) → TextLine → ℕ
block_number blocks line = position_or_len (bytes_eq (field 1 line)) blocks

-- the line that begins a realisation of a block
abbrev pub block_saying : Periods → List (List ℕ) → TextLine → Saying
block_saying periods blocks line = record {
  source = Block (block_number blocks line);
  period = unwrap_or (period_of periods (field 2 line)) 0;
  probability = number_in (field 3 line);
}

-- what a line of data says of elements in a section: each line of INDEP does, in BLOCKS the lines
-- that begin a realisation
abbrev pub saying_in : Core → Periods → Option Heading → List (List ℕ) → TextLine → List Saying
saying_in core periods None blocks line = []
saying_in core periods (Some Indep) blocks line = indep_saying core periods line ∷ []
saying_in core periods (Some Blocks) blocks line =
    if begins_block line then block_saying periods blocks line ∷ [] else []
saying_in core periods (Some Scenarios) blocks line = []

-- the same of any line
abbrev pub sayings : Core → Periods → Option Heading → List (List ℕ) → TextLine → List Saying
sayings core periods section blocks line =
    if line.header then [] else saying_in core periods section blocks line

-- whether a section is BLOCKS, and whether it is SCENARIOS
abbrev pub is_blocks : Option Heading → Bool
is_blocks (Some Blocks) = true
is_blocks _ = false

abbrev pub is_scenarios : Option Heading → Bool
is_scenarios (Some Scenarios) = true
is_scenarios _ = false

-- whether a line begins a realisation of a block
abbrev pub is_block_line : Option Heading → TextLine → Bool
is_block_line section line = not line.header && (is_blocks section && begins_block line)

-- whether a line begins a scenario
abbrev pub is_scenario_line : Option Heading → TextLine → Bool
is_scenario_line section line = not line.header && (is_scenarios section && begins_scenario line)

-- the blocks' names with that of a line, where it begins a realisation of a new block
abbrev pub with_name : List (List ℕ) → List ℕ → List (List ℕ)
with_name names name = if list_any (bytes_eq name) names then names else (names ++ name ∷ [])

-- the elements' sources with one more, where it is new
abbrev pub with_new : List Source → Source → List Source
with_new sources source =
    if list_any (same_source source) sources then sources else (sources ++ source ∷ [])

abbrev pub with_source : List Source → Saying → List Source
with_source sources saying = with_new sources saying.source

-- the period of an element that a line begins
abbrev pub new_period : List Source → Saying → List ℕ
new_period sources saying =
    if list_any (same_source saying.source) sources then [] else (saying.period ∷ [])

abbrev pub new_periods : List Source → List Saying → List ℕ
new_periods sources [] = []
new_periods sources (saying ∷ _) = new_period sources saying

-- the number of the element to which a line belongs: its own, or the next where the line is its
-- first
abbrev pub element_of : List Source → Source → ℕ
element_of sources source = position_or_len (same_source source) sources

-- a realisation: its element's number and its probability
abbrev pub chosen_by : List Source → Saying → Chosen
chosen_by sources saying = record {
  element = element_of sources saying.source;
  probability = saying.probability;
}

-- the number of the element of the last realisation
abbrev pub last_element : List Chosen → ℕ
last_element realisations =
    option_map_or (λ r. r.element) (slice_get realisations (length realisations - 1)) 0

-- an entry of a realisation of an element, or of a scenario
abbrev pub owned_by : ℕ → ℕ → StochEntry → Owned
owned_by element choice entry = record { element = element; choice = choice; entry = entry }

-- the entries of a line of data in a section: those of INDEP belong to the line's own realisation,
-- those of the other sections to the last realisation or scenario
abbrev pub entries_in : Core → Option Heading → List Source → List Chosen → List ScenarioHead
    → TextLine → List Owned
entries_in core None sources realisations scenarios line = []
entries_in core (Some Indep) sources realisations scenarios line =
    let entry = entry_at core 1 line in owned_by (element_of sources (Place entry.place))
    (length realisations) entry ∷ []
entries_in core (Some Blocks) sources realisations scenarios line =
    if begins_block line then []
    else map (owned_by (last_element realisations) (length realisations - 1))
    (entries_at core line)
entries_in core (Some Scenarios) sources realisations scenarios line =
    if begins_scenario line then []
    else map (owned_by 0 (length scenarios - 1)) (entries_at core line)

-- the same of any line
abbrev pub owned_entries : Core → Option Heading → List Source → List Chosen → List ScenarioHead
    → TextLine → List Owned
owned_entries core section sources realisations scenarios line =
    if line.header then [] else entries_in core section sources realisations scenarios line

-- the scenario that a line begins: its parent is an earlier scenario of this name, or none
abbrev pub scenario_head : Periods → List (List ℕ) → TextLine → ScenarioHead
scenario_head periods names line = record {
  parent = position (bytes_eq (field 2 line)) names;
  probability = number_in (field 3 line);
  period = unwrap_or (period_of periods (field 4 line)) 0;
}

abbrev pub scenario_heads : Periods → Option Heading → List (List ℕ) → TextLine → List ScenarioHead
scenario_heads periods section names line =
    if is_scenario_line section line then scenario_head periods names line ∷ [] else []

abbrev pub scenario_names : Option Heading → TextLine → List (List ℕ)
scenario_names section line = if is_scenario_line section line then field 1 line ∷ [] else []
