-- The faults of a line of a stoch file by what the lines before it say, in the order of the format.
use Rattle.std.specs.Prelude.{ℕ, ◌+◌, ◌-◌, ◌^◌, Bool, true, false, not, ◌&&◌, ◌||◌, ◌==◌, nat_le, nat_lt, max, if◌then◌else◌, List, [], ◌∷◌, length, map, reverse, find, position, slice_get, slice_index_or, Option, Some, None, unwrap_or, is_none, is_some, codes, pos, int_lt}
use Rattle.std.specs.List.{list_any}
use Rattle.std.specs.Option.{option_map_or}
use Rattle.std.specs.Str.{bytes_eq}
use Rattle.dec_core.specs.declared.decimal.Decimal.{Decimal}
use Rattle.dec_core.specs.declared.decimal.DecFault.{DecFault}
use Rattle.dec_core.specs.declared.decimal.DecFault.TheVariants as decimal_faults
use Rattle.smps_words.specs.declared.core_file.Core.{Core}
use Rattle.smps_words.specs.declared.periods.Periods.{Periods}
use Rattle.smps_words.specs.NumberFields as numbers
use Rattle.smps_words.specs.NumberFields.{number_in}
use Rattle.smps_words.specs.Tables.{first_true, ◌or◌}
use Rattle.smps_words.specs.TextLines.{TextLine, field, field_count, is_header}
use Rattle.stoch_lines.specs.declared.heading.Heading.{Heading}
use Rattle.stoch_lines.specs.declared.heading.Heading.TheVariants.{Indep, Blocks, Scenarios}
use Rattle.stoch_lines.specs.declared.kinds.StochKind.{StochKind}
use Rattle.stoch_lines.specs.declared.kinds.StochKind.TheVariants.{Section, Mode, Fields, Number, TooManyPlaces, TooLarge, Unknown, Weight, EarlyEntry, Anticipates, Clash, Twice, Parent, Limit}
use Rattle.stoch_lines.specs.declared.places.StochPlace.{StochPlace}
use Rattle.stoch_lines.specs.declared.entries.Owned.{Owned}
use Rattle.stoch_lines.specs.declared.state.ScenarioHead.{ScenarioHead}
use Rattle.stoch_lines.specs.Places.{same_place, stage_of_place, anticipates, period_of}
use Rattle.stoch_lines.specs.declared.state.Saying.{Saying}
use Rattle.stoch_lines.specs.Sayings.{heading_of, begins_block, begins_scenario, last_field, place_at, entry_at, entries_at, named_period, indep_saying, block_saying, element_of, last_element}
use Rattle.stoch_lines.specs.Before.{Before}

-- the greatest number of scenarios of SCENARIOS
abbrev pub max_scenarios : ℕ
max_scenarios = 4096

-- the power of ten that is the greatest probability
abbrev pub max_probability : ℕ
max_probability = 9

-- a number's fault as a kind
abbrev pub number_kind : DecFault → StochKind
number_kind decimal_faults.NotNumber = Number
number_kind decimal_faults.TooManyPlaces = TooManyPlaces
number_kind (decimal_faults.TooLarge negative) = TooLarge

abbrev pub number_fault : List ℕ → Option StochKind
number_fault text = numbers.number_fault number_kind text

-- whether a number is above 0 and at most 10^9: its mantissa has the places behind the point
-- besides
abbrev pub is_probability : Decimal → Bool
is_probability d =
    int_lt (pos 0) d.mantissa && not (int_lt (pos (10 ^ (max_probability + d.places))) d.mantissa)

abbrev pub probability_fault : List ℕ → Option StochKind
probability_fault text =
    number_fault text or first_true ((not (is_probability (number_in text)), Weight) ∷ [])

abbrev pub period_fault : Periods → List ℕ → Option StochKind
period_fault periods name = first_true ((is_none (period_of periods name), Unknown) ∷ [])

-- a line's first field, the row in its field k, and the value behind it
abbrev pub pair_fault : Core → ℕ → TextLine → Option StochKind
pair_fault core k line =
    first_true ((is_none (place_at core k line), Unknown) ∷ []) or number_fault (field (k + 1) line)

-- the last entry before that has a place
abbrev pub last_at : StochPlace → List Owned → Option Owned
last_at place entries = find (λ owned. same_place owned.entry.place place) (reverse entries)

-- whether a place belongs to another element
abbrev pub is_taken : List Owned → ℕ → StochPlace → Bool
is_taken entries element place =
    option_map_or (λ owned. not (owned.element == element)) (last_at place entries) false

-- whether a place stands already in a realisation or a scenario, the last one
abbrev pub is_given : List Owned → ℕ → StochPlace → Bool
is_given entries choice place =
    option_map_or (λ owned. owned.choice == choice) (last_at place entries) false

-- the period of an element: its own, or the one said where the line is its first
abbrev pub own_period : Before → Saying → ℕ
own_period b saying = slice_index_or b.periods (element_of b.sources saying.source) saying.period

-- the period that a line of INDEP names, if it has five fields
abbrev pub named_fault : Periods → TextLine → Option StochKind
named_fault periods line =
    if field_count line == 5 then period_fault periods (field 3 line) else None

-- the form of a line of INDEP
abbrev pub indep_form : Core → Periods → TextLine → Option StochKind
indep_form core periods line =
    first_true ((not ((field_count line == 4) || (field_count line == 5)), Fields) ∷ [])
    or (pair_fault core 1 line
    or (named_fault periods line
    or probability_fault (last_field line)))

-- its place and its period, by what was said of the element before
abbrev pub indep_rules : Periods → Before → StochPlace → Option ℕ → Saying → Option StochKind
indep_rules periods b place named saying =
    let period = own_period b saying in
    first_true (
    (anticipates periods place, Anticipates)
    ∷ ((period == 1) || nat_lt (stage_of_place periods place) period, EarlyEntry)
    ∷ (not (unwrap_or named period == period), Clash)
    ∷ (is_taken b.entries (element_of b.sources saying.source) place, Twice)
    ∷ [])

abbrev pub indep_fault : Core → Periods → Before → TextLine → Option StochKind
indep_fault core periods b line =
    indep_form core periods line
    or indep_rules periods b (entry_at core 1 line).place (named_period periods line)
    (indep_saying core periods line)

-- a line that begins a realisation of a block
abbrev pub block_form : Periods → TextLine → Option StochKind
block_form periods line =
    first_true ((not (field_count line == 4), Fields) ∷ [])
    or (period_fault periods (field 2 line)
    or probability_fault (field 3 line))

abbrev pub block_rules : Before → Saying → Option StochKind
block_rules b saying =
    let period = own_period b saying in
    first_true ((period == 1, EarlyEntry) ∷ (not (saying.period == period), Clash) ∷ [])

abbrev pub block_fault : Periods → Before → TextLine → Option StochKind
block_fault periods b line =
    block_form periods line or block_rules b (block_saying periods b.blocks line)

-- whether a name stands for the core where a parent is named
abbrev pub is_root : List ℕ → Bool
is_root name =
    bytes_eq name (codes "ROOT")
    || (bytes_eq name (codes "'ROOT'") || bytes_eq name (codes "\"ROOT\""))

-- whether a scenario has this name
abbrev pub is_scenario : Before → List ℕ → Bool
is_scenario b name = is_some (position (bytes_eq name) b.names)

-- a line that begins a scenario
abbrev pub scenario_form : Before → TextLine → Option StochKind
scenario_form b line =
    first_true (
    (not (field_count line == 5), Fields)
    ∷ (nat_le max_scenarios (length b.names), Limit)
    ∷ (not (is_root (field 2 line) || is_scenario b (field 2 line)), Parent)
    ∷ [])

abbrev pub scenario_numbers : Periods → TextLine → Option StochKind
scenario_numbers periods line =
    probability_fault (field 3 line) or period_fault periods (field 4 line)

abbrev pub scenario_fault : Periods → Before → TextLine → Option StochKind
scenario_fault periods b line =
    scenario_form b line
    or (scenario_numbers periods line
    or first_true ((is_scenario b (field 1 line) || is_root (field 1 line), Twice) ∷ []))

-- whether a place in a line was given before in the realisation or scenario, or stands twice in the
-- line
abbrev pub is_repeated : List Owned → ℕ → List StochPlace → Bool
is_repeated entries choice [] = false
is_repeated entries choice (place ∷ places) =
    is_given entries choice place
    || (list_any (same_place place) places || is_repeated entries choice places)

-- the places of a line with one or two pairs
abbrev pub places_at : Core → TextLine → List StochPlace
places_at core line = map (λ e. e.place) (entries_at core line)

-- the form of a line with one or two pairs
abbrev pub pairs_fault : Core → TextLine → Option StochKind
pairs_fault core line =
    first_true ((not ((field_count line == 3) || (field_count line == 5)), Fields) ∷ [])
    or (pair_fault core 1 line
    or (if field_count line == 5 then pair_fault core 3 line else None))

-- places that may change from a period on
abbrev pub places_rules : Periods → ℕ → Bool → List StochPlace → Option StochKind
places_rules periods earliest twice places =
    first_true (
    (list_any (anticipates periods) places, Anticipates)
    ∷ (list_any (λ place. nat_lt (stage_of_place periods place) earliest) places, EarlyEntry)
    ∷ (twice, Twice)
    ∷ [])

-- whether places of a realisation of a block belong to another element or stand twice
abbrev pub is_twice_in_block : Before → List StochPlace → Bool
is_twice_in_block b places =
    list_any (is_taken b.entries (last_element b.realisations)) places
    || is_repeated b.entries (length b.realisations - 1) places

-- a line of data in a realisation of a block
abbrev pub block_data_fault : Core → Periods → Before → TextLine → Option StochKind
block_data_fault core periods b line =
    let places = places_at core line in
    let earliest = slice_index_or b.periods (last_element b.realisations) 0 in
    pairs_fault core line or places_rules periods earliest (is_twice_in_block b places) places

-- the stage from which the last scenario may differ from its parent: its period, but at least the
-- second
abbrev pub branching_stage : List ScenarioHead → ℕ
branching_stage scenarios =
    max 2 (option_map_or (λ s. s.period) (slice_get scenarios (length scenarios - 1)) 0)

-- a line of data in a scenario
abbrev pub scenario_data_fault : Core → Periods → Before → TextLine → Option StochKind
scenario_data_fault core periods b line =
    let places = places_at core line in
    let twice = is_repeated b.entries (length b.scenarios - 1) places in
    pairs_fault core line or places_rules periods (branching_stage b.scenarios) twice places

-- a line of BLOCKS, and of SCENARIOS: data stand behind a line that begins a realisation or a
-- scenario
abbrev pub blocks_fault : Core → Periods → Before → TextLine → Option StochKind
blocks_fault core periods b line =
    if begins_block line then block_fault periods b line
    else (if not b.begun then Some Section else block_data_fault core periods b line)

abbrev pub scenarios_fault : Core → Periods → Before → TextLine → Option StochKind
scenarios_fault core periods b line =
    if begins_scenario line then scenario_fault periods b line
    else (if not b.begun then Some Section else scenario_data_fault core periods b line)

-- a line of data by the section in which it stands
abbrev pub data_fault : Core → Periods → Option Heading → Before → TextLine → Option StochKind
data_fault core periods None b line = Some Section
data_fault core periods (Some Indep) b line = indep_fault core periods b line
data_fault core periods (Some Blocks) b line = blocks_fault core periods b line
data_fault core periods (Some Scenarios) b line = scenarios_fault core periods b line

-- whether a section may begin behind another: INDEP and BLOCKS not behind SCENARIOS, and SCENARIOS
-- behind none
abbrev pub may_follow : Option Heading → Option Heading → Bool
may_follow None section = false
may_follow (Some Scenarios) section = is_none section
may_follow (Some _) (Some Scenarios) = false
may_follow (Some _) _ = true

-- whether one word stands behind a section's name, DISCRETE or REPLACE
abbrev pub has_one_mode : TextLine → Bool
has_one_mode line =
    (field_count line == 2)
    && (bytes_eq (field 1 line) (codes "DISCRETE") || bytes_eq (field 1 line) (codes "REPLACE"))

-- whether two stand there, DISCRETE and then REPLACE
abbrev pub has_both_modes : TextLine → Bool
has_both_modes line =
    (field_count line == 3)
    && (bytes_eq (field 1 line) (codes "DISCRETE") && bytes_eq (field 2 line) (codes "REPLACE"))

-- whether the words behind a section's name are DISCRETE and REPLACE, each of which may be left out
abbrev pub has_mode : TextLine → Bool
has_mode line = (field_count line == 1) || (has_one_mode line || has_both_modes line)

abbrev pub section_fault : Option Heading → TextLine → Option StochKind
section_fault section line = first_true
    ((not (may_follow (heading_of (field 0 line)) section), Section) ∷ (not (has_mode line), Mode)
    ∷ [])

-- a header
abbrev pub header_fault : Before → TextLine → Option StochKind
header_fault b line =
    if is_header (codes "STOCH") line then first_true ((not b.nothing, Section) ∷ [])
    else (if is_header (codes "ENDATA") line
    then first_true ((not (field_count line == 1), Fields) ∷ [])
    else section_fault b.section line)

-- any line
abbrev pub line_fault : Core → Periods → Before → TextLine → Option StochKind
line_fault core periods b line =
    if line.header then header_fault b line else data_fault core periods b.section b line
