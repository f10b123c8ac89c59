-- What a list of lines of a stoch file says: each part is a look-up into the lines.
use Rattle.std.specs.Prelude.{ℕ, Bool, true, false, not, ◌==◌, if◌then◌else◌, List, [], ◌∷◌, ◌++◌, length, fold, map, Option, None}
use Rattle.smps_words.specs.declared.core_file.Core.{Core}
use Rattle.smps_words.specs.declared.periods.Periods.{Periods}
use Rattle.smps_words.specs.Outcomes.{all_told, latest}
use Rattle.smps_words.specs.TextLines.{TextLine, field}
use Rattle.stoch_lines.specs.declared.heading.Heading.{Heading}
use Rattle.stoch_lines.specs.declared.places.Source.{Source}
use Rattle.stoch_lines.specs.declared.places.StochEntry.{StochEntry}
use Rattle.stoch_lines.specs.declared.state.Chosen.{Chosen}
use Rattle.stoch_lines.specs.declared.entries.Owned.{Owned}
use Rattle.stoch_lines.specs.declared.state.ScenarioHead.{ScenarioHead}
use Rattle.stoch_lines.specs.declared.state.Saying.{Saying}
use Rattle.stoch_lines.specs.Sayings.{heading_of, opens_or_ends, is_block_line, with_name, sayings, with_source, new_period, new_periods, chosen_by, element_of, owned_by, owned_entries, scenario_heads, scenario_names}

-- what the lines before a line say
pub record Before : Type 0 where
  -- whether there was no line
  pub nothing : Bool
  -- the section of the last header, and whether a realisation or a scenario has begun behind it
  pub section : Option Heading
  pub begun : Bool
  -- the names of the blocks in order of first appearance
  pub blocks : List (List ℕ)
  -- the elements in order of first appearance, with the period of each
  pub sources : List Source
  pub periods : List ℕ
  -- the realisations in order, and the entries of realisations or of scenarios in order
  pub realisations : List Chosen
  pub entries : List Owned
  -- the scenarios in order, and their names
  pub scenarios : List ScenarioHead
  pub names : List (List ℕ)

-- the section of the last header
abbrev pub section_of : List TextLine → Option Heading
section_of lines = latest (λ line. line.header) (λ line. heading_of (field 0 line)) None lines

-- whether a line whose first field begins a realisation or a scenario stands behind the last header
abbrev pub begun_of : List TextLine → Bool
begun_of lines = latest opens_or_ends (λ line. not line.header) false lines

abbrev pub block_names_in : Option Heading → TextLine → List (List ℕ)
block_names_in section line = if is_block_line section line then field 1 line ∷ [] else []

abbrev pub blocks_of : List TextLine → List (List ℕ)
blocks_of lines =
    fold with_name [] (all_told (λ before line. block_names_in (section_of before) line) [] lines)

abbrev pub names_of : List TextLine → List (List ℕ)
names_of lines = all_told (λ before line. scenario_names (section_of before) line) [] lines

module _ (core : Core) (periods : Periods) where
  abbrev pub sayings_of : List TextLine → List Saying
  sayings_of lines = all_told
      (λ before line. sayings core periods (section_of before) (blocks_of before) line) [] lines

  -- the elements: one for each place and block, in order of first appearance
  abbrev pub sources_of : List TextLine → List Source
  sources_of lines = fold with_source [] (sayings_of lines)

  -- the period that the first line of each element says
  abbrev pub periods_of : List TextLine → List ℕ
  periods_of lines =
      all_told (λ before line. new_periods (sources_of before)
      (sayings core periods (section_of before) (blocks_of before) line)) [] lines

  abbrev pub realisations_of : List TextLine → List Chosen
  realisations_of lines =
      all_told (λ before line. map (chosen_by (sources_of before))
      (sayings core periods (section_of before) (blocks_of before) line)) [] lines

  abbrev pub scenarios_of : List TextLine → List ScenarioHead
  scenarios_of lines = all_told
      (λ before line. scenario_heads periods (section_of before) (names_of before) line) [] lines

  abbrev pub entries_of : List TextLine → List Owned
  entries_of lines =
      all_told (λ before line. owned_entries core (section_of before) (sources_of before)
      (realisations_of before) (scenarios_of before) line) [] lines

  abbrev pub before_of : List TextLine → Before
  before_of lines = record {
    nothing = length lines == 0;
    section = section_of lines;
    begun = begun_of lines;
    blocks = blocks_of lines;
    sources = sources_of lines;
    periods = periods_of lines;
    realisations = realisations_of lines;
    entries = entries_of lines;
    scenarios = scenarios_of lines;
    names = names_of lines;
  }

  -- what the lines say with the elements, realisations, entries and scenarios of one more
  abbrev pub added : Before → TextLine → Before
  added b line =
      let said = sayings core periods b.section b.blocks line in
      record b {
        blocks = fold with_name b.blocks (block_names_in b.section line);
        sources = fold with_source b.sources said;
        periods = b.periods ++ new_periods b.sources said;
        realisations = b.realisations ++ map (chosen_by b.sources) said;
        entries =
            b.entries ++ owned_entries core b.section b.sources b.realisations b.scenarios line;
        scenarios = b.scenarios ++ scenario_heads periods b.section b.names line;
        names = b.names ++ scenario_names b.section line;
      }

  -- what the lines say with one more
  abbrev pub next : Before → TextLine → Before
  next b line = record (added b line) {
    nothing = false;
    section = if line.header then heading_of (field 0 line) else b.section;
    begun = if opens_or_ends line then not line.header else b.begun;
  }

-- what a line says of an element, which may be new
abbrev pub with_element : Before → Saying → Before
with_element b saying = record b {
  sources = with_source b.sources saying;
  periods = b.periods ++ new_period b.sources saying;
}

-- and of one more realisation of it
abbrev pub with_saying : Before → Saying → Before
with_saying b saying = record (with_element b saying) {
  realisations = b.realisations ++ chosen_by b.sources saying ∷ [];
}

-- and of the realisation's one entry
abbrev pub with_single : Before → Saying → StochEntry → Before
with_single b saying entry = record (with_saying b saying) {
  entries =
      b.entries ++ owned_by (element_of b.sources saying.source) (length b.realisations) entry ∷ [];
}

-- and of a block, which may be new
abbrev pub with_block : Before → List ℕ → Before
with_block b name = record b { blocks = with_name b.blocks name }

-- and of entries
abbrev pub with_entries : Before → List Owned → Before
with_entries b entries = record b { entries = b.entries ++ entries }

-- and of a scenario
abbrev pub with_scenario : Before → List ℕ → ScenarioHead → Before
with_scenario b name scenario = record b {
  scenarios = b.scenarios ++ scenario ∷ [];
  names = b.names ++ name ∷ [];
}

-- what no lines say
abbrev pub nothing_said : Before
nothing_said = record {
  nothing = true;
  section = None;
  begun = false;
  blocks = [];
  sources = [];
  periods = [];
  realisations = [];
  entries = [];
  scenarios = [];
  names = [];
}
