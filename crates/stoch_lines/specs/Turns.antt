-- What a step of the reader answers to a line, and the state as what the lines before it say.
use Rattle.std.specs.Prelude.{◌≡◌, ℕ, Bool, List, ◌∷◌, ◌<◌, false, length, map, Option, Some, None, Result, Ok, Err}
use Rattle.std.specs.Option.{option_to_list}
use Rattle.dec_core.specs.declared.decimal.Decimal.{Decimal}
use Rattle.smps_words.specs.NumberFields.{number_in}
use Rattle.smps_words.specs.declared.core_file.Core.{Core}
use Rattle.smps_words.specs.declared.file_line.FileLine.{FileLine}
use Rattle.smps_words.specs.declared.periods.Periods.{Periods}
use Rattle.smps_words.specs.TextLines.{TextLine, field, text_of, is_end}
use Rattle.stoch_lines.specs.declared.kinds.StochKind.{StochKind}
use Rattle.stoch_lines.specs.declared.kinds.StochFault.{StochFault}
use Rattle.stoch_lines.specs.declared.kinds.StochFault.TheVariants as faults
use Rattle.stoch_lines.specs.declared.pairs.Pairs.{Pairs}
use Rattle.stoch_lines.specs.declared.places.StochEntry.{StochEntry}
use Rattle.stoch_lines.specs.declared.places.StochPlace.{StochPlace}
use Rattle.stoch_lines.specs.declared.state.State.{State}
use Rattle.stoch_lines.specs.declared.state.ScenarioHead.{ScenarioHead}
use Rattle.stoch_lines.specs.Places.{period_of}
use Rattle.stoch_lines.specs.Sayings.{entry_at, last_field, named_period, scenario_head}
use Rattle.stoch_lines.specs.Before.{added, next, Before}
use Rattle.stoch_lines.specs.Faults.{line_fault, is_scenario, max_scenarios}

-- a state shows what the lines before say
abbrev pub before_in : State → Before
before_in state = record {
  nothing = state.nothing;
  section = state.section;
  begun = state.begun;
  blocks = state.blocks;
  sources = state.sources;
  periods = state.periods;
  realisations = state.realisations;
  entries = state.entries;
  scenarios = state.scenarios;
  names = state.names;
}

-- an error tells this fault at this line, and then this stays the same; memory is wanting only for
-- a line without a fault
abbrev pub Refuses : StochFault → Option StochKind → TextLine → Type 0 → Type 0
Refuses faults.Memory fault line same = fault ≡ None
Refuses (faults.At number kind) fault line same =
    (number ≡ line.number) × (fault ≡ Some kind) × same

-- a step tells the line's fault, and where there is none it makes the state such
abbrev pub Turns : {X : Type 0} → Option StochKind → TextLine → Result X StochFault → Type 0
    → Type 0 → Type 0
Turns fault line (Ok x) same after = (fault ≡ None) × after
Turns fault line (Err e) same after = Refuses e fault line same

-- a line of data tells its fault by the lines before, and then the state shows what it showed;
-- where there is none it shows what the line adds
abbrev pub Adds : Core → Periods → (Before → TextLine → Option StochKind) → State → FileLine
    → Result (Unit {0}) StochFault → State → Type 0
Adds core periods fault old line result new =
    let b = before_in old in
    let text = text_of line in
    Turns (fault b text) text result (before_in new ≡ b) (before_in new ≡ added core periods b text)

-- a whole step tells whether the line ends the file besides
abbrev pub Steps : Core → Periods → Before → TextLine → Result Bool StochFault → Before → Type 0
Steps core periods b line (Ok ended) after =
    (line_fault core periods b line ≡ None) × (ended ≡ is_end line)
    × (after ≡ next core periods b line)
Steps core periods b line (Err e) after =
    Refuses e (line_fault core periods b line) line (after ≡ b)

-- a scenario that a line begins has a new name, and there is room for it
abbrev pub IsNewScenario : Periods → Before → TextLine → ScenarioHead → Type 0
IsNewScenario periods b line scenario =
    (scenario ≡ scenario_head periods b.names line)
    × (length b.names < max_scenarios)
    × (is_scenario b (field 1 line) ≡ false)

-- the period and the probability of a line that begins a realisation of a block
abbrev pub AreBlockFields : Periods → TextLine → ℕ → Decimal → Type 0
AreBlockFields periods line period probability =
    (Some period ≡ period_of periods (field 2 line)) × (probability ≡ number_in (field 3 line))

-- the entry, the period and the probability of a line of INDEP
abbrev pub AreIndepFields : Core → Periods → TextLine → StochEntry → Option ℕ → Decimal → Type 0
AreIndepFields core periods line entry named probability =
    (entry ≡ entry_at core 1 line)
    × (named ≡ named_period periods line)
    × (probability ≡ number_in (last_field line))

-- the probability and the period of a line that begins a scenario
abbrev pub AreScenarioNumbers : Periods → TextLine → Decimal → ℕ → Type 0
AreScenarioNumbers periods line probability period =
    (probability ≡ number_in (field 3 line)) × (Some period ≡ period_of periods (field 4 line))

-- the entries of one or two pairs, and their places
abbrev pub pair_entries : Pairs → List StochEntry
pair_entries pairs = pairs.first ∷ option_to_list pairs.second

abbrev pub pair_places : Pairs → List StochPlace
pair_places pairs = map (λ e. e.place) (pair_entries pairs)
