-- Words of the laws on elements, entries and the values of places.
use Rattle.std.specs.Prelude.{◌≡◌, ◌↔◌, ℕ, ◌+◌, ◌<◌, ◌≤◌, ◌&&◌, ◌==◌, if◌then◌else◌, not, true, Bool, List, [], ◌∷◌, length, take, slice_index_or, find, Option, Some, None}
use Rattle.std.specs.List.{list_any, Contains}
use Rattle.std.specs.Option.{option_map, option_or}
use Rattle.dec_core.specs.declared.decimal.Decimal.{Decimal}
use Rattle.smps_words.specs.FirstPlaces.{CleanTo}
use Rattle.smps_words.specs.TextLines.{TextLine, field, no_line, is_end}
use Rattle.smps_words.specs.declared.core_file.Core.{Core}
use Rattle.smps_words.specs.declared.periods.Periods.{Periods}
use Rattle.stoch_lines.specs.Before.{blocks_of, names_of, sayings_of, section_of, Before}
use Rattle.stoch_lines.specs.Faults.{is_given, is_taken}
use Rattle.stoch_lines.specs.Places.{same_place, same_source}
use Rattle.stoch_lines.specs.Sayings.{begins_block, begins_scenario, block_number, entries_at, entry_at, is_block_line, is_scenarios}
use Rattle.stoch_lines.specs.StochOutcome.{fault_after}
use Rattle.stoch_lines.specs.declared.entries.Owned.{Owned}
use Rattle.stoch_lines.specs.declared.heading.Heading.{Heading}
use Rattle.stoch_lines.specs.declared.heading.Heading.TheVariants as headings
use Rattle.stoch_lines.specs.declared.places.StochEntry.{StochEntry}
use Rattle.stoch_lines.specs.declared.places.StochPlace.{StochPlace}
use Rattle.stoch_lines.specs.declared.state.Chosen.{Chosen}
use Rattle.stoch_lines.specs.declared.state.Saying.{Saying}
use Rattle.smps_stoch.specs.declared.stoch.Element.{Element}
use Rattle.smps_stoch.specs.declared.stoch.Realisation.{Realisation}
use Rattle.smps_stoch.specs.SaidFacts.{chosen_element}
use Rattle.smps_stoch.specs.StochData.{no_realisation}

-- whether some entry of a place is of another element
abbrev pub some_other : List Owned → ℕ → StochPlace → Bool
some_other entries element place =
    list_any (λ owned. same_place owned.entry.place place && not (owned.element == element)) entries

-- whether some entry of a place is of this realisation or scenario
abbrev pub some_of : List Owned → ℕ → StochPlace → Bool
some_of entries choice place =
    list_any (λ owned. same_place owned.entry.place place && (owned.choice == choice)) entries

-- what the tests of a place's last entry tell holds of all its entries; the second one is asked of
-- the last realisation or scenario
pub record LastTellsAll (b : Before) : Type 0 where
  pub taken : (element : ℕ) (place : StochPlace)
      → is_taken b.entries element place ≡ some_other b.entries element place
  pub given : (choice : ℕ) (place : StochPlace)
      → length b.realisations + length b.scenarios ≤ choice + 1
      → is_given b.entries choice place ≡ some_of b.entries choice place

-- no line has a fault or ends the file
abbrev pub AreClean : Core → Periods → List TextLine → Type 0
AreClean core periods lines = CleanTo (fault_after core periods) is_end lines (length lines)

-- the line at place n of some lines, counted from 0, and the section in which it stands
abbrev pub line_at : List TextLine → ℕ → TextLine
line_at lines n = slice_index_or lines n no_line

abbrev pub section_at : List TextLine → ℕ → Option Heading
section_at lines n = section_of (take n lines)

-- whether line n begins a realisation of a block, and the number of that block
abbrev pub is_block_at : List TextLine → ℕ → Bool
is_block_at lines n = is_block_line (section_at lines n) (line_at lines n)

abbrev pub block_at : List TextLine → ℕ → ℕ
block_at lines n = block_number (blocks_of (take n lines)) (line_at lines n)

-- two lines that begin realisations of blocks have one block exactly where they name the same one
abbrev pub AreByName : List TextLine → Type 0
AreByName lines =
    (m n : ℕ) → m < length lines → n < length lines → is_block_at lines m ≡ true
    → is_block_at lines n ≡ true
    → (block_at lines m ≡ block_at lines n)
    ↔ (field 1 (line_at lines m) ≡ field 1 (line_at lines n))

-- the entries that a line of data of a section has: one in INDEP, and in BLOCKS and SCENARIOS one
-- or two unless it begins a realisation or a scenario
abbrev pub entries_said : Core → Option Heading → TextLine → List StochEntry
entries_said core None line = []
entries_said core (Some headings.Indep) line = entry_at core 1 line ∷ []
entries_said core (Some headings.Blocks) line =
    if begins_block line then [] else entries_at core line
entries_said core (Some headings.Scenarios) line =
    if begins_scenario line then [] else entries_at core line

-- the entries of line n, of which a header has none
abbrev pub entries_on : Core → List TextLine → ℕ → List StochEntry
entries_on core lines n =
    let line = line_at lines n in
    if line.header then [] else entries_said core (section_at lines n) line

-- how many realisations have begun up to line n and with it, and in SCENARIOS how many scenarios
abbrev pub begun_up_to : Core → Periods → List TextLine → ℕ → ℕ
begun_up_to core periods lines n =
    let up_to = take (n + 1) lines in
    if is_scenarios (section_at lines n) then length (names_of up_to)
    else length (sayings_of core periods up_to)

-- some line has this entry, and realisation or scenario k is the last one that has begun up to it
abbrev pub IsOnLine : Core → Periods → List TextLine → ℕ → StochEntry → Type 0
IsOnLine core periods lines k entry =
    (n : ℕ) × (n < length lines) × Contains (entries_on core lines n) entry
    × (k + 1 ≡ begun_up_to core periods lines n)

-- the i-th and the j-th realisation are of one element exactly where their lines have the same
-- place or block
abbrev pub IsOneElement : List Saying → List Chosen → ℕ → ℕ → Type 0
IsOneElement said chosen i j =
    (s : Saying) (c : Chosen) →
    ((slice_index_or chosen i c).element ≡ (slice_index_or chosen j c).element)
    ↔ (same_source (slice_index_or said i s).source (slice_index_or said j s).source ≡ true)

-- elements are numbered in order of first appearance: before a realisation there is one of each
-- element with a smaller number
abbrev pub AreInOrder : List Chosen → Type 0
AreInOrder chosen =
    (i k : ℕ) → i < length chosen → k < chosen_element chosen i
    → (j : ℕ) × (j < i) × (chosen_element chosen j ≡ k)

-- each line that says something of an element begins one realisation, of the element of its place
-- or block
pub record AreByElement (said : List Saying) (chosen : List Chosen) : Type 0 where
  pub each : length chosen ≡ length said
  pub ordered : AreInOrder chosen
  pub one : (i j : ℕ) → i < length said → j < length said → IsOneElement said chosen i j

-- the value of a place in the entries of a realisation or scenario, if they have one
abbrev pub value_at_place : StochPlace → List StochEntry → Option Decimal
value_at_place place entries =
    option_map (λ e. e.value) (find (λ e. same_place e.place place) entries)

-- the entries of an element's first realisation
abbrev pub first_entries : Element → List StochEntry
first_entries element = (slice_index_or element.realisations 0 no_realisation).entries

-- the value of a place in a realisation of an element: its own, or else the first realisation's;
-- where there is none, the core's holds
abbrev pub value_in : Element → Realisation → StochPlace → Option Decimal
value_in element realisation place =
    option_or (value_at_place place realisation.entries)
    (value_at_place place (first_entries element))
