-- The facts of a stoch file's data, for those who make scenarios of them.
use Rattle.std.specs.Prelude.{◌≡◌, ℕ, ◌+◌, ◌^◌, ◌<◌, ◌≤◌, ◌≤ℤ◌, false, List, [], length, slice_index_or, Option, Some, None, ℤ, pos}
use Rattle.std.specs.List.{All, AllPairs}
use Rattle.dec_core.specs.DecimalValue.{max_places}
use Rattle.smps_words.specs.CoreFacts.{IsShort}
use Rattle.smps_words.specs.declared.core_file.Core.{Core}
use Rattle.smps_words.specs.declared.periods.Periods.{Periods}
use Rattle.stoch_lines.specs.Faults.{max_probability, max_scenarios}
use Rattle.stoch_lines.specs.Places.{same_place}
use Rattle.stoch_lines.specs.declared.places.StochEntry.{StochEntry}
use Rattle.stoch_lines.specs.declared.places.StochPlace.{StochPlace}
use Rattle.stoch_lines.specs.declared.places.StochPlace.TheVariants.{Cost, Cell, Right}
use Rattle.smps_stoch.specs.declared.stoch.Stoch.{Stoch}
use Rattle.smps_stoch.specs.declared.stoch.Stoch.TheVariants.{Product, Scenarios}
use Rattle.smps_stoch.specs.declared.stoch.Element.{Element}
use Rattle.smps_stoch.specs.declared.stoch.Branch.{Branch}

-- the power of ten that is the greatest weight: the greatest probability times the greatest common
-- power
abbrev pub max_weight : ℕ
max_weight = max_probability + max_places

-- a weight is at least 1 and small
abbrev pub IsWeight : ℤ → Type 0
IsWeight weight = (pos 1 ≤ℤ weight) × (weight ≤ℤ pos (10 ^ max_weight))

-- a period that is there, and one behind the first
abbrev pub IsPeriod : Periods → ℕ → Type 0
IsPeriod periods period = (1 ≤ period) × (period ≤ length periods.names)

abbrev pub IsLaterPeriod : Periods → ℕ → Type 0
IsLaterPeriod periods period = (2 ≤ period) × (period ≤ length periods.names)

-- a parent is the core, or comes before
abbrev pub IsEarlier : Option ℕ → ℕ → Type 0
IsEarlier None k = Unit {0}
IsEarlier (Some parent) k = parent < k

-- a place of a core: its row and its column are there
abbrev pub IsPlace : Core → StochPlace → Type 0
IsPlace core (Cost column) = column < length core.columns
IsPlace core (Cell row column) = (row < length core.rows) × (column < length core.columns)
IsPlace core (Right row) = row < length core.rows

-- an entry of a place that is there, with a short value
pub record IsEntry (core : Core) (entry : StochEntry) : Type 0 where
  pub place : IsPlace core entry.place
  pub short : IsShort entry.value

-- two entries of different places
abbrev pub AreOfTwoPlaces : StochEntry → StochEntry → Type 0
AreOfTwoPlaces entry other = same_place entry.place other.place ≡ false

-- the entries of a realisation or a scenario: each is one, and no place stands twice
pub record EntryFacts (core : Core) (entries : List StochEntry) : Type 0 where
  pub each : All (IsEntry core) entries
  pub once : AllPairs AreOfTwoPlaces entries

-- no place of the one entries is a place of the others
abbrev pub ShareNoPlace : List StochEntry → List StochEntry → Type 0
ShareNoPlace entries others = All (λ entry. All (AreOfTwoPlaces entry) others) entries

-- an element changes from a later period on, and has a realisation
pub record ElementFacts (core : Core) (periods : Periods) (element : Element) : Type 0 where
  pub period : IsLaterPeriod periods element.period
  pub some : 0 < length element.realisations
  pub weights : All (λ realisation. IsWeight realisation.weight) element.realisations
  pub entries : All (λ realisation. EntryFacts core realisation.entries) element.realisations

-- no place is in two elements
abbrev pub AreApart : Element → Element → Type 0
AreApart element other = All
    (λ one. All (λ second. ShareNoPlace one.entries second.entries)
    other.realisations) element.realisations

pub record ProductFacts (core : Core) (periods : Periods) (elements : List Element) : Type 0 where
  pub each : All (ElementFacts core periods) elements
  pub apart : AllPairs AreApart elements

-- what stands past the end of the scenarios
abbrev pub no_branch : Branch
no_branch = record { parent = None; weight = pos 0; period = 0; entries = [] }

-- there are some scenarios, but few, each with its parent before it
pub record BranchFacts (core : Core) (periods : Periods) (branches : List Branch) : Type 0 where
  pub some : 0 < length branches
  pub few : length branches ≤ max_scenarios
  pub period : All (λ branch. IsPeriod periods branch.period) branches
  pub weights : All (λ branch. IsWeight branch.weight) branches
  pub parents : (k : ℕ) → k < length branches
      → IsEarlier (slice_index_or branches k no_branch).parent k
  pub entries : All (λ branch. EntryFacts core branch.entries) branches

abbrev pub StochFacts : Core → Periods → Stoch → Type 0
StochFacts core periods (Product elements) = ProductFacts core periods elements
StochFacts core periods (Scenarios branches) = BranchFacts core periods branches
