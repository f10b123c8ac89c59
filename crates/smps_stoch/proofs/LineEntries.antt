-- The entries of a line belong to the last realisation or scenario that has begun up to it.
use Rattle.std.proofs.Common.{◌≡◌, refl, ap, ℕ, ◌+◌, ◌-◌, ◌<◌, Bool, true, false, not, List, [], ◌∷◌, ◌++◌, length, map, arith, length-append}
use Rattle.std.specs.Prelude.{if◌then◌else◌, ◌&&◌, Option, Some, None}
use Rattle.std.specs.List.{Contains}
use Rattle.std.proofs.lemmas.List.{append-nil}
use Rattle.base_words.proofs.Positions.{none_in}
use Rattle.smps_words.specs.TextLines.{TextLine, field}
use Rattle.smps_words.specs.declared.core_file.Core.{Core}
use Rattle.smps_words.specs.declared.periods.Periods.{Periods}
use Rattle.stoch_lines.specs.Before.{Before}
use Rattle.stoch_lines.specs.Faults.{block_data_fault, block_fault, data_fault, header_fault, scenario_data_fault, scenario_fault}
use Rattle.stoch_lines.specs.Sayings.{begins_block, begins_scenario, block_saying, element_of, entries_at, entries_in, entry_at, indep_saying, is_scenarios, last_element, owned_by, saying_in}
use Rattle.stoch_lines.specs.declared.entries.Owned.{Owned}
use Rattle.stoch_lines.specs.declared.heading.Heading.{Heading}
use Rattle.stoch_lines.specs.declared.heading.Heading.TheVariants.{Indep, Blocks, Scenarios}
use Rattle.stoch_lines.specs.declared.kinds.StochKind.TheVariants.{Section}
use Rattle.stoch_lines.specs.declared.places.Source.{Source}
use Rattle.stoch_lines.specs.declared.places.Source.TheVariants.{Place}
use Rattle.stoch_lines.specs.declared.places.StochEntry.{StochEntry}
use Rattle.stoch_lines.specs.declared.state.Chosen.{Chosen}
use Rattle.stoch_lines.specs.declared.state.Saying.{Saying}
use Rattle.stoch_lines.specs.declared.state.ScenarioHead.{ScenarioHead}
use Rattle.smps_stoch.specs.LawWords.{entries_said}
use Rattle.smps_stoch.specs.SaidFacts.{IsSection}

-- the element of a line's entries, and their realisation or scenario
abbrev element_in : Option Heading → List Source → List Chosen → StochEntry → ℕ
element_in (Some Indep) sources realisations entry = element_of sources (Place entry.place)
element_in (Some Blocks) sources realisations entry = last_element realisations
element_in (Some Scenarios) sources realisations entry = 0
element_in None sources realisations entry = 0

abbrev pub choice_in : Option Heading → List Chosen → List ScenarioHead → ℕ
choice_in (Some Indep) realisations scenarios = length realisations
choice_in (Some Blocks) realisations scenarios = length realisations - 1
choice_in (Some Scenarios) realisations scenarios = length scenarios - 1
choice_in None realisations scenarios = 0

module _ (core : Core) (b : Before) (line : TextLine) where
  abbrev pub owner : Option Heading → StochEntry → Owned
  owner section =
      owned_by (element_in section b.sources b.realisations (entry_at core 1 line)) (choice_in section b.realisations b.scenarios)

  map_if : (f : StochEntry → Owned) (begins : Bool) (xs : List StochEntry) → (if begins then [] else map f xs) ≡ map f (if begins then [] else xs)
  map_if f true xs = refl
  map_if f false xs = refl

  owned_in : (section : Option Heading) → entries_in core section b.sources b.realisations b.scenarios line ≡ map (owner section) (entries_said core section line)
  owned_in None = refl
  owned_in (Some Indep) = refl
  owned_in (Some Blocks) = map_if (owner (Some Blocks)) (begins_block line) (entries_at core line)
  owned_in (Some Scenarios) = map_if (owner (Some Scenarios)) (begins_scenario line) (entries_at core line)

  pub owned_is : (section : Option Heading) (header : Bool) → (if header then [] else entries_in core section b.sources b.realisations b.scenarios line) ≡ map (owner section) (if header then [] else entries_said core section line)
  owned_is section true = refl
  owned_is section false = owned_in section

-- where the line has no fault, that is the last one that has begun up to it
module _ (core : Core) (periods : Periods) (b : Before) (line : TextLine) (entry : StochEntry) (said : List Saying) (each : length b.realisations ≡ length said) (named : length b.scenarios ≡ length b.names) (some : b.begun ≡ true → 0 < length b.realisations + length b.scenarios) where
  abbrev last_begun : Option Heading → Bool → ℕ
  last_begun section header =
      if is_scenarios section then length (b.names ++ (if not header && (is_scenarios section && begins_scenario line) then field 1 line ∷ [] else []))
      else length (said ++ (if header then [] else saying_in core periods section b.blocks line))

  none_said : length (said ++ []) ≡ length said
  none_said = ap (λ (xs : List Saying). length xs) (append-nil said)

  none_named : length (b.names ++ []) ≡ length b.names
  none_named = ap (λ (xs : List (List ℕ)). length xs) (append-nil b.names)

  in_blocks : (begins begun : Bool) → b.begun ≡ begun → length b.scenarios ≡ 0 → (if begins then block_fault periods b line else (if not begun then Some Section else block_data_fault core periods b line)) ≡ None → Contains (if begins then [] else entries_at core line) entry → length b.realisations - 1 + 1 ≡ length (said ++ (if begins then block_saying periods b.blocks line ∷ [] else []))
  in_blocks true begun is empty none has = absurd (none_in entry has)
  in_blocks false true is empty none has = omega (arith, some is, empty, each, none_said)
  in_blocks false false is empty none has = absurd (cc none)

  in_scenarios : (begins begun : Bool) → b.begun ≡ begun → length b.realisations ≡ 0 → (if begins then scenario_fault periods b line else (if not begun then Some Section else scenario_data_fault core periods b line)) ≡ None → Contains (if begins then [] else entries_at core line) entry → length b.scenarios - 1 + 1 ≡ length (b.names ++ (if begins then field 1 line ∷ [] else []))
  in_scenarios true begun is empty none has = absurd (none_in entry has)
  in_scenarios false true is empty none has = omega (arith, some is, empty, named, none_named)
  in_scenarios false false is empty none has = absurd (cc none)

  in_section : (section : Option Heading) → IsSection section (length b.realisations) (length b.scenarios) → data_fault core periods section b line ≡ None → Contains (entries_said core section line) entry → choice_in section b.realisations b.scenarios + 1 ≡ last_begun section false
  in_section None is none has = absurd (none_in entry has)
  in_section (Some Indep) is none has = omega (arith, each, length-append said (indep_saying core periods line ∷ []))
  in_section (Some Blocks) is none has = in_blocks (begins_block line) b.begun refl is none has
  in_section (Some Scenarios) is none has = in_scenarios (begins_scenario line) b.begun refl is none has

  pub last_one : (section : Option Heading) (header : Bool) → IsSection section (length b.realisations) (length b.scenarios) → (if header then header_fault b line else data_fault core periods section b line) ≡ None → Contains (if header then [] else entries_said core section line) entry → choice_in section b.realisations b.scenarios + 1 ≡ last_begun section header
  last_one section true is none has = absurd (none_in entry has)
  last_one section false is none has = in_section section is none has
