-- What a line without a fault says of an element, or of a scenario.
use Rattle.std.proofs.Common.{◌≡◌, refl, ℕ, ◌<◌, ◌==◌, Bool, true, false, not, List, [], ◌∷◌, length, Option, Some, None, arith}
use Rattle.std.specs.Prelude.{◌||◌, ◌&&◌, if◌then◌else◌, nat_le, nat_lt, position, unwrap_or}
use Rattle.std.specs.Str.{bytes_eq}
use Rattle.base_words.proofs.Booleans.{or_left}
use Rattle.smps_words.specs.Tables.{first_true, ◌or◌}
use Rattle.smps_words.specs.TextLines.{TextLine, field, field_count}
use Rattle.smps_words.specs.declared.core_file.Core.{Core}
use Rattle.smps_words.specs.declared.periods.Periods.{Periods}
use Rattle.stoch_lines.proofs.Positions.{position_below}
use Rattle.stoch_lines.specs.Before.{Before}
use Rattle.stoch_lines.specs.Faults.{block_data_fault, block_fault, block_form, block_rules, data_fault, header_fault, indep_fault, indep_form, indep_rules, is_root, is_scenario, is_taken, line_fault, max_scenarios, named_fault, own_period, pair_fault, period_fault, probability_fault, scenario_data_fault, scenario_fault, scenario_form, scenario_numbers}
use Rattle.stoch_lines.specs.Places.{anticipates, period_of, stage_of_place}
use Rattle.stoch_lines.specs.Sayings.{begins_block, begins_scenario, block_saying, element_of, entry_at, indep_saying, is_scenarios, last_field, named_period, saying_in, sayings, scenario_head, scenario_heads, scenario_names}
use Rattle.stoch_lines.specs.declared.heading.Heading.{Heading}
use Rattle.stoch_lines.specs.declared.heading.Heading.TheVariants.{Indep, Blocks, Scenarios}
use Rattle.stoch_lines.specs.declared.kinds.StochKind.TheVariants.{Section, Fields, Anticipates, EarlyEntry, Clash, Twice, Limit, Parent}
use Rattle.stoch_lines.specs.declared.state.Saying.{Saying}
use Rattle.stoch_lines.specs.declared.state.ScenarioHead.{ScenarioHead}
use Rattle.smps_stoch.specs.SaidFacts.{IsHead, IsProbable}
use Rattle.smps_stoch.specs.StochFacts.{IsEarlier, IsPeriod}
use Rattle.smps_stoch.proofs.FieldLaws.{first_none, known_period, or_none, probable, stage_is_period}

-- a line that says something of an element
pub record SaysWell (periods : Periods) (b : Before) (saying : Saying) : Type 0 where
  pub probable : IsProbable saying.probability
  pub period : IsPeriod periods saying.period
  pub later : (own_period b saying == 1) ≡ false

-- a line that begins a scenario
pub record BeginsWell (periods : Periods) (b : Before) (scenario : ScenarioHead) : Type 0 where
  pub head : IsHead periods scenario
  pub parent : IsEarlier scenario.parent (length b.names)
  pub few : length b.names < max_scenarios

earlier : (names : List (List ℕ)) (name : List ℕ) (at : Option ℕ) → position (bytes_eq name) names ≡ at → IsEarlier at (length names)
earlier names name None is = tt
earlier names name (Some k) is = position_below (bytes_eq name) names k is

module _ (core : Core) (periods : Periods) (b : Before) (line : TextLine) where
  said_period : (fifth : Bool) → (if fifth then period_fault periods (field 3 line) else None) ≡ None → (place_stage : ℕ) → IsPeriod periods place_stage → IsPeriod periods (unwrap_or (if fifth then period_of periods (field 3 line) else None) place_stage)
  said_period true none stage is = known_period periods (field 3 line) stage none
  said_period false none stage is = is

  indep_well : indep_fault core periods b line ≡ None → SaysWell periods b (indep_saying core periods line)
  indep_well none =
      let place = (entry_at core 1 line).place in
      let saying = indep_saying core periods line in
      let named = named_period periods line in
      let period = own_period b saying in
      let parts = or_none (indep_form core periods line) (indep_rules periods b place named saying) none in
      let form = or_none (first_true ((not ((field_count line == 4) || (field_count line == 5)), Fields) ∷ [])) (pair_fault core 1 line or (named_fault periods line or probability_fault (last_field line))) parts.0 in
      let rest = or_none (pair_fault core 1 line) (named_fault periods line or probability_fault (last_field line)) form.1 in
      let ends = or_none (named_fault periods line) (probability_fault (last_field line)) rest.1 in
      let rules = first_none (anticipates periods place) Anticipates (((period == 1) || nat_lt (stage_of_place periods place) period, EarlyEntry) ∷ (not (unwrap_or named period == period), Clash) ∷ (is_taken b.entries (element_of b.sources saying.source) place, Twice) ∷ []) parts.1 in
      let early = first_none ((period == 1) || nat_lt (stage_of_place periods place) period) EarlyEntry ((not (unwrap_or named period == period), Clash) ∷ (is_taken b.entries (element_of b.sources saying.source) place, Twice) ∷ []) rules.1 in
      record {
        probable = probable (last_field line) ends.1;
        period = said_period (field_count line == 5) ends.0 (stage_of_place periods place) (stage_is_period periods place);
        later = or_left (period == 1) (nat_lt (stage_of_place periods place) period) early.0;
      }

  block_well : block_fault periods b line ≡ None → SaysWell periods b (block_saying periods b.blocks line)
  block_well none =
      let saying = block_saying periods b.blocks line in
      let period = own_period b saying in
      let parts = or_none (block_form periods line) (block_rules b saying) none in
      let form = or_none (first_true ((not (field_count line == 4), Fields) ∷ [])) (period_fault periods (field 2 line) or probability_fault (field 3 line)) parts.0 in
      let ends = or_none (period_fault periods (field 2 line)) (probability_fault (field 3 line)) form.1 in
      record {
        probable = probable (field 3 line) ends.1;
        period = known_period periods (field 2 line) 0 ends.0;
        later = (first_none (period == 1) EarlyEntry ((not (saying.period == period), Clash) ∷ []) parts.1).0;
      }

  scenario_well : scenario_fault periods b line ≡ None → BeginsWell periods b (scenario_head periods b.names line)
  scenario_well none =
      let parts = or_none (scenario_form b line) (scenario_numbers periods line or first_true ((is_scenario b (field 1 line) || is_root (field 1 line), Twice) ∷ [])) none in
      let numbers = (or_none (scenario_numbers periods line) (first_true ((is_scenario b (field 1 line) || is_root (field 1 line), Twice) ∷ [])) parts.1).0 in
      let fields = or_none (probability_fault (field 3 line)) (period_fault periods (field 4 line)) numbers in
      let form = first_none (not (field_count line == 5)) Fields ((nat_le max_scenarios (length b.names), Limit) ∷ (not (is_root (field 2 line) || is_scenario b (field 2 line)), Parent) ∷ []) parts.0 in
      let room = first_none (nat_le max_scenarios (length b.names)) Limit ((not (is_root (field 2 line) || is_scenario b (field 2 line)), Parent) ∷ []) form.1 in
      record {
        head = record { probable = probable (field 3 line) fields.0; period = known_period periods (field 4 line) 0 fields.1 };
        parent = earlier b.names (field 2 line) (position (bytes_eq (field 2 line)) b.names) refl;
        few = grind (arith, room.0);
      }

  -- a line without a fault says nothing of elements, or of one
  module _ (P : List Saying → Type 0) (none_said : P []) (one_said : (saying : Saying) → SaysWell periods b saying → P (saying ∷ [])) where
    said_by_begins : (begins : Bool) → (if begins then block_fault periods b line else (if not b.begun then Some Section else block_data_fault core periods b line)) ≡ None → P (if begins then block_saying periods b.blocks line ∷ [] else [])
    said_by_begins true none = one_said (block_saying periods b.blocks line) (block_well none)
    said_by_begins false none = none_said

    said_in : (section : Option Heading) → data_fault core periods section b line ≡ None → P (saying_in core periods section b.blocks line)
    said_in None none = none_said
    said_in (Some Indep) none = one_said (indep_saying core periods line) (indep_well none)
    said_in (Some Blocks) none = said_by_begins (begins_block line) none
    said_in (Some Scenarios) none = none_said

    said_by_header : (header : Bool) → (if header then header_fault b line else data_fault core periods b.section b line) ≡ None → P (if header then [] else saying_in core periods b.section b.blocks line)
    said_by_header true none = none_said
    said_by_header false none = said_in b.section none

    pub said : line_fault core periods b line ≡ None → P (sayings core periods b.section b.blocks line)
    said none = said_by_header line.header none

  -- and it begins no scenario, or one
  module _ (P : List ScenarioHead → List (List ℕ) → Type 0) (none_begins : P [] []) (one_begins : (scenario : ScenarioHead) (name : List ℕ) → BeginsWell periods b scenario → P (scenario ∷ []) (name ∷ [])) where
    begins_by_word : (begins : Bool) → (if begins then scenario_fault periods b line else (if not b.begun then Some Section else scenario_data_fault core periods b line)) ≡ None → P (if begins then scenario_head periods b.names line ∷ [] else []) (if begins then field 1 line ∷ [] else [])
    begins_by_word true none = one_begins (scenario_head periods b.names line) (field 1 line) (scenario_well none)
    begins_by_word false none = none_begins

    begins_in : (section : Option Heading) → data_fault core periods section b line ≡ None → P (if is_scenarios section && begins_scenario line then scenario_head periods b.names line ∷ [] else []) (if is_scenarios section && begins_scenario line then field 1 line ∷ [] else [])
    begins_in None none = none_begins
    begins_in (Some Indep) none = none_begins
    begins_in (Some Blocks) none = none_begins
    begins_in (Some Scenarios) none = begins_by_word (begins_scenario line) none

    begins_by_header : (header : Bool) → (if header then header_fault b line else data_fault core periods b.section b line) ≡ None → P (if not header && (is_scenarios b.section && begins_scenario line) then scenario_head periods b.names line ∷ [] else []) (if not header && (is_scenarios b.section && begins_scenario line) then field 1 line ∷ [] else [])
    begins_by_header true none = none_begins
    begins_by_header false none = begins_in b.section none

    pub begins : line_fault core periods b line ≡ None → P (scenario_heads periods b.section b.names line) (scenario_names b.section line)
    begins none = begins_by_header line.header none
