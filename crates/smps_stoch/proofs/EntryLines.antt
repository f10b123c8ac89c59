-- One more line without a fault keeps what holds of the entries, and what holds as long as the file goes on.
use Rattle.std.proofs.Common.{◌≡◌, refl, sym, ap, ◌∙◌, subst, ℕ, ◌+◌, ◌-◌, ◌<◌, ◌==◌, Bool, true, false, not, List, [], ◌∷◌, ◌++◌, length, map, get_or, Option, Some, None, arith, length-append}
use Rattle.std.proofs.lemmas.Bool.{or_parts}
use Rattle.std.specs.Prelude.{◌||◌, ◌&&◌, if◌then◌else◌, nat_lt, slice_get, slice_index_or, unwrap_or, codes}
use Rattle.std.specs.List.{All, list_any}
use Rattle.std.specs.Option.{option_map_or}
use Rattle.std.proofs.lemmas.List.{append-nil, get_or_at}
use Rattle.std.proofs.lemmas.List.Elements.{All-nil, All-cons}
use Rattle.std.proofs.lemmas.Option.{unwrap_or-slice_get}
use Rattle.base_words.proofs.Comparisons.{not_not}
use Rattle.smps_words.specs.Tables.{first_true, ◌or◌}
use Rattle.smps_words.specs.TextLines.{TextLine, field, field_count, is_header, is_end}
use Rattle.smps_words.specs.declared.core_file.Core.{Core}
use Rattle.smps_words.specs.declared.periods.Periods.{Periods}
use Rattle.stoch_lines.specs.Before.{Before, next}
use Rattle.stoch_lines.specs.Faults.{block_data_fault, block_fault, branching_stage, data_fault, has_mode, header_fault, indep_fault, indep_form, indep_rules, is_repeated, is_taken, is_twice_in_block, line_fault, may_follow, named_fault, own_period, pair_fault, pairs_fault, places_at, places_rules, probability_fault, scenario_data_fault, scenario_fault, section_fault}
use Rattle.stoch_lines.specs.Places.{anticipates, stage_of_place}
use Rattle.stoch_lines.specs.Sayings.{begins_block, begins_scenario, block_saying, chosen_by, element_of, entries_at, entries_in, entry_at, heading_of, indep_saying, is_scenarios, last_element, last_field, named_period, owned_by, saying_in, scenario_head}
use Rattle.stoch_lines.specs.declared.entries.Owned.{Owned}
use Rattle.stoch_lines.specs.declared.heading.Heading.{Heading}
use Rattle.stoch_lines.specs.declared.heading.Heading.TheVariants.{Indep, Blocks, Scenarios}
use Rattle.stoch_lines.specs.declared.kinds.StochKind.TheVariants.{Section, Mode, Fields, Anticipates, EarlyEntry, Clash, Twice}
use Rattle.stoch_lines.specs.declared.places.StochEntry.{StochEntry}
use Rattle.stoch_lines.specs.declared.places.StochPlace.{StochPlace}
use Rattle.stoch_lines.specs.declared.places.Source.TheVariants.{Place}
use Rattle.stoch_lines.specs.declared.state.Chosen.{Chosen}
use Rattle.stoch_lines.specs.declared.state.ScenarioHead.{ScenarioHead}
use Rattle.smps_stoch.specs.SaidFacts.{chosen_element, AreOwned, GoesOnWell, IsSection}
use Rattle.smps_stoch.specs.StochData.{no_choice}
use Rattle.smps_stoch.specs.StochFacts.{IsEntry}
use Rattle.smps_stoch.proofs.EntryLaws.{entry_well}
use Rattle.smps_stoch.proofs.FieldLaws.{first_none, or_none}
use Rattle.smps_stoch.proofs.LastEntries.{kept, IsBefore, IsKept}
use Rattle.smps_stoch.proofs.Owning.{kept_all, owned_more, realisation_more, repeated_not, scenario_more, AreNew}

-- the element of the last realisation
element_or : (at : Option Chosen) → option_map_or (λ r. r.element) at 0 ≡ (unwrap_or at no_choice).element
element_or None = refl
element_or (Some chosen) = refl

last_is : (realisations : List Chosen) → last_element realisations ≡ chosen_element realisations (length realisations - 1)
last_is realisations =
    element_or (slice_get realisations (length realisations - 1))
    ∙ ap (λ (c : Chosen). c.element) (unwrap_or-slice_get realisations (length realisations - 1) no_choice)

module _ (core : Core) (periods : Periods) (b : Before) (line : TextLine) where
  -- the entries of a line with one or two pairs
  pairs_by : (five : Bool) → pair_fault core 1 line ≡ None → (if five then pair_fault core 3 line else None) ≡ None → All (IsEntry core) (entry_at core 1 line ∷ (if five then entry_at core 3 line ∷ [] else []))
  pairs_by true first second = All-cons (IsEntry core) (entry_at core 1 line) (entry_at core 3 line ∷ []) (entry_well core 1 line first) (All-cons (IsEntry core) (entry_at core 3 line) [] (entry_well core 3 line second) (All-nil (IsEntry core)))
  pairs_by false first second = All-cons (IsEntry core) (entry_at core 1 line) [] (entry_well core 1 line first) (All-nil (IsEntry core))

  pairs_well : pairs_fault core line ≡ None → All (IsEntry core) (entries_at core line)
  pairs_well none =
      let form = or_none (first_true ((not ((field_count line == 3) || (field_count line == 5)), Fields) ∷ [])) (pair_fault core 1 line or (if field_count line == 5 then pair_fault core 3 line else None)) none in
      let fields = or_none (pair_fault core 1 line) (if field_count line == 5 then pair_fault core 3 line else None) form.1 in
      pairs_by (field_count line == 5) fields.0 fields.1

  not_twice : (earliest : ℕ) (twice : Bool) (places : List StochPlace) → places_rules periods earliest twice places ≡ None → twice ≡ false
  not_twice earliest twice places none =
      let one = first_none (list_any (anticipates periods) places) Anticipates ((list_any (λ place. nat_lt (stage_of_place periods place) earliest) places, EarlyEntry) ∷ (twice, Twice) ∷ []) none in
      let two = first_none (list_any (λ place. nat_lt (stage_of_place periods place) earliest) places) EarlyEntry ((twice, Twice) ∷ []) one.1 in
      (first_none twice Twice [] two.1).0

  abbrev Kept : List Chosen → List ScenarioHead → List Owned → Type 0
  Kept realisations scenarios entries = AreOwned core realisations scenarios entries

  same : AreOwned core b.realisations b.scenarios b.entries → Kept (b.realisations ++ []) (b.scenarios ++ []) (b.entries ++ [])
  same facts =
      subst (λ (rs : List Chosen). Kept rs (b.scenarios ++ []) (b.entries ++ [])) (sym (append-nil b.realisations))
      (subst (λ (ss : List ScenarioHead). Kept b.realisations ss (b.entries ++ [])) (sym (append-nil b.scenarios))
      (subst (Kept b.realisations b.scenarios) (sym (append-nil b.entries)) facts))

  -- a line of INDEP
  indep_kept : length b.scenarios ≡ 0 → AreOwned core b.realisations b.scenarios b.entries → indep_fault core periods b line ≡ None → Kept (b.realisations ++ chosen_by b.sources (indep_saying core periods line) ∷ []) (b.scenarios ++ []) (b.entries ++ owned_by (element_of b.sources (Place (entry_at core 1 line).place)) (length b.realisations) (entry_at core 1 line) ∷ [])
  indep_kept no_scenarios facts none =
      let entry = entry_at core 1 line in
      let place = entry.place in
      let saying = indep_saying core periods line in
      let named = named_period periods line in
      let period = own_period b saying in
      let element = element_of b.sources saying.source in
      let chosen = chosen_by b.sources saying in
      let choice = length b.realisations in
      let parts = or_none (indep_form core periods line) (indep_rules periods b place named saying) none in
      let form = or_none (first_true ((not ((field_count line == 4) || (field_count line == 5)), Fields) ∷ [])) (pair_fault core 1 line or (named_fault periods line or probability_fault (last_field line))) parts.0 in
      let rest = or_none (pair_fault core 1 line) (named_fault periods line or probability_fault (last_field line)) form.1 in
      let one = first_none (anticipates periods place) Anticipates (((period == 1) || nat_lt (stage_of_place periods place) period, EarlyEntry) ∷ (not (unwrap_or named period == period), Clash) ∷ (is_taken b.entries element place, Twice) ∷ []) parts.1 in
      let two = first_none ((period == 1) || nat_lt (stage_of_place periods place) period) EarlyEntry ((not (unwrap_or named period == period), Clash) ∷ (is_taken b.entries element place, Twice) ∷ []) one.1 in
      let three = first_none (not (unwrap_or named period == period)) Clash ((is_taken b.entries element place, Twice) ∷ []) two.1 in
      let free = (first_none (is_taken b.entries element place) Twice [] three.1).0 in
      let long : length (b.realisations ++ chosen ∷ []) ≡ length b.realisations + 1 = length-append b.realisations (chosen ∷ []) in
      let new : AreNew b.entries element choice (entry ∷ []) = record {
        kept = All-cons (λ (e : StochEntry). All (IsKept e.place element) b.entries) entry [] (kept place element b.entries facts.apart free) (All-nil (λ (e : StochEntry). All (IsKept e.place element) b.entries));
        before = All-cons (λ (e : StochEntry). All (IsBefore e.place choice) b.entries) entry [] (λ k d lt _. omega (arith, facts.there k d lt, no_scenarios)) (All-nil (λ (e : StochEntry). All (IsBefore e.place choice) b.entries));
        once = λ i j d less lt. absurd (omega (arith, less, lt));
      } in
      subst (λ (ss : List ScenarioHead). Kept (b.realisations ++ chosen ∷ []) ss (b.entries ++ owned_by element choice entry ∷ [])) (sym (append-nil b.scenarios))
      (owned_more core (b.realisations ++ chosen ∷ []) b.scenarios b.entries element choice (entry ∷ []) (realisation_more core b.realisations b.scenarios b.entries chosen no_scenarios facts) (All-cons (IsEntry core) entry [] (entry_well core 1 line rest.0) (All-nil (IsEntry core))) new (omega (arith, long)) (sym (ap (λ (c : Chosen). c.element) (get_or_at b.realisations chosen [] no_choice choice refl))))

  -- a line of data in a realisation of a block
  block_kept : length b.scenarios ≡ 0 → 0 < length b.realisations → AreOwned core b.realisations b.scenarios b.entries → block_data_fault core periods b line ≡ None → Kept (b.realisations ++ []) (b.scenarios ++ []) (b.entries ++ map (owned_by (last_element b.realisations) (length b.realisations - 1)) (entries_at core line))
  block_kept no_scenarios some facts none =
      let places = places_at core line in
      let element = last_element b.realisations in
      let choice = length b.realisations - 1 in
      let earliest = slice_index_or b.periods element 0 in
      let twice = is_twice_in_block b places in
      let parts = or_none (pairs_fault core line) (places_rules periods earliest twice places) none in
      let tests = or_parts (list_any (is_taken b.entries element) places) (is_repeated b.entries choice places) (not_twice earliest twice places parts.1) in
      let rest = repeated_not b.entries facts.apart choice (λ k d lt. omega (arith, facts.there k d lt, no_scenarios)) (entries_at core line) tests.1 in
      let new : AreNew b.entries element choice (entries_at core line) = record {
        kept = kept_all b.entries facts.apart element (entries_at core line) tests.0;
        before = rest.0;
        once = rest.1;
      } in
      subst (λ (rs : List Chosen). Kept rs (b.scenarios ++ []) (b.entries ++ map (owned_by element choice) (entries_at core line))) (sym (append-nil b.realisations))
      (subst (λ (ss : List ScenarioHead). Kept b.realisations ss (b.entries ++ map (owned_by element choice) (entries_at core line))) (sym (append-nil b.scenarios))
      (owned_more core b.realisations b.scenarios b.entries element choice (entries_at core line) facts (pairs_well parts.0) new (omega (arith, some, no_scenarios)) (last_is b.realisations)))

  -- a line of data in a scenario
  none_at : (realisations : List Chosen) (k : ℕ) → length realisations ≡ 0 → chosen_element realisations k ≡ 0
  none_at [] k none = refl
  none_at (chosen ∷ realisations) k none = absurd (omega (arith, none))

  scenario_kept : length b.realisations ≡ 0 → 0 < length b.scenarios → AreOwned core b.realisations b.scenarios b.entries → scenario_data_fault core periods b line ≡ None → Kept (b.realisations ++ []) (b.scenarios ++ []) (b.entries ++ map (owned_by 0 (length b.scenarios - 1)) (entries_at core line))
  scenario_kept no_realisations some facts none =
      let places = places_at core line in
      let choice = length b.scenarios - 1 in
      let twice = is_repeated b.entries choice places in
      let parts = or_none (pairs_fault core line) (places_rules periods (branching_stage b.scenarios) twice places) none in
      let rest = repeated_not b.entries facts.apart choice (λ k d lt. omega (arith, facts.there k d lt, no_realisations)) (entries_at core line) (not_twice (branching_stage b.scenarios) twice places parts.1) in
      let new : AreNew b.entries 0 choice (entries_at core line) = record {
        kept = λ i e below k d lt _. facts.elements k d lt ∙ none_at b.realisations (get_or b.entries k d).choice no_realisations;
        before = rest.0;
        once = rest.1;
      } in
      subst (λ (rs : List Chosen). Kept rs (b.scenarios ++ []) (b.entries ++ map (owned_by 0 choice) (entries_at core line))) (sym (append-nil b.realisations))
      (subst (λ (ss : List ScenarioHead). Kept b.realisations ss (b.entries ++ map (owned_by 0 choice) (entries_at core line))) (sym (append-nil b.scenarios))
      (owned_more core b.realisations b.scenarios b.entries 0 choice (entries_at core line) facts (pairs_well parts.0) new (omega (arith, some, no_realisations)) (sym (none_at b.realisations choice no_realisations))))

  -- a line that begins a realisation of a block, or a scenario
  begins_realisation : (chosen : Chosen) → length b.scenarios ≡ 0 → AreOwned core b.realisations b.scenarios b.entries → Kept (b.realisations ++ chosen ∷ []) (b.scenarios ++ []) (b.entries ++ [])
  begins_realisation chosen no_scenarios facts =
      subst (λ (ss : List ScenarioHead). Kept (b.realisations ++ chosen ∷ []) ss (b.entries ++ [])) (sym (append-nil b.scenarios))
      (subst (Kept (b.realisations ++ chosen ∷ []) b.scenarios) (sym (append-nil b.entries)) (realisation_more core b.realisations b.scenarios b.entries chosen no_scenarios facts))

  begins_one : (scenario : ScenarioHead) → AreOwned core b.realisations b.scenarios b.entries → Kept (b.realisations ++ []) (b.scenarios ++ scenario ∷ []) (b.entries ++ [])
  begins_one scenario facts =
      subst (λ (rs : List Chosen). Kept rs (b.scenarios ++ scenario ∷ []) (b.entries ++ [])) (sym (append-nil b.realisations))
      (subst (Kept b.realisations (b.scenarios ++ scenario ∷ [])) (sym (append-nil b.entries)) (scenario_more core b.realisations b.scenarios b.entries scenario facts))

  module _ (facts : AreOwned core b.realisations b.scenarios b.entries) (some : b.begun ≡ true → 0 < length b.realisations + length b.scenarios) where
    in_blocks : (begins begun : Bool) → b.begun ≡ begun → length b.scenarios ≡ 0 → (if begins then block_fault periods b line else (if not begun then Some Section else block_data_fault core periods b line)) ≡ None → Kept (b.realisations ++ map (chosen_by b.sources) (if begins then block_saying periods b.blocks line ∷ [] else [])) (b.scenarios ++ []) (b.entries ++ (if begins then [] else map (owned_by (last_element b.realisations) (length b.realisations - 1)) (entries_at core line)))
    in_blocks true begun is no_scenarios none = begins_realisation (chosen_by b.sources (block_saying periods b.blocks line)) no_scenarios facts
    in_blocks false true is no_scenarios none = block_kept no_scenarios (omega (arith, some is, no_scenarios)) facts none
    in_blocks false false is no_scenarios none = absurd (cc none)

    in_scenarios : (begins begun : Bool) → b.begun ≡ begun → length b.realisations ≡ 0 → (if begins then scenario_fault periods b line else (if not begun then Some Section else scenario_data_fault core periods b line)) ≡ None → Kept (b.realisations ++ []) (b.scenarios ++ (if begins then scenario_head periods b.names line ∷ [] else [])) (b.entries ++ (if begins then [] else map (owned_by 0 (length b.scenarios - 1)) (entries_at core line)))
    in_scenarios true begun is no_realisations none = begins_one (scenario_head periods b.names line) facts
    in_scenarios false true is no_realisations none = scenario_kept no_realisations (omega (arith, some is, no_realisations)) facts none
    in_scenarios false false is no_realisations none = absurd (cc none)

    in_section : (section : Option Heading) → IsSection section (length b.realisations) (length b.scenarios) → data_fault core periods section b line ≡ None → Kept (b.realisations ++ map (chosen_by b.sources) (saying_in core periods section b.blocks line)) (b.scenarios ++ (if is_scenarios section && begins_scenario line then scenario_head periods b.names line ∷ [] else [])) (b.entries ++ entries_in core section b.sources b.realisations b.scenarios line)
    in_section None is none = absurd (cc none)
    in_section (Some Indep) is none = indep_kept is facts none
    in_section (Some Blocks) is none = in_blocks (begins_block line) b.begun refl is none
    in_section (Some Scenarios) is none = in_scenarios (begins_scenario line) b.begun refl is none

    by_header : (header : Bool) → IsSection b.section (length b.realisations) (length b.scenarios) → (if header then header_fault b line else data_fault core periods b.section b line) ≡ None → Kept (b.realisations ++ map (chosen_by b.sources) (if header then [] else saying_in core periods b.section b.blocks line)) (b.scenarios ++ (if not header && (is_scenarios b.section && begins_scenario line) then scenario_head periods b.names line ∷ [] else [])) (b.entries ++ (if header then [] else entries_in core b.section b.sources b.realisations b.scenarios line))
    by_header true is none = same facts
    by_header false is none = in_section b.section is none

  pub entries_after : AreOwned core b.realisations b.scenarios b.entries → GoesOnWell b → line_fault core periods b line ≡ None → AreOwned core (next core periods b line).realisations (next core periods b line).scenarios (next core periods b line).entries
  entries_after facts goes none = by_header facts goes.begun line.header goes.section none

  -- a section in which nothing is there may be any
  any_section : (section : Option Heading) → (realisations scenarios : ℕ) → realisations ≡ 0 → scenarios ≡ 0 → IsSection section realisations scenarios
  any_section None realisations scenarios none empty = (none, empty)
  any_section (Some Scenarios) realisations scenarios none empty = none
  any_section (Some Blocks) realisations scenarios none empty = empty
  any_section (Some Indep) realisations scenarios none empty = empty

  next_section : (heading section : Option Heading) → (realisations scenarios : ℕ) → IsSection section realisations scenarios → may_follow heading section ≡ true → IsSection heading realisations scenarios
  next_section None section realisations scenarios is may = absurd (cc may)
  next_section (Some Scenarios) None realisations scenarios is may = is.0
  next_section (Some Scenarios) (Some section) realisations scenarios is may = absurd (cc may)
  next_section (Some Indep) None realisations scenarios is may = is.1
  next_section (Some Indep) (Some Indep) realisations scenarios is may = is
  next_section (Some Indep) (Some Blocks) realisations scenarios is may = is
  next_section (Some Indep) (Some Scenarios) realisations scenarios is may = absurd (cc may)
  next_section (Some Blocks) None realisations scenarios is may = is.1
  next_section (Some Blocks) (Some Indep) realisations scenarios is may = is
  next_section (Some Blocks) (Some Blocks) realisations scenarios is may = is
  next_section (Some Blocks) (Some Scenarios) realisations scenarios is may = absurd (cc may)

  by_word : (stoch ends : Bool) → ends ≡ false → GoesOnWell b → (if stoch then first_true ((not b.nothing, Section) ∷ []) else (if ends then first_true ((not (field_count line == 1), Fields) ∷ []) else section_fault b.section line)) ≡ None → IsSection (heading_of (field 0 line)) (length b.realisations) (length b.scenarios)
  by_word true ends going goes none =
      let nothing = not_not b.nothing (first_none (not b.nothing) Section [] none).0 in
      any_section (heading_of (field 0 line)) (length b.realisations) (length b.scenarios) (goes.nothing nothing).0 (goes.nothing nothing).1
  by_word false true going goes none = absurd (cc going)
  by_word false false going goes none =
      let may = first_none (not (may_follow (heading_of (field 0 line)) b.section)) Section ((not (has_mode line), Mode) ∷ []) none in
      next_section (heading_of (field 0 line)) b.section (length b.realisations) (length b.scenarios) goes.section (not_not (may_follow (heading_of (field 0 line)) b.section) may.0)

  -- what is there behind a line of data
  abbrev IsThere : Option Heading → List Chosen → List ScenarioHead → Type 0
  IsThere section realisations scenarios = IsSection section (length realisations) (length scenarios) × (0 < length realisations + length scenarios)

  one_there : {X : Type 0} (xs : List X) (x : X) → 0 < length (xs ++ x ∷ [])
  one_there xs x = rw length-append (omega arith)

  blocks_there : (begins begun : Bool) → b.begun ≡ begun → length b.scenarios ≡ 0 → (b.begun ≡ true → 0 < length b.realisations + length b.scenarios) → (if begins then block_fault periods b line else (if not begun then Some Section else block_data_fault core periods b line)) ≡ None → IsThere (Some Blocks) (b.realisations ++ map (chosen_by b.sources) (if begins then block_saying periods b.blocks line ∷ [] else [])) (b.scenarios ++ [])
  blocks_there true begun is empty some none =
      let there = one_there b.realisations (chosen_by b.sources (block_saying periods b.blocks line)) in
      subst (IsThere (Some Blocks) (b.realisations ++ chosen_by b.sources (block_saying periods b.blocks line) ∷ [])) (sym (append-nil b.scenarios)) (empty, omega (arith, there))
  blocks_there false true is empty some none =
      subst (λ (rs : List Chosen). IsThere (Some Blocks) rs (b.scenarios ++ [])) (sym (append-nil b.realisations))
      (subst (IsThere (Some Blocks) b.realisations) (sym (append-nil b.scenarios)) (empty, some is))
  blocks_there false false is empty some none = absurd (cc none)

  scenarios_there : (begins begun : Bool) → b.begun ≡ begun → length b.realisations ≡ 0 → (b.begun ≡ true → 0 < length b.realisations + length b.scenarios) → (if begins then scenario_fault periods b line else (if not begun then Some Section else scenario_data_fault core periods b line)) ≡ None → IsThere (Some Scenarios) (b.realisations ++ []) (b.scenarios ++ (if begins then scenario_head periods b.names line ∷ [] else []))
  scenarios_there true begun is empty some none =
      let there = one_there b.scenarios (scenario_head periods b.names line) in
      subst (λ (rs : List Chosen). IsThere (Some Scenarios) rs (b.scenarios ++ scenario_head periods b.names line ∷ [])) (sym (append-nil b.realisations)) (empty, omega (arith, there))
  scenarios_there false true is empty some none =
      subst (λ (rs : List Chosen). IsThere (Some Scenarios) rs (b.scenarios ++ [])) (sym (append-nil b.realisations))
      (subst (IsThere (Some Scenarios) b.realisations) (sym (append-nil b.scenarios)) (empty, some is))
  scenarios_there false false is empty some none = absurd (cc none)

  data_there : (section : Option Heading) → IsSection section (length b.realisations) (length b.scenarios) → (b.begun ≡ true → 0 < length b.realisations + length b.scenarios) → data_fault core periods section b line ≡ None → IsThere section (b.realisations ++ map (chosen_by b.sources) (saying_in core periods section b.blocks line)) (b.scenarios ++ (if is_scenarios section && begins_scenario line then scenario_head periods b.names line ∷ [] else []))
  data_there None is some none = absurd (cc none)
  data_there (Some Indep) is some none =
      let there = one_there b.realisations (chosen_by b.sources (indep_saying core periods line)) in
      subst (IsThere (Some Indep) (b.realisations ++ chosen_by b.sources (indep_saying core periods line) ∷ [])) (sym (append-nil b.scenarios)) (is, omega (arith, there))
  data_there (Some Blocks) is some none = blocks_there (begins_block line) b.begun refl is some none
  data_there (Some Scenarios) is some none = scenarios_there (begins_scenario line) b.begun refl is some none

  goes_by_header : (header : Bool) → line.header ≡ header → GoesOnWell b → is_end line ≡ false → (if header then header_fault b line else data_fault core periods b.section b line) ≡ None → GoesOnWell (next core periods b line)
  goes_by_header true is goes going none =
      let P : Bool → Type 0 = λ h. IsSection (if h then heading_of (field 0 line) else b.section) (length (b.realisations ++ map (chosen_by b.sources) (if h then [] else saying_in core periods b.section b.blocks line))) (length (b.scenarios ++ (if not h && (is_scenarios b.section && begins_scenario line) then scenario_head periods b.names line ∷ [] else []))) in
      let Q : Bool → Type 0 = λ h. (if h || (begins_block line || begins_scenario line) then not h else b.begun) ≡ true → 0 < length (b.realisations ++ map (chosen_by b.sources) (if h then [] else saying_in core periods b.section b.blocks line)) + length (b.scenarios ++ (if not h && (is_scenarios b.section && begins_scenario line) then scenario_head periods b.names line ∷ [] else [])) in
      let now : P true =
      subst (λ (rs : List Chosen). IsSection (heading_of (field 0 line)) (length rs) (length (b.scenarios ++ []))) (sym (append-nil b.realisations))
      (subst (λ (ss : List ScenarioHead). IsSection (heading_of (field 0 line)) (length b.realisations) (length ss)) (sym (append-nil b.scenarios))
      (by_word (is_header (codes "STOCH") line) (is_header (codes "ENDATA") line) going goes none)) in
      record {
        nothing = λ e. absurd (cc e);
        section = subst P (sym is) now;
        begun = subst Q (sym is) (λ e. absurd (cc e));
      }
  goes_by_header false is goes going none =
      let P : Bool → Type 0 = λ h. IsThere (if h then heading_of (field 0 line) else b.section) (b.realisations ++ map (chosen_by b.sources) (if h then [] else saying_in core periods b.section b.blocks line)) (b.scenarios ++ (if not h && (is_scenarios b.section && begins_scenario line) then scenario_head periods b.names line ∷ [] else [])) in
      let there : P line.header = subst P (sym is) (data_there b.section goes.section goes.begun none) in
      record {
        nothing = λ e. absurd (cc e);
        section = there.0;
        begun = λ _. there.1;
      }

  pub goes_on_after : GoesOnWell b → is_end line ≡ false → line_fault core periods b line ≡ None → GoesOnWell (next core periods b line)
  goes_on_after goes going none = goes_by_header line.header refl goes going none
