-- The scenarios without the entries of columns that leave the run: they make the same run, and their entries are its changes.
use Rattle.std.proofs.Common.{arith, refl, sym, ap, ◌∙◌, ◌≡◌, ℕ, zero, suc, ◌+◌, Bool, true, false, cond, not, List, [], ◌∷◌, map, length, get_or, Some, None, if◌then◌else◌}
use Rattle.std.specs.List.{All, cons_option, filter_map}
use Rattle.std.proofs.lemmas.List.{length-map}
use Rattle.std.proofs.lemmas.List.Elements.{All-filter, All-map}
use Rattle.std.proofs.lemmas.List.Sums.{sum_by-cons}
use Rattle.base_words.proofs.Comparisons.{not_not}
use Rattle.boxed_problem.specs.declared.parts.Side.{Side}
use Rattle.dec_core.specs.declared.decimal.Decimal.{Decimal}
use Rattle.smps_stoch.specs.declared.stoch.Stoch.{Stoch}
use Rattle.smps_words.specs.declared.core_file.Core.{Core}
use Rattle.smps_words.specs.declared.periods.Periods.{Periods}
use Rattle.stoch_lines.specs.declared.places.StochEntry.{StochEntry}
use Rattle.stoch_lines.specs.declared.places.StochPlace.{StochPlace}
use Rattle.stoch_lines.specs.declared.places.StochPlace.TheVariants.{Cost, Cell, Right}
use Rattle.scenario_lists.specs.Live.{entry_count, live_entries, live_scenario, live_scenarios, stays_in}
use Rattle.scenario_lists.specs.ScenarioList.{count_of, scenarios_of}
use Rattle.scenario_lists.specs.declared.data.ScenarioData.{ScenarioData}
use Rattle.sp_model.specs.declared.program.Change.TheVariants as change
use Rattle.sp_model.specs.declared.program.Program.{Program}
use Rattle.sp_model.specs.declared.program.Scenario.{Scenario}
use Rattle.join_words.specs.Boxes.{is_idle}
use Rattle.join_words.specs.Parts.{Parts, parts_of}
use Rattle.join_words.specs.RunOf.{change_at, change_of, scaled_cost, scaled_in, scenario_of}
use Rattle.join_words.specs.declared.frame.Frame.{Frame}
use Rattle.smps_join.specs.Counting.{change_count, changes_count, is_live, live_of}
use Rattle.smps_join.specs.Unfit.{program_with}
use Rattle.smps_join.specs.Weights.{weight_sum}
use Rattle.smps_join.proofs.Counts.{count_cons}
use Rattle.smps_join.proofs.Listed.{listed_long}

-- whether a column stays, also one that isn't there
live_at : (sides : List Side) (j : ℕ) → get_or (live_of sides) j false ≡ not (is_idle sides j)
live_at [] j = refl
live_at (side ∷ sides) zero = refl
live_at (side ∷ sides) (suc j) = live_at sides j

live_is : (sides : List Side) (p : StochPlace) → stays_in (live_of sides) p ≡ is_live sides p
live_is sides (Cost j) = live_at sides j
live_is sides (Cell i j) = live_at sides j
live_is sides (Right i) = refl

-- what doesn't stay changes nothing
idle_none : (parts : Parts) (frame : Frame) (p : StochPlace) (value : Decimal) → is_live frame.sides p ≡ false → change_at parts frame p value ≡ None
idle_none parts frame (Cost j) value h = ap (λ t. if t then None else Some (change.Cost j (scaled_cost frame value))) (not_not (is_idle frame.sides j) h)
idle_none parts frame (Cell i j) value h = ap (λ t. if t then None else Some (change.Cell i j (scaled_in frame i value))) (not_not (is_idle frame.sides j) h)
idle_none parts frame (Right i) value h = absurd (let z = h in cc)

changes_live : (parts : Parts) (frame : Frame) (es : List StochEntry) → filter_map (change_of parts frame) (live_entries (live_of frame.sides) es) ≡ filter_map (change_of parts frame) es
changes_live parts frame [] = refl
changes_live parts frame (e ∷ es) = by_test (stays_in (live_of frame.sides) e.place) refl (changes_live parts frame es)
  where
    by_test : (t : Bool) → stays_in (live_of frame.sides) e.place ≡ t → filter_map (change_of parts frame) (live_entries (live_of frame.sides) es) ≡ filter_map (change_of parts frame) es → filter_map (change_of parts frame) (cond t (e ∷ live_entries (live_of frame.sides) es) (live_entries (live_of frame.sides) es)) ≡ cons_option (change_of parts frame e) (filter_map (change_of parts frame) es)
    by_test true s r = ap (cons_option (change_of parts frame e)) r
    by_test false s r = r ∙ sym (ap (λ o. cons_option o (filter_map (change_of parts frame) es)) (idle_none parts frame e.place e.value (sym (live_is frame.sides e.place) ∙ s)))

-- a scenario of the run is made of the entries that stay
scenarios_live : (parts : Parts) (frame : Frame) (listed : List ScenarioData) → map (scenario_of parts frame) (map (live_scenario (live_of frame.sides)) listed) ≡ map (scenario_of parts frame) listed
scenarios_live parts frame [] = refl
scenarios_live parts frame (s ∷ listed) =
    ap (λ cs. (let made : Scenario = record { weight = (scenario_of parts frame s).weight; changes = cs } in made) ∷ map (scenario_of parts frame) (map (live_scenario (live_of frame.sides)) listed)) (changes_live parts frame s.entries)
    ∙ ap (λ l. scenario_of parts frame s ∷ l) (scenarios_live parts frame listed)

pub program_live : (core : Core) (periods : Periods) (stoch : Stoch) (frame : Frame) (listed : List ScenarioData) → program_with core periods stoch frame (map (live_scenario (live_of frame.sides)) listed) ≡ program_with core periods stoch frame listed
program_live core periods stoch frame listed =
    let base : Program = program_with core periods stoch frame listed in
    ap (λ (scenarios : List Scenario). record base { scenarios = scenarios }) (scenarios_live (parts_of core) frame listed)

pub weights_live : (live : List Bool) (listed : List ScenarioData) → weight_sum (map (live_scenario live) listed) ≡ weight_sum listed
weights_live live [] = refl
weights_live live (s ∷ listed) = omega (arith, sum_by-cons (λ (x : ScenarioData). x.weight) (live_scenario live s) (map (live_scenario live) listed), weights_live live listed, sum_by-cons (λ (x : ScenarioData). x.weight) s listed)

pub all_live : (live : List Bool) (P : StochEntry → Type 0) (listed : List ScenarioData) → All (λ (s : ScenarioData). All P s.entries) listed → All (λ (s : ScenarioData). All P s.entries) (map (live_scenario live) listed)
all_live live P listed h = All-map (λ (s : ScenarioData). All P s.entries) (live_scenario live) listed (λ k d lt. All-filter (λ (e : StochEntry). stays_in live e.place) P (get_or listed k d).entries (h k d lt))

pub long_live : (live : List Bool) (stoch : Stoch) → length (live_scenarios live stoch) ≡ count_of stoch
long_live live stoch = length-map (scenarios_of stoch) (live_scenario live) ∙ listed_long stoch

-- the entries that stay are the changes that are counted
entries_counted : (sides : List Side) (es : List StochEntry) → length (live_entries (live_of sides) es) ≡ change_count sides es
entries_counted sides [] = refl
entries_counted sides (e ∷ es) = by_test (stays_in (live_of sides) e.place) refl (entries_counted sides es)
  where
    by_test : (t : Bool) → stays_in (live_of sides) e.place ≡ t → length (live_entries (live_of sides) es) ≡ change_count sides es → length (cond t (e ∷ live_entries (live_of sides) es) (live_entries (live_of sides) es)) ≡ change_count sides (e ∷ es)
    by_test t s r =
        let head : is_live sides e.place ≡ t = sym (live_is sides e.place) ∙ s in
        by_known t r ∙ sym (count_cons (λ (x : StochEntry). is_live sides x.place) e es ∙ ap (λ b. cond b 1 0 + change_count sides es) head)
      where
        by_known : (t : Bool) → length (live_entries (live_of sides) es) ≡ change_count sides es → length (cond t (e ∷ live_entries (live_of sides) es) (live_entries (live_of sides) es)) ≡ cond t 1 0 + change_count sides es
        by_known true r = omega (arith, r)
        by_known false r = omega (arith, r)

pub counted_live : (sides : List Side) (listed : List ScenarioData) → entry_count (map (live_scenario (live_of sides)) listed) ≡ changes_count sides listed
counted_live sides [] = refl
counted_live sides (s ∷ listed) = omega (arith, sum_by-cons (λ (x : ScenarioData). length x.entries) (live_scenario (live_of sides) s) (map (live_scenario (live_of sides)) listed), counted_live sides listed, entries_counted sides s.entries, sum_by-cons (λ (x : ScenarioData). change_count sides x.entries) s listed)
