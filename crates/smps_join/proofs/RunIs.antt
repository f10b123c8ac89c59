-- The program of a join keeps the facts of a run, where none of the refusals' causes holds.
use Rattle.std.proofs.Common.{arith, refl, sym, ap, subst, ◌∙◌, ◌≡◌, ℕ, ◌*◌, ◌^◌, ◌<◌, ◌≤◌, nat_lt, Bool, true, false, ◌||◌, List, [], ◌∷◌, map, length, get_or, pos, ◌≤ℤ◌, Option, Some, None}
use Rattle.std.specs.Prelude.{IfSome}
use Rattle.std.specs.Ordering.{int_eq}
use Rattle.std.specs.List.{All, AllPairs, count_by, filter_map, list_any, range_with_len, sum_by}
use Rattle.std.proofs.lemmas.Bool.Decides.{Decides-int_eq}
use Rattle.std.proofs.lemmas.Int.{ints}
use Rattle.std.proofs.lemmas.List.{length-map}
use Rattle.std.proofs.lemmas.List.Elements.{All-map, recursion_from_All}
use Rattle.std.proofs.lemmas.List.Folds.{list_any_at}
use Rattle.std.proofs.lemmas.List.FromFn.{get_or-range_with_len, get_or-map-range_with_len, length-map-range_with_len, length-range_with_len}
use Rattle.std.proofs.lemmas.List.Sums.{sum_by-cons}
use Rattle.base_words.specs.ListSums.{sum_z}
use Rattle.base_words.proofs.Comparisons.{both_right}
use Rattle.base_words.proofs.ListSums.{sum_z-cons}
use Rattle.base_words.proofs.Booleans.{or_left, or_right, not_both}
use Rattle.base_words.proofs.NumberTests.{not_less_from_test}
use Rattle.smps_words.specs.CoreFacts.{IsShort}
use Rattle.smps_words.specs.declared.core_file.Core.{Core}
use Rattle.smps_words.specs.declared.periods.Periods.{Periods}
use Rattle.smps_words.proofs.PeriodStages.{row_stage}
use Rattle.smps_stoch.specs.declared.stoch.Stoch.{Stoch}
use Rattle.stoch_lines.specs.declared.places.StochEntry.{StochEntry}
use Rattle.scenario_lists.specs.ScenarioList.{count_of, marks_of, scenarios_of}
use Rattle.scenario_lists.specs.declared.data.ScenarioData.{ScenarioData}
use Rattle.tree_core.specs.Marks.{tree_of}
use Rattle.sp_model.specs.RunFacts.{CountFacts, IdleFacts, IsColumn, IsRow, IsScenario, OptionFacts, RunFacts, StageFacts, change_reach, change_value, is_change, is_same_place}
use Rattle.sp_model.specs.Reaching.{run_reach}
use Rattle.sp_model.specs.declared.program.Change.{Change}
use Rattle.sp_model.specs.declared.program.Change.TheVariants.{Cost, Cell, Limits}
use Rattle.sp_model.specs.declared.program.Column.{Column}
use Rattle.sp_model.specs.declared.program.Options.{Options}
use Rattle.sp_model.specs.declared.program.Program.{Program}
use Rattle.sp_model.specs.declared.program.Scenario.{Scenario}
use Rattle.reach_core.specs.Within.{HasReach}
use Rattle.smps_stoch.specs.StochFacts.{AreOfTwoPlaces, IsPlace}
use Rattle.join_words.specs.Boxes.{is_idle}
use Rattle.join_words.specs.Framing.{frame_of}
use Rattle.join_words.specs.Joining.{source_of}
use Rattle.join_words.specs.Parts.{firsts_of, parts_of, row_at}
use Rattle.join_words.specs.RunOf.{change_of, column_of, columns_of, entries_of, has_many_cells, is_crowded, is_too_large, nonleaf_of, options_of, program_of, range_of, reach_of, row_of, rows_of, scaled_in, scenario_of, total_of}
use Rattle.join_words.specs.declared.frame.Frame.{Frame}
use Rattle.smps_join.specs.Joinable.{CanJoin}
use Rattle.smps_join.specs.Unfit.{program_with}
use Rattle.smps_join.specs.Weights.{weight_sum}
use Rattle.smps_join.proofs.ColumnFacts.{columns_are, columns_rise, first_is, nonleaf_is}
use Rattle.smps_join.proofs.EntriesKept.{entries_ascend, entries_stay, entries_there, idle_cost, idle_from_reach}
use Rattle.smps_join.proofs.FromStoch.{all_parents, all_periods, count_some, each_entry, each_weight}
use Rattle.smps_join.proofs.FrameIs.{frame_facts, frame_sides}
use Rattle.smps_join.proofs.Listed.{listed_all, listed_apart, listed_long, listed_weights}
use Rattle.smps_join.proofs.ScenarioFacts.{Stays, change_is, change_stays, changes_differ, kept_all, kept_pairs, limits_are}
use Rattle.smps_join.proofs.TreeShape.{tree_facts}

-- what listed scenarios keep
pub record IsListed (core : Core) (listed : List ScenarioData) : Type 0 where
  pub there : All (λ (s : ScenarioData). All (λ (e : StochEntry). IsPlace core e.place) s.entries) listed
  pub some : All (λ (s : ScenarioData). 1 ≤ s.weight) listed
  pub apart : All (λ (s : ScenarioData). AllPairs AreOfTwoPlaces s.entries) listed

pub listed_is : (core : Core) (periods : Periods) (stoch : Stoch) (options : Options) → CanJoin core periods stoch options → IsListed core (scenarios_of stoch)
listed_is core periods stoch options can = record {
  there = λ k s lt i e i_lt. (listed_all (λ (e : StochEntry). IsPlace core e.place × IsShort e.value) stoch (each_entry core periods stoch can.stoch_fits) k s lt i e i_lt).0;
  some = listed_weights stoch (each_weight core periods stoch can.stoch_fits);
  apart = listed_apart stoch;
}

-- the rows
rows_are : (core : Core) (periods : Periods) (frame : Frame) → All (IsRow (length periods.columns)) (rows_of (parts_of core) (firsts_of periods) frame)
rows_are core periods frame k d lt =
    let n = length core.rows in
    let row = row_of (parts_of core) (firsts_of periods) frame in
    let below : k < n = omega (arith, length-map-range_with_len row 0 n, lt) in
    let at : get_or (rows_of (parts_of core) (firsts_of periods) frame) k d ≡ row k = get_or-map-range_with_len row 0 n k k d below (omega arith) in
    let stage = row_stage periods k in
    let counted = stage.counted in
    let there = stage.there in
    let is : IsRow (length periods.columns) (row k) = record { early = counted; late = omega (arith, there, periods.facts.with_rows, periods.facts.with_columns); limits = limits_are (row_at (parts_of core) k).kind (scaled_in frame k (row_at (parts_of core) k).right) (range_of (parts_of core) frame k) } in
    subst (IsRow (length periods.columns)) (sym at) is

-- a scenario
scenario_is : (core : Core) (periods : Periods) (stoch : Stoch) (frame : Frame) (listed : List ScenarioData) → IsListed core listed → All (IsScenario (program_with core periods stoch frame listed)) (map (scenario_of (parts_of core) frame) listed)
scenario_is core periods stoch frame listed known =
    let p = program_with core periods stoch frame listed in
    let rows = length-map-range_with_len (row_of (parts_of core) (firsts_of periods) frame) 0 (length core.rows) in
    let columns = length-map-range_with_len (column_of (parts_of core) (firsts_of periods) frame) 0 (length core.columns) in
    All-map (IsScenario p) (scenario_of (parts_of core) frame) listed (λ k s lt.
    let one = get_or listed k s in
    let there = recursion_from_All (λ (e : StochEntry). IsPlace core e.place) one.entries (known.there k s lt) in
    let named : All (λ c. is_change (length core.rows) (length core.columns) c ≡ true) (filter_map (change_of (parts_of core) frame) one.entries) = kept_all (change_of (parts_of core) frame) (λ c. is_change (length core.rows) (length core.columns) c ≡ true) one.entries (recursion_from_All (λ (e : StochEntry). IfSome (change_of (parts_of core) frame e) (λ c. is_change (length core.rows) (length core.columns) c ≡ true)) one.entries (λ i e i_lt. change_is core frame (get_or one.entries i e) (known.there k s lt i e i_lt))) in
    let P : ℕ → Type 0 = λ n. All (λ c. is_change n (length core.columns) c ≡ true) (filter_map (change_of (parts_of core) frame) one.entries) in
    let Q : ℕ → Type 0 = λ n. All (λ c. is_change (length p.rows) n c ≡ true) (filter_map (change_of (parts_of core) frame) one.entries) in
    let some = known.some k s lt in
    record {
      positive = omega (arith, ints, some);
      changes = subst Q (sym columns) (subst P (sym rows) named);
      apart = kept_pairs (change_of (parts_of core) frame) (λ c d. is_same_place c d ≡ false) one.entries (λ i j e before j_lt. changes_differ (parts_of core) frame (get_or one.entries i e) (get_or one.entries j e) (known.apart k s lt i j e before j_lt));
    })

-- a change of a column whose box is the single 0
idle_change : (core : Core) (periods : Periods) (stoch : Stoch) (frame : Frame) (listed : List ScenarioData) (c : Change) → Stays frame.sides c → is_change (length core.rows) (length core.columns) c ≡ true → change_reach (program_with core periods stoch frame listed) c ≡ 0 → change_value c ≡ pos 0
idle_change core periods stoch frame listed (Cost j z) stays there h = absurd (not_both (is_idle frame.sides j) (idle_from_reach core (firsts_of periods) frame (program_with core periods stoch frame listed) j refl (let t = there in grind arith) h) stays)
idle_change core periods stoch frame listed (Cell i j z) stays there h = absurd (not_both (is_idle frame.sides j) (idle_from_reach core (firsts_of periods) frame (program_with core periods stoch frame listed) j refl (let t = both_right (nat_lt i (length core.rows)) (nat_lt j (length core.columns)) there in grind arith) h) stays)
idle_change core periods stoch frame listed (Limits i lower upper) stays there h = absurd (omega (arith, h))

idle_is : (core : Core) (periods : Periods) (stoch : Stoch) (frame : Frame) (listed : List ScenarioData) → IsListed core listed → IdleFacts (program_with core periods stoch frame listed)
idle_is core periods stoch frame listed known =
    let p = program_with core periods stoch frame listed in
    let column = column_of (parts_of core) (firsts_of periods) frame in
    let n = length core.columns in
    record {
      costs = λ j d lt h.
          let below : j < n = omega (arith, length-map-range_with_len column 0 n, lt) in
          ap (λ (c : Column). c.cost) (get_or-map-range_with_len column 0 n j j d below (omega arith)) ∙ idle_cost core (firsts_of periods) frame j (idle_from_reach core (firsts_of periods) frame p j refl below h);
      entries = λ k e lt h.
          let x = get_or (entries_of (parts_of core) frame) k e in
          absurd (not_both (is_idle frame.sides x.column) (idle_from_reach core (firsts_of periods) frame p x.column refl (entries_there core frame k e lt).1 h) (entries_stay core frame k e lt));
      changes = All-map (λ (s : Scenario). All (λ c. change_reach p c ≡ 0 → change_value c ≡ pos 0) s.changes) (scenario_of (parts_of core) frame) listed (λ k s lt.
          let one = get_or listed k s in
          kept_all (change_of (parts_of core) frame) (λ c. change_reach p c ≡ 0 → change_value c ≡ pos 0) one.entries (recursion_from_All (λ (e : StochEntry). IfSome (change_of (parts_of core) frame e) (λ c. change_reach p c ≡ 0 → change_value c ≡ pos 0)) one.entries (λ i e i_lt.
          let x = get_or one.entries i e in
          joined_some (change_of (parts_of core) frame x) (Stays frame.sides) (λ c. is_change (length core.rows) (length core.columns) c ≡ true) (λ c. change_reach p c ≡ 0 → change_value c ≡ pos 0) (idle_change core periods stoch frame listed) (change_stays (parts_of core) frame x) (change_is core frame x (known.there k s lt i e i_lt)))));
    }
  where
    joined_some : (o : Option Change) (A B C : Change → Type 0) → ((c : Change) → A c → B c → C c) → IfSome o A → IfSome o B → IfSome o C
    joined_some None A B C f a b = tt
    joined_some (Some c) A B C f a b = f c a b

-- the sum of the weights
weights_sum : (core : Core) (frame : Frame) (listed : List ScenarioData) → sum_z (λ (s : Scenario). s.weight) (map (scenario_of (parts_of core) frame) listed) ≡ pos (weight_sum listed)
weights_sum core frame [] = refl
weights_sum core frame (s ∷ listed) =
    omega (arith, ints, sum_z-cons (λ (t : Scenario). t.weight) (scenario_of (parts_of core) frame s) (map (scenario_of (parts_of core) frame) listed), weights_sum core frame listed, sum_by-cons (λ (t : ScenarioData). t.weight) s listed)

weights_some : (listed : List ScenarioData) → All (λ (s : ScenarioData). 1 ≤ s.weight) listed → 0 < length listed → 1 ≤ weight_sum listed
weights_some [] h lt = absurd (omega (arith, lt))
weights_some (s ∷ listed) h lt = omega (arith, sum_by-cons (λ (t : ScenarioData). t.weight) s listed, h 0 s lt)

-- the program of a join, from its parts
pub program_is : (core : Core) (periods : Periods) (stoch : Stoch) (options : Options) → program_of (source_of core periods stoch options) ≡ program_with core periods stoch (frame_of (source_of core periods stoch options)) (scenarios_of stoch)
unfolding program_of
program_is core periods stoch options = refl

pub total_is : (core : Core) (periods : Periods) (stoch : Stoch) (options : Options) → total_of (source_of core periods stoch options) ≡ pos (weight_sum (scenarios_of stoch))
total_is core periods stoch options = weights_sum core (frame_of (source_of core periods stoch options)) (scenarios_of stoch)

total_some : (core : Core) (periods : Periods) (stoch : Stoch) (options : Options) → CanJoin core periods stoch options → pos 1 ≤ℤ total_of (source_of core periods stoch options)
total_some core periods stoch options can =
    let some = weights_some (scenarios_of stoch) (listed_is core periods stoch options can).some (let s = count_some core periods stoch can.stoch_fits in omega (arith, s, listed_long stoch)) in
    omega (arith, ints, some, total_is core periods stoch options)

-- its reach is that of numbers within
pub has_reach : (core : Core) (periods : Periods) (stoch : Stoch) (options : Options) → CanJoin core periods stoch options → HasReach (program_of (source_of core periods stoch options)) (options_of (source_of core periods stoch options) options) (total_of (source_of core periods stoch options))
has_reach core periods stoch options can =
    let source = source_of core periods stoch options in
    let frame = frame_of source in
    let known = listed_is core periods stoch options can in
    let rows = length-map-range_with_len (row_of (parts_of core) (firsts_of periods) frame) 0 (length core.rows) in
    let columns = length-map-range_with_len (column_of (parts_of core) (firsts_of periods) frame) 0 (length core.columns) in
    let P : Program → Type 0 = λ q. HasReach q (options_of source options) (total_of source) in
    subst P (sym (program_is core periods stoch options)) (record {
      scale = can.options_fit.some_scale;
      rho = can.options_fit.some_rho;
      total_some = total_some core periods stoch options can;
      there = λ k e lt. let at = entries_there core frame k e lt in let row = at.0 in let column = at.1 in (omega (arith, row, rows), omega (arith, column, columns));
      idle = idle_is core periods stoch frame (scenarios_of stoch) known;
      scenarios = scenario_is core periods stoch frame (scenarios_of stoch) known;
    })

-- the options of the run
options_are : (core : Core) (periods : Periods) (stoch : Stoch) (options : Options) → CanJoin core periods stoch options → OptionFacts (options_of (source_of core periods stoch options) options)
options_are core periods stoch options can =
    let o = can.options_fit in
    let some = count_some core periods stoch can.stoch_fits in
    let some_ranks = o.some_ranks in
    let ranks = o.ranks in
    record {
      some_scale = o.some_scale;
      scale = o.scale;
      some_rho = o.some_rho;
      rho = o.rho;
      iterations = o.iterations;
      some_ranks = omega (arith, some, some_ranks);
      ranks = omega (arith, ranks);
      spokes = o.spokes;
      some_candidates = o.some_candidates;
      candidates = o.candidates;
      some_gap = o.some_gap;
      gap = o.gap;
      some_budget = o.some_budget;
      budget = o.budget;
      some_missing = o.some_missing;
      missing = o.missing;
    }

-- the counts of the run
counts_are : (core : Core) (periods : Periods) (stoch : Stoch) (options : Options) → CanJoin core periods stoch options → is_crowded (source_of core periods stoch options) ≡ false → is_too_large (source_of core periods stoch options) ≡ false → CountFacts (program_with core periods stoch (frame_of (source_of core periods stoch options)) (scenarios_of stoch)) (nonleaf_of (source_of core periods stoch options))
counts_are core periods stoch options can crowded vast =
    let source = source_of core periods stoch options in
    let frame = frame_of source in
    let n = count_of stoch in
    let rows = length-map-range_with_len (row_of (parts_of core) (firsts_of periods) frame) 0 (length core.rows) in
    let columns = length-map-range_with_len (column_of (parts_of core) (firsts_of periods) frame) 0 (length core.columns) in
    let scenarios : length (map (scenario_of (parts_of core) frame) (scenarios_of stoch)) ≡ n = length-map (scenarios_of stoch) (scenario_of (parts_of core) frame) ∙ listed_long stoch in
    let cells = or_left (has_many_cells n (length core.columns) (length core.rows) (nonleaf_of source)) (nat_lt 4194304 (sum_by (λ (s : Scenario). length s.changes) (map (scenario_of (parts_of core) frame) (scenarios_of stoch)))) vast in
    let changes = or_right (has_many_cells n (length core.columns) (length core.rows) (nonleaf_of source)) (nat_lt 4194304 (sum_by (λ (s : Scenario). length s.changes) (map (scenario_of (parts_of core) frame) (scenarios_of stoch)))) vast in
    let both_cells = or_left (nat_lt 4194304 (n * length core.columns) || nat_lt 4194304 (n * length core.rows)) (nat_lt 1048576 (n * nonleaf_of source)) (regroup (nat_lt 4194304 (n * length core.columns)) (nat_lt 4194304 (n * length core.rows)) (nat_lt 1048576 (n * nonleaf_of source)) cells) in
    let leaf_cells = or_right (nat_lt 4194304 (n * length core.columns) || nat_lt 4194304 (n * length core.rows)) (nat_lt 1048576 (n * nonleaf_of source)) (regroup (nat_lt 4194304 (n * length core.columns)) (nat_lt 4194304 (n * length core.rows)) (nat_lt 1048576 (n * nonleaf_of source)) cells) in
    let column_cells = not_less_from_test 4194304 (n * length core.columns) (or_left (nat_lt 4194304 (n * length core.columns)) (nat_lt 4194304 (n * length core.rows)) both_cells) in
    let row_cells = not_less_from_test 4194304 (n * length core.rows) (or_right (nat_lt 4194304 (n * length core.columns)) (nat_lt 4194304 (n * length core.rows)) both_cells) in
    let some = count_some core periods stoch can.stoch_fits in
    let few = not_less_from_test 4096 n crowded in
    let few_columns = core.facts.few_columns in
    let few_rows = core.facts.few_rows in
    record {
      some_scenarios = omega (arith, some, scenarios);
      scenarios = omega (arith, few, scenarios);
      columns = omega (arith, few_columns, columns);
      rows = omega (arith, few_rows, rows);
      column_cells = subst (λ m. m ≤ 4194304) (ap (λ a. a * length core.columns) (sym scenarios) ∙ ap (λ b. length (map (scenario_of (parts_of core) frame) (scenarios_of stoch)) * b) (sym columns)) column_cells;
      row_cells = subst (λ m. m ≤ 4194304) (ap (λ a. a * length core.rows) (sym scenarios) ∙ ap (λ b. length (map (scenario_of (parts_of core) frame) (scenarios_of stoch)) * b) (sym rows)) row_cells;
      changes = not_less_from_test 4194304 (sum_by (λ (s : Scenario). length s.changes) (map (scenario_of (parts_of core) frame) (scenarios_of stoch))) changes;
      nonleaf_cells = subst (λ m. m ≤ 1048576) (ap (λ a. a * nonleaf_of source) (sym scenarios)) (not_less_from_test 1048576 (n * nonleaf_of source) leaf_cells);
    }
  where
    regroup : (a b c : Bool) → (a || b || c) ≡ false → ((a || b) || c) ≡ false
    regroup true b c h = h
    regroup false b c h = h

tree_stages : (n : ℕ) (owners : List (List ℕ)) → (tree_of n owners).stages ≡ n
unfolding tree_of
tree_stages n owners = refl

-- the stages of the run
stages_are : (core : Core) (periods : Periods) (stoch : Stoch) (options : Options) → CanJoin core periods stoch options → StageFacts (program_with core periods stoch (frame_of (source_of core periods stoch options)) (scenarios_of stoch)) (nonleaf_of (source_of core periods stoch options))
stages_are core periods stoch options can =
    let source = source_of core periods stoch options in
    let frame = frame_of source in
    let owners = marks_of (length periods.columns) stoch in
    let tree = tree_stages (length periods.columns) owners in
    let some = periods.facts.some in
    let few = periods.facts.few in
    let long = periods.facts.with_columns in
    let columns = length-map-range_with_len (column_of (parts_of core) (firsts_of periods) frame) 0 (length core.columns) in
    let some_columns = can.some_columns in
    let P : ℕ → Type 0 = λ n. All (IsColumn n) (columns_of (parts_of core) (firsts_of periods) frame) in
    let Q : ℕ → Type 0 = λ n. All (IsRow n) (rows_of (parts_of core) (firsts_of periods) frame) in
    let R : ℕ → Type 0 = λ n. nonleaf_of source ≡ count_by (λ (c : Column). nat_lt c.stage n) (columns_of (parts_of core) (firsts_of periods) frame) in
    record {
      several = omega (arith, some, long, tree);
      few = omega (arith, few, long, tree);
      columns = subst P (sym tree) (columns_are core periods frame options.missing can.options_fit.some_missing can.options_fit.missing (frame_sides core periods stoch options));
      rows = subst Q (sym tree) (rows_are core periods frame);
      rising = columns_rise core periods frame;
      some_columns = omega (arith, some_columns, columns);
      first = λ d. first_is core periods frame d some_columns;
      nonleaf_is = subst R (sym tree) (nonleaf_is core periods frame);
    }

-- the cost scale
scale_is : (places : ℕ) → places ≤ 9 → list_any (λ q. int_eq (pos (10 ^ places)) (pos (10 ^ q))) (range_with_len 0 10) ≡ true
scale_is places few =
    let there : places < 10 = omega (arith, few) in
    let at : get_or (range_with_len 0 10) places 0 ≡ places = get_or-range_with_len 0 10 places 0 there ∙ omega arith in
    list_any_at (λ q. int_eq (pos (10 ^ places)) (pos (10 ^ q))) (range_with_len 0 10) places 0 (omega (arith, there, length-range_with_len 0 10))
    ((Decides-int_eq (pos (10 ^ places)) (pos (10 ^ get_or (range_with_len 0 10) places 0))).1 (ap (λ q. pos (10 ^ q)) (sym at)))

-- the run of a join keeps the facts of a run
pub run_is : (core : Core) (periods : Periods) (stoch : Stoch) (options : Options) → CanJoin core periods stoch options → is_crowded (source_of core periods stoch options) ≡ false → is_too_large (source_of core periods stoch options) ≡ false → reach_of (source_of core periods stoch options) options ≤ 2 ^ 120 → RunFacts (program_of (source_of core periods stoch options)) (options_of (source_of core periods stoch options) options) (total_of (source_of core periods stoch options)) (nonleaf_of (source_of core periods stoch options))
run_is core periods stoch options can crowded vast narrow =
    let source = source_of core periods stoch options in
    let frame = frame_of source in
    let listed = scenarios_of stoch in
    let known = listed_is core periods stoch options can in
    let scenarios : length (map (scenario_of (parts_of core) frame) listed) ≡ count_of stoch = length-map listed (scenario_of (parts_of core) frame) ∙ listed_long stoch in
    let rows = length-map-range_with_len (row_of (parts_of core) (firsts_of periods) frame) 0 (length core.rows) in
    let columns = length-map-range_with_len (column_of (parts_of core) (firsts_of periods) frame) 0 (length core.columns) in
    let some = periods.facts.some in
    let few = periods.facts.few in
    let long = periods.facts.with_columns in
    let crowd = not_less_from_test 4096 (count_of stoch) crowded in
    let N : Program → Type 0 = λ q. run_reach q (options_of source options) (total_of source) (nonleaf_of source) ≤ 2 ^ 120 in
    let P : Program → Type 0 = λ q. RunFacts q (options_of source options) (total_of source) (nonleaf_of source) in
    subst P (sym (program_is core periods stoch options)) (record {
      options_fit = options_are core periods stoch options can;
      ranks = omega (arith, scenarios);
      tree = tree_facts (length periods.columns) (length (map (scenario_of (parts_of core) frame) listed)) stoch (omega (arith, some, long)) (omega (arith, few, long)) (omega (arith, crowd, scenarios)) scenarios (all_parents core periods stoch can.stoch_fits) (all_periods core periods stoch can.stoch_fits);
      stages = stages_are core periods stoch options can;
      counts = counts_are core periods stoch options can crowded vast;
      places = λ k e lt. let at = entries_there core frame k e lt in let row = at.0 in let column = at.1 in (omega (arith, row, rows), omega (arith, column, columns));
      ascending = entries_ascend core frame;
      scenarios = scenario_is core periods stoch frame listed known;
      idle = idle_is core periods stoch frame listed known;
      scaled = scale_is frame.cost_places (frame_facts core periods stoch options can).cost_places;
      sum_is = refl;
      within = subst N (program_is core periods stoch options) narrow;
    })
