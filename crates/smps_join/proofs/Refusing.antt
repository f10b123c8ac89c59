-- When the join refuses: too many changes, a number or a total that leaves 128 bits, a reach that is too great.
use Rattle.std.proofs.Common.{arith, refl, sym, ap, subst, ◌∙◌, ◌≡◌, ℕ, zero, suc, ◌+◌, ◌^◌, ◌<◌, ◌≤◌, nat_lt, Bool, true, false, cond, not, ◌||◌, List, [], ◌∷◌, map, length, get_or, ℤ, unsigned_abs, Some, None, if◌then◌else◌, inl, inr}
use Rattle.std.specs.List.{All, Any, cons_option, filter_map, sum_by}
use Rattle.std.proofs.lemmas.List.{length-map}
use Rattle.std.proofs.lemmas.List.FromFn.{length-map-range_with_len}
use Rattle.std.proofs.lemmas.List.Sums.{sum_by-cons}
use Rattle.base_words.proofs.Booleans.{or_left, or_right_true}
use Rattle.base_words.proofs.NumberTests.{test_from_less, test_from_not_less}
use Rattle.boxed_problem.specs.BoxedFacts.{limits_size}
use Rattle.boxed_problem.specs.declared.parts.Entry.{Entry}
use Rattle.capped_num.specs.Capped.{capped}
use Rattle.smps_words.specs.declared.core_file.Core.{Core}
use Rattle.smps_words.specs.declared.periods.Periods.{Periods}
use Rattle.smps_stoch.specs.declared.stoch.Stoch.{Stoch}
use Rattle.stoch_lines.specs.declared.places.StochEntry.{StochEntry}
use Rattle.stoch_lines.specs.declared.places.StochPlace.{StochPlace}
use Rattle.stoch_lines.specs.declared.places.StochPlace.TheVariants.{Cost, Cell, Right}
use Rattle.scenario_lists.specs.Live.{entry_count, live_scenarios}
use Rattle.scenario_lists.specs.ScenarioList.{count_of, scenarios_of}
use Rattle.scenario_lists.specs.declared.data.ScenarioData.{ScenarioData}
use Rattle.sp_model.specs.RunFacts.{RunFacts}
use Rattle.sp_model.specs.Reaching.{run_reach}
use Rattle.sp_model.specs.Changes.{limits_of}
use Rattle.sp_model.specs.declared.program.Change.{Change}
use Rattle.sp_model.specs.declared.program.Change.TheVariants as change
use Rattle.sp_model.specs.declared.program.Column.{Column}
use Rattle.sp_model.specs.declared.program.Options.{Options}
use Rattle.sp_model.specs.declared.program.Program.{Program}
use Rattle.sp_model.specs.declared.program.Row.{Row}
use Rattle.sp_model.specs.declared.program.Scenario.{Scenario}
use Rattle.reach_core.specs.Within.{NumbersWithin, change_size}
use Rattle.reach_core.proofs.Within.{total_within, within}
use Rattle.join_frame.specs.Sourcing.{AreNamed}
use Rattle.join_numbers.specs.UnfitNumbers.{IsLargeChange, IsLargeColumn, IsLargeEntry, IsLargeRow, IsLargeScenario}
use Rattle.join_words.specs.Boxes.{is_idle}
use Rattle.join_words.specs.Framing.{Source, frame_of}
use Rattle.join_words.specs.Joining.{IsRefused, IsTimely, source_of}
use Rattle.join_words.specs.Parts.{Parts, firsts_of, parts_of}
use Rattle.join_words.specs.RunOf.{change_at, change_of, column_of, has_many_cells, has_many_changes, has_many_listed, is_crowded, is_too_large, is_wide, nonleaf_of, options_of, program_of, reach_of, scaled_cost, scaled_in, scenario_of, total_of}
use Rattle.join_words.specs.declared.fault.JoinFault.TheVariants.{Memory, Wide}
use Rattle.join_words.specs.declared.frame.Frame.{Frame}
use Rattle.smps_join.specs.Cutting.{cut_options}
use Rattle.smps_join.specs.Counting.{change_count, changes_count, is_live, live_of}
use Rattle.smps_join.specs.Joinable.{CanJoin}
use Rattle.smps_join.specs.Unfit.{HasUnfit, program_with}
use Rattle.smps_join.specs.Weights.{weight_sum}
use Rattle.smps_join.proofs.ColumnFacts.{nonleaf_le}
use Rattle.smps_join.proofs.Counts.{count_cons}
use Rattle.smps_join.proofs.FromStoch.{IsGood, each_entry}
use Rattle.smps_join.proofs.Listed.{each_of_all, listed_long}
use Rattle.smps_join.proofs.Living.{counted_live}
use Rattle.smps_join.proofs.RunIs.{has_reach, program_is, total_is}

-- the places of all entries are there
pub all_named : (core : Core) (periods : Periods) (stoch : Stoch) (options : Options) → CanJoin core periods stoch options → AreNamed core stoch
all_named core periods stoch options can k d lt = (each_of_all (IsGood core) stoch (each_entry core periods stoch can.stoch_fits) k d lt).0

-- changes are counted
unless_long : (t : Bool) (c : Change) (cs : List Change) (n : ℕ) → length cs ≡ n → length (cons_option (if t then None else Some c) cs) ≡ cond (not t) 1 0 + n
unless_long true c cs n h = omega (arith, h)
unless_long false c cs n h = omega (arith, h)

change_long : (parts : Parts) (frame : Frame) (p : StochPlace) (e : StochEntry) (cs : List Change) (n : ℕ) → length cs ≡ n → length (cons_option (change_at parts frame p e.value) cs) ≡ cond (is_live frame.sides p) 1 0 + n
change_long parts frame (Cost j) e cs n h = unless_long (is_idle frame.sides j) (change.Cost j (scaled_cost frame e.value)) cs n h
change_long parts frame (Cell i j) e cs n h = unless_long (is_idle frame.sides j) (change.Cell i j (scaled_in frame i e.value)) cs n h
change_long parts frame (Right i) e cs n h = omega (arith, h)

changes_long : (parts : Parts) (frame : Frame) (es : List StochEntry) → length (filter_map (change_of parts frame) es) ≡ change_count frame.sides es
changes_long parts frame [] = refl
changes_long parts frame (e ∷ es) = change_long parts frame e.place e (filter_map (change_of parts frame) es) (change_count frame.sides es) (changes_long parts frame es) ∙ sym (count_cons (λ (x : StochEntry). is_live frame.sides x.place) e es)

changes_sum : (parts : Parts) (frame : Frame) (listed : List ScenarioData) → changes_count frame.sides listed ≡ sum_by (λ (s : Scenario). length s.changes) (map (scenario_of parts frame) listed)
changes_sum parts frame [] = refl
changes_sum parts frame (s ∷ listed) = omega (arith, sum_by-cons (λ (x : ScenarioData). change_count frame.sides x.entries) s listed, sum_by-cons (λ (x : Scenario). length x.changes) (scenario_of parts frame s) (map (scenario_of parts frame) listed), changes_sum parts frame listed, changes_long parts frame s.entries)

-- each weight is at most their sum
pub weight_within : (listed : List ScenarioData) (k : ℕ) (d : ScenarioData) → k < length listed → (get_or listed k d).weight ≤ weight_sum listed
weight_within [] k d lt = absurd (omega (arith, lt))
weight_within (s ∷ listed) zero d lt = omega (arith, sum_by-cons (λ (x : ScenarioData). x.weight) s listed)
weight_within (s ∷ listed) (suc k) d lt = omega (arith, sum_by-cons (λ (x : ScenarioData). x.weight) s listed, weight_within listed k d (omega (arith, lt)))

-- a number that is large makes the reach great
large_number : (n m r : ℕ) → n ≤ m → m ≤ r → n ≤ r
large_number n m r a b = omega (arith, a, b)

change_within : (c : Change) (n : ℕ) → IsLargeChange c → change_size c ≤ n → 2 ^ 127 ≤ n
change_within (change.Cost column value) n large le = omega (arith, large, le)
change_within (change.Cell row column value) n large le = omega (arith, large, le)
change_within (change.Limits row lower upper) n large le = omega (arith, large, le)

-- an item with a property, where all items have another
any_all : {X : Type 0} (P Q : X → Type 0) (R : Type 0) (xs : List X) → ((x : X) → P x → Q x → R) → Any P xs → All Q xs → R
any_all P Q R xs f (k, x, lt, at, h) all = f x h (subst Q at (all k x lt))

unfit_above : (p : Program) (n : ℕ) → NumbersWithin p n → HasUnfit p → 2 ^ 127 ≤ n
unfit_above p n all (inl any) = any_all IsLargeColumn (λ (c : Column). unsigned_abs c.cost ≤ n) (2 ^ 127 ≤ n) p.columns (λ c large le. large_number (2 ^ 127) (unsigned_abs c.cost) n large le) any all.columns
unfit_above p n all (inr (inl any)) = any_all IsLargeRow (λ (r : Row). limits_size (limits_of r) ≤ n) (2 ^ 127 ≤ n) p.rows (λ r large le. large_number (2 ^ 127) (limits_size (limits_of r)) n large le) any all.rows
unfit_above p n all (inr (inr (inl any))) = any_all IsLargeEntry (λ (e : Entry). unsigned_abs e.value ≤ n) (2 ^ 127 ≤ n) p.entries (λ e large le. large_number (2 ^ 127) (unsigned_abs e.value) n large le) any all.entries
unfit_above p n all (inr (inr (inr (inl large)))) = large_number (2 ^ 127) (unsigned_abs p.constant) n large all.constant
unfit_above p n all (inr (inr (inr (inr any)))) = any_all IsLargeScenario (λ (s : Scenario). All (λ c. change_size c ≤ n) s.changes) (2 ^ 127 ≤ n) p.scenarios (λ s large le. any_all IsLargeChange (λ c. change_size c ≤ n) (2 ^ 127 ≤ n) s.changes (λ c one small. change_within c n one small) large le) any all.changes

-- more scenarios than there may be
pub crowded : (n : ℕ) → (n ≤ 4096 → ⊥) → nat_lt 4096 n ≡ true
crowded n h = by_test (nat_lt 4096 n) refl h
  where
    by_test : (t : Bool) → nat_lt 4096 n ≡ t → (n ≤ 4096 → ⊥) → t ≡ true
    by_test true e g = refl
    by_test false e g = absurd (g (grind arith))

module _ (core : Core) (periods : Periods) (stoch : Stoch) (options : Options) where
  abbrev source : Source
  source = source_of core periods stoch options

  pub large_reach : CanJoin core periods stoch options → HasUnfit (program_with core periods stoch (frame_of source) (scenarios_of stoch)) → 2 ^ 127 ≤ reach_of source options
  large_reach can unfit =
      let P : Program → Type 0 = λ p. HasUnfit p in
      unfit_above (program_of source) (reach_of source options) (within (program_of source) (options_of source options) (total_of source) (nonleaf_of source) (has_reach core periods stoch options can)) (subst P (sym (program_is core periods stoch options)) unfit)

  pub large_total : CanJoin core periods stoch options → 2 ^ 127 ≤ weight_sum (scenarios_of stoch) → 2 ^ 127 ≤ reach_of source options
  large_total can large = omega (arith, large, ap unsigned_abs (total_is core periods stoch options), total_within (program_of source) (options_of source options) (total_of source) (nonleaf_of source) (has_reach core periods stoch options can))

  -- memory is asked for where neither an entry is early nor there are too many scenarios or cells
  few_listed : is_too_large source ≡ false → has_many_listed source ≡ false
  few_listed few = or_left (has_many_listed source) (has_many_changes source) few

  pub memory_refused : IsTimely source → is_crowded source ≡ false → is_too_large source ≡ false → IsRefused source options Memory
  memory_refused timely few cells = (timely, few, few_listed cells)

  -- a reach of 2^127 or more is refused by that number
  pub wide_refused : IsTimely source → is_crowded source ≡ false → is_too_large source ≡ false → 2 ^ 127 ≤ reach_of source options → IsRefused source options (Wide (2 ^ 127))
  wide_refused timely few cells large =
      let wide : 2 ^ 120 < reach_of source options = omega (arith, large) in
      (timely, few, cells, grind arith, omega (arith, large))

  -- a reach above 2^120 is refused, and one up to it isn't
  pub reach_refused : (reach : ℕ) → IsTimely source → is_crowded source ≡ false → is_too_large source ≡ false → reach ≡ capped (reach_of source options) → 2 ^ 120 < reach → IsRefused source options (Wide reach)
  reach_refused reach timely few cells is above =
      let wide : 2 ^ 120 < reach_of source options = omega (arith, is, above) in
      (timely, few, cells, grind arith, is)

  pub reach_kept : (reach : ℕ) → reach ≡ capped (reach_of source options) → reach ≤ 2 ^ 120 → reach_of source options ≤ 2 ^ 120
  reach_kept reach is le = omega (arith, is, le)

  pub not_wide : reach_of source options ≤ 2 ^ 120 → is_wide source options ≡ false
  not_wide le = grind arith

  -- the options are cut to the number of scenarios
  pub options_cut : (p : Program) → p ≡ program_of source → cut_options options (length p.scenarios) ≡ options_of source options
  options_cut p is =
      let long : length p.scenarios ≡ count_of stoch = ap (λ (q : Program). length q.scenarios) (is ∙ program_is core periods stoch options) ∙ (length-map (scenarios_of stoch) (scenario_of (parts_of core) (frame_of source)) ∙ listed_long stoch) in
      ap (cut_options options) long

  pub columns_long : (p : Program) → p ≡ program_of source → length p.columns ≡ length core.columns
  columns_long p is = ap (λ (q : Program). length q.columns) (is ∙ program_is core periods stoch options) ∙ length-map-range_with_len (column_of (parts_of core) (firsts_of periods) (frame_of source)) 0 (length core.columns)

  pub nonleaf_there : (p : Program) (nonleaf : ℕ) → p ≡ program_of source → nonleaf ≡ nonleaf_of source → nonleaf ≤ length p.columns
  nonleaf_there p nonleaf is n = omega (arith, n, columns_long p is, nonleaf_le periods (length core.columns))

  -- the reach of a program that is the defined one
  pub reach_same : (p : Program) (o : Options) (total : ℤ) (nonleaf reach : ℕ) → p ≡ program_of source → o ≡ options_of source options → total ≡ total_of source → nonleaf ≡ nonleaf_of source → reach ≡ capped (run_reach p o total nonleaf) → reach ≡ capped (reach_of source options)
  reach_same p o total nonleaf reach a b c d e =
      e ∙ (ap (λ q. capped (run_reach q o total nonleaf)) a ∙ (ap (λ q. capped (run_reach (program_of source) q total nonleaf)) b
      ∙ (ap (λ q. capped (run_reach (program_of source) (options_of source options) q nonleaf)) c ∙ ap (λ q. capped (run_reach (program_of source) (options_of source options) (total_of source) q)) d)))

  -- and its facts
  pub run_same : (p : Program) (o : Options) (total : ℤ) (nonleaf : ℕ) → p ≡ program_of source → o ≡ options_of source options → total ≡ total_of source → nonleaf ≡ nonleaf_of source → RunFacts (program_of source) (options_of source options) (total_of source) (nonleaf_of source) → RunFacts p o total nonleaf
  run_same p o total nonleaf a b c d facts =
      subst (λ q. RunFacts q o total nonleaf) (sym a)
      (subst (λ q. RunFacts (program_of source) q total nonleaf) (sym b)
      (subst (λ q. RunFacts (program_of source) (options_of source options) q nonleaf) (sym c)
      (subst (λ q. RunFacts (program_of source) (options_of source options) (total_of source) q) (sym d) facts)))

  -- too many changes
  changes_many : (frame : Frame) → frame ≡ frame_of source → nat_lt 4194304 (entry_count (live_scenarios (live_of frame.sides) stoch)) ≡ has_many_changes source
  changes_many frame f =
      ap (λ (x : Frame). nat_lt 4194304 (entry_count (live_scenarios (live_of x.sides) stoch))) f
      ∙ ap (nat_lt 4194304) (counted_live (frame_of source).sides (scenarios_of stoch) ∙ changes_sum (parts_of core) (frame_of source) (scenarios_of stoch))

  pub many_changes : (frame : Frame) → frame ≡ frame_of source → 4194304 < entry_count (live_scenarios (live_of frame.sides) stoch) → has_many_changes source ≡ true
  many_changes frame f h = sym (changes_many frame f) ∙ test_from_less 4194304 (entry_count (live_scenarios (live_of frame.sides) stoch)) h

  pub few_changes : (frame : Frame) → frame ≡ frame_of source → entry_count (live_scenarios (live_of frame.sides) stoch) ≤ 4194304 → has_many_changes source ≡ false
  few_changes frame f h = sym (changes_many frame f) ∙ test_from_not_less 4194304 (entry_count (live_scenarios (live_of frame.sides) stoch)) h

  -- too many cells
  pub cells_many : (count columns rows nonleaf : ℕ) → count ≡ count_of stoch → columns ≡ length core.columns → rows ≡ length core.rows → nonleaf ≡ nonleaf_of source → has_many_cells count columns rows nonleaf ≡ has_many_cells (count_of stoch) (length core.columns) (length core.rows) (nonleaf_of source)
  cells_many count columns rows nonleaf a b c d =
      ap (λ n. has_many_cells n columns rows nonleaf) a
      ∙ (ap (λ n. has_many_cells (count_of stoch) n rows nonleaf) b
      ∙ (ap (λ n. has_many_cells (count_of stoch) (length core.columns) n nonleaf) c
      ∙ ap (λ n. has_many_cells (count_of stoch) (length core.columns) (length core.rows) n) d))

  pub vast_by_cells : has_many_cells (count_of stoch) (length core.columns) (length core.rows) (nonleaf_of source) ≡ true → is_too_large source ≡ true
  vast_by_cells h = ap (λ t. t || has_many_changes source) h

  pub vast_by_changes : has_many_changes source ≡ true → is_too_large source ≡ true
  vast_by_changes h = or_right_true (has_many_cells (count_of stoch) (length core.columns) (length core.rows) (nonleaf_of source)) (has_many_changes source) h

  pub not_vast : has_many_cells (count_of stoch) (length core.columns) (length core.rows) (nonleaf_of source) ≡ false → has_many_changes source ≡ false → is_too_large source ≡ false
  not_vast h g = ap (λ t. t || has_many_changes source) h ∙ g
