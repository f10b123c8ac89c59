-- The frame of a join: the boxes of all columns, and at most nine places for the costs and each row.
use Rattle.std.proofs.Common.{arith, refl, sym, subst, ◌≡◌, ℕ, ◌<◌, ◌≤◌, max, nat_lt, Bool, true, false, List, [], ◌∷◌, ◌++◌, map, length, get_or, Option, Some, None}
use Rattle.std.specs.Prelude.{unwrap_or}
use Rattle.std.specs.Option.{option_to_list}
use Rattle.std.specs.List.{All, AllByRecursion, filter, fold, range_with_len}
use Rattle.std.proofs.Math.ListN.{get_or-eq_default}
use Rattle.std.proofs.lemmas.List.{length-map}
use Rattle.std.proofs.lemmas.List.Elements.{All-append, All-cons, All-filter, All-map, recursion_from_All}
use Rattle.std.proofs.lemmas.List.FromFn.{length-map-range_with_len}
use Rattle.boxed_problem.specs.declared.parts.Side.{Side}
use Rattle.dec_core.specs.Scale.{common_places}
use Rattle.dec_core.specs.declared.decimal.Decimal.{Decimal}
use Rattle.smps_words.specs.CoreFacts.{IsShort, zero_decimal}
use Rattle.smps_words.specs.declared.core_data.CoreColumn.{CoreColumn}
use Rattle.smps_words.specs.declared.core_data.CoreEntry.{CoreEntry}
use Rattle.smps_words.specs.declared.core_data.CoreRow.{CoreRow}
use Rattle.smps_words.specs.declared.core_file.Core.{Core}
use Rattle.smps_words.specs.declared.periods.Periods.{Periods}
use Rattle.smps_stoch.specs.declared.stoch.Stoch.{Stoch}
use Rattle.stoch_lines.specs.declared.places.StochEntry.{StochEntry}
use Rattle.stoch_lines.specs.declared.places.StochPlace.{StochPlace}
use Rattle.sp_model.specs.declared.program.Options.{Options}
use Rattle.join_numbers.specs.Changing.{IsFrameOf}
use Rattle.join_words.specs.Boxes.{box_in, boxes_of}
use Rattle.join_words.specs.Framing.{frame_of}
use Rattle.join_words.specs.Joining.{source_of}
use Rattle.join_words.specs.Parts.{all_entries, column_at, no_column, no_row, parts_of, row_at}
use Rattle.join_words.specs.Powers.{core_costs, core_row_numbers, cost_places, is_entry_in, is_live_cost, is_live_in, own_numbers, row_places, stays, values_at}
use Rattle.smps_join.specs.Joinable.{CanJoin}
use Rattle.smps_join.proofs.FromStoch.{IsGood, each_entry}
use Rattle.smps_join.proofs.Listed.{each_of_all}

pub frame_sides : (core : Core) (periods : Periods) (stoch : Stoch) (options : Options) → (frame_of (source_of core periods stoch options)).sides ≡ boxes_of options.missing core.columns
unfolding frame_of
frame_sides core periods stoch options = refl

-- a number of at most nine places
abbrev IsNine : Decimal → Type 0
IsNine d = d.places ≤ 9

common_from : (ds : List Decimal) (a : ℕ) → a ≤ 9 → AllByRecursion IsNine ds → fold (λ most (item : Decimal). max most item.places) a ds ≤ 9
common_from [] a h all = h
common_from (d ∷ ds) a h all = common_from ds (max a d.places) (let own = all.0 in omega (arith, h, own)) all.1

common_nine : (ds : List Decimal) → All IsNine ds → common_places ds ≤ 9
common_nine ds h = common_from ds 0 (omega arith) (recursion_from_All IsNine ds h)

values_nine : (core : Core) (test : StochPlace → Bool) (es : List StochEntry) → All (IsGood core) es → All IsNine (values_at test es)
values_nine core test es h =
    All-map IsNine (λ (e : StochEntry). e.value) (filter (λ (e : StochEntry). test e.place) es)
    (All-filter (λ (e : StochEntry). test e.place) (λ (e : StochEntry). IsNine e.value) es (λ k d lt. (h k d lt).1.0))

column_nine : (core : Core) (j : ℕ) → IsNine (column_at (parts_of core) j).cost
column_nine core j = by_test (nat_lt j (length core.columns)) refl
  where
    by_test : (t : Bool) → nat_lt j (length core.columns) ≡ t → IsNine (column_at (parts_of core) j).cost
    by_test true e = (core.facts.costs j no_column (grind arith)).0
    by_test false e = let past : length core.columns ≤ j = grind arith in let P : CoreColumn → Type 0 = λ c. IsNine c.cost in subst P (sym (get_or-eq_default core.columns no_column past)) (omega arith)

range_nine : (r : Option Decimal) → IsShort (unwrap_or r zero_decimal) → All IsNine (option_to_list r)
range_nine None h = λ k d lt. absurd (omega (arith, lt))
range_nine (Some r) h = All-cons IsNine r [] h.0 (λ k d lt. absurd (omega (arith, lt)))

own_nine : (core : Core) (i : ℕ) → All IsNine (own_numbers (row_at (parts_of core) i))
own_nine core i = by_test (nat_lt i (length core.rows)) refl
  where
    by_test : (t : Bool) → nat_lt i (length core.rows) ≡ t → All IsNine (own_numbers (row_at (parts_of core) i))
    by_test true e =
        let lt : i < length core.rows = grind arith in
        All-cons IsNine (row_at (parts_of core) i).right (option_to_list (row_at (parts_of core) i).range) (core.facts.rights i no_row lt).0 (range_nine (row_at (parts_of core) i).range (core.facts.ranges i no_row lt))
    by_test false e =
        let past : length core.rows ≤ i = grind arith in
        let P : CoreRow → Type 0 = λ r. All IsNine (own_numbers r) in
        subst P (sym (get_or-eq_default core.rows no_row past)) (All-cons IsNine zero_decimal [] (omega arith) (λ k d lt. absurd (omega (arith, lt))))

costs_nine : (core : Core) (sides : List Side) (es : List StochEntry) → All (IsGood core) es → cost_places (parts_of core) sides es ≤ 9
costs_nine core sides es good =
    let live = filter (stays sides) (range_with_len 0 (length core.columns)) in
    common_nine (core_costs (parts_of core) sides ++ values_at (is_live_cost sides) es)
    (All-append IsNine (core_costs (parts_of core) sides) (values_at (is_live_cost sides) es)
    (All-cons IsNine core.constant (map (λ j. (column_at (parts_of core) j).cost) live) core.facts.constant_short.0 (All-map IsNine (λ j. (column_at (parts_of core) j).cost) live (λ k d lt. column_nine core (get_or live k d))))
    (values_nine core (is_live_cost sides) es good))

row_nine : (core : Core) (sides : List Side) (es : List StochEntry) (i : ℕ) → All (IsGood core) es → row_places (parts_of core) sides es i ≤ 9
row_nine core sides es i good =
    common_nine (core_row_numbers (parts_of core) sides i ++ values_at (is_live_in sides i) es)
    (All-append IsNine (core_row_numbers (parts_of core) sides i) (values_at (is_live_in sides i) es)
    (All-append IsNine (own_numbers (row_at (parts_of core) i)) (map (λ (e : CoreEntry). e.value) (filter (is_entry_in sides i) core.entries)) (own_nine core i)
    (All-map IsNine (λ (e : CoreEntry). e.value) (filter (is_entry_in sides i) core.entries) (All-filter (is_entry_in sides i) (λ (e : CoreEntry). IsNine e.value) core.entries (λ k d lt. (core.facts.values k d lt).0))))
    (values_nine core (is_live_in sides i) es good))

pub frame_facts : (core : Core) (periods : Periods) (stoch : Stoch) (options : Options) → CanJoin core periods stoch options → IsFrameOf core (frame_of (source_of core periods stoch options))
unfolding frame_of
frame_facts core periods stoch options can =
    let sides = boxes_of options.missing core.columns in
    let entries = all_entries stoch in
    let good = each_of_all (IsGood core) stoch (each_entry core periods stoch can.stoch_fits) in
    record {
      columns = length-map core.columns (box_in options.missing);
      rows = length-map-range_with_len (row_places (parts_of core) sides entries) 0 (length core.rows);
      cost_places = costs_nine core sides entries good;
      row_places = All-map (λ n. n ≤ 9) (row_places (parts_of core) sides entries) (range_with_len 0 (length core.rows)) (λ k d lt. row_nine core sides entries (get_or (range_with_len 0 (length core.rows)) k d) good);
    }
