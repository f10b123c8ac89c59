-- What the data of a scenario keep, change after change, and that its problem is one that fits its type.

use Rattle.std.proofs.Common.{arith, refl, sym, ap, subst, ◌∙◌, ◌≡◌, ℕ, zero, suc, ◌^◌, ◌<◌, ◌≤◌, nat_lt, nat_le, Bool, true, false, List, [], ◌∷◌, length, set, take, drop, ℤ, pos, ◌*ℤ◌, ◌≤ℤ◌, unsigned_abs, FitsSigned, if◌then◌else◌}
use Rattle.std.proofs.lemmas.Int.{ints}
use Rattle.std.proofs.lemmas.List.{get_or-map, get_or_default, length-map}
use Rattle.std.proofs.lemmas.List.Elements.{All-append, All-cons, All-drop, All-map, All-set, All-take, recursion_from_All}
use Rattle.std.proofs.Math.ListN.{get_or-eq_default, length-set}
use Rattle.std.proofs.Math.IntN.{*ℤ-zero}
use Rattle.std.proofs.Math.Nat.{mul-le-mul}
use Rattle.std.specs.Int.{w128}
use Rattle.std.specs.List.{All, AllByRecursion, fold, insert}
use Rattle.base_words.specs.Sums.{number_at}
use Rattle.base_words.proofs.Comparisons.{both_left, both_right}
use Rattle.base_words.proofs.Magnitudes.{fits_from_abs}
use Rattle.base_words.proofs.SumBounds.{size_below-part}
use Rattle.boxed_problem.specs.BoxedFacts.{IsBoxed}
use Rattle.boxed_problem.specs.declared.parts.Entry.{Entry}
use Rattle.boxed_problem.specs.declared.parts.Side.{Side}
use Rattle.sp_model.specs.Changes.{Data, core_data, data_of, limits_of, place_of, put_entry, side_of, stands_at, with_change}
use Rattle.sp_model.specs.RunFacts.{change_reach, change_value, is_change}
use Rattle.sp_model.specs.Plans.{no_column}
use Rattle.sp_model.specs.Problems.{data_at, factor_of, no_scenario, problem_in, scenario_at, scenarios}
use Rattle.sp_model.specs.Reaching.{box_reach}
use Rattle.sp_model.specs.declared.program.Change.{Change}
use Rattle.sp_model.specs.declared.program.Change.TheVariants.{Cost, Cell, Limits}
use Rattle.sp_model.specs.declared.program.Column.{Column}
use Rattle.sp_model.specs.declared.program.Program.{Program}
use Rattle.sp_model.specs.declared.run.Run.{Run}
use Rattle.sp_model.proofs.Bounds.{rows_fit, span_small, value_fits}
use Rattle.sp_model.proofs.CostSpans.{line_part, line_parts_le}
use Rattle.sp_model.proofs.Sizes.{times_at}
use Rattle.sp_model.proofs.EntryOrder.{chain_at, chain_from, IsChain, put_chain}
use Rattle.base_words.proofs.NumberTests.{less_from_test, none_from_test, not_less_from_test, some_from_test}

-- an entry of a row and a column that are there
abbrev IsThere : Program → Entry → Type 0
IsThere p e = (e.row < length p.rows) × (e.column < length p.columns)

-- what the data of the core and of each scenario keep
pub record KeepsFacts (p : Program) (d : Data) : Type 0 where
  pub costs_long : length d.costs ≡ length p.columns
  pub limits_long : length d.limits ≡ length p.rows
  pub chain : IsChain d.entries
  pub places : All (IsThere p) d.entries
  pub idle : (j : ℕ) → box_reach p j ≡ 0 → number_at d.costs j ≡ pos 0

core_idle : (run : Run) (j : ℕ) → box_reach run.program j ≡ 0 → number_at (core_data run.program).costs j ≡ pos 0
core_idle run j h = by_test (nat_lt j (length run.program.columns)) refl
  where
    by_test : (t : Bool) → nat_lt j (length run.program.columns) ≡ t → number_at (core_data run.program).costs j ≡ pos 0
    by_test true e =
        let l = less_from_test j (length run.program.columns) e in
        get_or-map (λ (column : Column). column.cost) run.program.columns j no_column (pos 0) l ∙ run.facts.idle.costs j no_column l h
    by_test false e =
        let l = not_less_from_test j (length run.program.columns) e in
        get_or-eq_default (core_data run.program).costs (pos 0) (omega (arith, length-map run.program.columns (λ (column : Column). column.cost)))

core_keeps : (run : Run) → KeepsFacts run.program (core_data run.program)
core_keeps run = record {
  costs_long = length-map run.program.columns (λ (column : Column). column.cost);
  limits_long = length-map run.program.rows limits_of;
  chain = chain_from run.program.entries run.facts.ascending;
  places = run.facts.places;
  idle = core_idle run;
}

-- what holds of a number before a write and of the one written holds after it
set_read : (P : ℤ → Type 0) (xs : List ℤ) (i j : ℕ) (v : ℤ) → P (number_at xs j) → (j ≡ i → P v) → P (number_at (set xs i v) j)
set_read P [] i j v p q = p
set_read P (x ∷ xs) zero zero v p q = q refl
set_read P (x ∷ xs) zero (suc j) v p q = p
set_read P (x ∷ xs) (suc i) zero v p q = p
set_read P (x ∷ xs) (suc i) (suc j) v p q = set_read P xs i j v p (λ e. q (ap suc e))

put_all : (P : Entry → Type 0) (e : Entry) (fs : List Entry) → P e → All P fs → All P (put_entry e fs)
put_all P e fs h all = by_test (stands_at e fs (place_of e fs))
  where
    by_test : (t : Bool) → All P (if t then set fs (place_of e fs) e else insert fs (place_of e fs) e)
    by_test true = All-set P fs (place_of e fs) e h all
    by_test false = All-append P (take (place_of e fs) fs) (e ∷ drop (place_of e fs) fs) (All-take P (place_of e fs) fs all) (All-cons P e (drop (place_of e fs) fs) h (All-drop P (place_of e fs) fs all))

change_keeps : (p : Program) (d : Data) (c : Change) → KeepsFacts p d → is_change (length p.rows) (length p.columns) c ≡ true → (change_reach p c ≡ 0 → change_value c ≡ pos 0) → KeepsFacts p (with_change d c)
change_keeps p d (Cost column value) k there idle = record {
  costs_long = length-set d.costs column value ∙ k.costs_long;
  limits_long = k.limits_long;
  chain = k.chain;
  places = k.places;
  idle = λ j h. set_read (λ z. z ≡ pos 0) d.costs column j value (k.idle j h) (λ e. idle (ap (box_reach p) (sym e) ∙ h));
}
change_keeps p d (Cell row column value) k there idle = record {
  costs_long = k.costs_long;
  limits_long = k.limits_long;
  chain = put_chain (record { row = row; column = column; value = value }) d.entries k.chain;
  places = put_all (IsThere p) (record { row = row; column = column; value = value }) d.entries (less_from_test row (length p.rows) (both_left (nat_lt row (length p.rows)) (nat_lt column (length p.columns)) there), less_from_test column (length p.columns) (both_right (nat_lt row (length p.rows)) (nat_lt column (length p.columns)) there)) k.places;
  idle = k.idle;
}
change_keeps p d (Limits row lower upper) k there idle = record {
  costs_long = k.costs_long;
  limits_long = length-set d.limits row (record { lower = lower; upper = upper }) ∙ k.limits_long;
  chain = k.chain;
  places = k.places;
  idle = k.idle;
}

changes_keep : (p : Program) (d : Data) (cs : List Change) → KeepsFacts p d → AllByRecursion (λ c. is_change (length p.rows) (length p.columns) c ≡ true) cs → AllByRecursion (λ c. change_reach p c ≡ 0 → change_value c ≡ pos 0) cs → KeepsFacts p (fold with_change d cs)
changes_keep p d [] k there idle = k
changes_keep p d (c ∷ cs) k there idle = changes_keep p (with_change d c) cs (change_keeps p d c k there.0 idle.0) there.1 idle.1

pub data_keeps : (run : Run) (s : ℕ) → s < scenarios run → KeepsFacts run.program (data_at run s)
unfolding data_of
data_keeps run s l =
    let cs = (scenario_at run s).changes in
    changes_keep run.program (core_data run.program) cs (core_keeps run)
    (recursion_from_All (λ c. is_change (length run.program.rows) (length run.program.columns) c ≡ true) cs (run.facts.scenarios s no_scenario l).changes)
    (recursion_from_All (λ c. change_reach run.program c ≡ 0 → change_value c ≡ pos 0) cs (run.facts.idle.changes s no_scenario l))

-- the cost of a column in a scenario's problem
pub line_small : (run : Run) (s j : ℕ) → s < scenarios run → j < length run.program.columns → unsigned_abs (number_at (problem_in run s).line j) ≤ 2 ^ 122
line_small run s j l h = by_box (nat_le 1 (box_reach run.program j)) refl
  where
    by_box : (b : Bool) → nat_le 1 (box_reach run.program j) ≡ b → unsigned_abs (number_at (problem_in run s).line j) ≤ 2 ^ 122
    by_box true e =
        let some = some_from_test (box_reach run.program j) e in
        let cost = unsigned_abs (number_at (problem_in run s).line j) in
        let same : cost ≤ cost = omega arith in
        let wide = mul-le-mul same some in
        omega (arith, wide, size_below-part (length run.program.columns) (line_part run s) j h, line_parts_le run s l, span_small run s l)
    by_box false e =
        let none = none_from_test (box_reach run.program j) e in
        let costs = (data_at run s).costs in
        let free = (data_keeps run s l).idle j none in
        let zero : number_at (problem_in run s).line j ≡ pos 0 = times_at (factor_of run s) costs j ∙ ap (λ z. factor_of run s *ℤ z) free ∙ *ℤ-zero (factor_of run s) in
        let nothing : unsigned_abs (number_at (problem_in run s).line j) ≡ 0 = ap unsigned_abs zero in
        omega arith

-- the cost of a column times the factor fits
pub cost_fits : (run : Run) (s j : ℕ) → s < scenarios run → j < length run.program.columns → FitsSigned w128 (factor_of run s *ℤ number_at (data_at run s).costs j)
cost_fits run s j l h =
    let costs = (data_at run s).costs in
    fits_from_abs (factor_of run s *ℤ number_at costs j) (omega (arith, ap unsigned_abs (times_at (factor_of run s) costs j), line_small run s j l h))

pub costs_fit : (run : Run) (s : ℕ) → s < scenarios run → All (λ cost. FitsSigned w128 (factor_of run s *ℤ cost)) (data_at run s).costs
costs_fit run s l k d h =
    let P : ℤ → Type 0 = λ z. FitsSigned w128 (factor_of run s *ℤ z) in
    let long = (data_keeps run s l).costs_long in
    subst P (get_or_default (data_at run s).costs k (pos 0) d h) (cost_fits run s k l (omega arith))

-- the problem of a scenario is one that fits its type
pub boxed_is : (run : Run) (s : ℕ) → s < scenarios run → IsBoxed (problem_in run s).columns (problem_in run s).rows (problem_in run s).entries (problem_in run s).constant (problem_in run s).line (problem_in run s).square
boxed_is run s l =
    let d = data_at run s in
    let keeps = data_keeps run s l in
    let columns = length-map run.program.columns side_of in
    let costs = keeps.costs_long in
    let rows = keeps.limits_long in
    record {
      lines = omega (arith, length-map d.costs (λ cost. factor_of run s *ℤ cost), columns, costs);
      squares = omega (arith, length-map d.costs (λ cost. pos 0), columns, costs);
      filled = All-map (λ (side : Side). side.lower ≤ℤ side.upper) side_of run.program.columns (λ k e h. (run.facts.stages.columns k e h).filled);
      convex = All-map (λ q. pos 0 ≤ℤ q) (λ cost. pos 0) d.costs (λ k e h. omega (arith, ints));
      places = λ k e h. let place = keeps.places k e h in let row = place.0 in let column = place.1 in (omega (arith, rows), omega (arith, columns));
      ascending = chain_at d.entries keeps.chain;
      value_fits = value_fits run s l;
      rows_fit = λ i h. rows_fit run s i l h;
    }
