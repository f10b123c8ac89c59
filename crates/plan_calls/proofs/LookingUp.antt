-- The cost of a column, the limits of a row and the core's entry of a place, looked up in a loop.

use Rattle.std.proofs.Common.{arith, refl, sym, ap, ◌∙◌, ◌≡◌, ℕ, zero, suc, ◌+◌, ◌<◌, ◌==◌, nat_lt, Bool, true, false, List, [], ◌∷◌, length, get_or, set, take, ℤ, pos, if◌then◌else◌}
use Rattle.std.specs.Prelude.{find, Some, None}
use Rattle.std.specs.List.{AllByRecursion, fold}
use Rattle.std.specs.Option.{option_or}
use Rattle.std.proofs.lemmas.List.{get_or-map, get_or-set_other, get_or-set_same, length-map, length-set, take_more}
use Rattle.std.proofs.lemmas.List.Elements.{recursion_from_All}
use Rattle.std.proofs.lemmas.List.Folds.{find-append}
use Rattle.std.proofs.lemmas.List.Sums.{fold_more}
use Rattle.base_words.specs.Sums.{number_at}
use Rattle.base_words.proofs.Comparisons.{both_left}
use Rattle.base_words.proofs.NumberTests.{less_from_test, same_from_test}
use Rattle.boxed_problem.specs.BoxedFacts.{limits_at, no_limits}
use Rattle.boxed_problem.specs.declared.parts.Entry.{Entry}
use Rattle.boxed_problem.specs.declared.parts.Limits.{Limits as BothLimits}
use Rattle.sp_model.specs.Changes.{Data, core_data, data_of, limits_of, with_change}
use Rattle.sp_model.specs.RunFacts.{are_limits, is_change}
use Rattle.sp_model.specs.Plans.{no_column}
use Rattle.sp_model.specs.Problems.{data_at, no_scenario, scenario_at, scenarios}
use Rattle.sp_model.specs.Values.{is_cell}
use Rattle.sp_model.specs.declared.program.Change.{Change}
use Rattle.sp_model.specs.declared.program.Change.TheVariants.{Cost, Cell, Limits}
use Rattle.sp_model.specs.declared.program.Column.{Column}
use Rattle.sp_model.specs.declared.run.Run.{Run}
use Rattle.plan_calls.specs.LookUps.{cost_with, limits_with}

other_test : (a b : ℕ) → (a == b) ≡ false → b ≡ a → ⊥
other_test a b h same = let other : (a == b) ≡ true = grind arith in absurd (let x = sym other ∙ h in cc)

-- what stands at a place of a list behind a write
read_at : {X : Type 0} (xs : List X) (i j : ℕ) (x d : X) → i < length xs → get_or (set xs i x) j d ≡ (if i == j then x else get_or xs j d)
read_at xs i j x d l = by_place (i == j) refl
  where
    by_place : (t : Bool) → (i == j) ≡ t → get_or (set xs i x) j d ≡ (if t then x else get_or xs j d)
    by_place true e = ap (λ k. get_or (set xs i x) k d) (sym (same_from_test i j e)) ∙ get_or-set_same xs i x d l
    by_place false e = get_or-set_other xs i j x d (other_test i j e)

cost_folds : (d : Data) (rows columns j : ℕ) (cs : List Change) → length d.costs ≡ columns → AllByRecursion (λ c. is_change rows columns c ≡ true) cs → fold (cost_with j) (number_at d.costs j) cs ≡ number_at (fold with_change d cs).costs j
cost_folds d rows columns j [] long h = refl
cost_folds d rows columns j (Cost column value ∷ cs) long h =
    let there : column < columns = less_from_test column columns h.0 in
    let read = read_at d.costs column j value (pos 0) (omega (arith, long, there)) in
    ap (λ v. fold (cost_with j) v cs) (sym read) ∙ cost_folds (with_change d (Cost column value)) rows columns j cs (length-set d.costs column value ∙ long) h.1
cost_folds d rows columns j (Cell row column value ∷ cs) long h = cost_folds (with_change d (Cell row column value)) rows columns j cs long h.1
cost_folds d rows columns j (Limits row lower upper ∷ cs) long h = cost_folds (with_change d (Limits row lower upper)) rows columns j cs long h.1

-- the cost of a column in a scenario
pub cost_is : (run : Run) (s j : ℕ) → s < scenarios run → j < length run.program.columns → fold (cost_with j) (get_or run.program.columns j no_column).cost (scenario_at run s).changes ≡ number_at (data_at run s).costs j
unfolding data_of
cost_is run s j there l =
    let p = run.program in
    let cs = (scenario_at run s).changes in
    let core = core_data p in
    let all = recursion_from_All (λ c. is_change (length p.rows) (length p.columns) c ≡ true) cs (run.facts.scenarios s no_scenario there).changes in
    let first = get_or-map (λ (column : Column). column.cost) p.columns j no_column (pos 0) l in
    ap (λ v. fold (cost_with j) v cs) (sym first) ∙ cost_folds core (length p.rows) (length p.columns) j cs (length-map p.columns (λ (column : Column). column.cost)) all

limits_folds : (d : Data) (rows columns i : ℕ) (cs : List Change) → length d.limits ≡ rows → AllByRecursion (λ c. is_change rows columns c ≡ true) cs → fold (limits_with i) (limits_at d.limits i) cs ≡ limits_at (fold with_change d cs).limits i
limits_folds d rows columns i [] long h = refl
limits_folds d rows columns i (Cost column value ∷ cs) long h = limits_folds (with_change d (Cost column value)) rows columns i cs long h.1
limits_folds d rows columns i (Cell row column value ∷ cs) long h = limits_folds (with_change d (Cell row column value)) rows columns i cs long h.1
limits_folds d rows columns i (Limits row lower upper ∷ cs) long h =
    let new : BothLimits = record { lower = lower; upper = upper } in
    let there : row < rows = less_from_test row rows (both_left (nat_lt row rows) (are_limits lower upper) h.0) in
    let read = read_at d.limits row i new no_limits (omega (arith, long, there)) in
    ap (λ v. fold (limits_with i) v cs) (sym read) ∙ limits_folds (with_change d (Limits row lower upper)) rows columns i cs (length-set d.limits row new ∙ long) h.1

-- the limits of a row in a scenario
pub limits_are : (run : Run) (s i : ℕ) → s < scenarios run → fold (limits_with i) (limits_at (core_data run.program).limits i) (scenario_at run s).changes ≡ limits_at (data_at run s).limits i
unfolding data_of
limits_are run s i there =
    let p = run.program in
    let cs = (scenario_at run s).changes in
    let all = recursion_from_All (λ c. is_change (length p.rows) (length p.columns) c ≡ true) cs (run.facts.scenarios s no_scenario there).changes in
    limits_folds (core_data p) (length p.rows) (length p.columns) i cs (length-map p.rows limits_of) all

-- one change more
pub cost_next : (j : ℕ) (first : ℤ) (cs : List Change) (k : ℕ) (before after : ℤ) → k < length cs → before ≡ fold (cost_with j) first (take k cs) → after ≡ cost_with j before (get_or cs k (Cost 0 (pos 0))) → after ≡ fold (cost_with j) first (take (k + 1) cs)
cost_next j first cs k before after l is step = step ∙ (ap (λ v. cost_with j v (get_or cs k (Cost 0 (pos 0)))) is ∙ sym (fold_more (cost_with j) first cs k (Cost 0 (pos 0)) l))

-- the core's entry of a place: none so far, the first one, and none at all
pub none_more : (es : List Entry) (i j k : ℕ) (d : Entry) → k < length es → find (is_cell i j) (take k es) ≡ None → is_cell i j (get_or es k d) ≡ false → find (is_cell i j) (take (k + 1) es) ≡ None
none_more es i j k d l none other =
    ap (find (is_cell i j)) (take_more es k d l)
    ∙ (find-append (is_cell i j) (take k es) (get_or es k d ∷ [])
    ∙ (ap (λ o. option_or o (find (is_cell i j) (get_or es k d ∷ []))) none
    ∙ ap (λ t. if t then Some (get_or es k d) else None) other))

pub first_is : (es : List Entry) (i j k : ℕ) (d : Entry) → k < length es → find (is_cell i j) (take k es) ≡ None → is_cell i j (get_or es k d) ≡ true → find (is_cell i j) es ≡ Some (get_or es k d)
first_is [] i j k d l none own = absurd (omega (arith, l))
first_is (f ∷ fs) i j zero d l none own = ap (λ t. if t then Some f else find (is_cell i j) fs) own
first_is (f ∷ fs) i j (suc k) d l none own = by_test (is_cell i j f) refl none (λ q. first_is fs i j k d (omega (arith, l)) q own)
  where
    by_test : (t : Bool) → is_cell i j f ≡ t → (if t then Some f else find (is_cell i j) (take k fs)) ≡ None → (find (is_cell i j) (take k fs) ≡ None → find (is_cell i j) fs ≡ Some (get_or fs k d)) → find (is_cell i j) (f ∷ fs) ≡ Some (get_or fs k d)
    by_test true e q r = absurd (let x = q in cc)
    by_test false e q r = ap (λ t. if t then Some f else find (is_cell i j) fs) e ∙ r q
