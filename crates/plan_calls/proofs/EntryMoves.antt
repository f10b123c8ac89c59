-- The activity of a row in a scenario is the core's, moved by each change.

use Rattle.std.proofs.Common.{arith, refl, sym, ap, ◌∙◌, ◌≡◌, ℕ, ◌<◌, ◌==◌, Bool, true, false, List, [], ◌∷◌, ℤ, pos, ◌+ℤ◌, ◌-ℤ◌, ◌*ℤ◌, if◌then◌else◌}
use Rattle.std.specs.Prelude.{find, Option, Some, None}
use Rattle.std.specs.List.{AllByRecursion, fold}
use Rattle.std.proofs.lemmas.Int.{ints}
use Rattle.base_words.specs.ListSums.{sum_z}
use Rattle.base_words.specs.Sums.{number_at}
use Rattle.base_words.proofs.Comparisons.{both_left, both_right}
use Rattle.base_words.proofs.ListSums.{sum_z-cons}
use Rattle.base_words.proofs.Products.{zero_times}
use Rattle.base_words.proofs.NumberTests.{same_from_test}
use Rattle.boxed_problem.specs.Rows.{activity, activity_part}
use Rattle.boxed_problem.specs.declared.parts.Entry.{Entry}
use Rattle.sp_model.specs.Changes.{Data, core_data, data_of, is_at, is_before, put_entry, with_change}
use Rattle.sp_model.specs.RunFacts.{is_same_place}
use Rattle.sp_model.specs.Problems.{data_at, no_scenario, scenario_at, scenarios}
use Rattle.sp_model.specs.Values.{is_cell}
use Rattle.sp_model.specs.declared.program.Change.{Change}
use Rattle.sp_model.specs.declared.program.Change.TheVariants.{Cost, Cell, Limits}
use Rattle.sp_model.specs.declared.run.Run.{Run}
use Rattle.sp_model.proofs.EntryOrder.{IsChain, after_is, chain_from, change_chain, put_behind, put_front, put_over, swapped}
use Rattle.sp_model.proofs.PlaceValues.{before_other, find_behind, find_head, put_other}
use Rattle.sp_model.proofs.Putting.{chain_tail}
use Rattle.reach_core.proofs.Balance.{AreApart, apart_from}
use Rattle.reach_core.proofs.Finding.{found_passes, none_behind, value_of}
use Rattle.plan_calls.specs.Moves.{cell, move_of}

-- the part of what was found
abbrev found : (Entry → ℤ) → Option Entry → ℤ
found w None = pos 0
found w (Some f) = w f

-- an entry put in its place in the order takes what stood there
put_moves : (w : Entry → ℤ) (e : Entry) (es : List Entry) → IsChain es → (sum_z w (put_entry e es) +ℤ found w (find (is_cell e.row e.column) es)) ≡ (sum_z w es +ℤ w e)
put_moves w e [] c = omega (arith, ints, sum_z-cons w e [])
put_moves w e (f ∷ fs) c = by_before (is_before f e) refl (is_at f e) refl (put_moves w e fs (chain_tail f fs c))
  where
    by_before : (t : Bool) → is_before f e ≡ t → (u : Bool) → is_at f e ≡ u → (sum_z w (put_entry e fs) +ℤ found w (find (is_cell e.row e.column) fs)) ≡ (sum_z w fs +ℤ w e) → (sum_z w (put_entry e (f ∷ fs)) +ℤ found w (find (is_cell e.row e.column) (f ∷ fs))) ≡ (sum_z w (f ∷ fs) +ℤ w e)
    by_before true b u a r =
        let put : sum_z w (put_entry e (f ∷ fs)) ≡ w f +ℤ sum_z w (put_entry e fs) = ap (sum_z w) (put_behind e f fs b) ∙ sum_z-cons w f (put_entry e fs) in
        let old : found w (find (is_cell e.row e.column) (f ∷ fs)) ≡ found w (find (is_cell e.row e.column) fs) = ap (found w) (find_behind (is_cell e.row e.column) f fs (before_other e f b)) in
        omega (arith, ints, put, old, r, sum_z-cons w f fs)
    by_before false b true a r =
        let put : sum_z w (put_entry e (f ∷ fs)) ≡ w e +ℤ sum_z w fs = ap (sum_z w) (put_over e f fs b a) ∙ sum_z-cons w e fs in
        let old : found w (find (is_cell e.row e.column) (f ∷ fs)) ≡ w f = ap (found w) (find_head (is_cell e.row e.column) f fs a) in
        omega (arith, ints, put, old, sum_z-cons w f fs)
    by_before false b false a r =
        let put : sum_z w (put_entry e (f ∷ fs)) ≡ w e +ℤ sum_z w (f ∷ fs) = ap (sum_z w) (put_front e f fs b a) ∙ sum_z-cons w e (f ∷ fs) in
        let old : found w (find (is_cell e.row e.column) (f ∷ fs)) ≡ pos 0 = ap (found w) (none_behind e f fs c (after_is f e b a)) in
        omega (arith, ints, put, old)

-- a part of the value 0
idle_part : (t : Bool) (a : ℤ) → (if t then pos 0 *ℤ a else pos 0) ≡ pos 0
idle_part true a = zero_times a
idle_part false a = refl

-- the part of what is found at a place
found_part : (x : List ℤ) (i row column : ℕ) (es : List Entry) → found (activity_part x i) (find (is_cell row column) es) ≡ activity_part x i (cell row column (value_of (find (is_cell row column) es)))
found_part x i row column es = by_found (find (is_cell row column) es) refl
  where
    by_found : (o : Option Entry) → find (is_cell row column) es ≡ o → found (activity_part x i) o ≡ activity_part x i (cell row column (value_of o))
    by_found None h = sym (idle_part (row == i) (number_at x column))
    by_found (Some f) h =
        let passes = found_passes (is_cell row column) es f h in
        let at_column = same_from_test f.column column (both_left (f.column == column) (f.row == row) passes) in
        let at_row = same_from_test f.row row (both_right (f.column == column) (f.row == row) passes) in
        ap (λ m. if m == i then f.value *ℤ number_at x f.column else pos 0) at_row ∙ ap (λ m. if row == i then f.value *ℤ number_at x m else pos 0) at_column

moved : (a b c d : ℤ) → (a +ℤ b) ≡ (c +ℤ d) → a ≡ (c +ℤ (d -ℤ b))
moved a b c d h = omega (arith, ints)

-- one change
change_moves : (d : Data) (x : List ℤ) (i : ℕ) (c : Change) → IsChain d.entries → activity (with_change d c).entries x i ≡ (activity d.entries x i +ℤ move_of d x i c)
change_moves d x i (Cost column value) h = omega (arith, ints)
change_moves d x i (Cell row column value) h =
    let e = cell row column value in
    let old = activity_part x i (cell row column (value_of (find (is_cell row column) d.entries))) in
    let put = put_moves (activity_part x i) e d.entries h in
    let same = found_part x i row column d.entries in
    moved (activity (put_entry e d.entries) x i) old (activity d.entries x i) (activity_part x i e) (ap (λ z. activity (put_entry e d.entries) x i +ℤ z) (sym same) ∙ put)
change_moves d x i (Limits row lower upper) h = omega (arith, ints)

-- a change moves by the same after a change of another place
move_kept : (x : List ℤ) (i : ℕ) (d : Data) (c e : Change) → is_same_place c e ≡ false → move_of (with_change d c) x i e ≡ move_of d x i e
move_kept x i d c (Cost column value) h = refl
move_kept x i d c (Limits row lower upper) h = refl
move_kept x i d (Cost column2 value2) (Cell row column value) h = refl
move_kept x i d (Limits row2 lower upper) (Cell row column value) h = refl
move_kept x i d (Cell row2 column2 value2) (Cell row column value) h =
    ap (λ o. activity_part x i (cell row column value) -ℤ activity_part x i (cell row column (value_of o))) (put_other row column (cell row2 column2 value2) d.entries (swapped (row2 == row) (column2 == column) h))

moves_kept : (x : List ℤ) (i : ℕ) (d : Data) (c : Change) (cs : List Change) → AllByRecursion (λ e. is_same_place c e ≡ false) cs → sum_z (move_of (with_change d c) x i) cs ≡ sum_z (move_of d x i) cs
moves_kept x i d c [] h = refl
moves_kept x i d c (e ∷ cs) h =
    omega (arith, ints, sum_z-cons (move_of (with_change d c) x i) e cs, sum_z-cons (move_of d x i) e cs, move_kept x i d c e h.0, moves_kept x i d c cs h.1)

-- all changes
all_moves : (x : List ℤ) (i : ℕ) (d : Data) (cs : List Change) → IsChain d.entries → AreApart cs → activity (fold with_change d cs).entries x i ≡ (activity d.entries x i +ℤ sum_z (move_of d x i) cs)
all_moves x i d [] chain apart = omega (arith, ints)
all_moves x i d (c ∷ cs) chain apart =
    let first = change_moves d x i c chain in
    let rest = all_moves x i (with_change d c) cs (change_chain d c chain) apart.1 in
    let same = moves_kept x i d c cs apart.0 in
    omega (arith, ints, first, rest, same, sum_z-cons (move_of d x i) c cs)

-- the activity of a row in a scenario
pub activity_moves : (run : Run) (s i : ℕ) (x : List ℤ) → s < scenarios run → activity (data_at run s).entries x i ≡ (activity run.program.entries x i +ℤ sum_z (move_of (core_data run.program) x i) (scenario_at run s).changes)
unfolding data_of
activity_moves run s i x l =
    all_moves x i (core_data run.program) (scenario_at run s).changes (chain_from run.program.entries run.facts.ascending) (apart_from (scenario_at run s).changes (run.facts.scenarios s no_scenario l).apart)
