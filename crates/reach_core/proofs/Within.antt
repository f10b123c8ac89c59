-- No number of a program is above its reach.
use Rattle.std.proofs.Common.{arith, refl, sym, ap, subst, ◌∙◌, ◌≡◌, ℕ, zero, suc, ◌+◌, ◌*◌, ◌<◌, ◌≤◌, ◌==◌, max, nat_le, nat_lt, Bool, true, false, List, [], ◌∷◌, map, length, get_or, ℤ, pos, unsigned_abs, if◌then◌else◌, Option, Some, None}
use Rattle.std.specs.Prelude.{find, option_map, unwrap_or}
use Rattle.std.specs.List.{All, range_with_len, sum_by}
use Rattle.std.proofs.lemmas.List.{get_or-map, get_or_default, length-map}
use Rattle.std.proofs.lemmas.List.Sums.{get_or-le-sum_by, sum_by-cons}
use Rattle.std.proofs.Math.Nat.{mul-le-mul}
use Rattle.base_words.specs.Sums.{number_at, size_below}
use Rattle.base_words.proofs.SumBounds.{size_below-part}
use Rattle.boxed_problem.specs.BoxedFacts.{entry_size, limits_at, limits_size, no_limits}
use Rattle.boxed_problem.specs.Sides.{reach, side_at}
use Rattle.boxed_problem.specs.declared.parts.Entry.{Entry}
use Rattle.sp_model.specs.Changes.{Data, core_data, data_of, limits_of, sides}
use Rattle.sp_model.specs.RunFacts.{are_limits, change_reach, change_value, is_change}
use Rattle.sp_model.specs.Problems.{no_scenario}
use Rattle.sp_model.specs.Reaching.{box_reach, cost_reach, data_reach, greatest, rows_reach, run_reach}
use Rattle.sp_model.specs.Values.{Has, cell_in, is_cell}
use Rattle.sp_model.specs.declared.program.Change.{Change}
use Rattle.sp_model.specs.declared.program.Change.TheVariants.{Cost, Cell, Limits}
use Rattle.sp_model.specs.declared.program.Column.{Column}
use Rattle.sp_model.specs.declared.program.Options.{Options}
use Rattle.sp_model.specs.declared.program.Program.{Program}
use Rattle.sp_model.specs.declared.program.Row.{Row}
use Rattle.sp_model.specs.declared.program.Scenario.{Scenario}
use Rattle.sp_model.proofs.Bounds.{abs_some}
use Rattle.sp_model.proofs.PlaceValues.{given}
use Rattle.sp_model.proofs.ProgramReach.{core_cost_le, core_rows_le, parts_within, row_le, scenario_cost_le, scenario_rows_le}
use Rattle.base_words.proofs.Comparisons.{both_left, both_right}
use Rattle.reach_core.proofs.Finding.{found_passes}
use Rattle.reach_core.specs.Within.{HasReach, NumbersWithin, change_size}
use Rattle.reach_core.proofs.Data.{data_limits}

-- a number times factors of at least 1
times_some : (n a : ℕ) → 1 ≤ a → n ≤ a * n
times_some n a h = let same : n ≤ n = omega arith in omega (arith, mul-le-mul h same)

-- a number that is 0 where the factor is
with_factor : (z : ℤ) (m : ℕ) → (m ≡ 0 → z ≡ pos 0) → unsigned_abs z ≤ unsigned_abs z * m
with_factor z m h = by_test (nat_le 1 m) refl
  where
    by_test : (t : Bool) → nat_le 1 m ≡ t → unsigned_abs z ≤ unsigned_abs z * m
    by_test true e = let some : 1 ≤ m = grind arith in let same : unsigned_abs z ≤ unsigned_abs z = omega arith in omega (arith, mul-le-mul same some)
    by_test false e = let none : m ≡ 0 = grind arith in omega (arith, ap unsigned_abs (h none))

-- the sum that the line has as a factor
in_line : (p : Program) (o : Options) (total : ℤ) (nonleaf : ℕ) → HasReach p o total → unsigned_abs p.constant + size_below (length p.columns) (λ j. cost_reach p j * box_reach p j) ≤ run_reach p o total nonleaf
in_line p o total nonleaf facts =
    let sum = unsigned_abs p.constant + size_below (length p.columns) (λ j. cost_reach p j * box_reach p j) in
    let scale = abs_some o.scale facts.scale in
    let weight = abs_some total facts.total_some in
    let factor : 1 ≤ unsigned_abs o.scale * unsigned_abs total = mul-le-mul scale weight in
    let part = (parts_within p o total nonleaf).0 in
    omega (arith, times_some sum (unsigned_abs o.scale * unsigned_abs total) factor, part)

-- a cost that is at most the greatest one of its column
cost_within : (p : Program) (o : Options) (total : ℤ) (nonleaf j : ℕ) (z : ℤ) → HasReach p o total → j < length p.columns → unsigned_abs z ≤ cost_reach p j → (box_reach p j ≡ 0 → z ≡ pos 0) → unsigned_abs z ≤ run_reach p o total nonleaf
cost_within p o total nonleaf j z facts lt le idle =
    let same : box_reach p j ≤ box_reach p j = omega arith in
    let product = mul-le-mul le same in
    omega (arith, with_factor z (box_reach p j) idle, product, size_below-part (length p.columns) (λ k. cost_reach p k * box_reach p k) j lt, in_line p o total nonleaf facts)

-- a row of some data
limits_le : (p : Program) (d : Data) (i : ℕ) → i < length d.limits → limits_size (limits_at d.limits i) ≤ data_reach p d
limits_le p d i lt = omega (arith, row_le p d i lt)

pub sum_le : (p : Program) (d : Data) (i : ℕ) → i < length d.limits → sum_by (entry_size (sides p) i) d.entries ≤ data_reach p d
sum_le p d i lt = omega (arith, row_le p d i lt)

-- what is found is an item of the sum
found_le : (q : Entry → Bool) (f : Entry → ℕ) (es : List Entry) (e : Entry) → find q es ≡ Some e → f e ≤ sum_by f es
found_le q f [] e h = absurd (let z = h in cc)
found_le q f (x ∷ es) e h = by_test (q x) refl h (λ g. found_le q f es e g)
  where
    by_test : (t : Bool) → q x ≡ t → (if t then Some x else find q es) ≡ Some e → (find q es ≡ Some e → f e ≤ sum_by f es) → f e ≤ sum_by f (x ∷ es)
    by_test true c g r =
        let same : x ≡ e = ap (λ o. unwrap_or o x) g in
        subst (λ y. f y ≤ sum_by f (x ∷ es)) same (omega (arith, sum_by-cons f x es))
    by_test false c g r = omega (arith, r g, sum_by-cons f x es)

-- an entry of a row
entry_is : (p : Program) (i : ℕ) (e : Entry) → (e.row == i) ≡ true → entry_size (sides p) i e ≡ unsigned_abs e.value * box_reach p e.column
entry_is p i e h = ap (λ t. if t then unsigned_abs e.value * reach (side_at (sides p) e.column) else 0) h

-- the entry at a cell
cell_le : (p : Program) (d : Data) (i j : ℕ) (z : ℤ) → i < length d.limits → cell_in d i j ≡ z → (box_reach p j ≡ 0 → z ≡ pos 0) → unsigned_abs z ≤ data_reach p d
cell_le p d i j z lt at idle = by_found (find (is_cell i j) d.entries) refl at
  where
    by_found : (o : Option Entry) → find (is_cell i j) d.entries ≡ o → unwrap_or (option_map (λ (e : Entry). e.value) o) (pos 0) ≡ z → unsigned_abs z ≤ data_reach p d
    by_found None f g = omega (arith, ap unsigned_abs g)
    by_found (Some e) f g =
        let passes = found_passes (is_cell i j) d.entries e f in
        let column : e.column ≡ j = let t = both_left (e.column == j) (e.row == i) passes in grind arith in
        let row = both_right (e.column == j) (e.row == i) passes in
        let size : entry_size (sides p) i e ≡ unsigned_abs z * box_reach p j = entry_is p i e row ∙ (ap (λ v. unsigned_abs v * box_reach p e.column) g ∙ ap (λ c. unsigned_abs z * box_reach p c) column) in
        omega (arith, with_factor z (box_reach p j) idle, size, found_le (is_cell i j) (entry_size (sides p) i) d.entries e f, sum_le p d i lt)

rows_within : (p : Program) (o : Options) (total : ℤ) (nonleaf : ℕ) → rows_reach p ≤ run_reach p o total nonleaf
rows_within p o total nonleaf = (parts_within p o total nonleaf).3

columns_fit : (p : Program) (o : Options) (total : ℤ) (nonleaf : ℕ) → HasReach p o total → All (λ (c : Column). unsigned_abs c.cost ≤ run_reach p o total nonleaf) p.columns
columns_fit p o total nonleaf facts k c lt =
    let cost = (get_or p.columns k c).cost in
    let at : number_at (core_data p).costs k ≡ cost = get_or-map (λ (column : Column). column.cost) p.columns k c (pos 0) lt in
    cost_within p o total nonleaf k cost facts lt (omega (arith, core_cost_le p k, ap unsigned_abs at)) (facts.idle.costs k c lt)

core_limits_long : (p : Program) → length (core_data p).limits ≡ length p.rows
core_limits_long p = length-map p.rows limits_of

rows_fit : (p : Program) (o : Options) (total : ℤ) (nonleaf : ℕ) → All (λ (r : Row). limits_size (limits_of r) ≤ run_reach p o total nonleaf) p.rows
rows_fit p o total nonleaf k r lt =
    let at : limits_at (core_data p).limits k ≡ limits_of (get_or p.rows k r) = get_or-map limits_of p.rows k r no_limits lt in
    omega (arith, ap limits_size at, limits_le p (core_data p) k (omega (arith, core_limits_long p, lt)), core_rows_le p, rows_within p o total nonleaf)

entries_fit : (p : Program) (o : Options) (total : ℤ) (nonleaf : ℕ) → HasReach p o total → All (λ (e : Entry). unsigned_abs e.value ≤ run_reach p o total nonleaf) p.entries
entries_fit p o total nonleaf facts k e lt =
    let x = get_or p.entries k e in
    let self : (x.row == x.row) ≡ true = grind arith in
    omega (arith, with_factor x.value (box_reach p x.column) (facts.idle.entries k e lt), entry_is p x.row x self, get_or-le-sum_by (entry_size (sides p) x.row) p.entries k e lt, sum_le p (core_data p) x.row (omega (arith, core_limits_long p, (facts.there k e lt).0)), core_rows_le p, rows_within p o total nonleaf)

-- the numbers of a change
change_within : (p : Program) (o : Options) (total : ℤ) (nonleaf s : ℕ) (c : Change) → HasReach p o total → s < length p.scenarios → is_change (length p.rows) (length p.columns) c ≡ true → (change_reach p c ≡ 0 → change_value c ≡ pos 0) → Has (data_of p (get_or p.scenarios s no_scenario)) c → change_size c ≤ run_reach p o total nonleaf
change_within p o total nonleaf s (Cost j z) facts lt there idle has =
    cost_within p o total nonleaf j z facts (let t = there in grind arith) (omega (arith, scenario_cost_le p s j lt, ap unsigned_abs has)) idle
change_within p o total nonleaf s (Cell i j z) facts lt there idle has =
    let d = data_of p (get_or p.scenarios s no_scenario) in
    let row : i < length p.rows = let t = both_left (nat_lt i (length p.rows)) (nat_lt j (length p.columns)) there in grind arith in
    omega (arith, cell_le p d i j z (omega (arith, data_limits p (get_or p.scenarios s no_scenario), row)) has idle, scenario_rows_le p s lt, rows_within p o total nonleaf)
change_within p o total nonleaf s (Limits i lower upper) facts lt there idle has =
    let d = data_of p (get_or p.scenarios s no_scenario) in
    let row : i < length p.rows = let t = both_left (nat_lt i (length p.rows)) (are_limits lower upper) there in grind arith in
    omega (arith, ap limits_size has, limits_le p d i (omega (arith, data_limits p (get_or p.scenarios s no_scenario), row)), scenario_rows_le p s lt, rows_within p o total nonleaf)

changes_fit : (p : Program) (o : Options) (total : ℤ) (nonleaf : ℕ) → HasReach p o total → All (λ (s : Scenario). All (λ c. change_size c ≤ run_reach p o total nonleaf) s.changes) p.scenarios
changes_fit p o total nonleaf facts k s lt i c i_lt =
    let scenario = get_or p.scenarios k s in
    let same : get_or p.scenarios k no_scenario ≡ scenario = get_or_default p.scenarios k no_scenario s lt in
    let P : Scenario → Type 0 = λ t. Has (data_of p t) (get_or scenario.changes i c) in
    change_within p o total nonleaf k (get_or scenario.changes i c) facts lt ((facts.scenarios k s lt).changes i c i_lt) (facts.idle.changes k s lt i c i_lt) (subst P (sym same) (given p scenario (facts.scenarios k s lt) i c i_lt))

pub within : (p : Program) (o : Options) (total : ℤ) (nonleaf : ℕ) → HasReach p o total → NumbersWithin p (run_reach p o total nonleaf)
within p o total nonleaf facts = record {
  columns = columns_fit p o total nonleaf facts;
  rows = rows_fit p o total nonleaf;
  entries = entries_fit p o total nonleaf facts;
  constant = omega (arith, in_line p o total nonleaf facts);
  changes = changes_fit p o total nonleaf facts;
}

-- the sum of the weights
squares : (w : ℕ) → w ≤ w * w
squares zero = omega arith
squares (suc w) = let some : 1 ≤ suc w = omega arith in times_some (suc w) (suc w) some

pub total_within : (p : Program) (o : Options) (total : ℤ) (nonleaf : ℕ) → HasReach p o total → unsigned_abs total ≤ run_reach p o total nonleaf
total_within p o total nonleaf facts =
    let w = unsigned_abs total in
    let most = max 1 (greatest (map (box_reach p) (range_with_len 0 nonleaf))) in
    let rho = abs_some o.rho facts.rho in
    let two : 1 ≤ 2 * unsigned_abs o.rho = omega (arith, rho) in
    let first = times_some (w * w) (2 * unsigned_abs o.rho) two in
    let one : 1 ≤ most = omega arith in
    let same : 2 * unsigned_abs o.rho * (w * w) ≤ 2 * unsigned_abs o.rho * (w * w) = omega arith in
    let second = mul-le-mul same one in
    omega (arith, squares w, first, second, (parts_within p o total nonleaf).2)
