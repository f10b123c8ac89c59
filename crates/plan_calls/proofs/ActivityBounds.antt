-- No sum leaves 128 bits on the way from the core's activity of a row to that of a scenario.

use Rattle.std.proofs.Common.{arith, refl, ap, ◌≡◌, ℕ, ◌+◌, ◌*◌, ◌^◌, ◌<◌, ◌≤◌, ◌==◌, ◌&&◌, nat_lt, Bool, true, false, List, [], ◌∷◌, length, get_or, take, ℤ, pos, ◌+ℤ◌, ◌-ℤ◌, ◌*ℤ◌, unsigned_abs, FitsSigned, if◌then◌else◌}
use Rattle.std.specs.Int.{w128}
use Rattle.std.specs.List.{sum_by}
use Rattle.std.proofs.lemmas.Int.{ints, unsigned_abs-mul}
use Rattle.std.proofs.lemmas.List.{length-map, take_all}
use Rattle.std.proofs.lemmas.List.Sums.{get_or-le-sum_by, sum_by-cons, sum_by-take-le}
use Rattle.std.proofs.Math.Nat.{mul-le-mul_left}
use Rattle.base_words.specs.ListSums.{sum_z}
use Rattle.base_words.specs.Sums.{number_at}
use Rattle.base_words.proofs.Comparisons.{both_right}
use Rattle.base_words.proofs.ListSums.{sum_z-more}
use Rattle.base_words.proofs.Magnitudes.{abs-add, fits_from_abs, abs-less}
use Rattle.base_words.proofs.SumBounds.{fold-abs_all}
use Rattle.boxed_problem.specs.BoxedFacts.{entry_size, no_entry}
use Rattle.boxed_problem.specs.Points.{InBox}
use Rattle.boxed_problem.specs.Rows.{activity, activity_part}
use Rattle.boxed_problem.specs.Sides.{reach, side_at}
use Rattle.boxed_problem.specs.declared.parts.Entry.{Entry}
use Rattle.boxed_problem.proofs.Magnitudes.{activity_fits, activity_part-size, entry_within, reach_bounds}
use Rattle.sp_model.specs.Changes.{core_data, data_of, limits_of, side_of, sides}
use Rattle.sp_model.specs.RunFacts.{is_change}
use Rattle.sp_model.specs.Problems.{data_at, no_scenario, scenario_at, scenarios}
use Rattle.sp_model.specs.declared.program.Change.{Change}
use Rattle.sp_model.specs.declared.program.Change.TheVariants.{Cost, Cell, Limits}
use Rattle.sp_model.specs.declared.program.Program.{Program}
use Rattle.sp_model.specs.declared.run.Run.{Run}
use Rattle.sp_model.proofs.Bounds.{reach_parts, rows_fit}
use Rattle.sp_model.proofs.DataFacts.{data_keeps}
use Rattle.sp_model.proofs.EntryOrder.{chain_from}
use Rattle.sp_model.proofs.ProgramReach.{core_rows_le}
use Rattle.reach_core.proofs.Balance.{apart_from, balance, given, taken, taken_there}
use Rattle.reach_core.proofs.Within.{sum_le}
use Rattle.plan_calls.specs.Moves.{IsSmallMove, IsSmallPart, cell, entry_in, move_of}

-- the sizes of the core's entries in a row, and of a scenario's
core_row : (run : Run) (i : ℕ) → i < length run.program.rows → sum_by (entry_size (sides run.program) i) run.program.entries ≤ 2 ^ 120
core_row run i l =
    let p = run.program in
    let own = sum_le p (core_data p) i (omega (arith, l, length-map p.rows limits_of)) in
    let limit = (reach_parts run).3 in
    omega (arith, own, core_rows_le p, limit)

scenario_row : (run : Run) (s i : ℕ) → s < scenarios run → i < length run.program.rows → sum_by (entry_size (sides run.program) i) (data_at run s).entries ≤ 2 ^ 122
scenario_row run s i there l = let long = (data_keeps run s there).limits_long in omega (arith, rows_fit run s i there (omega (arith, l, long)))

-- the sizes of what all changes of a scenario take from a row and give to it
changes_row : (run : Run) (s i : ℕ) → s < scenarios run → i < length run.program.rows →
    (sum_by (taken run.program i run.program.entries) (scenario_at run s).changes ≤ 2 ^ 120) × (sum_by (given run.program i) (scenario_at run s).changes ≤ 2 ^ 122)
unfolding data_of
changes_row run s i there l =
    let p = run.program in
    let cs = (scenario_at run s).changes in
    let chain = chain_from p.entries run.facts.ascending in
    let apart = apart_from cs (run.facts.scenarios s no_scenario there).apart in
    let before = taken_there p i (core_data p) cs chain apart in
    let even = balance p i (core_data p) cs chain apart in
    (omega (arith, before, core_row run i l), omega (arith, before, even, scenario_row run s i there l))

-- an entry of a small size has a small part at each point of the box
pub part_small : (p : Program) (x : List ℤ) (i : ℕ) (e : Entry) → InBox (sides p) x → e.column < length p.columns → entry_size (sides p) i e ≤ 2 ^ 122 → IsSmallPart x i e
part_small p x i e inside there small =
    let columns = length-map p.columns side_of in
    let long = inside.long in (
      omega (arith, there, columns, long),
      λ same.
          let test : (e.row == i) ≡ true = grind arith in
          let size : entry_size (sides p) i e ≡ unsigned_abs e.value * reach (side_at (sides p) e.column) = ap (λ t. if t then unsigned_abs e.value * reach (side_at (sides p) e.column) else 0) test in
          omega (arith, size, small, mul-le-mul_left (unsigned_abs e.value) (reach_bounds (sides p) x e.column inside (omega (arith, there, columns)))),
    )

-- each entry of the core
pub entry_small : (run : Run) (x : List ℤ) (i k : ℕ) → InBox (sides run.program) x → i < length run.program.rows → k < length run.program.entries → IsSmallPart x i (get_or run.program.entries k no_entry)
entry_small run x i k inside row l =
    let p = run.program in
    let within = core_row run i row in
    part_small p x i (get_or p.entries k no_entry) inside (run.facts.places k no_entry l).1 (entry_within (sides p) p.entries i k no_entry l (omega (arith, within)))

column_there : (n m row column : ℕ) → (nat_lt row n && nat_lt column m) ≡ true → column < m
column_there n m row column t = let h = both_right (nat_lt row n) (nat_lt column m) t in grind arith

-- a change whose parts are of a small size
move_small : (p : Program) (x : List ℤ) (i : ℕ) (c : Change) → InBox (sides p) x → is_change (length p.rows) (length p.columns) c ≡ true → given p i c ≤ 2 ^ 122 → taken p i p.entries c ≤ 2 ^ 122 → IsSmallMove (core_data p) x i c
move_small p x i (Cost column value) inside there new old = tt
move_small p x i (Cell row column value) inside there new old =
    let column_is = column_there (length p.rows) (length p.columns) row column there in
    (part_small p x i (cell row column value) inside column_is new, part_small p x i (entry_in (core_data p) row column) inside column_is old)
move_small p x i (Limits row lower upper) inside there new old = tt

-- each change of a scenario
pub change_small : (run : Run) (s i k : ℕ) (x : List ℤ) (d : Change) → s < scenarios run → i < length run.program.rows → InBox (sides run.program) x → k < length (scenario_at run s).changes → IsSmallMove (core_data run.program) x i (get_or (scenario_at run s).changes k d)
change_small run s i k x d there row inside l =
    let p = run.program in
    let cs = (scenario_at run s).changes in
    let sizes = changes_row run s i there row in
    let low = sizes.0 in
    let high = sizes.1 in
    move_small p x i (get_or cs k d) inside ((run.facts.scenarios s no_scenario there).changes k d l)
    (omega (arith, get_or-le-sum_by (given p i) cs k d l, high))
    (omega (arith, get_or-le-sum_by (taken p i p.entries) cs k d l, low))

-- the magnitude of a change's move
move_abs : (p : Program) (x : List ℤ) (i : ℕ) (c : Change) → InBox (sides p) x → is_change (length p.rows) (length p.columns) c ≡ true → unsigned_abs (move_of (core_data p) x i c) ≤ given p i c + taken p i p.entries c
move_abs p x i (Cost column value) inside there = omega (arith, ints)
move_abs p x i (Cell row column value) inside there =
    let new = cell row column value in
    let old = entry_in (core_data p) row column in
    let columns = length-map p.columns side_of in
    let column_is = column_there (length p.rows) (length p.columns) row column there in
    omega (arith, abs-less (activity_part x i new) (activity_part x i old), activity_part-size (sides p) x i new inside (omega (arith, column_is, columns)), activity_part-size (sides p) x i old inside (omega (arith, column_is, columns)))
move_abs p x i (Limits row lower upper) inside there = omega (arith, ints)

sizes_add : (f g : Change → ℕ) (cs : List Change) → sum_by (λ c. f c + g c) cs ≡ sum_by f cs + sum_by g cs
sizes_add f g [] = omega arith
sizes_add f g (c ∷ cs) = omega (arith, sizes_add f g cs, sum_by-cons (λ e. f e + g e) c cs, sum_by-cons f c cs, sum_by-cons g c cs)

-- the core's activity, moved by the first changes
moved_small : (run : Run) (s i k : ℕ) (x : List ℤ) → s < scenarios run → i < length run.program.rows → InBox (sides run.program) x → k ≤ length (scenario_at run s).changes →
    unsigned_abs (activity run.program.entries x i +ℤ sum_z (move_of (core_data run.program) x i) (take k (scenario_at run s).changes)) ≤ 2 ^ 124
moved_small run s i k x there row inside l =
    let p = run.program in
    let es = p.entries in
    let cs = (scenario_at run s).changes in
    let columns = length-map p.columns side_of in
    let size = entry_size (sides p) i in
    let both : Change → ℕ = λ c. given p i c + taken p i es c in
    let core = fold-abs_all (activity_part x i) size no_entry es (length es) (λ n m. activity_part-size (sides p) x i (get_or es n no_entry) inside (let place = (run.facts.places n no_entry m).1 in omega (arith, place, columns))) (omega arith) in
    let whole = take_all (length es) es (omega arith) in
    let core_abs = ap (λ (fs : List Entry). unsigned_abs (activity fs x i)) whole in
    let core_size = ap (sum_by size) whole in
    let d = Cost 0 (pos 0) in
    let moves = fold-abs_all (move_of (core_data p) x i) both d cs k (λ n m. move_abs p x i (get_or cs n d) inside ((run.facts.scenarios s no_scenario there).changes n d m)) l in
    let sizes = changes_row run s i there row in
    let low = sizes.0 in
    let high = sizes.1 in
    omega (arith, abs-add (activity es x i) (sum_z (move_of (core_data p) x i) (take k cs)), core, core_abs, core_size, core_row run i row, moves, sum_by-take-le both cs k, sizes_add (given p i) (taken p i es) cs, low, high)

-- one change more
pub moved_next : (f : Change → ℤ) (cs : List Change) (k : ℕ) (d : Change) (a s m : ℤ) → k < length cs → s ≡ (a +ℤ sum_z f (take k cs)) → m ≡ f (get_or cs k d) → (s +ℤ m) ≡ (a +ℤ sum_z f (take (k + 1) cs))
moved_next f cs k d a s m l e q = omega (arith, ints, e, q, sum_z-more f cs k d l)

pub moved_fits : (run : Run) (s i k : ℕ) (x : List ℤ) → s < scenarios run → i < length run.program.rows → InBox (sides run.program) x → k ≤ length (scenario_at run s).changes →
    FitsSigned w128 (activity run.program.entries x i +ℤ sum_z (move_of (core_data run.program) x i) (take k (scenario_at run s).changes))
moved_fits run s i k x there row inside l =
    fits_from_abs (activity run.program.entries x i +ℤ sum_z (move_of (core_data run.program) x i) (take k (scenario_at run s).changes)) (omega (arith, moved_small run s i k x there row inside l))

-- the part of an entry that is small
small_abs : (x : List ℤ) (i : ℕ) (e : Entry) → IsSmallPart x i e → unsigned_abs (activity_part x i e) ≤ 2 ^ 122
small_abs x i e small = by_test (e.row == i) refl
  where
    by_test : (t : Bool) → (e.row == i) ≡ t → unsigned_abs (if t then e.value *ℤ number_at x e.column else pos 0) ≤ 2 ^ 122
    by_test true h = let same : e.row ≡ i = grind arith in let own = small.1 same in omega (arith, own, unsigned_abs-mul e.value (number_at x e.column))
    by_test false h = omega (arith, ints)

-- two such parts one from another
pub minus_fits : (x : List ℤ) (i : ℕ) (e f : Entry) → IsSmallPart x i e → IsSmallPart x i f → FitsSigned w128 (activity_part x i e -ℤ activity_part x i f)
minus_fits x i e f h k = fits_from_abs (activity_part x i e -ℤ activity_part x i f) (omega (arith, abs-less (activity_part x i e) (activity_part x i f), small_abs x i e h, small_abs x i f k))

-- an entry of another row has no part
pub other_row : (x : List ℤ) (i row column : ℕ) (value : ℤ) (old : ℤ) → (row == i) ≡ false → pos 0 ≡ (activity_part x i (cell row column value) -ℤ activity_part x i (cell row column old))
other_row x i row column value old h =
    let new = ap (λ t. if t then value *ℤ number_at x column else pos 0) h in
    let before = ap (λ t. if t then old *ℤ number_at x column else pos 0) h in
    omega (arith, ints, new, before)

-- the core's activity by its first entries
pub core_fits : (run : Run) (i k : ℕ) (x : List ℤ) → i < length run.program.rows → InBox (sides run.program) x → k ≤ length run.program.entries → FitsSigned w128 (activity (take k run.program.entries) x i)
core_fits run i k x row inside l =
    let p = run.program in
    let columns = length-map p.columns side_of in
    let within = core_row run i row in
    activity_fits (sides p) p.entries x i k no_entry inside (λ n d m. let place = (run.facts.places n d m).1 in omega (arith, place, columns)) (omega (arith, within)) l
