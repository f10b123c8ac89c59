-- The sums, limits and greatest costs of a scenario, changed from those of the core change by change.
use Rattle.std.proofs.Common.{arith, refl, sym, ap, subst, ◌∙◌, ◌≡◌, ℕ, zero, suc, ◌+◌, ◌*◌, ◌-◌, ◌^◌, ◌<◌, ◌≤◌, ◌==◌, max, nat_lt, true, false, ◌&&◌, List, [], ◌∷◌, ◌++◌, length, map, get_or, set, slice_index, if◌then◌else◌, ℤ, pos, unsigned_abs, inl, inr}
use Rattle.std.specs.List.{All, AllByRecursion, fold, range_with_len, sum_by}
use Rattle.std.proofs.lemmas.Bool.{cases_eq, cases_lt}
use Rattle.std.proofs.lemmas.List.{get_or-map, get_or-set_other, get_or-set_same, get_or_default, length-map, length-set}
use Rattle.std.proofs.lemmas.List.Elements.{recursion_from_All}
use Rattle.std.proofs.lemmas.List.Sums.{sum_by-cons}
use Rattle.base_words.specs.Sums.{number_at}
use Rattle.base_words.proofs.Comparisons.{both_left}
use Rattle.boxed_problem.specs.BoxedFacts.{entry_size, limits_at, limits_size, no_limits, row_size}
use Rattle.boxed_problem.specs.Sides.{reach, side_at}
use Rattle.boxed_problem.specs.declared.parts.Limits as boxed
use Rattle.capped_num.specs.Capped.{capped}
use Rattle.sp_model.specs.Changes.{Data, core_data, data_of, limits_of, sides, with_change}
use Rattle.sp_model.specs.RunFacts.{IsScenario, is_change, is_same_place}
use Rattle.sp_model.specs.Reaching.{box_reach, data_reach, greatest}
use Rattle.sp_model.specs.Values.{cell_in}
use Rattle.sp_model.specs.declared.program.Change.{Change}
use Rattle.sp_model.specs.declared.program.Change.TheVariants.{Cost, Cell, Limits}
use Rattle.sp_model.specs.declared.program.Column.{Column}
use Rattle.sp_model.specs.declared.program.Program.{Program}
use Rattle.sp_model.specs.declared.program.Row.{Row}
use Rattle.sp_model.specs.declared.program.Scenario.{Scenario}
use Rattle.sp_model.proofs.EntryOrder.{chain_from}
use Rattle.sp_model.proofs.Lengths.{change_costs}
use Rattle.sp_model.proofs.Sizes.{greatest_le}
use Rattle.reach_core.specs.Changed.{given_by, raised_by, limited_by, taken_by}
use Rattle.reach_core.specs.Greatest.{cost_size, sums_of, tops_of}
use Rattle.reach_core.specs.Places.{AreOrdered}
use Rattle.reach_core.proofs.Balance.{AreApart, apart_from, balance, given, taken, taken_there}
use Rattle.reach_core.proofs.Capped.{greatest_more, greatest_push}
use Rattle.reach_core.proofs.Costs.{tops_long}
use Rattle.reach_core.proofs.Data.{data_limits, row_capped, sums_long, tops_first}
use Rattle.base_words.proofs.Made.{is_made, made_at}
use Rattle.base_words.proofs.NumberTests.{test_from_other, test_from_same}
use Rattle.reach_core.proofs.Within.{sum_le}

-- changes of n rows and m columns
abbrev AreChanges : ℕ → ℕ → List Change → Type 0
AreChanges n m cs = AllByRecursion (λ c. is_change n m c ≡ true) cs

-- the changes of a scenario are of its rows and columns
pub there_at : (p : Program) (s : Scenario) (cs : List Change) (xs : List ℕ) → IsScenario p s → cs ≡ s.changes → length xs ≡ length p.rows → All (λ c. is_change (length xs) (length p.columns) c ≡ true) cs
there_at p s cs xs scenario same long =
    subst (λ (l : List Change). All (λ c. is_change (length xs) (length p.columns) c ≡ true) l) (sym same)
    (subst (λ n. All (λ c. is_change n (length p.columns) c ≡ true) s.changes) (sym long) scenario.changes)

row_there : (n m row column : ℕ) → (nat_lt row n && nat_lt column m) ≡ true → row < n
row_there n m row column t = let h = both_left (nat_lt row n) (nat_lt column m) t in grind arith

-- the size of an entry in its row and in another
own_size : (p : Program) (i row column : ℕ) (z : ℤ) → i ≡ row → entry_size (sides p) i (record { row = row; column = column; value = z }) ≡ unsigned_abs z * box_reach p column
own_size p i row column z h = ap (λ t. if t then unsigned_abs z * reach (side_at (sides p) column) else 0) (test_from_same row i (sym h))

no_size : (p : Program) (i row column : ℕ) (z : ℤ) → (i ≡ row → ⊥) → entry_size (sides p) i (record { row = row; column = column; value = z }) ≡ 0
no_size p i row column z h = ap (λ t. if t then unsigned_abs z * reach (side_at (sides p) column) else 0) (test_from_other row i (λ e. h (sym e)))

-- lengths stay
fold_long : (step : List ℕ → Change → List ℕ) → ((xs : List ℕ) (c : Change) → length (step xs c) ≡ length xs) → (cs : List Change) (xs : List ℕ) → length (fold step xs cs) ≡ length xs
fold_long step h [] xs = refl
fold_long step h (c ∷ cs) xs = fold_long step h cs (step xs c) ∙ h xs c

less_long : (p : Program) (xs : List ℕ) (c : Change) → length (taken_by p xs c) ≡ length xs
less_long p xs (Cost column value) = refl
less_long p xs (Cell row column value) = length-set xs row (get_or xs row 0 - capped (unsigned_abs (cell_in (core_data p) row column) * box_reach p column))
less_long p xs (Limits row lower upper) = refl

give_long : (p : Program) (xs : List ℕ) (c : Change) → length (given_by p xs c) ≡ length xs
give_long p xs (Cost column value) = refl
give_long p xs (Cell row column value) = length-set xs row (capped (get_or xs row 0 + capped (unsigned_abs value * box_reach p column)))
give_long p xs (Limits row lower upper) = refl

limit_long : (xs : List ℕ) (c : Change) → length (limited_by xs c) ≡ length xs
limit_long xs (Cost column value) = refl
limit_long xs (Cell row column value) = refl
limit_long xs (Limits row lower upper) = length-set xs row (limits_size (record { lower = lower; upper = upper }))

cost_long : (xs : List ℕ) (c : Change) → length (raised_by xs c) ≡ length xs
cost_long xs (Cost column value) = length-set xs column (max (get_or xs column 0) (unsigned_abs value))
cost_long xs (Cell row column value) = refl
cost_long xs (Limits row lower upper) = refl

pub rest_long : (p : Program) (cs : List Change) (xs : List ℕ) → length (fold (taken_by p) xs cs) ≡ length xs
rest_long p = fold_long (taken_by p) (less_long p)

pub given_long : (p : Program) (cs : List Change) (xs : List ℕ) → length (fold (given_by p) xs cs) ≡ length xs
given_long p = fold_long (given_by p) (give_long p)

pub limited_long : (cs : List Change) (xs : List ℕ) → length (fold limited_by xs cs) ≡ length xs
limited_long = fold_long limited_by limit_long

pub raised_long : (cs : List Change) (xs : List ℕ) → length (fold raised_by xs cs) ≡ length xs
raised_long = fold_long raised_by cost_long

-- a change takes the core's part from its row
less_one : (p : Program) (xs : List ℕ) (i m : ℕ) (c : Change) → is_change (length xs) m c ≡ true → get_or (taken_by p xs c) i 0 ≡ get_or xs i 0 - capped (taken p i p.entries c)
less_one p xs i m (Cost column value) t = omega arith
less_one p xs i m (Limits row lower upper) t = omega arith
less_one p xs i m (Cell row column value) t =
    let lt = row_there (length xs) m row column t in
    let z = cell_in (core_data p) row column in
    let part : ℕ = unsigned_abs z * box_reach p column in
    let y : ℕ = get_or xs row 0 - capped part in
    elim (cases_eq i row) [
      | inl same ↦ ap (λ k. get_or (set xs row y) k 0) same ∙ (get_or-set_same xs row y 0 lt ∙ (ap (λ k. get_or xs k 0 - capped part) (sym same) ∙ ap (λ n. get_or xs i 0 - capped n) (sym (own_size p i row column z same))))
      | inr other ↦ let none : entry_size (sides p) i (record { row = row; column = column; value = z }) ≡ 0 = no_size p i row column z other in get_or-set_other xs row i y 0 other ∙ (let zero_less : get_or xs i 0 ≡ get_or xs i 0 - capped 0 = omega arith in zero_less ∙ ap (λ n. get_or xs i 0 - capped n) (sym none))
    ]

less_all : (p : Program) (cs : List Change) (xs : List ℕ) (i m : ℕ) → AreChanges (length xs) m cs → get_or (fold (taken_by p) xs cs) i 0 ≡ get_or xs i 0 - sum_by (λ c. capped (taken p i p.entries c)) cs
less_all p [] xs i m t = omega arith
less_all p (c ∷ cs) xs i m t =
    let rest = less_all p cs (taken_by p xs c) i m (subst (λ n. AreChanges n m cs) (sym (less_long p xs c)) t.1) in
    omega (arith, less_one p xs i m c t.0, rest, sum_by-cons (λ e. capped (taken p i p.entries e)) c cs)

-- parts of a sum below the cap are below it
small_parts : (f : Change → ℕ) (cs : List Change) → sum_by f cs < 2 ^ 127 → sum_by (λ c. capped (f c)) cs ≡ sum_by f cs
small_parts f [] h = refl
small_parts f (c ∷ cs) h =
    let all = sum_by-cons f c cs in
    let rest = small_parts f cs (omega (arith, all, h)) in
    omega (arith, all, rest, h, sum_by-cons (λ e. capped (f e)) c cs)

-- and gives its own
give_one : (p : Program) (xs : List ℕ) (i m : ℕ) (c : Change) → is_change (length xs) m c ≡ true → get_or xs i 0 ≤ 2 ^ 127 → get_or (given_by p xs c) i 0 ≡ capped (get_or xs i 0 + given p i c)
give_one p xs i m (Cost column value) t few = omega arith
give_one p xs i m (Limits row lower upper) t few = omega arith
give_one p xs i m (Cell row column value) t few =
    let lt = row_there (length xs) m row column t in
    let part : ℕ = unsigned_abs value * box_reach p column in
    let y : ℕ = capped (get_or xs row 0 + capped part) in
    elim (cases_eq i row) [
      | inl same ↦
          let whole : capped (get_or xs i 0 + capped part) ≡ capped (get_or xs i 0 + part) = omega arith in
          ap (λ k. get_or (set xs row y) k 0) same ∙ (get_or-set_same xs row y 0 lt ∙ (ap (λ k. capped (get_or xs k 0 + capped part)) (sym same) ∙ (whole ∙ ap (λ n. capped (get_or xs i 0 + n)) (sym (own_size p i row column value same)))))
      | inr other ↦
          let none : entry_size (sides p) i (record { row = row; column = column; value = value }) ≡ 0 = no_size p i row column value other in
          let own : get_or xs i 0 ≡ capped (get_or xs i 0 + 0) = omega arith in
          get_or-set_other xs row i y 0 other ∙ (own ∙ ap (λ n. capped (get_or xs i 0 + n)) (sym none))
    ]

give_all : (p : Program) (cs : List Change) (xs : List ℕ) (i m : ℕ) → AreChanges (length xs) m cs → get_or xs i 0 ≤ 2 ^ 127 → get_or (fold (given_by p) xs cs) i 0 ≡ capped (get_or xs i 0 + sum_by (given p i) cs)
give_all p [] xs i m t few = omega arith
give_all p (c ∷ cs) xs i m t few =
    let one = give_one p xs i m c t.0 few in
    let rest = give_all p cs (given_by p xs c) i m (subst (λ n. AreChanges n m cs) (sym (give_long p xs c)) t.1) (omega (arith, one)) in
    omega (arith, one, rest, sum_by-cons (given p i) c cs)

-- limits
map_set : (ls : List boxed.Limits) (i : ℕ) (x : boxed.Limits) → set (map limits_size ls) i (limits_size x) ≡ map limits_size (set ls i x)
map_set [] i x = refl
map_set (l ∷ ls) zero x = refl
map_set (l ∷ ls) (suc i) x = ap (λ t. limits_size l ∷ t) (map_set ls i x)

limits_all : (d : Data) (cs : List Change) → fold limited_by (map limits_size d.limits) cs ≡ map limits_size (fold with_change d cs).limits
limits_all d [] = refl
limits_all d (Cost column value ∷ cs) = limits_all (with_change d (Cost column value)) cs
limits_all d (Cell row column value ∷ cs) = limits_all (with_change d (Cell row column value)) cs
limits_all d (Limits row lower upper ∷ cs) =
    ap (λ xs. fold limited_by xs cs) (map_set d.limits row (record { lower = lower; upper = upper })) ∙ limits_all (with_change d (Limits row lower upper)) cs

core_limits : (rows : List Row) → map (λ (row : Row). limits_size (limits_of row)) rows ≡ map limits_size (map limits_of rows)
core_limits [] = refl
core_limits (r ∷ rs) = ap (λ t. limits_size (limits_of r) ∷ t) (core_limits rs)

limit_at : (ls : List boxed.Limits) (i : ℕ) → i < length ls → get_or (map limits_size ls) i 0 ≡ limits_size (limits_at ls i)
limit_at ls i lt = get_or-map limits_size ls i no_limits 0 lt

-- a row of a scenario
row_is : (p : Program) (s : Scenario) (i : ℕ) (sizes sums : List ℕ) → AreOrdered p → IsScenario p s → data_reach p (core_data p) < 2 ^ 127 → i < length p.rows → sizes ≡ fold limited_by (map (λ (row : Row). limits_size (limits_of row)) p.rows) s.changes → sums ≡ fold (given_by p) (fold (taken_by p) (sums_of p p.entries) s.changes) s.changes → capped (slice_index sizes i + slice_index sums i) ≡ capped (row_size (sides p) (data_of p s).limits (data_of p s).entries i)
unfolding data_of
row_is p s i sizes sums ordered scenario small lt sizes_are sums_are =
    let d = core_data p in
    let cs = s.changes in
    let n = length p.rows in
    let m = length p.columns in
    let chain = chain_from p.entries ordered in
    let apart = apart_from cs scenario.apart in
    let there : AreChanges n m cs = recursion_from_All (λ c. is_change n m c ≡ true) cs scenario.changes in
    let core_sums = sums_of p p.entries in
    let long : length core_sums ≡ n = sums_long p p.entries in
    let core_there : i < length d.limits = omega (arith, length-map p.rows limits_of, lt) in
    let whole = sum_le p d i core_there in
    let first : get_or core_sums i 0 ≡ capped (sum_by (entry_size (sides p) i) p.entries) = made_at (λ k. capped (sum_by (entry_size (sides p) k) p.entries)) n i 0 lt in
    let even = balance p i d cs chain apart in
    let fits = taken_there p i d cs chain apart in
    let parts = small_parts (taken p i p.entries) cs (omega (arith, fits, whole, small)) in
    let rest = less_all p cs core_sums i m (subst (λ k. AreChanges k m cs) (sym long) there) in
    let kept = fold (taken_by p) core_sums cs in
    let few : get_or kept i 0 ≤ 2 ^ 127 = omega (arith, rest, first) in
    let all = give_all p cs kept i m (subst (λ k. AreChanges k m cs) (sym (rest_long p cs core_sums ∙ long)) there) few in
    let sum : slice_index sums i ≡ capped (get_or kept i 0 + sum_by (given p i) cs) = ap (λ (l : List ℕ). slice_index l i) sums_are ∙ all in
    let limits_long : length (fold with_change d cs).limits ≡ n = data_limits p s in
    let size : slice_index sizes i ≡ limits_size (limits_at (fold with_change d cs).limits i) = ap (λ (l : List ℕ). slice_index l i) (sizes_are ∙ (ap (λ l. fold limited_by l cs) (core_limits p.rows) ∙ limits_all d cs)) ∙ limit_at (fold with_change d cs).limits i (omega (arith, limits_long, lt)) in
    omega (arith, sum, size, rest, first, parts, even, fits, whole, small)

-- rows that are the same up to the cap have the same greatest one
same_greatest : (n : ℕ) (f g : ℕ → ℕ) → ((i : ℕ) → i < n → capped (f i) ≡ capped (g i)) → capped (greatest (map f (range_with_len 0 n))) ≡ capped (greatest (map g (range_with_len 0 n)))
same_greatest zero f g h = refl
same_greatest (suc n) f g h =
    let rest = same_greatest n f g (λ i lt. h i (omega (arith, lt))) in
    let last = h n (omega arith) in
    let more : n + 1 ≡ suc n = omega arith in
    let P : ℕ → Type 0 = λ m. capped (greatest (map f (range_with_len 0 m))) ≡ capped (greatest (map g (range_with_len 0 m))) in
    subst P more (ap capped (greatest_more f n) ∙ ((omega (arith, rest, last)) ∙ ap capped (sym (greatest_more g n))))

pub scenario_is : (p : Program) (s : Scenario) (sizes sums : List ℕ) (most : ℕ) → AreOrdered p → IsScenario p s → data_reach p (core_data p) < 2 ^ 127 → sizes ≡ fold limited_by (map (λ (row : Row). limits_size (limits_of row)) p.rows) s.changes → sums ≡ fold (given_by p) (fold (taken_by p) (sums_of p p.entries) s.changes) s.changes → most ≡ capped (greatest (map (λ i. slice_index sizes i + slice_index sums i) (range_with_len 0 (length sizes)))) → most ≡ capped (data_reach p (data_of p s))
scenario_is p s sizes sums most ordered scenario small sizes_are sums_are most_is =
    let d = data_of p s in
    let long : length sizes ≡ length p.rows = ap length sizes_are ∙ (limited_long s.changes (map (λ (row : Row). limits_size (limits_of row)) p.rows) ∙ length-map p.rows (λ (row : Row). limits_size (limits_of row))) in
    most_is
    ∙ (ap (λ n. capped (greatest (map (λ i. slice_index sizes i + slice_index sums i) (range_with_len 0 n)))) long
    ∙ (same_greatest (length p.rows) (λ i. slice_index sizes i + slice_index sums i) (row_size (sides p) d.limits d.entries) (λ i lt. row_is p s i sizes sums ordered scenario small lt sizes_are sums_are)
    ∙ ap (λ n. capped (greatest (map (row_size (sides p) d.limits d.entries) (range_with_len 0 n)))) (sym (data_limits p s))))

-- the rows of the core
pub core_is : (p : Program) (sizes sums : List ℕ) (most : ℕ) → sizes ≡ map (λ (row : Row). limits_size (limits_of row)) p.rows → sums ≡ sums_of p p.entries → most ≡ capped (greatest (map (λ i. slice_index sizes i + slice_index sums i) (range_with_len 0 (length sizes)))) → most ≡ capped (data_reach p (core_data p))
core_is p sizes sums most sizes_are sums_are most_is =
    let d = core_data p in
    let core_long : length d.limits ≡ length p.rows = length-map p.rows limits_of in
    let long : length sizes ≡ length p.rows = ap length sizes_are ∙ length-map p.rows (λ (row : Row). limits_size (limits_of row)) in
    most_is
    ∙ (ap (λ n. capped (greatest (map (λ i. slice_index sizes i + slice_index sums i) (range_with_len 0 n)))) long
    ∙ (same_greatest (length p.rows) (λ i. slice_index sizes i + slice_index sums i) (row_size (sides p) d.limits d.entries) (λ i lt.
    let size : slice_index sizes i ≡ limits_size (limits_at d.limits i) = ap (λ (l : List ℕ). slice_index l i) (sizes_are ∙ core_limits p.rows) ∙ limit_at d.limits i (omega (arith, core_long, lt)) in
    ap (λ n. capped (n + slice_index sums i)) size ∙ row_capped p d.limits p.entries sums i lt sums_are)
    ∙ ap (λ n. capped (greatest (map (row_size (sides p) d.limits d.entries) (range_with_len 0 n)))) (sym core_long)))

-- one scenario more, whose row is exact where the core's is below the cap
pub rows_next : (p : Program) (ds : List Data) (d : Data) (before own after : ℕ) → before ≡ capped (greatest (map (data_reach p) (core_data p ∷ ds))) → own ≤ 2 ^ 127 → (data_reach p (core_data p) < 2 ^ 127 → own ≡ capped (data_reach p d)) → after ≡ max before own → after ≡ capped (greatest (map (data_reach p) (core_data p ∷ ds ++ d ∷ [])))
rows_next p ds d before own after was few exact step =
    let core = data_reach p (core_data p) in
    let more = greatest_push (data_reach p) (core_data p ∷ ds) d in
    let least : core ≤ greatest (map (data_reach p) (core_data p ∷ ds)) = greatest_le (data_reach p) (core_data p ∷ ds) 0 (core_data p) (omega arith) in
    elim (cases_lt core (2 ^ 127)) [
      | inl below ↦ omega (arith, was, exact below, step, more)
      | inr above ↦ omega (arith, was, few, step, more, least, above)
    ]

-- the cost of a column that no change names
cost_kept : (d : Data) (j : ℕ) (v : ℤ) (cs : List Change) → AllByRecursion (λ e. is_same_place (Cost j v) e ≡ false) cs → number_at (fold with_change d cs).costs j ≡ number_at d.costs j
cost_kept d j v [] h = refl
cost_kept d j v (Cost column value ∷ cs) h =
    cost_kept (with_change d (Cost column value)) j v cs h.1 ∙ get_or-set_other d.costs column j value (pos 0) (λ same. apart_test j column h.0 same)
  where
    apart_test : (a b : ℕ) → (a == b) ≡ false → a ≡ b → ⊥
    apart_test a b t same = let other : (a == b) ≡ true = grind arith in absurd (let x = sym other ∙ t in cc)
cost_kept d j v (Cell row column value ∷ cs) h = cost_kept (with_change d (Cell row column value)) j v cs h.1
cost_kept d j v (Limits row lower upper ∷ cs) h = cost_kept (with_change d (Limits row lower upper)) j v cs h.1

-- the greatest cost of a column, change by change
cost_is : (tops : List ℕ) (d : Data) (n m j : ℕ) (cs : List Change) → j < length tops → length tops ≡ m → length d.costs ≡ m → AreChanges n m cs → AreApart cs → unsigned_abs (number_at d.costs j) ≤ get_or tops j 0 → get_or (fold raised_by tops cs) j 0 ≡ max (get_or tops j 0) (unsigned_abs (number_at (fold with_change d cs).costs j))
cost_is tops d n m j [] lt long costs there apart le = omega arith
cost_is tops d n m j (Cost column value ∷ cs) lt long costs there apart le =
    let y : ℕ = max (get_or tops column 0) (unsigned_abs value) in
    let next = with_change d (Cost column value) in
    let here : column < m = let t = there.0 in grind arith in
    let tops_long : length (set tops column y) ≡ length tops = length-set tops column y in
    let costs_long : length next.costs ≡ length d.costs = change_costs d (Cost column value) in
    let step : unsigned_abs (number_at next.costs j) ≤ get_or (set tops column y) j 0 → get_or (fold raised_by (set tops column y) cs) j 0 ≡ max (get_or (set tops column y) j 0) (unsigned_abs (number_at (fold with_change next cs).costs j)) = cost_is (set tops column y) next n m j cs (omega (arith, tops_long, lt)) (tops_long ∙ long) (costs_long ∙ costs) there.1 apart.1 in
    elim (cases_eq j column) [
      | inl same ↦
          let top : get_or (set tops column y) j 0 ≡ y = ap (λ k. get_or (set tops column y) k 0) same ∙ get_or-set_same tops column y 0 (omega (arith, here, long)) in
          let cost : number_at next.costs j ≡ value = ap (number_at next.costs) same ∙ get_or-set_same d.costs column value (pos 0) (omega (arith, here, costs)) in
          let last : number_at (fold with_change next cs).costs j ≡ value = ap (number_at (fold with_change next cs).costs) same ∙ (cost_kept next column value cs apart.0 ∙ (ap (number_at next.costs) (sym same) ∙ cost)) in
          let size = ap unsigned_abs cost in
          let last_size = ap unsigned_abs last in
          let own = ap (λ k. get_or tops k 0) same in
          omega (arith, top, size, last_size, own, step (omega (arith, top, size)))
      | inr other ↦
          let top = get_or-set_other tops column j y 0 other in
          let cost : number_at next.costs j ≡ number_at d.costs j = get_or-set_other d.costs column j value (pos 0) other in
          let size = ap unsigned_abs cost in
          omega (arith, top, size, le, step (omega (arith, top, size, le)))
    ]
cost_is tops d n m j (Cell row column value ∷ cs) lt long costs there apart le = cost_is tops (with_change d (Cell row column value)) n m j cs lt long costs there.1 apart.1 le
cost_is tops d n m j (Limits row lower upper ∷ cs) lt long costs there apart le = cost_is tops (with_change d (Limits row lower upper)) n m j cs lt long costs there.1 apart.1 le

-- the greatest costs with one scenario more
pub tops_next : (p : Program) (ds : List Data) (s : Scenario) (tops raised : List ℕ) → IsScenario p s → tops ≡ tops_of (length p.columns) (core_data p ∷ ds) → raised ≡ fold raised_by tops s.changes → raised ≡ tops_of (length p.columns) (core_data p ∷ ds ++ data_of p s ∷ [])
unfolding data_of
tops_next p ds s tops raised scenario is made =
    let core = core_data p in
    let n = length p.rows in
    let m = length p.columns in
    let costs_long : length core.costs ≡ m = length-map p.columns (λ (column : Column). column.cost) in
    let long : length tops ≡ m = ap length is ∙ tops_long p (core ∷ ds) in
    let there : AreChanges n m s.changes = recursion_from_All (λ c. is_change n m c ≡ true) s.changes scenario.changes in
    let apart = apart_from s.changes scenario.apart in
    made ∙ is_made (fold raised_by tops s.changes) (λ j. greatest (map (cost_size j) (core ∷ ds ++ fold with_change core s.changes ∷ []))) m (raised_long s.changes tops ∙ long) (λ j e lt.
    let top : get_or tops j 0 ≡ greatest (map (cost_size j) (core ∷ ds)) = ap (λ (l : List ℕ). get_or l j 0) is ∙ made_at (λ k. greatest (map (cost_size k) (core ∷ ds))) m j 0 lt in
    let least : cost_size j core ≤ greatest (map (cost_size j) (core ∷ ds)) = greatest_le (cost_size j) (core ∷ ds) 0 core (omega arith) in
    let all = raised_long s.changes tops in
    get_or_default (fold raised_by tops s.changes) j e 0 (omega (arith, all, long, lt))
    ∙ (cost_is tops core n m j s.changes (omega (arith, long, lt)) long costs_long there apart (omega (arith, top, least))
    ∙ (ap (λ k. max k (cost_size j (fold with_change core s.changes))) top ∙ sym (greatest_push (cost_size j) (core ∷ ds) (fold with_change core s.changes)))))

-- the costs of the core alone
core_costs : (cs : List Column) → map (λ (column : Column). unsigned_abs column.cost) cs ≡ map unsigned_abs (map (λ (column : Column). column.cost) cs)
core_costs [] = refl
core_costs (c ∷ cs) = ap (λ t. unsigned_abs c.cost ∷ t) (core_costs cs)

pub core_tops : (p : Program) (tops : List ℕ) → tops ≡ map (λ (column : Column). unsigned_abs column.cost) p.columns → tops ≡ tops_of (length p.columns) (core_data p ∷ [])
core_tops p tops is = tops_first (length p.columns) (core_data p) tops (length-map p.columns (λ (column : Column). column.cost)) (is ∙ core_costs p.columns)
