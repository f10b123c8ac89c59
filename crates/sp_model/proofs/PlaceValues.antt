-- A change gives its place a value, and no change of another place takes it away.

use Rattle.std.proofs.Common.{arith, refl, sym, ap, subst, ◌∙◌, ◌≡◌, ℕ, zero, suc, ◌<◌, ◌==◌, nat_lt, Bool, true, false, ◌&&◌, List, [], ◌∷◌, length, get_or, set, if◌then◌else◌, pos}
use Rattle.std.proofs.lemmas.Bool.{and_from, and_left, and_right}
use Rattle.std.specs.Prelude.{find, option_map, unwrap_or, Some}
use Rattle.std.specs.List.{All, AllByRecursion, AllPairs, fold}
use Rattle.std.proofs.lemmas.List.{length-map}
use Rattle.std.proofs.lemmas.List.Elements.{recursion_from_All}
use Rattle.base_words.proofs.Comparisons.{both_left}
use Rattle.base_words.proofs.NumberTests.{test_from_same}
use Rattle.boxed_problem.specs.BoxedFacts.{no_limits}
use Rattle.boxed_problem.specs.declared.parts.Entry.{Entry}
use Rattle.sp_model.specs.Changes.{Data, core_data, data_of, is_at, is_before, limits_of, put_entry, with_change}
use Rattle.sp_model.specs.RunFacts.{IsScenario, are_limits, is_change, is_same_place}
use Rattle.sp_model.specs.Values.{Has, IsUntouched, SameAt, is_cell}
use Rattle.sp_model.specs.declared.program.Change.{Change}
use Rattle.sp_model.specs.declared.program.Change.TheVariants.{Cost, Cell, Limits}
use Rattle.sp_model.specs.declared.program.Column.{Column}
use Rattle.sp_model.specs.declared.program.Program.{Program}
use Rattle.sp_model.specs.declared.program.Scenario.{Scenario}
use Rattle.sp_model.proofs.EntryOrder.{put_behind, put_front, put_over}
use Rattle.sp_model.proofs.Lengths.{change_costs, change_limits}

-- a write into a list, at its place and at others
write_at : {X : Type 0} (xs : List X) (i : ℕ) (x d : X) → i < length xs → get_or (set xs i x) i d ≡ x
write_at [] i x d lt = absurd (omega arith)
write_at (y ∷ xs) zero x d lt = refl
write_at (y ∷ xs) (suc i) x d lt = write_at xs i x d (omega arith)

write_other : {X : Type 0} (xs : List X) (i j : ℕ) (x d : X) → (j == i) ≡ false → get_or (set xs i x) j d ≡ get_or xs j d
write_other [] i j x d h = refl
write_other (y ∷ xs) zero zero x d h = absurd (let z = h in grind arith)
write_other (y ∷ xs) zero (suc j) x d h = refl
write_other (y ∷ xs) (suc i) zero x d h = refl
write_other (y ∷ xs) (suc i) (suc j) x d h = write_other xs i j x d (grind arith)

-- the first one that passes, behind one that passes or not
pub find_head : (p : Entry → Bool) (f : Entry) (fs : List Entry) → p f ≡ true → find p (f ∷ fs) ≡ Some f
find_head p f fs h = ap (λ t. if t then Some f else find p fs) h

pub find_behind : (p : Entry → Bool) (f : Entry) (fs : List Entry) → p f ≡ false → find p (f ∷ fs) ≡ find p fs
find_behind p f fs h = ap (λ t. if t then Some f else find p fs) h

-- an entry before a place isn't of the place
pub before_other : (e f : Entry) → is_before f e ≡ true → is_cell e.row e.column f ≡ false
before_other e f h = by_column (f.column == e.column) refl h
  where
    by_column : (t : Bool) → (f.column == e.column) ≡ t → (if t then nat_lt f.row e.row else nat_lt f.column e.column) ≡ true → (t && (f.row == e.row)) ≡ false
    by_column true c g = grind arith
    by_column false c g = refl

own_cell : (e : Entry) → is_cell e.row e.column e ≡ true
own_cell e = and_from (e.column == e.column) (e.row == e.row) (test_from_same e.column e.column refl) (test_from_same e.row e.row refl)

-- an entry of the place of another is of a cell exactly where the other is
at_cell : (i j : ℕ) (e f : Entry) → is_at f e ≡ true → is_cell i j e ≡ false → is_cell i j f ≡ false
at_cell i j e f at h = by_column (f.column == e.column) refl (f.row == e.row) refl at
  where
    by_column : (t : Bool) → (f.column == e.column) ≡ t → (u : Bool) → (f.row == e.row) ≡ u → (t && u) ≡ true → is_cell i j f ≡ false
    by_column true c true r g = let column : f.column ≡ e.column = grind arith in let row : f.row ≡ e.row = grind arith in ap (λ n. (n == j) && (f.row == i)) column ∙ ap (λ n. (e.column == j) && (n == i)) row ∙ h
    by_column true c false r g = absurd (let x = g in cc)
    by_column false c u r g = absurd (let x = g in cc)

-- an entry that was put is found at its place
put_found : (e : Entry) (fs : List Entry) → find (is_cell e.row e.column) (put_entry e fs) ≡ Some e
put_found e [] = find_head (is_cell e.row e.column) e [] (own_cell e)
put_found e (f ∷ fs) = by_before (is_before f e) refl (is_at f e) refl (put_found e fs)
  where
    by_before : (t : Bool) → is_before f e ≡ t → (u : Bool) → is_at f e ≡ u → find (is_cell e.row e.column) (put_entry e fs) ≡ Some e → find (is_cell e.row e.column) (put_entry e (f ∷ fs)) ≡ Some e
    by_before true b u a r = ap (find (is_cell e.row e.column)) (put_behind e f fs b) ∙ (find_behind (is_cell e.row e.column) f (put_entry e fs) (before_other e f b) ∙ r)
    by_before false b true a r = ap (find (is_cell e.row e.column)) (put_over e f fs b a) ∙ find_head (is_cell e.row e.column) e fs (own_cell e)
    by_before false b false a r = ap (find (is_cell e.row e.column)) (put_front e f fs b a) ∙ find_head (is_cell e.row e.column) e (f ∷ fs) (own_cell e)

-- and what is found at other places stays
pub put_other : (i j : ℕ) (e : Entry) (fs : List Entry) → is_cell i j e ≡ false → find (is_cell i j) (put_entry e fs) ≡ find (is_cell i j) fs
put_other i j e [] h = find_behind (is_cell i j) e [] h
put_other i j e (f ∷ fs) h = by_before (is_before f e) refl (is_at f e) refl (put_other i j e fs h)
  where
    by_before : (t : Bool) → is_before f e ≡ t → (u : Bool) → is_at f e ≡ u → find (is_cell i j) (put_entry e fs) ≡ find (is_cell i j) fs → find (is_cell i j) (put_entry e (f ∷ fs)) ≡ find (is_cell i j) (f ∷ fs)
    by_before true b u a r = ap (find (is_cell i j)) (put_behind e f fs b) ∙ ap (λ o. if is_cell i j f then Some f else o) r
    by_before false b true a r = ap (find (is_cell i j)) (put_over e f fs b a) ∙ (find_behind (is_cell i j) e fs h ∙ sym (find_behind (is_cell i j) f fs (at_cell i j e f a h)))
    by_before false b false a r = ap (find (is_cell i j)) (put_front e f fs b a) ∙ find_behind (is_cell i j) e (f ∷ fs) h

turned_tests : (a b c d : ℕ) → ((a == b) && (c == d)) ≡ false → ((d == c) && (b == a)) ≡ false
turned_tests a b c d h = by_tests (a == b) refl (c == d) refl h
  where
    by_tests : (t : Bool) → (a == b) ≡ t → (u : Bool) → (c == d) ≡ u → (t && u) ≡ false → ((d == c) && (b == a)) ≡ false
    by_tests true p true q g = absurd (let x = g in cc)
    by_tests true p false q g = let e : (d == c) ≡ false = grind arith in and_left (d == c) (b == a) e
    by_tests false p u q g = let e : (b == a) ≡ false = grind arith in and_right (d == c) (b == a) e

-- a change gives its place its value
own_given : (d : Data) (c : Change) → is_change (length d.limits) (length d.costs) c ≡ true → Has (with_change d c) c
own_given d (Cost column value) h = write_at d.costs column value (pos 0) (grind arith)
own_given d (Cell row column value) h = ap (λ o. unwrap_or (option_map (λ (e : Entry). e.value) o) (pos 0)) (put_found (record { row = row; column = column; value = value }) d.entries)
own_given d (Limits row lower upper) h = let there = both_left (nat_lt row (length d.limits)) (are_limits lower upper) h in write_at d.limits row (record { lower = lower; upper = upper }) no_limits (grind arith)

-- and no other place
other_kept : (d : Data) (place c : Change) → is_same_place place c ≡ false → SameAt (with_change d c) d place
other_kept d (Cost column value) (Cost column2 value2) h = write_other d.costs column2 column value2 (pos 0) h
other_kept d (Cost column value) (Cell row2 column2 value2) h = refl
other_kept d (Cost column value) (Limits row2 lower2 upper2) h = refl
other_kept d (Cell row column value) (Cost column2 value2) h = refl
other_kept d (Cell row column value) (Cell row2 column2 value2) h = ap (λ o. unwrap_or (option_map (λ (e : Entry). e.value) o) (pos 0)) (put_other row column (record { row = row2; column = column2; value = value2 }) d.entries (turned_tests row row2 column column2 h))
other_kept d (Cell row column value) (Limits row2 lower2 upper2) h = refl
other_kept d (Limits row lower upper) (Cost column2 value2) h = refl
other_kept d (Limits row lower upper) (Cell row2 column2 value2) h = refl
other_kept d (Limits row lower upper) (Limits row2 lower2 upper2) h = write_other d.limits row2 row (record { lower = lower2; upper = upper2 }) no_limits h

same_self : (d : Data) (place : Change) → SameAt d d place
same_self d (Cost column value) = refl
same_self d (Cell row column value) = refl
same_self d (Limits row lower upper) = refl

same_chain : (a b c : Data) (place : Change) → SameAt a b place → SameAt b c place → SameAt a c place
same_chain a b c (Cost column value) p q = p ∙ q
same_chain a b c (Cell row column value) p q = p ∙ q
same_chain a b c (Limits row lower upper) p q = p ∙ q

has_same : (a b : Data) (c : Change) → SameAt a b c → Has b c → Has a c
has_same a b (Cost column value) p q = p ∙ q
has_same a b (Cell row column value) p q = p ∙ q
has_same a b (Limits row lower upper) p q = p ∙ q

-- what no change touches stays
fold_kept : (d : Data) (place : Change) (cs : List Change) → AllByRecursion (λ c. is_same_place place c ≡ false) cs → SameAt (fold with_change d cs) d place
fold_kept d place [] h = same_self d place
fold_kept d place (c ∷ cs) h = same_chain (fold with_change d (c ∷ cs)) (with_change d c) d place (fold_kept (with_change d c) place cs h.1) (other_kept d place c h.0)

-- what a change gives stays
fold_given : (d : Data) (cs : List Change) → AllByRecursion (λ c. is_change (length d.limits) (length d.costs) c ≡ true) cs → AllPairs (λ c e. is_same_place c e ≡ false) cs → (k : ℕ) (x : Change) → k < length cs → Has (fold with_change d cs) (get_or cs k x)
fold_given d [] h apart k x lt = absurd (omega arith)
fold_given d (c ∷ cs) h apart zero x lt =
    let behind : All (λ e. is_same_place c e ≡ false) cs = λ k y l. apart 0 (suc k) y (omega arith) (omega arith) in
    has_same (fold with_change (with_change d c) cs) (with_change d c) c (fold_kept (with_change d c) c cs (recursion_from_All (λ e. is_same_place c e ≡ false) cs behind)) (own_given d c h.0)
fold_given d (c ∷ cs) h apart (suc k) x lt =
    let P : ℕ → Type 0 = λ n. AllByRecursion (λ e. is_change n (length d.costs) e ≡ true) cs in
    let Q : ℕ → Type 0 = λ n. AllByRecursion (λ e. is_change (length (with_change d c).limits) n e ≡ true) cs in
    let there = subst Q (sym (change_costs d c)) (subst P (sym (change_limits d c)) h.1) in
    fold_given (with_change d c) cs there (λ i j y before l. apart (suc i) (suc j) y (omega arith) (omega arith)) k x (omega arith)

pub given : (program : Program) (scenario : Scenario) → IsScenario program scenario → (k : ℕ) (x : Change) → k < length scenario.changes → Has (data_of program scenario) (get_or scenario.changes k x)
unfolding data_of
given program scenario facts k x lt =
    let P : ℕ → Type 0 = λ n. AllByRecursion (λ e. is_change n (length program.columns) e ≡ true) scenario.changes in
    let Q : ℕ → Type 0 = λ n. AllByRecursion (λ e. is_change (length (core_data program).limits) n e ≡ true) scenario.changes in
    let rows = sym (length-map program.rows limits_of) in
    let columns = sym (length-map program.columns (λ (column : Column). column.cost)) in
    let there = subst Q columns (subst P rows (recursion_from_All (λ c. is_change (length program.rows) (length program.columns) c ≡ true) scenario.changes facts.changes)) in
    fold_given (core_data program) scenario.changes there facts.apart k x lt

pub kept : (program : Program) (scenario : Scenario) (place : Change) → IsUntouched scenario place → SameAt (data_of program scenario) (core_data program) place
unfolding data_of
kept program scenario place untouched = fold_kept (core_data program) place scenario.changes (recursion_from_All (λ c. is_same_place place c ≡ false) scenario.changes untouched)
