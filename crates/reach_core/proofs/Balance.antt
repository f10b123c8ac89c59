-- What changes take from the sum of a row and what they give to it.
use Rattle.std.proofs.Common.{arith, refl, sym, ap, ◌∙◌, ◌≡◌, ℕ, suc, ◌+◌, ◌*◌, ◌≤◌, ◌==◌, Bool, true, false, List, [], ◌∷◌, map, if◌then◌else◌, pos, unsigned_abs}
use Rattle.std.specs.Prelude.{find, Option, Some, None}
use Rattle.std.specs.List.{AllByRecursion, AllPairs, fold, sum_by}
use Rattle.std.proofs.lemmas.List.Elements.{recursion_from_All}
use Rattle.std.proofs.lemmas.List.Sums.{sum_by-cons}
use Rattle.base_words.proofs.Comparisons.{both_left, both_right}
use Rattle.boxed_problem.specs.BoxedFacts.{entry_size}
use Rattle.boxed_problem.specs.Sides.{reach, side_at}
use Rattle.boxed_problem.specs.declared.parts.Entry.{Entry}
use Rattle.sp_model.specs.Changes.{Data, is_at, is_before, put_entry, sides, with_change}
use Rattle.sp_model.specs.RunFacts.{is_same_place}
use Rattle.sp_model.specs.Values.{is_cell}
use Rattle.sp_model.specs.declared.program.Change.{Change}
use Rattle.sp_model.specs.declared.program.Change.TheVariants.{Cost, Cell, Limits}
use Rattle.sp_model.specs.declared.program.Program.{Program}
use Rattle.sp_model.proofs.EntryOrder.{IsChain, after_is, change_chain, put_behind, put_front, put_over, swapped}
use Rattle.sp_model.proofs.PlaceValues.{before_other, find_behind, find_head, put_other}
use Rattle.sp_model.proofs.Putting.{chain_tail}
use Rattle.reach_core.proofs.Finding.{found_passes, none_behind, value_of}

-- the size of what was found
abbrev found : (Entry → ℕ) → Option Entry → ℕ
found w None = 0
found w (Some f) = w f

-- an entry put in its place in the order takes what stood there
put_balance : (w : Entry → ℕ) (e : Entry) (es : List Entry) → IsChain es → sum_by w (put_entry e es) + found w (find (is_cell e.row e.column) es) ≡ sum_by w es + w e
put_balance w e [] c = omega arith
put_balance w e (f ∷ fs) c = by_before (is_before f e) refl (is_at f e) refl (put_balance w e fs (chain_tail f fs c))
  where
    by_before : (t : Bool) → is_before f e ≡ t → (u : Bool) → is_at f e ≡ u → sum_by w (put_entry e fs) + found w (find (is_cell e.row e.column) fs) ≡ sum_by w fs + w e → sum_by w (put_entry e (f ∷ fs)) + found w (find (is_cell e.row e.column) (f ∷ fs)) ≡ sum_by w (f ∷ fs) + w e
    by_before true b u a r =
        let put : sum_by w (put_entry e (f ∷ fs)) ≡ w f + sum_by w (put_entry e fs) = ap (sum_by w) (put_behind e f fs b) ∙ sum_by-cons w f (put_entry e fs) in
        let old : found w (find (is_cell e.row e.column) (f ∷ fs)) ≡ found w (find (is_cell e.row e.column) fs) = ap (found w) (find_behind (is_cell e.row e.column) f fs (before_other e f b)) in
        omega (arith, put, old, r, sum_by-cons w f fs)
    by_before false b true a r =
        let put : sum_by w (put_entry e (f ∷ fs)) ≡ w e + sum_by w fs = ap (sum_by w) (put_over e f fs b a) ∙ sum_by-cons w e fs in
        let old : found w (find (is_cell e.row e.column) (f ∷ fs)) ≡ w f = ap (found w) (find_head (is_cell e.row e.column) f fs a) in
        omega (arith, put, old, sum_by-cons w f fs)
    by_before false b false a r =
        let put : sum_by w (put_entry e (f ∷ fs)) ≡ w e + sum_by w (f ∷ fs) = ap (sum_by w) (put_front e f fs b a) ∙ sum_by-cons w e (f ∷ fs) in
        let old : found w (find (is_cell e.row e.column) (f ∷ fs)) ≡ 0 = ap (found w) (none_behind e f fs c (after_is f e b a)) in
        omega (arith, put, old)

-- what a change adds to row i, and what stands at its place there
abbrev pub given : Program → ℕ → Change → ℕ
given p i (Cost column value) = 0
given p i (Cell row column value) = entry_size (sides p) i (record { row = row; column = column; value = value })
given p i (Limits row lower upper) = 0

abbrev pub taken : Program → ℕ → List Entry → Change → ℕ
taken p i es (Cost column value) = 0
taken p i es (Cell row column value) = entry_size (sides p) i (record { row = row; column = column; value = value_of (find (is_cell row column) es) })
taken p i es (Limits row lower upper) = 0

-- a part of the value 0 has no size
idle_size : (t : Bool) (m : ℕ) → (if t then unsigned_abs (pos 0) * m else 0) ≡ 0
idle_size true m = omega arith
idle_size false m = refl

found_size : (p : Program) (i row column : ℕ) (es : List Entry) → found (entry_size (sides p) i) (find (is_cell row column) es) ≡ entry_size (sides p) i (record { row = row; column = column; value = value_of (find (is_cell row column) es) })
found_size p i row column es = by_found (find (is_cell row column) es) refl
  where
    by_found : (o : Option Entry) → find (is_cell row column) es ≡ o → found (entry_size (sides p) i) o ≡ entry_size (sides p) i (record { row = row; column = column; value = value_of o })
    by_found None h = sym (idle_size (row == i) (reach (side_at (sides p) column)))
    by_found (Some f) h =
        let passes = found_passes (is_cell row column) es f h in
        let at_column : f.column ≡ column = let t = both_left (f.column == column) (f.row == row) passes in grind arith in
        let at_row : f.row ≡ row = let t = both_right (f.column == column) (f.row == row) passes in grind arith in
        ap (λ m. if m == i then unsigned_abs f.value * reach (side_at (sides p) f.column) else 0) at_row ∙ ap (λ m. if row == i then unsigned_abs f.value * reach (side_at (sides p) m) else 0) at_column

-- one change
change_balance : (p : Program) (i : ℕ) (d : Data) (c : Change) → IsChain d.entries → sum_by (entry_size (sides p) i) (with_change d c).entries + taken p i d.entries c ≡ sum_by (entry_size (sides p) i) d.entries + given p i c
change_balance p i d (Cost column value) h = refl
change_balance p i d (Cell row column value) h =
    let e : Entry = record { row = row; column = column; value = value } in
    omega (arith, put_balance (entry_size (sides p) i) e d.entries h, found_size p i row column d.entries)
change_balance p i d (Limits row lower upper) h = refl

-- what stands at another place stays
taken_kept : (p : Program) (i : ℕ) (d : Data) (c e : Change) → is_same_place c e ≡ false → taken p i (with_change d c).entries e ≡ taken p i d.entries e
taken_kept p i d c (Cost column value) h = refl
taken_kept p i d c (Limits row lower upper) h = refl
taken_kept p i d (Cost column2 value2) (Cell row column value) h = refl
taken_kept p i d (Limits row2 lower upper) (Cell row column value) h = refl
taken_kept p i d (Cell row2 column2 value2) (Cell row column value) h =
    ap (λ o. entry_size (sides p) i (record { row = row; column = column; value = value_of o })) (put_other row column (record { row = row2; column = column2; value = value2 }) d.entries (swapped (row2 == row) (column2 == column) h))

-- no two changes of one place
abbrev pub AreApart : List Change → Type 0
AreApart [] = Unit {0}
AreApart (c ∷ cs) = AllByRecursion (λ e. is_same_place c e ≡ false) cs × AreApart cs

pub apart_from : (cs : List Change) → AllPairs (λ c e. is_same_place c e ≡ false) cs → AreApart cs
apart_from [] h = tt
apart_from (c ∷ cs) h = (recursion_from_All (λ e. is_same_place c e ≡ false) cs (λ k y l. h 0 (suc k) y (omega arith) (omega (arith, l))), apart_from cs (λ i j y before l. h (suc i) (suc j) y (omega (arith, before)) (omega (arith, l))))

all_taken_kept : (p : Program) (i : ℕ) (d : Data) (c : Change) (cs : List Change) → AllByRecursion (λ e. is_same_place c e ≡ false) cs → sum_by (taken p i (with_change d c).entries) cs ≡ sum_by (taken p i d.entries) cs
all_taken_kept p i d c [] h = refl
all_taken_kept p i d c (e ∷ cs) h =
    omega (arith, sum_by-cons (taken p i (with_change d c).entries) e cs, sum_by-cons (taken p i d.entries) e cs, taken_kept p i d c e h.0, all_taken_kept p i d c cs h.1)

-- all changes
pub balance : (p : Program) (i : ℕ) (d : Data) (cs : List Change) → IsChain d.entries → AreApart cs → sum_by (entry_size (sides p) i) (fold with_change d cs).entries + sum_by (taken p i d.entries) cs ≡ sum_by (entry_size (sides p) i) d.entries + sum_by (given p i) cs
balance p i d [] chain apart = refl
balance p i d (c ∷ cs) chain apart =
    let first = change_balance p i d c chain in
    let rest = balance p i (with_change d c) cs (change_chain d c chain) apart.1 in
    let same = all_taken_kept p i d c cs apart.0 in
    omega (arith, first, rest, same, sum_by-cons (taken p i d.entries) c cs, sum_by-cons (given p i) c cs)

-- the same changes with the values 0
idle : Change → Change
idle (Cost column value) = Cost column value
idle (Cell row column value) = Cell row column (pos 0)
idle (Limits row lower upper) = Limits row lower upper

idle_place : (c e : Change) → is_same_place (idle c) (idle e) ≡ is_same_place c e
unfolding idle
idle_place (Cost column value) (Cost column2 value2) = refl
idle_place (Cost column value) (Cell row2 column2 value2) = refl
idle_place (Cost column value) (Limits row2 lower2 upper2) = refl
idle_place (Cell row column value) (Cost column2 value2) = refl
idle_place (Cell row column value) (Cell row2 column2 value2) = refl
idle_place (Cell row column value) (Limits row2 lower2 upper2) = refl
idle_place (Limits row lower upper) (Cost column2 value2) = refl
idle_place (Limits row lower upper) (Cell row2 column2 value2) = refl
idle_place (Limits row lower upper) (Limits row2 lower2 upper2) = refl

idle_all : (c : Change) (cs : List Change) → AllByRecursion (λ e. is_same_place c e ≡ false) cs → AllByRecursion (λ e. is_same_place (idle c) e ≡ false) (map idle cs)
idle_all c [] h = tt
idle_all c (e ∷ cs) h = (idle_place c e ∙ h.0, idle_all c cs h.1)

idle_apart : (cs : List Change) → AreApart cs → AreApart (map idle cs)
idle_apart [] h = tt
idle_apart (c ∷ cs) h = (idle_all c cs h.0, idle_apart cs h.1)

idle_taken : (p : Program) (i : ℕ) (es : List Entry) (c : Change) → taken p i es (idle c) ≡ taken p i es c
unfolding idle
idle_taken p i es (Cost column value) = refl
idle_taken p i es (Cell row column value) = refl
idle_taken p i es (Limits row lower upper) = refl

idle_given : (p : Program) (i : ℕ) (c : Change) → given p i (idle c) ≡ 0
unfolding idle
idle_given p i (Cost column value) = refl
idle_given p i (Cell row column value) = idle_size (row == i) (reach (side_at (sides p) column))
idle_given p i (Limits row lower upper) = refl

all_idle_taken : (p : Program) (i : ℕ) (es : List Entry) (cs : List Change) → sum_by (taken p i es) (map idle cs) ≡ sum_by (taken p i es) cs
all_idle_taken p i es [] = refl
all_idle_taken p i es (c ∷ cs) = omega (arith, sum_by-cons (taken p i es) (idle c) (map idle cs), sum_by-cons (taken p i es) c cs, idle_taken p i es c, all_idle_taken p i es cs)

all_idle_given : (p : Program) (i : ℕ) (cs : List Change) → sum_by (given p i) (map idle cs) ≡ 0
all_idle_given p i [] = refl
all_idle_given p i (c ∷ cs) = omega (arith, sum_by-cons (given p i) (idle c) (map idle cs), idle_given p i c, all_idle_given p i cs)

-- what is taken was there
pub taken_there : (p : Program) (i : ℕ) (d : Data) (cs : List Change) → IsChain d.entries → AreApart cs → sum_by (taken p i d.entries) cs ≤ sum_by (entry_size (sides p) i) d.entries
taken_there p i d cs chain apart = omega (arith, balance p i d (map idle cs) chain (idle_apart cs apart), all_idle_taken p i d.entries cs, all_idle_given p i cs)
