-- An entry put in its place keeps the order by column and row, and the rows and columns that are there.

use Rattle.std.proofs.Common.{arith, refl, sym, ap, subst, ◌∙◌, ◌≡◌, ℕ, zero, suc, ◌+◌, ◌<◌, ◌==◌, nat_lt, Bool, true, false, cond, ◌&&◌, List, [], ◌∷◌, length, get_or, set, if◌then◌else◌}
use Rattle.std.specs.List.{insert}
use Rattle.boxed_problem.specs.BoxedFacts.{ComesBefore, entry_at, no_entry}
use Rattle.boxed_problem.specs.declared.parts.Entry.{Entry}
use Rattle.sp_model.specs.Changes.{Data, is_at, is_before, place_of, put_entry, stands_at, with_change}
use Rattle.sp_model.specs.declared.program.Change.{Change}
use Rattle.sp_model.specs.declared.program.Change.TheVariants.{Cost, Cell, Limits}

-- an entry put at a place of a list
abbrev put_at : Entry → List Entry → ℕ → Bool → List Entry
put_at e fs k t = if t then set fs k e else insert fs k e

behind_step : (e f : Entry) (fs : List Entry) (k : ℕ) (t : Bool) → put_at e (f ∷ fs) (suc k) t ≡ f ∷ put_at e fs k t
behind_step e f fs k true = refl
behind_step e f fs k false = refl

pub behind_test : (e f : Entry) (fs : List Entry) (k : ℕ) → stands_at e (f ∷ fs) (suc k) ≡ stands_at e fs k
behind_test e f fs k = let test : nat_lt (suc k) (suc (length fs)) ≡ nat_lt k (length fs) = grind arith in ap (λ t. t && is_at (get_or fs k no_entry) e) test

-- behind an entry that stands before
pub put_behind : (e f : Entry) (fs : List Entry) → is_before f e ≡ true → put_entry e (f ∷ fs) ≡ f ∷ put_entry e fs
put_behind e f fs h =
    let k = place_of e fs in
    let next : 1 + k ≡ suc k = omega arith in
    ap (λ t. put_at e (f ∷ fs) (cond t (1 + k) 0) (stands_at e (f ∷ fs) (cond t (1 + k) 0))) h
    ∙ ap (λ m. put_at e (f ∷ fs) m (stands_at e (f ∷ fs) m)) next
    ∙ ap (put_at e (f ∷ fs) (suc k)) (behind_test e f fs k)
    ∙ behind_step e f fs k (stands_at e fs k)

pub front_test : (e f : Entry) (fs : List Entry) → stands_at e (f ∷ fs) 0 ≡ is_at f e
front_test e f fs = let test : nat_lt 0 (suc (length fs)) ≡ true = grind arith in ap (λ t. t && is_at f e) test

-- over an entry of the same place
pub put_over : (e f : Entry) (fs : List Entry) → is_before f e ≡ false → is_at f e ≡ true → put_entry e (f ∷ fs) ≡ e ∷ fs
put_over e f fs h at =
    ap (λ t. put_at e (f ∷ fs) (cond t (1 + place_of e fs) 0) (stands_at e (f ∷ fs) (cond t (1 + place_of e fs) 0))) h
    ∙ ap (put_at e (f ∷ fs) 0) (front_test e f fs ∙ at)

-- in front of an entry of a later place
pub put_front : (e f : Entry) (fs : List Entry) → is_before f e ≡ false → is_at f e ≡ false → put_entry e (f ∷ fs) ≡ e ∷ f ∷ fs
put_front e f fs h at =
    ap (λ t. put_at e (f ∷ fs) (cond t (1 + place_of e fs) 0) (stands_at e (f ∷ fs) (cond t (1 + place_of e fs) 0))) h
    ∙ ap (put_at e (f ∷ fs) 0) (front_test e f fs ∙ at)

-- entries in order, and of rows and columns that are there, by recursion
abbrev pub IsChain : List Entry → Type 0
IsChain [] = Unit {0}
IsChain (f ∷ []) = Unit {0}
IsChain (f ∷ g ∷ fs) = ComesBefore f g × IsChain (g ∷ fs)

pub before_is : (f e : Entry) → is_before f e ≡ true → ComesBefore f e
before_is f e h = by_column (f.column == e.column) refl h
  where
    by_column : (t : Bool) → (f.column == e.column) ≡ t → (if t then nat_lt f.row e.row else nat_lt f.column e.column) ≡ true → ComesBefore f e
    by_column true c g = let same : f.column ≡ e.column = grind arith in let less : f.row < e.row = grind arith in (omega arith, λ s. less)
    by_column false c g = let less : f.column < e.column = grind arith in (omega arith, λ s. absurd (omega arith))

pub after_is : (f e : Entry) → is_before f e ≡ false → is_at f e ≡ false → ComesBefore e f
after_is f e h at = by_column (f.column == e.column) refl h at
  where
    by_column : (t : Bool) → (f.column == e.column) ≡ t → (if t then nat_lt f.row e.row else nat_lt f.column e.column) ≡ false → (t && (f.row == e.row)) ≡ false → ComesBefore e f
    by_column true c g a = let same : f.column ≡ e.column = grind arith in let less : e.row < f.row = grind arith in (omega arith, λ s. less)
    by_column false c g a = let less : e.column < f.column = grind arith in (omega arith, λ s. absurd (omega arith))

pub same_place : (f e : Entry) → is_at f e ≡ true → (f.column ≡ e.column) × (f.row ≡ e.row)
same_place f e at = by_column (f.column == e.column) refl (f.row == e.row) refl at
  where
    by_column : (t : Bool) → (f.column == e.column) ≡ t → (u : Bool) → (f.row == e.row) ≡ u → (t && u) ≡ true → (f.column ≡ e.column) × (f.row ≡ e.row)
    by_column true c true r g = (grind arith, grind arith)
    by_column true c false r g = absurd (let x = g in cc)
    by_column false c u r g = absurd (let x = g in cc)

-- the head of a chain put over by an entry of its place
pub over_head : (e f : Entry) (fs : List Entry) → is_at f e ≡ true → IsChain (f ∷ fs) → IsChain (e ∷ fs)
over_head e f [] at h = tt
over_head e f (g ∷ fs) at h = let same = same_place f e at in let first = h.0 in let before = first.0 in ((omega arith, λ s. let row = first.1 (same.0 ∙ s) in omega arith), h.1)

-- a chain with an entry put in its place is a chain, behind whatever stands before both
chain_behind : (e f : Entry) (fs : List Entry) → ComesBefore f e → IsChain (f ∷ fs) → IsChain (f ∷ put_entry e fs)
chain_behind e f [] h chain = (h, tt)
chain_behind e f (g ∷ fs) h chain = by_before (is_before g e) refl (is_at g e) refl (λ c. chain_behind e g fs c chain.1)
  where
    by_before : (t : Bool) → is_before g e ≡ t → (u : Bool) → is_at g e ≡ u → (ComesBefore g e → IsChain (g ∷ put_entry e fs)) → IsChain (f ∷ put_entry e (g ∷ fs))
    by_before true b u a r = let P : List Entry → Type 0 = λ l. IsChain (f ∷ l) in subst P (sym (put_behind e g fs b)) (chain.0, r (before_is g e b))
    by_before false b true a r = let P : List Entry → Type 0 = λ l. IsChain (f ∷ l) in subst P (sym (put_over e g fs b a)) (h, over_head e g fs a chain.1)
    by_before false b false a r = let P : List Entry → Type 0 = λ l. IsChain (f ∷ l) in subst P (sym (put_front e g fs b a)) (h, (after_is g e b a, chain.1))

pub put_chain : (e : Entry) (fs : List Entry) → IsChain fs → IsChain (put_entry e fs)
put_chain e [] chain = tt
put_chain e (g ∷ fs) chain = by_before (is_before g e) refl (is_at g e) refl
  where
    by_before : (t : Bool) → is_before g e ≡ t → (u : Bool) → is_at g e ≡ u → IsChain (put_entry e (g ∷ fs))
    by_before true b u a = subst IsChain (sym (put_behind e g fs b)) (chain_behind e g fs (before_is g e b) chain)
    by_before false b true a = subst IsChain (sym (put_over e g fs b a)) (over_head e g fs a chain)
    by_before false b false a = subst IsChain (sym (put_front e g fs b a)) (after_is g e b a, chain)

-- a change keeps the order
pub change_chain : (d : Data) (c : Change) → IsChain d.entries → IsChain (with_change d c).entries
change_chain d (Cost column value) h = h
change_chain d (Cell row column value) h = put_chain (record { row = row; column = column; value = value }) d.entries h
change_chain d (Limits row lower upper) h = h

-- what isn't one place isn't one the other way round
pub swapped : (a b : Bool) → (a && b) ≡ false → (b && a) ≡ false
swapped true true h = h
swapped true false h = refl
swapped false true h = refl
swapped false false h = refl

-- a chain is a list whose neighbours are in order
pub chain_from : (fs : List Entry) → ((k : ℕ) → k + 1 < length fs → ComesBefore (entry_at fs k) (entry_at fs (k + 1))) → IsChain fs
chain_from [] h = tt
chain_from (f ∷ []) h = tt
chain_from (f ∷ g ∷ fs) h = (h 0 (omega arith), chain_from (g ∷ fs) (λ k l. let e : k + 1 ≡ suc k = omega arith in let P : ℕ → Type 0 = λ m. ComesBefore (entry_at (f ∷ g ∷ fs) m) (entry_at (f ∷ g ∷ fs) (m + 1)) in later k (subst P e (h (k + 1) (omega arith)))))
  where
    later : (k : ℕ) → ComesBefore (entry_at (f ∷ g ∷ fs) (suc k)) (entry_at (f ∷ g ∷ fs) (suc k + 1)) → ComesBefore (entry_at (g ∷ fs) k) (entry_at (g ∷ fs) (k + 1))
    later k c = let e : suc k + 1 ≡ suc (k + 1) = omega arith in let P : ℕ → Type 0 = λ m. ComesBefore (entry_at (g ∷ fs) k) (entry_at (f ∷ g ∷ fs) m) in subst P e c

pub chain_at : (fs : List Entry) → IsChain fs → (k : ℕ) → k + 1 < length fs → ComesBefore (entry_at fs k) (entry_at fs (k + 1))
chain_at [] h k l = absurd (omega arith)
chain_at (f ∷ []) h k l = absurd (omega arith)
chain_at (f ∷ g ∷ fs) h zero l = h.0
chain_at (f ∷ g ∷ fs) h (suc k) l = let e : suc (k + 1) ≡ suc k + 1 = omega arith in let P : ℕ → Type 0 = λ m. ComesBefore (entry_at (g ∷ fs) k) (entry_at (f ∷ g ∷ fs) m) in subst P e (chain_at (g ∷ fs) h.1 k (omega arith))
