-- The entry of a row and a column among entries in order.
use Rattle.std.proofs.Common.{arith, refl, ap, subst, ◌∙◌, ◌≡◌, ℕ, zero, suc, ◌<◌, ◌≤◌, ◌==◌, Bool, true, false, ◌&&◌, List, [], ◌∷◌, length, get_or, if◌then◌else◌, ℤ, pos}
use Rattle.std.specs.Prelude.{find, option_map, unwrap_or, Option, Some, None}
use Rattle.boxed_problem.specs.BoxedFacts.{ComesBefore, no_entry}
use Rattle.boxed_problem.specs.declared.parts.Entry.{Entry}
use Rattle.sp_model.specs.Changes.{is_at, is_before}
use Rattle.sp_model.specs.Values.{is_cell}
use Rattle.sp_model.proofs.EntryOrder.{IsChain, after_is, before_is}
use Rattle.sp_model.proofs.PlaceValues.{before_other, find_behind, find_head}
use Rattle.sp_model.proofs.Putting.{chain_tail, chained, comes_before}

-- an entry behind a place isn't of the place
behind_other : (e f : Entry) → ComesBefore e f → is_cell e.row e.column f ≡ false
behind_other e f h = by_column (f.column == e.column) refl
  where
    by_column : (t : Bool) → (f.column == e.column) ≡ t → (t && (f.row == e.row)) ≡ false
    by_column true c = let same : e.column ≡ f.column = grind arith in let less = h.1 same in grind arith
    by_column false c = refl

-- what comes before one that is before a place is before it
before_step : (f g e : Entry) → ComesBefore f g → is_before g e ≡ true → is_before f e ≡ true
before_step f g e h b = comes_before f e (chained f g e h (before_is g e b))

pub parted : (e : Entry) (es : List Entry) → IsChain es → (i j : ℕ) (d : Entry) → i ≤ j → j < length es → is_before (get_or es j d) e ≡ true → is_before (get_or es i d) e ≡ true
parted e [] c i j d le lt h = absurd (omega arith)
parted e (f ∷ fs) c zero zero d le lt h = h
parted e (f ∷ []) c zero (suc j) d le lt h = absurd (omega arith)
parted e (f ∷ g ∷ fs) c zero (suc j) d le lt h = before_step f g e c.0 (parted e (g ∷ fs) c.1 zero j d (omega arith) (omega arith) h)
parted e (f ∷ fs) c (suc i) zero d le lt h = absurd (omega arith)
parted e (f ∷ []) c (suc i) (suc j) d le lt h = absurd (omega arith)
parted e (f ∷ g ∷ fs) c (suc i) (suc j) d le lt h = parted e (g ∷ fs) c.1 i j d (omega arith) (omega arith) h

-- none of a place behind the place
pub none_behind : (e f : Entry) (fs : List Entry) → IsChain (f ∷ fs) → ComesBefore e f → find (is_cell e.row e.column) (f ∷ fs) ≡ None
none_behind e f [] c h = find_behind (is_cell e.row e.column) f [] (behind_other e f h)
none_behind e f (g ∷ fs) c h = find_behind (is_cell e.row e.column) f (g ∷ fs) (behind_other e f h) ∙ none_behind e g fs c.1 (chained e f g h c.0)

-- the value of what was found, 0 where nothing was
abbrev pub value_of : Option Entry → ℤ
value_of o = unwrap_or (option_map (λ (e : Entry). e.value) o) (pos 0)

-- there is none where all entries stand before the place
pub none_at : (e : Entry) (es : List Entry) → ((i : ℕ) (d : Entry) → i < length es → is_before (get_or es i d) e ≡ true) → value_of (find (is_cell e.row e.column) es) ≡ pos 0
none_at e [] h = refl
none_at e (f ∷ fs) h =
    ap value_of (find_behind (is_cell e.row e.column) f fs (before_other e f (h 0 f (omega arith)))) ∙ none_at e fs (λ i d lt. h (suc i) d (omega (arith, lt)))

-- else it is the first one that doesn't, if that is of the place
pub one_at : (e : Entry) (es : List Entry) (k : ℕ) → IsChain es → k < length es → ((i : ℕ) (d : Entry) → i < k → is_before (get_or es i d) e ≡ true) → is_before (get_or es k no_entry) e ≡ false → value_of (find (is_cell e.row e.column) es) ≡ if is_at (get_or es k no_entry) e then (get_or es k no_entry).value else pos 0
one_at e [] k c lt h stop = absurd (omega (arith, lt))
one_at e (f ∷ fs) zero c lt h stop = by_place (is_at f e) refl
  where
    by_place : (t : Bool) → is_at f e ≡ t → value_of (find (is_cell e.row e.column) (f ∷ fs)) ≡ if t then f.value else pos 0
    by_place true a = ap value_of (find_head (is_cell e.row e.column) f fs a)
    by_place false a = ap value_of (none_behind e f fs c (after_is f e stop a))
one_at e (f ∷ fs) (suc k) c lt h stop =
    ap value_of (find_behind (is_cell e.row e.column) f fs (before_other e f (h 0 f (omega arith)))) ∙ one_at e fs k (chain_tail f fs c) (omega (arith, lt)) (λ i d l. h (suc i) d (omega (arith, l))) stop

-- what is found passes
pub found_passes : (q : Entry → Bool) (es : List Entry) (e : Entry) → find q es ≡ Some e → q e ≡ true
found_passes q [] e h = absurd (let z = h in cc)
found_passes q (x ∷ es) e h = by_test (q x) refl h (λ g. found_passes q es e g)
  where
    by_test : (t : Bool) → q x ≡ t → (if t then Some x else find q es) ≡ Some e → (find q es ≡ Some e → q e ≡ true) → q e ≡ true
    by_test true c g r = let same : x ≡ e = ap (λ o. unwrap_or o x) g in subst (λ y. q y ≡ true) same c
    by_test false c g r = r g
