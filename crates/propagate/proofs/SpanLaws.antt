-- Entries by column and by row.
use Rattle.std.proofs.Common.{arith, refl, ap, sym, subst, inl, inr, ◌∙◌, ◌≡◌, ◌⊎◌, ℕ, zero, suc, ◌+◌, ◌-◌, ◌<◌, ◌≤◌, Bool, true, false, nat_le, nat_lt, List, [], ◌∷◌, ◌++◌, length, slice_index_or, slice_set}
use Rattle.boxed_problem.specs.BoxedFacts.{ComesBefore, entry_at}
use Rattle.boxed_problem.specs.declared.parts.Entry.{Entry}
use Rattle.propagate.specs.Spans.{IsBorder, IsFirst, place_at}

-- whether two numbers are the same
pub same_or_not : (k j : ℕ) → (k ≡ j) ⊎ (k ≡ j → ⊥)
same_or_not zero zero = inl refl
same_or_not zero (suc j) = inr (λ e. absurd (omega (arith, e)))
same_or_not (suc k) zero = inr (λ e. absurd (omega (arith, e)))
same_or_not (suc k) (suc j) = elim (same_or_not k j) [
  | inl e ↦ inl (ap suc e)
  | inr f ↦ inr (λ e. f (omega (arith, e)))
]

-- lists with another item put in
pub item_set : {A : Type 0} (xs : List A) (j : ℕ) (x d : A) → j < length xs → slice_index_or (slice_set xs j x) j d ≡ x
item_set [] j x d l = absurd (omega arith)
item_set (y ∷ xs) zero x d l = refl
item_set (y ∷ xs) (suc j) x d l = item_set xs j x d (omega arith)

pub item_not_set : {A : Type 0} (xs : List A) (j k : ℕ) (x d : A) → (k ≡ j → ⊥) → slice_index_or (slice_set xs j x) k d ≡ slice_index_or xs k d
item_not_set [] j k x d n = refl
item_not_set (y ∷ xs) zero zero x d n = absurd (n refl)
item_not_set (y ∷ xs) zero (suc k) x d n = refl
item_not_set (y ∷ xs) (suc j) zero x d n = refl
item_not_set (y ∷ xs) (suc j) (suc k) x d n = item_not_set xs j k x d (λ e. n (ap suc e))

pub items_long : {A : Type 0} (xs : List A) (j : ℕ) (x : A) → length (slice_set xs j x) ≡ length xs
items_long [] j x = refl
items_long (y ∷ xs) zero x = refl
items_long (y ∷ xs) (suc j) x = ap suc (items_long xs j x)

-- lists with another item behind
pub pushed_last : {A : Type 0} (xs : List A) (x d : A) (k : ℕ) → k ≡ length xs → slice_index_or (xs ++ x ∷ []) k d ≡ x
pushed_last [] x d zero e = refl
pushed_last [] x d (suc k) e = absurd (omega (arith, e))
pushed_last (y ∷ xs) x d zero e = absurd (omega (arith, e))
pushed_last (y ∷ xs) x d (suc k) e = pushed_last xs x d k (omega (arith, e))

pub pushed_before : {A : Type 0} (xs : List A) (x d : A) (k : ℕ) → k < length xs → slice_index_or (xs ++ x ∷ []) k d ≡ slice_index_or xs k d
pushed_before [] x d k l = absurd (omega arith)
pushed_before (y ∷ xs) x d zero l = refl
pushed_before (y ∷ xs) x d (suc k) l = pushed_before xs x d k (omega arith)

-- what holds of each place holds with one more behind
all_pushed : (P : ℕ → ℕ → Type 0) (xs : List ℕ) (x n : ℕ) → length xs ≡ n → ((k : ℕ) → k < n → P k (place_at xs k)) → P n x → (k : ℕ) → k < n + 1 → P k (place_at (xs ++ x ∷ []) k)
all_pushed P xs x n e h p k l = by_place (nat_lt k n) refl
  where
    by_place : (t : Bool) → nat_lt k n ≡ t → P k (place_at (xs ++ x ∷ []) k)
    by_place true f = let m : k < n = grind arith in subst (λ z. P k z) (sym (pushed_before xs x 0 k (omega (arith, e)))) (h k m)
    by_place false f =
        let m : n ≡ k = grind arith in
        subst (λ z. P k z) (sym (pushed_last xs x 0 k (omega (arith, e, m)))) (subst (λ z. P z x) m p)

-- columns ascend
pub columns_rise : (entries : List Entry) → ((k : ℕ) → k + 1 < length entries → ComesBefore (entry_at entries k) (entry_at entries (k + 1))) → (k n : ℕ) → k + n < length entries →
    (entry_at entries k).column ≤ (entry_at entries (k + n)).column
columns_rise entries a k zero l = let e : k + 0 ≡ k = omega arith in omega (arith, ap (λ m. (entry_at entries m).column) e)
columns_rise entries a k (suc n) l =
    let r = columns_rise entries a k n (omega arith) in
    let s = a (k + n) (omega arith) in
    let e : (k + n) + 1 ≡ k + suc n = omega arith in
    omega (arith, r, s.0, ap (λ m. (entry_at entries m).column) e)

-- where the columns behind column j begin
pub border_next : (entries : List Entry) (j at : ℕ) → ((k : ℕ) → k + 1 < length entries → ComesBefore (entry_at entries k) (entry_at entries (k + 1))) → at ≤ length entries →
    ((k : ℕ) → k < at → (entry_at entries k).column < j + 1) → (at < length entries → j < (entry_at entries at).column) → IsBorder entries (j + 1) at
border_next entries j at a most before next = record {
  most = most;
  before = before;
  behind = λ k l m.
      let e : at + (k - at) ≡ k = omega arith in
      let r = columns_rise entries a at (k - at) (omega arith) in
      let n = next (omega arith) in
      omega (arith, r, n, ap (λ i. (entry_at entries i).column) e);
}

-- the first entry of a row, from one place further down
first_here : (entries : List Entry) (i at : ℕ) → at < length entries → (entry_at entries at).row ≡ i → IsFirst entries i at at
first_here entries i at l e = record { least = omega arith; most = omega arith; row = λ m. e; none = λ k m n. absurd (omega arith) }

first_down : (entries : List Entry) (i at place : ℕ) → ((entry_at entries at).row ≡ i → ⊥) → IsFirst entries i (at + 1) place → IsFirst entries i at place
first_down entries i at place n f = record {
  least = omega (arith, f.least);
  most = f.most;
  row = f.row;
  none = λ k l m e. by_place k l m e (same_or_not k at);
}
  where
    by_place : (k : ℕ) → at ≤ k → k < place → (entry_at entries k).row ≡ i → (k ≡ at) ⊎ (k ≡ at → ⊥) → ⊥
    by_place k l m e (inl d) = n (ap (λ z. (entry_at entries z).row) (sym d) ∙ e)
    by_place k l m e (inr d) = f.none k (by_order (nat_le (at + 1) k) refl) m e
      where
        by_order : (t : Bool) → nat_le (at + 1) k ≡ t → at + 1 ≤ k
        by_order true g = grind arith
        by_order false g = let same : k ≡ at = grind arith in absurd (d same)
