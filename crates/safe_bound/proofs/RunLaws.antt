-- a column's entries stand side by side, and the sum over them is the sum over all entries

use Rattle.std.proofs.Common.{arith, refl, ap, sym, ◌∙◌, ◌≡◌, ℕ, zero, suc, ◌+◌, ◌-◌, ◌<◌, ◌≤◌, ◌==◌, Bool, true, false, nat_le, List, length, take, ℤ, pos, ◌+ℤ◌, ◌*ℤ◌, if◌then◌else◌}
use Rattle.std.proofs.lemmas.Int.{ints}
use Rattle.std.proofs.lemmas.List.{take_all}
use Rattle.std.proofs.lemmas.List.Sums.{fold_more}
use Rattle.boxed_problem.specs.Data.{Problem}
use Rattle.boxed_problem.specs.BoxedFacts.{entry_at, no_entry, AreAscending}
use Rattle.base_words.specs.Sums.{number_at}
use Rattle.boxed_problem.specs.declared.parts.Entry.{Entry}
use Rattle.boxed_problem.specs.declared.parts.Prices.{Prices}
use Rattle.safe_bound.specs.PriceBound.{entry_price, unit_price}
use Rattle.safe_bound.specs.Runs.{IsColumnRun, IsRunEnd, StartsAt}
use Rattle.base_words.specs.ListSums.{sum_z}

-- the columns never fall
ascending : (es : List Entry) → AreAscending es → (i n : ℕ) → i + n < length es → (entry_at es i).column ≤ (entry_at es (i + n)).column
ascending es a i zero h = let e : i + zero ≡ i = omega arith in omega (arith, ap (λ k. (entry_at es k).column) e)
ascending es a i (suc n) h =
    let r = ascending es a i n (omega arith) in
    let s = (a (i + n) (omega arith)).0 in
    let e : i + suc n ≡ (i + n) + 1 = omega arith in
    omega (arith, r, s, ap (λ k. (entry_at es k).column) e)

-- from the first entry of a column to the first one of another, the entries are those of the column
pub run_is : (es : List Entry) (column first end : ℕ) → AreAscending es → StartsAt es column first → IsRunEnd es column first end → IsColumnRun es column first end
run_is es column first end a s r = record { starts = s; order = r.order; within = r.within; inside = r.inside; behind = later }
  where
    later : (k : ℕ) → end ≤ k → k < length es → column < (entry_at es k).column
    later k h l =
        let up = ascending es a end (k - end) (omega arith) in
        let e : end + (k - end) ≡ k = omega arith in
        let low = s.behind end r.order (omega arith) in
        let u : (entry_at es end).column ≤ (entry_at es k).column = omega (arith, up, ap (λ i. (entry_at es i).column) e) in
        by_test (nat_le (entry_at es k).column column) refl (λ m. r.other (omega arith) (omega (arith, low, u, m)))
      where
        by_test : (t : Bool) → nat_le (entry_at es k).column column ≡ t → ((entry_at es k).column ≤ column → ⊥) → column < (entry_at es k).column
        by_test true e n = let m : (entry_at es k).column ≤ column = grind arith in absurd (n m)
        by_test false e n = grind arith

-- behind a column's entries begin those of the later columns
pub run_next : (es : List Entry) (column first end : ℕ) → IsColumnRun es column first end → StartsAt es (column + 1) end
run_next es column first end r = record {
  within = r.within;
  before = λ k l. by_place k l (nat_le first k) refl;
  behind = λ k l m. let p = r.behind k l m in omega (arith, p);
}
  where
    by_place : (k : ℕ) → k < end → (t : Bool) → nat_le first k ≡ t → (entry_at es k).column < column + 1
    by_place k l true e = let m : first ≤ k = grind arith in let p = r.inside k m l in omega (arith, p)
    by_place k l false e = let m : k < first = grind arith in let p = r.starts.before k m in omega (arith, p)

-- the entries of the first column begin at the first entry
starts_first : (es : List Entry) → StartsAt es 0 0
starts_first es = record { within = omega arith; before = λ k l. absurd (omega arith); behind = λ k l m. omega arith }

-- parts that are 0 add nothing
same_sum : (f : Entry → ℤ) (es : List Entry) (i n : ℕ) → i + n ≤ length es → ((k : ℕ) → i ≤ k → k < i + n → f (entry_at es k) ≡ pos 0) → sum_z f (take (i + n) es) ≡ sum_z f (take i es)
same_sum f es i zero h z = let e : i + zero ≡ i = omega arith in ap (λ k. sum_z f (take k es)) e
same_sum f es i (suc n) h z =
    let r = same_sum f es i n (omega arith) (λ k l m. z k l (omega arith)) in
    let e : i + suc n ≡ (i + n) + 1 = omega arith in
    let m = fold_more (λ s e. s +ℤ f e) (pos 0) es (i + n) no_entry (omega arith) in
    let p = z (i + n) (omega arith) (omega arith) in
    omega (arith, ints, r, ap (λ k. sum_z f (take k es)) e, m, p)

entry_elsewhere : (prices : Prices) (j : ℕ) (e : Entry) → (e.column ≡ j → ⊥) → entry_price prices j e ≡ pos 0
entry_elsewhere prices j e h = by_test (e.column == j) refl
  where
    by_test : (t : Bool) → (e.column == j) ≡ t → (if t then number_at prices.values e.row *ℤ e.value else pos 0) ≡ pos 0
    by_test true d = let same : e.column ≡ j = grind arith in absurd (h same)
    by_test false d = refl

pub entry_here : (prices : Prices) (j : ℕ) (e : Entry) → e.column ≡ j → entry_price prices j e ≡ (number_at prices.values e.row *ℤ e.value)
entry_here prices j e h =
    let d : (e.column == j) ≡ true = grind arith in
    ap (λ t. if t then number_at prices.values e.row *ℤ e.value else pos 0) d

-- the sum over the entries before a column's is 0
pub price_before : (prices : Prices) (es : List Entry) (column first end : ℕ) → IsColumnRun es column first end → pos 0 ≡ sum_z (entry_price prices column) (take first es)
price_before prices es column first end r =
    let w : 0 + first ≤ length es = omega (arith, r.starts.within) in
    let n : 0 + first ≡ first = omega arith in
    let s = same_sum (entry_price prices column) es 0 first w
    (λ k l m. entry_elsewhere prices column (entry_at es k) (λ e. let p = r.starts.before k (omega arith) in omega (arith, p, e))) in
    sym (sym (ap (λ k. sum_z (entry_price prices column) (take k es)) n) ∙ s)

-- the sum up to the end of a column's entries is that of the column
pub price_upto : (b : Problem) (prices : Prices) (column first end : ℕ) → IsColumnRun b.entries column first end → sum_z (entry_price prices column) (take end b.entries) ≡ unit_price b prices column
price_upto b prices column first end r =
    let n = length b.entries - end in
    let w = r.within in
    let e : end + n ≡ length b.entries = omega arith in
    sym (same_sum (entry_price prices column) b.entries end n (omega arith)
    (λ k l m. entry_elsewhere prices column (entry_at b.entries k) (λ d. let p = r.behind k l (omega arith) in omega (arith, p, d))))
    ∙ ap (λ es. sum_z (entry_price prices column) es) (take_all (end + n) b.entries (omega arith))
