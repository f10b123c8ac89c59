-- The ranges of rows, while a column's side is changed.
use Rattle.std.proofs.Common.{arith, refl, ap, sym, subst, inl, inr, ◌∙◌, ◌≡◌, ◌⊎◌, ℕ, ◌+◌, ◌*◌, ◌^◌, ◌==◌, ◌<◌, ◌≤◌, Bool, true, false, nat_le, nat_lt, List, [], ◌∷◌, ◌++◌, length, slice_set, get_or, ℤ, pos, ◌+ℤ◌, ◌-ℤ◌, ◌*ℤ◌, unsigned_abs, FitsSigned, if◌then◌else◌}
use Rattle.std.proofs.lemmas.Int.{ints, unsigned_abs-mul}
use Rattle.std.proofs.lemmas.List.{length_push}
use Rattle.std.proofs.lemmas.List.Elements.{All-push}
use Rattle.std.proofs.lemmas.List.Sums.{get_or-le-sum_by}
use Rattle.std.proofs.Math.Nat.{mul-le-mul_left}
use Rattle.std.specs.Int.{w128, int_max, int_min}
use Rattle.std.specs.List.{All, sum_by}
use Rattle.boxed_problem.specs.BoxedFacts.{entry_at, entry_size, no_entry, row_size}
use Rattle.propagate.specs.Ranges.{high_part, low_part}
use Rattle.boxed_problem.specs.Sides.{no_side, reach, side_at}
use Rattle.boxed_problem.specs.declared.parts.Entry.{Entry}
use Rattle.boxed_problem.specs.declared.parts.Limits.{Limits}
use Rattle.propagate.specs.declared.range.Range.{Range}
use Rattle.boxed_problem.specs.declared.parts.Side.{Side}
use Rattle.boxed_problem.proofs.Lying.{side_reach}
use Rattle.base_words.proofs.Magnitudes.{abs-add, fits_from_abs, abs-less}
use Rattle.base_words.proofs.NumberTests.{test_from_other, test_from_same}
use Rattle.boxed_problem.proofs.Narrower.{entry_size-reach}
use Rattle.propagate.proofs.RangeLaws.{high_part-size, low_part-size, abs-min, abs-max}
use Rattle.propagate.specs.Ranged.{AreRanges, IsInside, IsTrail, high_end, low_end, moved, no_range, range_at}
use Rattle.propagate.specs.Spans.{IsBorder, IsSparse, place_at}
use Rattle.propagate.specs.declared.changes.Change.{Change}
use Rattle.propagate.proofs.Mixed.{mixed, mixed-abs, mixed_end, mixed_next, mixed_start}
use Rattle.propagate.proofs.SpanLaws.{item_not_set, item_set, items_long, pushed_before, pushed_last, same_or_not}

-- the parts of an entry of another column stay
parts_stay : (sides : List Side) (j : ℕ) (s : Side) (i : ℕ) (e : Entry) → (e.column ≡ j → ⊥) → (low_part sides i e ≡ low_part (slice_set sides j s) i e) × (high_part sides i e ≡ high_part (slice_set sides j s) i e)
parts_stay sides j s i e n =
    let p = sym (item_not_set sides j e.column s no_side n) in
    (ap (λ t. if e.row == i then int_min (e.value *ℤ t.lower) (e.value *ℤ t.upper) else pos 0) p, ap (λ t. if e.row == i then int_max (e.value *ℤ t.lower) (e.value *ℤ t.upper) else pos 0) p)

-- the parts of an entry of the row are its ends
pub parts_here : (sides : List Side) (i j : ℕ) (s : Side) (e : Entry) → e.row ≡ i → e.column ≡ j → side_at sides j ≡ s → (low_part sides i e ≡ low_end e.value s) × (high_part sides i e ≡ high_end e.value s)
parts_here sides i j s e r h d =
    let t = test_from_same e.row i r in
    let p : side_at sides e.column ≡ s = ap (λ k. side_at sides k) h ∙ d in (
      ap (λ q. if q then int_min (e.value *ℤ (side_at sides e.column).lower) (e.value *ℤ (side_at sides e.column).upper) else pos 0) t ∙ ap (λ z. low_end e.value z) p,
      ap (λ q. if q then int_max (e.value *ℤ (side_at sides e.column).lower) (e.value *ℤ (side_at sides e.column).upper) else pos 0) t ∙ ap (λ z. high_end e.value z) p,
    )

-- the parts of an entry of another row are 0
parts_other : (sides : List Side) (i : ℕ) (e : Entry) → (e.row ≡ i → ⊥) → (low_part sides i e ≡ pos 0) × (high_part sides i e ≡ pos 0)
parts_other sides i e n =
    let t = test_from_other e.row i n in (
      ap (λ q. if q then int_min (e.value *ℤ (side_at sides e.column).lower) (e.value *ℤ (side_at sides e.column).upper) else pos 0) t,
      ap (λ q. if q then int_max (e.value *ℤ (side_at sides e.column).lower) (e.value *ℤ (side_at sides e.column).upper) else pos 0) t,
    )

-- a row's range with the first k entries over the new sides, the others over the old ones
pub record IsMoving (entries : List Entry) (old new : List Side) (k i : ℕ) (range : Range) : Type 0 where
  pub low : range.low ≡ mixed k (low_part old i) (low_part new i) entries
  pub high : range.high ≡ mixed k (high_part old i) (high_part new i) entries

pub record AreMoving (n : ℕ) (entries : List Entry) (old new : List Side) (k : ℕ) (ranges : List Range) : Type 0 where
  pub long : length ranges ≡ n
  pub all : (i : ℕ) → i < n → IsMoving entries old new k i (range_at ranges i)

sum_is : {E : Type 0} (f : E → ℤ) (z : ℤ) → (pos 0 +ℤ z) ≡ z
sum_is f z = omega (arith, ints)

-- before the column's entries
pub moving_start : (n : ℕ) (entries : List Entry) (old : List Side) (j : ℕ) (s : Side) (k : ℕ) (ranges : List Range) → IsBorder entries j k → AreRanges n entries old ranges → AreMoving n entries old (slice_set old j s) k ranges
moving_start n entries old j s k ranges border are = record {
  long = are.long;
  all = λ i l.
      let r = are.all i l in
      let low = mixed_start (low_part old i) (low_part (slice_set old j s) i) entries k no_entry (λ m a b. (parts_stay old j s i (entry_at entries m) (λ e. let c = border.before m a in absurd (omega (arith, c, e)))).0) in
      let high = mixed_start (high_part old i) (high_part (slice_set old j s) i) entries k no_entry (λ m a b. (parts_stay old j s i (entry_at entries m) (λ e. let c = border.before m a in absurd (omega (arith, c, e)))).1) in
      record { low = omega (arith, ints, r.low, low); high = omega (arith, ints, r.high, high) };
}

-- behind the column's entries
pub moving_end : (n : ℕ) (entries : List Entry) (old : List Side) (j : ℕ) (s : Side) (k to : ℕ) (ranges : List Range) → IsBorder entries (j + 1) to → to ≤ k → AreMoving n entries old (slice_set old j s) k ranges → AreRanges n entries (slice_set old j s) ranges
moving_end n entries old j s k to ranges border past are = record {
  long = are.long;
  all = λ i l.
      let r = are.all i l in
      let low = mixed_end (low_part old i) (low_part (slice_set old j s) i) entries k no_entry (λ m a b. (parts_stay old j s i (entry_at entries m) (λ e. let c = border.behind m (omega arith) b in absurd (omega (arith, c, e)))).0) in
      let high = mixed_end (high_part old i) (high_part (slice_set old j s) i) entries k no_entry (λ m a b. (parts_stay old j s i (entry_at entries m) (λ e. let c = border.behind m (omega arith) b in absurd (omega (arith, c, e)))).1) in
      record { low = omega (arith, ints, r.low, low); high = omega (arith, ints, r.high, high) };
}

-- one entry of the column
pub moving_next : (n : ℕ) (entries : List Entry) (old : List Side) (j : ℕ) (s : Side) (k : ℕ) (ranges : List Range) → k < length entries → (entry_at entries k).row < n → (entry_at entries k).column ≡ j → j < length old →
    AreMoving n entries old (slice_set old j s) k ranges →
    AreMoving n entries old (slice_set old j s) (k + 1) (slice_set ranges (entry_at entries k).row (moved (entry_at entries k).value (side_at old j) s (range_at ranges (entry_at entries k).row)))
moving_next n entries old j s k ranges l below here inside are = record {
  long = items_long ranges e.row next ∙ are.long;
  all = λ i m. by_row i m (same_or_not i e.row);
}
  where
    e : Entry
    e = entry_at entries k

    next : Range
    next = moved (entry_at entries k).value (side_at old j) s (range_at ranges (entry_at entries k).row)

    same_row : (i : ℕ) → i < n → i ≡ e.row → IsMoving entries old (slice_set old j s) (k + 1) i (range_at (slice_set ranges e.row next) i)
    same_row i m d =
        let r = are.all i m in
        let p = parts_here old i j (side_at old j) e (sym d) here refl in
        let q = parts_here (slice_set old j s) i j s e (sym d) here (item_set old j s no_side inside) in
        let low = mixed_next (low_part old i) (low_part (slice_set old j s) i) entries k no_entry l in
        let high = mixed_next (high_part old i) (high_part (slice_set old j s) i) entries k no_entry l in
        let put : range_at (slice_set ranges e.row next) i ≡ next = ap (λ z. range_at (slice_set ranges e.row next) z) d ∙ item_set ranges e.row next no_range (omega (arith, are.long, below)) in
        let was : range_at ranges e.row ≡ range_at ranges i = ap (λ z. range_at ranges z) (sym d) in
        let a = ap (λ (z : Range). z.low) put in
        let b = ap (λ (z : Range). z.high) put in
        let c = ap (λ (z : Range). z.low) was in
        let f = ap (λ (z : Range). z.high) was in
        record { low = omega (arith, ints, r.low, low, p.0, q.0, a, c); high = omega (arith, ints, r.high, high, p.1, q.1, b, f) }

    by_row : (i : ℕ) → i < n → (i ≡ e.row) ⊎ (i ≡ e.row → ⊥) → IsMoving entries old (slice_set old j s) (k + 1) i (range_at (slice_set ranges e.row next) i)
    by_row i m (inl d) = same_row i m d
    by_row i m (inr d) =
        let r = are.all i m in
        let p = parts_other old i e (λ h. d (sym h)) in
        let q = parts_other (slice_set old j s) i e (λ h. d (sym h)) in
        let low = mixed_next (low_part old i) (low_part (slice_set old j s) i) entries k no_entry l in
        let high = mixed_next (high_part old i) (high_part (slice_set old j s) i) entries k no_entry l in
        let stays = item_not_set ranges e.row i next no_range d in
        let a = ap (λ (z : Range). z.low) stays in
        let b = ap (λ (z : Range). z.high) stays in
        record { low = omega (arith, ints, r.low, low, p.0, q.0, a); high = omega (arith, ints, r.high, high, p.1, q.1, b) }

-- a column's entries begin before they end
borders_order : (entries : List Entry) (j from to : ℕ) → IsBorder entries j from → IsBorder entries (j + 1) to → from ≤ to
borders_order entries j from to a b = by_order (nat_le from to) refl
  where
    by_order : (t : Bool) → nat_le from to ≡ t → from ≤ to
    by_order true e = grind arith
    by_order false e =
        let l : to < from = grind arith in
        let m = a.most in
        let p = a.before to l in
        let q = b.behind to (omega arith) (omega arith) in
        absurd (omega (arith, p, q))

-- the entries between a column's borders are of that column
pub column_is : (entries : List Entry) (j from to k : ℕ) → IsBorder entries j from → IsBorder entries (j + 1) to → from ≤ k → k < to → (entry_at entries k).column ≡ j
column_is entries j from to k a b l m =
    let n = b.most in
    let p = a.behind k l (omega arith) in
    let q = b.before k m in
    omega (arith, p, q)

-- each entry of the column is between its borders
column_all : (entries : List Entry) (j from to k : ℕ) → IsBorder entries j from → IsBorder entries (j + 1) to → k < length entries → (entry_at entries k).column ≡ j → (from ≤ k) × (k < to)
column_all entries j from to k a b l e = (first (nat_le from k) refl, last (nat_le (k + 1) to) refl)
  where
    first : (t : Bool) → nat_le from k ≡ t → from ≤ k
    first true d = grind arith
    first false d = let m : k < from = grind arith in let p = a.before k m in absurd (omega (arith, p, e))

    last : (t : Bool) → nat_le (k + 1) to ≡ t → k < to
    last true d = grind arith
    last false d = let m : to ≤ k = grind arith in let p = b.behind k m l in absurd (omega (arith, p, e))

inside_reach : (inner outer : Side) → IsInside inner outer → reach inner ≤ reach outer
inside_reach inner outer h = side_reach inner outer h.lower h.filled h.upper

-- sides within others have parts within the others' magnitudes
part_grows : (inner outer : List Side) (i : ℕ) (e : Entry) → ((j : ℕ) → IsInside (side_at inner j) (side_at outer j)) → entry_size inner i e ≤ entry_size outer i e
part_grows inner outer i e h = entry_size-reach inner outer i e (inside_reach (side_at inner e.column) (side_at outer e.column) (h e.column))

-- a range on the way is no greater than the row
pub moving_small : (columns : List Side) (entries : List Entry) (old new : List Side) (k i : ℕ) (range : Range) → ((j : ℕ) → IsInside (side_at old j) (side_at columns j)) → ((j : ℕ) → IsInside (side_at new j) (side_at columns j)) →
    sum_by (entry_size columns i) entries ≤ 2 ^ 122 → IsMoving entries old new k i range → (unsigned_abs range.low ≤ 2 ^ 122) × (unsigned_abs range.high ≤ 2 ^ 122)
moving_small columns entries old new k i range a b f m =
    let low = mixed-abs (low_part old i) (low_part new i) (entry_size columns i)
    (λ e. let p = low_part-size old i e in let q = part_grows old columns i e a in omega (arith, p, q))
    (λ e. let p = low_part-size new i e in let q = part_grows new columns i e b in omega (arith, p, q)) k entries in
    let high = mixed-abs (high_part old i) (high_part new i) (entry_size columns i)
    (λ e. let p = high_part-size old i e in let q = part_grows old columns i e a in omega (arith, p, q))
    (λ e. let p = high_part-size new i e in let q = part_grows new columns i e b in omega (arith, p, q)) k entries in
    (omega (arith, ap unsigned_abs m.low, low, f), omega (arith, ap unsigned_abs m.high, high, f))

-- an entry's products over a side within its column are no greater than its row
pub product_small : (columns : List Side) (entries : List Entry) (k : ℕ) (s : Side) → k < length entries → IsInside s (side_at columns (entry_at entries k).column) → sum_by (entry_size columns (entry_at entries k).row) entries ≤ 2 ^ 122 →
    unsigned_abs (entry_at entries k).value * reach s ≤ 2 ^ 122
product_small columns entries k s l h f =
    let e = entry_at entries k in
    let p = get_or-le-sum_by (entry_size columns e.row) entries k no_entry l in
    let t = ap (λ q. if q then unsigned_abs e.value * reach (side_at columns e.column) else 0) (test_from_same e.row e.row refl) in
    let q = mul-le-mul_left (unsigned_abs e.value) (inside_reach s (side_at columns e.column) h) in
    omega (arith, p, t, q, f)

-- a side put into sides within the columns
pub inside_set : (columns sides : List Side) (j : ℕ) (s : Side) → j < length sides → ((k : ℕ) → IsInside (side_at sides k) (side_at columns k)) → IsInside s (side_at columns j) → (k : ℕ) → IsInside (side_at (slice_set sides j s) k) (side_at columns k)
inside_set columns sides j s l h i k = by_place (same_or_not k j)
  where
    by_place : (k ≡ j) ⊎ (k ≡ j → ⊥) → IsInside (side_at (slice_set sides j s) k) (side_at columns k)
    by_place (inl e) = subst (λ m. IsInside (side_at (slice_set sides j s) m) (side_at columns m)) (sym e) (subst (λ t. IsInside t (side_at columns j)) (sym (item_set sides j s no_side l)) i)
    by_place (inr n) = subst (λ t. IsInside t (side_at columns k)) (sym (item_not_set sides j k s no_side n)) (h k)

-- a row's entries fit
pub row_small : (columns : List Side) (rows : List Limits) (entries : List Entry) (i : ℕ) → row_size columns rows entries i ≤ 2 ^ 122 → sum_by (entry_size columns i) entries ≤ 2 ^ 122
row_small columns rows entries i h = omega (arith, h)

-- the ends of a product over a side are no greater than the product of the magnitudes
pub ends_small : (v : ℤ) (s : Side) (m : ℕ) → unsigned_abs v * reach s ≤ m → (unsigned_abs (low_end v s) ≤ m) × (unsigned_abs (high_end v s) ≤ m)
ends_small v s m h =
    let l : unsigned_abs s.lower ≤ reach s = omega arith in
    let u : unsigned_abs s.upper ≤ reach s = omega arith in
    let a : unsigned_abs (v *ℤ s.lower) ≤ m = omega (arith, unsigned_abs-mul v s.lower, mul-le-mul_left (unsigned_abs v) l, h) in
    let b : unsigned_abs (v *ℤ s.upper) ≤ m = omega (arith, unsigned_abs-mul v s.upper, mul-le-mul_left (unsigned_abs v) u, h) in
    (abs-min (v *ℤ s.lower) (v *ℤ s.upper) m a b, abs-max (v *ℤ s.lower) (v *ℤ s.upper) m a b)

pub less_more_fit : (a b d : ℤ) → unsigned_abs a ≤ 2 ^ 122 → unsigned_abs b ≤ 2 ^ 122 → unsigned_abs d ≤ 2 ^ 122 → FitsSigned w128 ((a -ℤ b) +ℤ d)
less_more_fit a b d h k l = fits_from_abs ((a -ℤ b) +ℤ d) (omega (arith, abs-less a b, abs-add (a -ℤ b) d))

-- ranges with the same ends
abbrev range_of : ℤ → ℤ → Range
range_of l h = record { low = l; high = h }

pub same_range : (r s : Range) → r.low ≡ s.low → r.high ≡ s.high → r ≡ s
same_range r s l h = ap (λ z. range_of z r.high) l ∙ ap (λ z. range_of s.low z) h

-- what one entry in a column's part of the list needs
pub record AtEntry (columns : List Side) (rows : List Limits) (entries : List Entry) (j k : ℕ) : Type 0 where
  pub short : k < length entries
  pub row : (entry_at entries k).row < length rows
  pub column : (entry_at entries k).column ≡ j
  pub fits : sum_by (entry_size columns (entry_at entries k).row) entries ≤ 2 ^ 122

pub at_entry : (columns : List Side) (rows : List Limits) (entries : List Entry) (starts firsts nexts : List ℕ) (j k : ℕ) → IsSparse columns rows entries starts firsts nexts → j < length columns → place_at starts j ≤ k → k < place_at starts (j + 1) → AtEntry columns rows entries j k
at_entry columns rows entries starts firsts nexts j k facts l a b =
    let from = facts.starts_are j (omega arith) in
    let to = facts.starts_are (j + 1) (omega arith) in
    let short : k < length entries = omega (arith, to.most, b) in
    let row = (facts.places k no_entry short).0 in
    record {
      short = short;
      row = row;
      column = column_is entries j (place_at starts j) (place_at starts (j + 1)) k from to a b;
      fits = row_small columns rows entries (entry_at entries k).row (facts.rows_fit (entry_at entries k).row row);
    }

-- places before an item behind
pub all_before : {A : Type 0} (P : A → Type 0) (xs : List A) (x : A) → All P (xs ++ x ∷ []) → All P xs × P x
all_before P xs x h = (λ i d l. subst P (get_before xs x d i l) (h i d (omega (arith, length_push xs x))), subst P (pushed_last xs x x (length xs) refl) (h (length xs) x (omega (arith, length_push xs x))))
  where
    get_before : {A : Type 0} (xs : List A) (x d : A) (k : ℕ) → k < length xs → get_or (xs ++ x ∷ []) k d ≡ get_or xs k d
    get_before xs x d k l = pushed_before xs x d k l

-- a side in one that lies in a third
pub inside_trans : (a b c : Side) → IsInside a b → IsInside b c → IsInside a c
inside_trans a b c h k = record { lower = omega (arith, ints, h.lower, k.lower); filled = h.filled; upper = omega (arith, ints, h.upper, k.upper) }

-- a trail after a side was put in its place, and kept in mind
pub trail_put : (columns : List Side) (n : ℕ) (entries : List Entry) (sides : List Side) (changes : List Change) (marks : List ℕ) (ranges now : List Range) (j : ℕ) (s : Side) → IsTrail columns n entries sides changes marks ranges → j < length sides →
    IsInside s (side_at columns j) → AreRanges n entries (slice_set sides j s) now → IsTrail columns n entries (slice_set sides j s) (changes ++ (record { column = j; old = side_at sides j }) ∷ []) marks now
trail_put columns n entries sides changes marks ranges now j s t l i are = record {
  long = items_long sides j s ∙ t.long;
  inside = inside_set columns sides j s l t.inside i;
  olds = All-push (λ c. (c.column < length columns) × IsInside c.old (side_at columns c.column)) changes (record { column = j; old = side_at sides j }) t.olds (omega (arith, l, t.long), t.inside j);
  made = λ k m. omega (arith, t.made k m, length_push changes (record { column = j; old = side_at sides j }));
  rising = t.rising;
  are = are;
}

-- a trail with one more change in mind
trail_kept : (columns : List Side) (n : ℕ) (entries : List Entry) (sides : List Side) (changes : List Change) (marks : List ℕ) (ranges : List Range) (j : ℕ) → IsTrail columns n entries sides changes marks ranges → j < length sides →
    IsTrail columns n entries sides (changes ++ (record { column = j; old = side_at sides j }) ∷ []) marks ranges
trail_kept columns n entries sides changes marks ranges j t l = record {
  long = t.long;
  inside = t.inside;
  olds = All-push (λ c. (c.column < length columns) × IsInside c.old (side_at columns c.column)) changes (record { column = j; old = side_at sides j }) t.olds (omega (arith, l, t.long), t.inside j);
  made = λ k m. omega (arith, t.made k m, length_push changes (record { column = j; old = side_at sides j }));
  rising = t.rising;
  are = t.are;
}

-- what the last change gives back
trail_last : (columns : List Side) (n : ℕ) (entries : List Entry) (sides : List Side) (changes rest : List Change) (last : Change) (marks : List ℕ) (ranges : List Range) → changes ≡ rest ++ last ∷ [] → IsTrail columns n entries sides changes marks ranges →
    (last.column < length columns) × IsInside last.old (side_at columns last.column)
trail_last columns n entries sides changes rest last marks ranges e t =
    (all_before (λ c. (c.column < length columns) × IsInside c.old (side_at columns c.column)) rest last (subst (λ cs. All (λ c. (c.column < length columns) × IsInside c.old (side_at columns c.column)) cs) e t.olds)).1

-- a trail whose last change is undone, where each mark is older
pub trail_undone : (columns : List Side) (n : ℕ) (entries : List Entry) (sides : List Side) (changes rest : List Change) (last : Change) (marks : List ℕ) (ranges now : List Range) → changes ≡ rest ++ last ∷ [] → IsTrail columns n entries sides changes marks ranges →
    ((k : ℕ) → k < length marks → place_at marks k < length changes) →
    AreRanges n entries (slice_set sides last.column last.old) now → IsTrail columns n entries (slice_set sides last.column last.old) rest marks now
trail_undone columns n entries sides changes rest last marks ranges now e t older are =
    let both = all_before (λ c. (c.column < length columns) × IsInside c.old (side_at columns c.column)) rest last (subst (λ cs. All (λ c. (c.column < length columns) × IsInside c.old (side_at columns c.column)) cs) e t.olds) in
    record {
      long = items_long sides last.column last.old ∙ t.long;
      inside = inside_set columns sides last.column last.old (omega (arith, both.1.0, t.long)) t.inside both.1.1;
      olds = both.0;
      made = λ k m. omega (arith, older k m, ap length e, length_push rest last);
      rising = t.rising;
      are = are;
    }

-- one mark more, that is the number of changes
trail_marked : (columns : List Side) (n : ℕ) (entries : List Entry) (sides : List Side) (changes : List Change) (marks : List ℕ) (ranges : List Range) (m : ℕ) → IsTrail columns n entries sides changes marks ranges → m ≡ length changes →
    IsTrail columns n entries sides changes (marks ++ m ∷ []) ranges
trail_marked columns n entries sides changes marks ranges m t e = record {
  long = t.long;
  inside = t.inside;
  olds = t.olds;
  made = made;
  rising = λ i k l b. by_place i k l b (nat_lt k (length marks)) refl;
  are = t.are;
}
  where
    made : (k : ℕ) → k < length (marks ++ m ∷ []) → place_at (marks ++ m ∷ []) k ≤ length changes
    made k l = by_mark (nat_lt k (length marks)) refl
      where
        by_mark : (u : Bool) → nat_lt k (length marks) ≡ u → place_at (marks ++ m ∷ []) k ≤ length changes
        by_mark true d = let b : k < length marks = grind arith in omega (arith, pushed_before marks m 0 k b, t.made k b)
        by_mark false d = let b : k ≡ length marks = (let a : length marks ≤ k = grind arith in omega (arith, l, a, length_push marks m)) in omega (arith, e, pushed_last marks m 0 k b)

    by_place : (i k : ℕ) → i ≤ k → k < length (marks ++ m ∷ []) → (u : Bool) → nat_lt k (length marks) ≡ u → place_at (marks ++ m ∷ []) i ≤ place_at (marks ++ m ∷ []) k
    by_place i k l b true d =
        let short : k < length marks = grind arith in
        omega (arith, pushed_before marks m 0 k short, pushed_before marks m 0 i (omega (arith, l, short)), t.rising i k l short)
    by_place i k l b false d =
        let last : k ≡ length marks = (let a : length marks ≤ k = grind arith in omega (arith, b, a, length_push marks m)) in
        omega (arith, e, pushed_last marks m 0 k last, made i (omega (arith, l, b)))

-- the last mark less
trail_dropped : (columns : List Side) (n : ℕ) (entries : List Entry) (sides : List Side) (changes : List Change) (marks rest : List ℕ) (last : ℕ) (ranges : List Range) → marks ≡ rest ++ last ∷ [] → IsTrail columns n entries sides changes marks ranges →
    IsTrail columns n entries sides changes rest ranges
trail_dropped columns n entries sides changes marks rest last ranges e t =
    let s = subst (λ ms. IsTrail columns n entries sides changes ms ranges) e t in
    record {
      long = s.long;
      inside = s.inside;
      olds = s.olds;
      made = λ k l. omega (arith, s.made k (omega (arith, l, length_push rest last)), pushed_before rest last 0 k l);
      rising = λ i k l b. omega (arith, s.rising i k l (omega (arith, b, length_push rest last)), pushed_before rest last 0 k b, pushed_before rest last 0 i (omega (arith, l, b)));
      are = s.are;
    }
