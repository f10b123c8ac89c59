-- Sides narrowed by the limits of rows.
use Rattle.std.proofs.Common.{arith, refl, ap, sym, subst, ◌∙◌, ◌≡◌, ℕ, zero, suc, ◌*◌, ◌^◌, ◌==◌, ◌<◌, ◌≤◌, Bool, true, false, ◌&&◌, List, [], ◌∷◌, length, slice_set, ℤ, pos, ◌-ℤ◌, ◌*ℤ◌, ◌≤ℤ◌, Some, Result, Ok, Err, OnOk, OnErr, IfErr, unsigned_abs, FitsSigned, if◌then◌else◌}
use Rattle.std.proofs.lemmas.Int.{ints}
use Rattle.std.proofs.Math.Nat.{mul-le-mul_left}
use Rattle.std.specs.Int.{w128}
use Rattle.std.specs.List.{sum_by}
use Rattle.boxed_problem.specs.Data.{Problem}
use Rattle.boxed_problem.specs.BoxedFacts.{entry_at, entry_size, limits_at, limits_size, no_entry}
use Rattle.boxed_problem.specs.Points.{InBox}
use Rattle.propagate.specs.Ranges.{high_activity, high_part, low_activity, low_part, misses}
use Rattle.boxed_problem.specs.Rows.{activity, activity_part, is_above, is_below, meets_rows}
use Rattle.boxed_problem.specs.Optimum.{meets_all}
use Rattle.boxed_problem.specs.Sides.{Filled, Within, reach, side_at}
use Rattle.base_words.specs.Sums.{number_at}
use Rattle.boxed_problem.specs.declared.parts.Entry.{Entry}
use Rattle.boxed_problem.specs.declared.parts.Limits.{Limits}
use Rattle.propagate.specs.declared.range.Range.{Range}
use Rattle.boxed_problem.specs.declared.parts.Side.{Side}
use Rattle.base_words.proofs.Comparisons.{both_left, both_right, most_from_test, not_not}
use Rattle.base_words.proofs.Magnitudes.{less_fits}
use Rattle.base_words.specs.Signs.{limit_size}
use Rattle.boxed_problem.proofs.FixingLaws.{set_within}
use Rattle.boxed_problem.proofs.Listing.{in_on}
use Rattle.boxed_problem.proofs.Lying.{filled_at, on_lies, within_at, within_reach, within_self, within_trans}
use Rattle.propagate.proofs.RangeLaws.{parts_hold, row_missed, rows_not_missed}
use Rattle.boxed_problem.proofs.RowTests.{row_met}
use Rattle.propagate.specs.SparseParts.{IsOf}
use Rattle.propagate.specs.Emptiness.{OnEmpty}
use Rattle.propagate.specs.declared.fault.TrailFault.{TrailFault}
use Rattle.propagate.specs.declared.fault.TrailFault.TheVariants.{Empty as EmptyRow, Memory}
use Rattle.propagate.specs.declared.fault.Empty.{Empty}
use Rattle.propagate.specs.Ranged.{AreRanges, IsInside, IsRange, IsTrail, high_end, low_end, range_at}
use Rattle.propagate.specs.Tightening.{HoldsNone, HoldsSame, IsCut, IsReady, KeepsAbove, KeepsBelow, KeepsMet, MissesRow, Tightens}
use Rattle.propagate.specs.Trails.{IsAsBefore, KeepsAllMarks}
use Rattle.propagate.specs.declared.sparse.Sparse.{Sparse}
use Rattle.propagate.specs.declared.trail.Trail.{Trail}
use Rattle.propagate.proofs.Backing.{all_marks_trans, before_marks, marks_same}
use Rattle.boxed_problem.specs.declared.problem.Boxed.{Boxed}
use Rattle.propagate.proofs.Setting.{in_set}
use Rattle.propagate.proofs.Widening.{high_falls, low_rises}
use Rattle.propagate.proofs.Mixed.{mixed_start, one_part}
use Rattle.propagate.proofs.RangingLaws.{IsMoving, moving_small, parts_here, product_small, row_small}

filled_all : (box : List Side) → ((j : ℕ) → (side_at box j).lower ≤ℤ (side_at box j).upper) → Filled box
filled_all [] h = tt
filled_all (s ∷ ss) h = (h zero, filled_all ss (λ j. h (suc j)))

pub trail_filled : (t : Trail) → Filled t.sides
trail_filled t = filled_all t.sides (λ j. (t.facts.inside j).filled)

-- the facts of a trail, over the sparse form that it was made with
pub facts_of : (m : Sparse) (t : Trail) → m ≡ t.sparse.value → IsTrail m.columns (length m.rows) m.entries t.sides t.changes t.marks t.ranges
facts_of m t s = subst (λ (n : Sparse). IsTrail n.columns (length n.rows) n.entries t.sides t.changes t.marks t.ranges) (sym s) t.facts

pub tightens_self : (m : Sparse) (t : Trail) → Tightens m t t
tightens_self m t = record { within = within_self t.sides (trail_filled t); keeps = λ x i h. i; marks = marks_same t }

pub tightens_trans : (m : Sparse) (a b d : Trail) → Tightens m a b → Tightens m b d → Tightens m a d
tightens_trans m a b d h k = record {
  within = within_trans d.sides b.sides a.sides k.within h.within;
  keeps = λ x i n. k.keeps x (h.keeps x i n) n;
  marks = all_marks_trans a b d h.marks k.marks;
}

-- the sparse form stays the one that the trail was made with
pub same_on : (m : Sparse) (a b : Trail) → m ≡ a.sparse.value → KeepsAllMarks a b → m ≡ b.sparse.value
same_on m a b s k = s ∙ sym k.each.sparse

-- where all is as before nothing is lost
pub before_tightens : (m : Sparse) (old new : Trail) → IsAsBefore old new → Tightens m old new
before_tightens m old new h = record {
  within = subst (λ sides. Within sides old.sides) (sym h.sides) (within_self old.sides (trail_filled old));
  keeps = λ x i n. subst (λ sides. InBox sides x) (sym h.sides) i;
  marks = before_marks old new h;
}

-- a side put in the place of a column's tightens
put_tightens : (m : Sparse) (old new : Trail) (j : ℕ) (s : Side) → j < length old.sides → IsCut m.rows m.entries old.sides j s → new.sides ≡ slice_set old.sides j s → KeepsAllMarks old new → Tightens m old new
put_tightens m old new j s l cut e marks = record {
  within = subst (λ box. Within box old.sides) (sym e) (set_within old.sides j s l cut.inside.lower cut.inside.filled cut.inside.upper (trail_filled old));
  keeps = λ x i n. let k = cut.keeps x i n in subst (λ box. InBox box x) (sym e) (in_set old.sides j s x l k.0 k.1 i);
  marks = marks;
}

-- the same, where the side may not have been put for want of memory
pub replaced_tightens : {T E : Type 0} (m : Sparse) (old new : Trail) (j : ℕ) (s : Side) (r : Result T E) → j < length old.sides → IsCut m.rows m.entries old.sides j s → OnOk r (new.sides ≡ slice_set old.sides j s) → OnErr r (IsAsBefore old new) → KeepsAllMarks old new → Tightens m old new
replaced_tightens m old new j s (Ok x) l cut e h marks = put_tightens m old new j s l cut e marks
replaced_tightens m old new j s (Err x) l cut e h marks = before_tightens m old new h

-- the row of an entry
pub row_below : (m : Sparse) (t : Trail) (s : m ≡ t.sparse.value) (k : ℕ) → k < length m.entries → (entry_at m.entries k).row < length m.rows
row_below m t s k l = (m.facts.places k no_entry l).0

column_below : (m : Sparse) (t : Trail) (s : m ≡ t.sparse.value) (k : ℕ) → k < length m.entries → (entry_at m.entries k).column < length t.sides
column_below m t s k l = omega (arith, (m.facts.places k no_entry l).1, (facts_of m t s).long)

-- sides that lie in others do so column by column
inside_of : (sides columns : List Side) → Within sides columns → (j : ℕ) → IsInside (side_at sides j) (side_at columns j)
inside_of sides columns w j = let a = within_at sides columns w j in record { lower = a.0; filled = filled_at sides w.filled j; upper = a.1 }

-- a row's range is no greater than the row
range_within : (columns : List Side) (entries : List Entry) (sides : List Side) (i : ℕ) (range : Range) → ((j : ℕ) → IsInside (side_at sides j) (side_at columns j)) → sum_by (entry_size columns i) entries ≤ 2 ^ 122 → IsRange entries sides i range →
    (unsigned_abs range.low ≤ 2 ^ 122) × (unsigned_abs range.high ≤ 2 ^ 122)
range_within columns entries sides i range inside fit r =
    let zl = mixed_start (low_part sides i) (low_part sides i) entries 0 no_entry (λ k a b. refl) in
    let zh = mixed_start (high_part sides i) (high_part sides i) entries 0 no_entry (λ k a b. refl) in
    let moving : IsMoving entries sides sides 0 i range = record { low = omega (arith, ints, r.low, zl); high = omega (arith, ints, r.high, zh) } in
    moving_small columns entries sides sides 0 i range inside inside fit moving

range_small : (m : Sparse) (t : Trail) (s : m ≡ t.sparse.value) (i : ℕ) → i < length m.rows → (unsigned_abs (range_at t.ranges i).low ≤ 2 ^ 122) × (unsigned_abs (range_at t.ranges i).high ≤ 2 ^ 122)
range_small m t s i l =
    range_within m.columns m.entries t.sides i (range_at t.ranges i) (facts_of m t s).inside (row_small m.columns m.rows m.entries i (m.facts.rows_fit i l)) ((facts_of m t s).are.all i l)

activity_small : (columns : List Side) (entries : List Entry) (sides : List Side) (i : ℕ) → Within sides columns → sum_by (entry_size columns i) entries ≤ 2 ^ 122 → (unsigned_abs (low_activity entries sides i) ≤ 2 ^ 122) × (unsigned_abs (high_activity entries sides i) ≤ 2 ^ 122)
activity_small columns entries sides i w fit = range_within columns entries sides i (record { low = low_activity entries sides i; high = high_activity entries sides i }) (inside_of sides columns w) fit (record { low = refl; high = refl })

-- a range that doesn't miss the limits
below_upper : (limits : Limits) (low high u : ℤ) → misses limits low high ≡ false → limits.upper ≡ Some u → low ≤ℤ u
below_upper limits low high u h e =
    let t = both_right (is_above limits.lower high) (is_below limits.upper low) (not_not (is_above limits.lower high && is_below limits.upper low) h) in
    most_from_test low u (subst (λ o. is_below o low ≡ true) e t)

above_lower : (limits : Limits) (low high u : ℤ) → misses limits low high ≡ false → limits.lower ≡ Some u → u ≤ℤ high
above_lower limits low high u h e =
    let t = both_left (is_above limits.lower high) (is_below limits.upper low) (not_not (is_above limits.lower high && is_below limits.upper low) h) in
    most_from_test u high (subst (λ o. is_above o high ≡ true) e t)

-- an entry's product over its side is no greater than its row
pub entry_small : (m : Sparse) (t : Trail) (s : m ≡ t.sparse.value) (k : ℕ) → k < length m.entries → unsigned_abs (entry_at m.entries k).value * reach (side_at t.sides (entry_at m.entries k).column) ≤ 2 ^ 122
entry_small m t s k l =
    let e = entry_at m.entries k in
    let r = row_below m t s k l in
    product_small m.columns m.entries k (side_at t.sides e.column) l ((facts_of m t s).inside e.column) (row_small m.columns m.rows m.entries e.row (m.facts.rows_fit e.row r))

-- what an entry adds at a point
part_is : (x : List ℤ) (e : Entry) → activity_part x e.row e ≡ (e.value *ℤ number_at x e.column)
part_is x e = let t : (e.row == e.row) ≡ true = grind arith in ap (λ q. if q then e.value *ℤ number_at x e.column else pos 0) t

-- a side that stays as it is
pub cut_self : (rows : List Limits) (entries : List Entry) (sides : List Side) (j : ℕ) → j < length sides → (side_at sides j).lower ≤ℤ (side_at sides j).upper → IsCut rows entries sides j (side_at sides j)
cut_self rows entries sides j l f = record {
  inside = record { lower = omega (arith, ints); filled = f; upper = omega (arith, ints) };
  keeps = λ x i m. (i.lower j l, i.upper j l);
}

-- at a point that meets the rows an entry's product is at most the slack above its least
value_above : (rows : List Limits) (entries : List Entry) (sides : List Side) (low : ℤ) (k : ℕ) (u : ℤ) (x : List ℤ) → k < length entries → (entry_at entries k).row < length rows → low ≤ℤ low_activity entries sides (entry_at entries k).row →
    (limits_at rows (entry_at entries k).row).upper ≡ Some u → InBox sides x → meets_rows (length rows) rows entries x ≡ true →
    (((entry_at entries k).value *ℤ number_at x (entry_at entries k).column) -ℤ low_end (entry_at entries k).value (side_at sides (entry_at entries k).column)) ≤ℤ (u -ℤ low)
value_above rows entries sides low k u x l row range lim i met =
    let e = entry_at entries k in
    let lies = on_lies sides x (in_on sides x i) in
    let is = row_met (length rows) rows entries x e.row met row in
    let most : activity entries x e.row ≤ℤ u = most_from_test (activity entries x e.row) u (subst (λ o. is_below o (activity entries x e.row) ≡ true) lim (both_right (is_above (limits_at rows e.row).lower (activity entries x e.row)) (is_below (limits_at rows e.row).upper (activity entries x e.row)) is)) in
    let one' = one_part (low_part sides e.row) (activity_part x e.row) (λ d. (parts_hold sides x e.row d lies).0) entries k no_entry l in
    let here = (parts_here sides e.row e.column (side_at sides e.column) e refl refl refl).0 in
    let part = part_is x e in
    omega (arith, ints, most, one', here, part, range)

value_below : (rows : List Limits) (entries : List Entry) (sides : List Side) (high : ℤ) (k : ℕ) (u : ℤ) (x : List ℤ) → k < length entries → (entry_at entries k).row < length rows → high_activity entries sides (entry_at entries k).row ≤ℤ high →
    (limits_at rows (entry_at entries k).row).lower ≡ Some u → InBox sides x → meets_rows (length rows) rows entries x ≡ true →
    (high_end (entry_at entries k).value (side_at sides (entry_at entries k).column) -ℤ ((entry_at entries k).value *ℤ number_at x (entry_at entries k).column)) ≤ℤ (high -ℤ u)
value_below rows entries sides high k u x l row range lim i met =
    let e = entry_at entries k in
    let lies = on_lies sides x (in_on sides x i) in
    let is = row_met (length rows) rows entries x e.row met row in
    let most : u ≤ℤ activity entries x e.row = most_from_test u (activity entries x e.row) (subst (λ o. is_above o (activity entries x e.row) ≡ true) lim (both_left (is_above (limits_at rows e.row).lower (activity entries x e.row)) (is_below (limits_at rows e.row).upper (activity entries x e.row)) is)) in
    let one' = one_part (activity_part x e.row) (high_part sides e.row) (λ d. (parts_hold sides x e.row d lies).1) entries k no_entry l in
    let here = (parts_here sides e.row e.column (side_at sides e.column) e refl refl refl).1 in
    let part = part_is x e in
    omega (arith, ints, most, one', here, part, range)

-- a side cut by the slack of a row's upper limit above the low end of a range that holds the row's
pub cut_is_above : (rows : List Limits) (entries : List Entry) (sides : List Side) (low : ℤ) (k : ℕ) (u : ℤ) (new : Side) → k < length entries → (entry_at entries k).row < length rows → (entry_at entries k).column < length sides →
    low ≤ℤ low_activity entries sides (entry_at entries k).row → (limits_at rows (entry_at entries k).row).upper ≡ Some u →
    KeepsAbove (entry_at entries k).value (side_at sides (entry_at entries k).column) (u -ℤ low) new → IsCut rows entries sides (entry_at entries k).column new
cut_is_above rows entries sides low k u new l row column range lim h = record {
  inside = h.inside;
  keeps = λ x i m.
      let j = (entry_at entries k).column in
      h.keeps (number_at x j) (i.lower j column) (i.upper j column) (value_above rows entries sides low k u x l row range lim i m);
}

pub cut_is_below : (rows : List Limits) (entries : List Entry) (sides : List Side) (high : ℤ) (k : ℕ) (u : ℤ) (new : Side) → k < length entries → (entry_at entries k).row < length rows → (entry_at entries k).column < length sides →
    high_activity entries sides (entry_at entries k).row ≤ℤ high → (limits_at rows (entry_at entries k).row).lower ≡ Some u →
    KeepsBelow (entry_at entries k).value (side_at sides (entry_at entries k).column) (high -ℤ u) new → IsCut rows entries sides (entry_at entries k).column new
cut_is_below rows entries sides high k u new l row column range lim h = record {
  inside = h.inside;
  keeps = λ x i m.
      let j = (entry_at entries k).column in
      h.keeps (number_at x j) (i.lower j column) (i.upper j column) (value_below rows entries sides high k u x l row range lim i m);
}

-- the kept range of a row is the row's
low_is : (m : Sparse) (t : Trail) (s : m ≡ t.sparse.value) (i : ℕ) → i < length m.rows → (range_at t.ranges i).low ≤ℤ low_activity m.entries t.sides i
low_is m t s i l = let r = ((facts_of m t s).are.all i l).low in omega (arith, ints, r)

high_is : (m : Sparse) (t : Trail) (s : m ≡ t.sparse.value) (i : ℕ) → i < length m.rows → high_activity m.entries t.sides i ≤ℤ (range_at t.ranges i).high
high_is m t s i l = let r = ((facts_of m t s).are.all i l).high in omega (arith, ints, r)

-- the slack fits, and isn't negative where the range doesn't miss the limits
pub upper_slack_fits : (rows : List Limits) (i : ℕ) (low u : ℤ) → limits_size (limits_at rows i) ≤ 2 ^ 122 → unsigned_abs low ≤ 2 ^ 122 → (limits_at rows i).upper ≡ Some u → FitsSigned w128 (u -ℤ low)
upper_slack_fits rows i low u l h e = less_fits u low (let d : limit_size (limits_at rows i).upper ≡ unsigned_abs u = ap limit_size e in omega (arith, l, d)) (omega (arith, h))

pub lower_slack_fits : (rows : List Limits) (i : ℕ) (high u : ℤ) → limits_size (limits_at rows i) ≤ 2 ^ 122 → unsigned_abs high ≤ 2 ^ 122 → (limits_at rows i).lower ≡ Some u → FitsSigned w128 (high -ℤ u)
lower_slack_fits rows i high u l h e = less_fits high u (omega (arith, h)) (let d : limit_size (limits_at rows i).lower ≡ unsigned_abs u = ap limit_size e in omega (arith, l, d))

pub upper_slack : (rows : List Limits) (i : ℕ) (low high u : ℤ) → (limits_at rows i).upper ≡ Some u → misses (limits_at rows i) low high ≡ false → pos 0 ≤ℤ (u -ℤ low)
upper_slack rows i low high u e h = let k = below_upper (limits_at rows i) low high u h e in omega (arith, ints, k)

pub lower_slack : (rows : List Limits) (i : ℕ) (low high u : ℤ) → (limits_at rows i).lower ≡ Some u → misses (limits_at rows i) low high ≡ false → pos 0 ≤ℤ (high -ℤ u)
lower_slack rows i low high u e h = let k = above_lower (limits_at rows i) low high u h e in omega (arith, ints, k)

-- an entry of a trail's row that isn't missed, by the range that the trail keeps
trail_ready : (m : Sparse) (t : Trail) (s : m ≡ t.sparse.value) (k : ℕ) → k < length m.entries →
    misses (limits_at m.rows (entry_at m.entries k).row) (low_activity m.entries t.sides (entry_at m.entries k).row) (high_activity m.entries t.sides (entry_at m.entries k).row) ≡ false →
    IsReady m.rows m.entries t.sides k (range_at t.ranges (entry_at m.entries k).row)
trail_ready m t s k l n =
    let i = (entry_at m.entries k).row in
    let row = row_below m t s k l in
    let are = (facts_of m t s).are.all i row in
    let small = range_small m t s i row in
    record {
      row = row;
      column = column_below m t s k l;
      filled = ((facts_of m t s).inside (entry_at m.entries k).column).filled;
      low = low_is m t s i row;
      high = high_is m t s i row;
      not_missed = ap (λ z. misses (limits_at m.rows i) z (range_at t.ranges i).high) are.low ∙ (ap (λ z. misses (limits_at m.rows i) (low_activity m.entries t.sides i) z) are.high ∙ n);
      low_small = small.0;
      high_small = small.1;
      limits_small = omega (arith, m.facts.rows_fit i row);
      entry_small = entry_small m t s k l;
    }

-- the same by the row's number
pub row_ready : (m : Sparse) (t : Trail) (s : m ≡ t.sparse.value) (k i : ℕ) → k < length m.entries → i ≡ (entry_at m.entries k).row →
    misses (limits_at m.rows i) (low_activity m.entries t.sides i) (high_activity m.entries t.sides i) ≡ false → IsReady m.rows m.entries t.sides k (range_at t.ranges i)
row_ready m t s k i l e n =
    let at = subst (λ r. misses (limits_at m.rows r) (low_activity m.entries t.sides r) (high_activity m.entries t.sides r) ≡ false) e n in
    subst (λ r. IsReady m.rows m.entries t.sides k (range_at t.ranges r)) (sym e) (trail_ready m t s k l at)

-- the sides of a trail lie in the problem's columns
pub trail_within : (b : Problem) (m : Sparse) (t : Trail) → m ≡ t.sparse.value → IsOf b m → Within t.sides b.columns
trail_within b m t s o = subst (λ columns. Within t.sides columns) o.columns (record {
  long = (facts_of m t s).long;
  filled = trail_filled t;
  lower = λ j l. ((facts_of m t s).inside j).lower;
  upper = λ j l. ((facts_of m t s).inside j).upper;
})

-- tightening of the rows of a problem's sparse form is tightening of the problem's rows
pub tightens_holds : (b : Problem) (m : Sparse) (old new : Trail) → IsOf b m → Tightens m old new → HoldsSame b old.sides new.sides
tightens_holds b m old new o t =
    let rows = subst (λ rows. KeepsMet rows m.entries old.sides new.sides) o.rows t.keeps in
    let entries = subst (λ entries. KeepsMet b.rows entries old.sides new.sides) o.entries rows in
    record { within = t.within; keeps = entries }

missed_of : (b : Problem) (m : Sparse) (sides : List Side) (i : ℕ) → IsOf b m → MissesRow m.rows m.entries sides i → MissesRow b.rows b.entries sides i
missed_of b m sides i o h = subst (λ entries. MissesRow b.rows entries sides i) o.entries (subst (λ rows. MissesRow rows m.entries sides i) o.rows h)

-- where a row's range over the new sides misses its limits, the old ones hold no point that meets the rows
pub missed_none : (b : Problem) (old new : List Side) (i : ℕ) → HoldsSame b old new → MissesRow b.rows b.entries new i → HoldsNone b old
missed_none b old new i h m = λ x k. by_test x k (meets_all b x) refl
  where
    by_test : (x : List ℤ) → InBox old x → (t : Bool) → meets_all b x ≡ t → t ≡ false
    by_test x k true e =
        let kept = h.keeps x k e in
        let lies = on_lies new x (in_on new x kept) in
        let none = rows_not_missed (length b.rows) b.rows b.entries new x lies e in
        let one' = row_missed (length b.rows) b.rows b.entries new i m.short m.is in
        absurd (let g : true ≡ false = sym one' ∙ none in cc)
    by_test x k false e = refl

-- one narrowing after another
holds_self : (b : Problem) (sides : List Side) → Filled sides → HoldsSame b sides sides
holds_self b sides f = record { within = within_self sides f; keeps = λ x i h. i }

pub holds_trans : (b : Problem) (x y z : List Side) → HoldsSame b x y → HoldsSame b y z → HoldsSame b x z
holds_trans b x y z h k = record { within = within_trans z y x k.within h.within; keeps = λ v i n. k.keeps v (h.keeps v i n) n }

-- a side cut in a list
pub cut_holds : (b : Problem) (old new : List Side) (j : ℕ) (s : Side) → Filled old → j < length old → IsCut b.rows b.entries old j s → new ≡ slice_set old j s → HoldsSame b old new
cut_holds b old new j s f l cut e = record {
  within = subst (λ box. Within box old) (sym e) (set_within old j s l cut.inside.lower cut.inside.filled cut.inside.upper f);
  keeps = λ x i n. let k = cut.keeps x i n in subst (λ box. InBox box x) (sym e) (in_set old j s x l k.0 k.1 i);
}

-- what narrowing by an entry needs stays over narrower sides
pub ready_stays : (rows : List Limits) (entries : List Entry) (old new : List Side) (k : ℕ) (range : Range) → Within new old → IsReady rows entries old k range → IsReady rows entries new k range
ready_stays rows entries old new k range w h =
    let e = entry_at entries k in
    record {
      row = h.row;
      column = omega (arith, h.column, w.long);
      filled = filled_at new w.filled e.column;
      low = (let r = low_rises entries new old e.row w in omega (arith, ints, r, h.low));
      high = (let r = high_falls entries new old e.row w in omega (arith, ints, r, h.high));
      not_missed = h.not_missed;
      low_small = h.low_small;
      high_small = h.high_small;
      limits_small = h.limits_small;
      entry_small = (let r = within_reach new old w e.column in let p = mul-le-mul_left (unsigned_abs e.value) r in omega (arith, p, h.entry_small));
    }

-- what holds of a list's sides where a row is answered as empty
error_none : {T : Type 0} (b : Problem) (old new : List Side) (r : Result T Empty) → HoldsSame b old new → IfErr r (λ e. MissesRow b.rows b.entries new e.row) → IfErr r (λ e. HoldsNone b old)
error_none b old new (Ok x) h e = tt
error_none b old new (Err fault) h e = missed_none b old new fault.row h e

-- an entry of a row of a problem over sides in its box, by the row's range that isn't missed
pub list_ready : (p : Boxed) (sides : List Side) (k i : ℕ) (range : Range) → Within sides p.columns → k < length p.entries → (entry_at p.entries k).row ≡ i → range.low ≡ low_activity p.entries sides i → range.high ≡ high_activity p.entries sides i →
    misses (limits_at p.rows i) range.low range.high ≡ false → IsReady p.rows p.entries sides k range
list_ready p sides k i range w l at lo hi n =
    let e = entry_at p.entries k in
    let places = p.facts.places k no_entry l in
    let fit = p.facts.rows_fit e.row places.0 in
    let low = lo ∙ ap (low_activity p.entries sides) (sym at) in
    let high = hi ∙ ap (high_activity p.entries sides) (sym at) in
    let small = activity_small p.columns p.entries sides e.row w (row_small p.columns p.rows p.entries e.row fit) in
    record {
      row = places.0;
      column = omega (arith, places.1, w.long);
      filled = filled_at sides w.filled e.column;
      low = omega (arith, ints, low);
      high = omega (arith, ints, high);
      not_missed = subst (λ r. misses (limits_at p.rows r) range.low range.high ≡ false) (sym at) n;
      low_small = subst (λ z. unsigned_abs z ≤ 2 ^ 122) (sym low) small.0;
      high_small = subst (λ z. unsigned_abs z ≤ 2 ^ 122) (sym high) small.1;
      limits_small = omega (arith, fit);
      entry_small = product_small p.columns p.entries k (side_at sides e.column) l (inside_of sides p.columns w e.column) (row_small p.columns p.rows p.entries e.row fit);
    }

-- where a row is answered as empty the old sides hold no point that meets the rows
pub empty_none : {T : Type 0} (b : Problem) (m : Sparse) (old new : List Side) (r : Result T TrailFault) → IsOf b m → HoldsSame b old new → OnEmpty r (λ row. MissesRow m.rows m.entries new row) → OnEmpty r (λ row. HoldsNone b old)
empty_none b m old new (Ok x) o h e = tt
empty_none b m old new (Err (EmptyRow row)) o h e = missed_none b old new row h (missed_of b m new row o e)
empty_none b m old new (Err Memory) o h e = tt

-- a trail that begins keeps its facts
start_trail : (m : Sparse) (sides : List Side) (ranges : List Range) → sides ≡ m.columns → Filled m.columns → AreRanges (length m.rows) m.entries m.columns ranges → IsTrail m.columns (length m.rows) m.entries sides [] [] ranges
start_trail m sides ranges e f are =
    subst (λ box. IsTrail m.columns (length m.rows) m.entries box [] [] ranges) (sym e) (record {
      long = refl;
      inside = λ j. record { lower = omega (arith, ints); filled = filled_at m.columns f j; upper = omega (arith, ints) };
      olds = λ i d l. absurd (omega arith);
      made = λ k l. absurd (omega arith);
      rising = λ i k l b. absurd (omega arith);
      are = are;
    })

-- a side put where it stands changes nothing
pub set_same : (box : List Side) (k : ℕ) → slice_set box k (side_at box k) ≡ box
set_same [] k = refl
set_same (t ∷ box) zero = refl
set_same (t ∷ box) (suc k) = ap (λ r. t ∷ r) (set_same box k)

-- a side that is no narrower is the same
abbrev pub side_with : ℤ → ℤ → Side
side_with l u = record { lower = l; upper = u }

pub set_no_narrower : (sides : List Side) (j : ℕ) (s : Side) → s.lower ≤ℤ (side_at sides j).lower → (side_at sides j).upper ≤ℤ s.upper → IsInside s (side_at sides j) → sides ≡ slice_set sides j s
set_no_narrower sides j s l u h =
    let low : (side_at sides j).lower ≡ s.lower = omega (arith, ints, h.lower, l) in
    let high : (side_at sides j).upper ≡ s.upper = omega (arith, ints, h.upper, u) in
    let e : side_at sides j ≡ s = ap (λ z. side_with z (side_at sides j).upper) low ∙ ap (λ z. side_with s.lower z) high in
    sym (set_same sides j) ∙ ap (λ t. slice_set sides j t) e
