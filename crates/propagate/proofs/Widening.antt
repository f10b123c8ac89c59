-- ranges over narrower sides
use Rattle.std.proofs.Common.{arith, ◌==◌, Bool, true, false, List, ℕ, pos, ◌*ℤ◌, ◌≤ℤ◌, if◌then◌else◌}
use Rattle.std.proofs.lemmas.Int.{ints, clamps}
use Rattle.std.specs.Int.{int_max, int_min}
use Rattle.propagate.specs.Ranges.{high_activity, high_part, low_activity, low_part}
use Rattle.boxed_problem.specs.Sides.{Within, side_at}
use Rattle.boxed_problem.specs.declared.parts.Entry.{Entry}
use Rattle.boxed_problem.specs.declared.parts.Side.{Side}
use Rattle.boxed_problem.proofs.Lying.{filled_at, within_at}
use Rattle.base_words.proofs.Products.{times_between}
use Rattle.propagate.proofs.RangeLaws.{fold_order}

-- a wider range holds the narrower one
wider_low : (inner outer : List Side) (i : ℕ) (e : Entry) → Within inner outer → low_part outer i e ≤ℤ low_part inner i e
wider_low inner outer i e w = by_test (e.row == i)
  where
    by_test : (t : Bool) →
        (if t then int_min (e.value *ℤ (side_at outer e.column).lower) (e.value *ℤ (side_at outer e.column).upper) else pos 0)
        ≤ℤ (if t then int_min (e.value *ℤ (side_at inner e.column).lower) (e.value *ℤ (side_at inner e.column).upper) else pos 0)
    by_test true =
        let a = within_at inner outer w e.column in
        let f = filled_at inner w.filled e.column in
        let p = times_between e.value (side_at outer e.column).lower (side_at outer e.column).upper (side_at inner e.column).lower a.0 (omega (arith, ints, a.1)) in
        let q = times_between e.value (side_at outer e.column).lower (side_at outer e.column).upper (side_at inner e.column).upper (omega (arith, ints, a.0)) a.1 in
        omega (arith, ints, clamps, p.0, q.0)
    by_test false = omega (arith, ints)

wider_high : (inner outer : List Side) (i : ℕ) (e : Entry) → Within inner outer → high_part inner i e ≤ℤ high_part outer i e
wider_high inner outer i e w = by_test (e.row == i)
  where
    by_test : (t : Bool) →
        (if t then int_max (e.value *ℤ (side_at inner e.column).lower) (e.value *ℤ (side_at inner e.column).upper) else pos 0)
        ≤ℤ (if t then int_max (e.value *ℤ (side_at outer e.column).lower) (e.value *ℤ (side_at outer e.column).upper) else pos 0)
    by_test true =
        let a = within_at inner outer w e.column in
        let f = filled_at inner w.filled e.column in
        let p = times_between e.value (side_at outer e.column).lower (side_at outer e.column).upper (side_at inner e.column).lower a.0 (omega (arith, ints, a.1)) in
        let q = times_between e.value (side_at outer e.column).lower (side_at outer e.column).upper (side_at inner e.column).upper (omega (arith, ints, a.0)) a.1 in
        omega (arith, ints, clamps, p.1, q.1)
    by_test false = omega (arith, ints)

-- the range over narrower sides lies in that over wider ones
pub low_rises : (entries : List Entry) (inner outer : List Side) (i : ℕ) → Within inner outer → low_activity entries outer i ≤ℤ low_activity entries inner i
low_rises entries inner outer i w = fold_order (low_part outer i) (low_part inner i) (λ d. wider_low inner outer i d w) (pos 0) (pos 0) entries (omega (arith, ints))

pub high_falls : (entries : List Entry) (inner outer : List Side) (i : ℕ) → Within inner outer → high_activity entries inner i ≤ℤ high_activity entries outer i
high_falls entries inner outer i w = fold_order (high_part inner i) (high_part outer i) (λ d. wider_high inner outer i d w) (pos 0) (pos 0) entries (omega (arith, ints))
