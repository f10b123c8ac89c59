-- The problem of a scenario under a candidate: its box column by column, and its points.

use Rattle.std.proofs.Common.{arith, refl, sym, ap, subst, ◌∙◌, ◌≡◌, ℕ, ◌+◌, ◌<◌, ◌≤◌, nat_lt, Bool, true, false, List, length, map, get_or, set, ℤ, ◌≤ℤ◌, ◌+ℤ◌, Some, None, if◌then◌else◌}
use Rattle.std.proofs.lemmas.Int.{ints}
use Rattle.std.proofs.lemmas.List.{get_or_default, length-map}
use Rattle.std.proofs.lemmas.List.Elements.{recursion_from_All}
use Rattle.std.proofs.lemmas.List.FromFn.{length-map-range_with_len}
use Rattle.std.specs.List.{range_with_len}
use Rattle.std.specs.Option.{option_map}
use Rattle.base_words.specs.Sums.{number_at, sum_below}
use Rattle.base_words.proofs.Made.{changed, is_made, made_at}
use Rattle.base_words.proofs.NumberTests.{less_from_test, not_less_from_test, test_from_less, test_from_not_less}
use Rattle.boxed_problem.specs.Data.{Problem, problem_of}
use Rattle.boxed_problem.specs.Fixing.{IsFixed}
use Rattle.boxed_problem.specs.Objective.{value_of, value_part}
use Rattle.boxed_problem.specs.Optimum.{Feasible, IsBest, IsFirstLeast}
use Rattle.boxed_problem.specs.Points.{InBox}
use Rattle.boxed_problem.specs.Sides.{Filled, no_side, side_at}
use Rattle.boxed_problem.specs.declared.parts.Best.{Best}
use Rattle.boxed_problem.specs.declared.parts.Side.{Side}
use Rattle.boxed_problem.specs.declared.problem.Boxed.{Boxed}
use Rattle.boxed_problem.proofs.Lying.{filled_at}
use Rattle.boxed_problem.proofs.Optimal.{is_best}
use Rattle.boxed_problem.proofs.SameData.{same_data}
use Rattle.log_words.specs.Candidates.{fixed_in, single}
use Rattle.run_calls.proofs.MostBounds.{early_column}
use Rattle.sp_model.specs.Changes.{side_of, sides}
use Rattle.sp_model.specs.Problems.{least_of, problem_in}
use Rattle.sp_model.specs.declared.run.Run.{Run}
use Rattle.sp_model.proofs.ScenarioPoints.{run_filled}
use Rattle.candidates.specs.Fixing.{LieBelow, LiesIn, fixed_below, side_fixed}
use Rattle.candidates.specs.Under.{HasNoneUnder, IsBestUnder, IsPointUnder}

columns_long : (run : Run) → length (sides run.program) ≡ length run.program.columns
columns_long run = length-map run.program.columns side_of

-- the box with the columns before n fixed
abbrev box_below : Run → (ℕ → ℕ → ℤ) → ℕ → ℕ → List Side
box_below run values s n = map (side_fixed run values s n) (range_with_len 0 (length run.program.columns))

box_long : (run : Run) (values : ℕ → ℕ → ℤ) (s n : ℕ) → length (box_below run values s n) ≡ length run.program.columns
box_long run values s n = length-map-range_with_len (side_fixed run values s n) 0 (length run.program.columns)

box_at : (run : Run) (values : ℕ → ℕ → ℤ) (s n j : ℕ) → j < length run.program.columns → side_at (box_below run values s n) j ≡ side_fixed run values s n j
box_at run values s n j l = made_at (side_fixed run values s n) (length run.program.columns) j no_side l

abbrev pick_side : Side → Side → Bool → Side
pick_side a b t = if t then a else b

fixed_side : (run : Run) (values : ℕ → ℕ → ℤ) (s n j : ℕ) → j < n → side_fixed run values s n j ≡ single (values s j)
fixed_side run values s n j h = ap (pick_side (single (values s j)) (side_at (sides run.program) j)) (test_from_less j n h)

free_side : (run : Run) (values : ℕ → ℕ → ℤ) (s n j : ℕ) → n ≤ j → side_fixed run values s n j ≡ side_at (sides run.program) j
free_side run values s n j h = ap (pick_side (single (values s j)) (side_at (sides run.program) j)) (test_from_not_less j n h)

-- the data of a problem with another box
abbrev with_box : Problem → List Side → Problem
with_box problem box = record problem { columns = box }

-- where no column is fixed
pub none_fixed : (run : Run) (values : ℕ → ℕ → ℤ) (s : ℕ) → problem_in run s ≡ fixed_below run values s 0
none_fixed run values s =
    ap (with_box (problem_in run s)) (is_made (sides run.program) (side_fixed run values s 0) (length run.program.columns) (columns_long run) (λ j d l. same j d l ∙ sym (free_side run values s 0 j (omega arith))))
  where
    same : (j : ℕ) (d : Side) → j < length run.program.columns → get_or (sides run.program) j d ≡ side_at (sides run.program) j
    same j d l = get_or_default (sides run.program) j d no_side (omega (arith, l, columns_long run))

-- the side of the next column is the run's
pub next_side : (run : Run) (values : ℕ → ℕ → ℤ) (s k : ℕ) (b : Boxed) → k < run.nonleaf → problem_of b ≡ fixed_below run values s k → side_at b.columns k ≡ side_at (sides run.program) k
next_side run values s k b h e = ap (λ (p : Problem). side_at p.columns k) e ∙ box_at run values s k k (early_column run k h) ∙ free_side run values s k k (omega arith)

pub next_there : (run : Run) (values : ℕ → ℕ → ℤ) (s k : ℕ) (b : Boxed) → k < run.nonleaf → problem_of b ≡ fixed_below run values s k → k < length b.columns
next_there run values s k b h e = omega (arith, ap (λ (p : Problem). length p.columns) e, box_long run values s k, early_column run k h)

-- the side of another column stays
side_other : (run : Run) (values : ℕ → ℕ → ℤ) (s k j : ℕ) → (j ≡ k → ⊥) → side_fixed run values s (k + 1) j ≡ side_fixed run values s k j
side_other run values s k j other = by_test (nat_lt j k) refl
  where
    by_test : (t : Bool) → nat_lt j k ≡ t → side_fixed run values s (k + 1) j ≡ side_fixed run values s k j
    by_test true p =
        let l = less_from_test j k p in
        fixed_side run values s (k + 1) j (omega arith) ∙ sym (fixed_side run values s k j l)
    by_test false p =
        let l = not_less_from_test j k p in
        free_side run values s (k + 1) j (omega (arith, other)) ∙ sym (free_side run values s k j l)

-- the next column is fixed
pub fixed_next : (run : Run) (values : ℕ → ℕ → ℤ) (s k : ℕ) (b c : Boxed) → k < run.nonleaf → problem_of b ≡ fixed_below run values s k → IsFixed b c k (values s k) → problem_of c ≡ fixed_below run values s (k + 1)
fixed_next run values s k b c h e fixed =
    let n = length run.program.columns in
    let f = side_fixed run values s k in
    let g = side_fixed run values s (k + 1) in
    let v = single (values s k) in
    let at = fixed_side run values s (k + 1) k (omega arith) in
    same_data (problem_of c) (fixed_below run values s (k + 1))
    (fixed.columns ∙ ap (λ (p : Problem). set p.columns k v) e ∙ changed f g n k v (early_column run k h) at (side_other run values s k))
    (fixed.rows ∙ ap (λ (p : Problem). p.rows) e)
    (fixed.entries ∙ ap (λ (p : Problem). p.entries) e)
    (fixed.constant ∙ ap (λ (p : Problem). p.constant) e)
    (fixed.line ∙ ap (λ (p : Problem). p.line) e)
    (fixed.square ∙ ap (λ (p : Problem). p.square) e)

-- a value outside its box
outside_none : (run : Run) (values : ℕ → ℕ → ℤ) (s k : ℕ) → k < run.nonleaf → (LiesIn run values s k → ⊥) → HasNoneUnder run values s
outside_none run values s k h outside x under =
    let side = side_at (sides run.program) k in
    let there : k < length (sides run.program) = omega (arith, columns_long run, early_column run k h) in
    outside (record {
      lower = subst (λ v. side.lower ≤ℤ v) (under.early k h) (under.feasible.inside.lower k there);
      upper = subst (λ v. v ≤ℤ side.upper) (under.early k h) (under.feasible.inside.upper k there);
    })

-- a test of a value against its side says whether it lies in its box
module _ (run : Run) (values : ℕ → ℕ → ℤ) (s k : ℕ) (side : Side) (v : ℤ) (e : side ≡ side_at (sides run.program) k) (d : v ≡ values s k) where
  pub fits_lies : (side.lower ≤ℤ v) × (v ≤ℤ side.upper) → LiesIn run values s k
  fits_lies fits = record {
    lower = omega (arith, ints, ap (λ (t : Side). t.lower) e, d, fits.0);
    upper = omega (arith, ints, ap (λ (t : Side). t.upper) e, d, fits.1);
  }

  lies_fits : LiesIn run values s k → (side.lower ≤ℤ v) × (v ≤ℤ side.upper)
  lies_fits lies = (omega (arith, ints, ap (λ (t : Side). t.lower) e, d, lies.lower), omega (arith, ints, ap (λ (t : Side). t.upper) e, d, lies.upper))

  pub refused_none : (b : Bool) → k < run.nonleaf → ((side.lower ≤ℤ v) × (v ≤ℤ side.upper) → b ≡ true) → b ≡ false → HasNoneUnder run values s
  refused_none b h test off = outside_none run values s k h (λ lies. absurd (let x = sym (test (lies_fits lies)) ∙ off in cc))

-- one value more that lies in its box
pub lie_next : (run : Run) (values : ℕ → ℕ → ℤ) (s k : ℕ) → LieBelow run values s k → LiesIn run values s k → LieBelow run values s (k + 1)
lie_next run values s k before own j l = by_test (nat_lt j k) refl
  where
    by_test : (t : Bool) → nat_lt j k ≡ t → LiesIn run values s j
    by_test true p = before j (less_from_test j k p)
    by_test false p =
        let over = not_less_from_test j k p in
        let same : k ≡ j = omega arith in
        subst (LiesIn run values s) same own

-- no side under a candidate is empty
own_filled : (run : Run) (values : ℕ → ℕ → ℤ) (s j : ℕ) (t : Bool) → nat_lt j run.nonleaf ≡ t → (side_fixed run values s run.nonleaf j).lower ≤ℤ (side_fixed run values s run.nonleaf j).upper
own_filled run values s j true p = subst (λ (t : Side). t.lower ≤ℤ t.upper) (sym (fixed_side run values s run.nonleaf j (less_from_test j run.nonleaf p))) (omega (arith, ints))
own_filled run values s j false p = subst (λ (t : Side). t.lower ≤ℤ t.upper) (sym (free_side run values s run.nonleaf j (not_less_from_test j run.nonleaf p))) (filled_at (sides run.program) (run_filled run) j)

each_filled : (run : Run) (values : ℕ → ℕ → ℤ) (s k : ℕ) (d : Side) → k < length (box_below run values s run.nonleaf) → (get_or (box_below run values s run.nonleaf) k d).lower ≤ℤ (get_or (box_below run values s run.nonleaf) k d).upper
each_filled run values s k d l =
    let there : k < length run.program.columns = omega (arith, l, box_long run values s run.nonleaf) in
    subst (λ (t : Side). t.lower ≤ℤ t.upper) (sym (made_at (side_fixed run values s run.nonleaf) (length run.program.columns) k d there)) (own_filled run values s k (nat_lt k run.nonleaf) refl)

fixed_filled : (run : Run) (values : ℕ → ℕ → ℤ) (s : ℕ) → Filled (fixed_in run values s).columns
fixed_filled run values s = recursion_from_All (λ (t : Side). t.lower ≤ℤ t.upper) (box_below run values s run.nonleaf) (each_filled run values s)

-- a point of the box under a candidate has its values
fixed_early : (run : Run) (values : ℕ → ℕ → ℤ) (s j : ℕ) (x : List ℤ) → InBox (fixed_in run values s).columns x → j < run.nonleaf → number_at x j ≡ values s j
fixed_early run values s j x inside h =
    let there : j < length (box_below run values s run.nonleaf) = omega (arith, box_long run values s run.nonleaf, early_column run j h) in
    let at = box_at run values s run.nonleaf j (early_column run j h) ∙ fixed_side run values s run.nonleaf j h in
    let lower = inside.lower j there in
    let upper = inside.upper j there in
    omega (arith, ints, ap (λ (t : Side). t.lower) at, ap (λ (t : Side). t.upper) at, lower, upper)

fixed_inside : (run : Run) (values : ℕ → ℕ → ℤ) (s : ℕ) (x : List ℤ) → LieBelow run values s run.nonleaf → InBox (fixed_in run values s).columns x → InBox (sides run.program) x
fixed_inside run values s x lie inside = record {
  long = inside.long ∙ box_long run values s run.nonleaf ∙ sym (columns_long run);
  lower = λ j l. (own j (omega (arith, l, columns_long run)) (nat_lt j run.nonleaf) refl).0;
  upper = λ j l. (own j (omega (arith, l, columns_long run)) (nat_lt j run.nonleaf) refl).1;
}
  where
    own : (j : ℕ) → j < length run.program.columns → (t : Bool) → nat_lt j run.nonleaf ≡ t → ((side_at (sides run.program) j).lower ≤ℤ number_at x j) × (number_at x j ≤ℤ (side_at (sides run.program) j).upper)
    own j l true p =
        let h = less_from_test j run.nonleaf p in
        let e = fixed_early run values s j x inside h in
        let own_value = lie j h in
        (omega (arith, ints, e, own_value.lower), omega (arith, ints, e, own_value.upper))
    own j l false p =
        let there : j < length (box_below run values s run.nonleaf) = omega (arith, l, box_long run values s run.nonleaf) in
        let at = box_at run values s run.nonleaf j l ∙ free_side run values s run.nonleaf j (not_less_from_test j run.nonleaf p) in
        let lower = inside.lower j there in
        let upper = inside.upper j there in
        (omega (arith, ints, ap (λ (t : Side). t.lower) at, lower), omega (arith, ints, ap (λ (t : Side). t.upper) at, upper))

under_inside : (run : Run) (values : ℕ → ℕ → ℤ) (s : ℕ) (x : List ℤ) → IsPointUnder run values s x → InBox (fixed_in run values s).columns x
under_inside run values s x under = record {
  long = under.feasible.inside.long ∙ columns_long run ∙ sym (box_long run values s run.nonleaf);
  lower = λ j l. (own j (omega (arith, l, box_long run values s run.nonleaf)) (nat_lt j run.nonleaf) refl).0;
  upper = λ j l. (own j (omega (arith, l, box_long run values s run.nonleaf)) (nat_lt j run.nonleaf) refl).1;
}
  where
    own : (j : ℕ) → j < length run.program.columns → (t : Bool) → nat_lt j run.nonleaf ≡ t → ((side_at (box_below run values s run.nonleaf) j).lower ≤ℤ number_at x j) × (number_at x j ≤ℤ (side_at (box_below run values s run.nonleaf) j).upper)
    own j l true p =
        let h = less_from_test j run.nonleaf p in
        let e = under.early j h in
        let at = box_at run values s run.nonleaf j l ∙ fixed_side run values s run.nonleaf j h in
        (omega (arith, ints, e, ap (λ (t : Side). t.lower) at), omega (arith, ints, e, ap (λ (t : Side). t.upper) at))
    own j l false p =
        let there : j < length (sides run.program) = omega (arith, l, columns_long run) in
        let at = box_at run values s run.nonleaf j l ∙ free_side run values s run.nonleaf j (not_less_from_test j run.nonleaf p) in
        let lower = under.feasible.inside.lower j there in
        let upper = under.feasible.inside.upper j there in
        (omega (arith, ints, ap (λ (t : Side). t.lower) at, lower), omega (arith, ints, ap (λ (t : Side). t.upper) at, upper))

-- the points under a candidate are those of its problem
fixed_under : (run : Run) (values : ℕ → ℕ → ℤ) (s : ℕ) (x : List ℤ) → LieBelow run values s run.nonleaf → Feasible (fixed_in run values s) x → IsPointUnder run values s x
fixed_under run values s x lie feasible = record {
  feasible = record { inside = fixed_inside run values s x lie feasible.inside; rows = feasible.rows };
  early = λ j h. fixed_early run values s j x feasible.inside h;
}

under_fixed : (run : Run) (values : ℕ → ℕ → ℤ) (s : ℕ) (x : List ℤ) → IsPointUnder run values s x → Feasible (fixed_in run values s) x
under_fixed run values s x under = record { inside = under_inside run values s x under; rows = under.feasible.rows }

-- and they have the same values
fixed_value : (run : Run) (values : ℕ → ℕ → ℤ) (s : ℕ) (x : List ℤ) → value_of (fixed_in run values s) x ≡ value_of (problem_in run s) x
fixed_value run values s x =
    let p = problem_in run s in
    ap (λ n. p.constant +ℤ sum_below n (value_part p.line p.square x)) (box_long run values s run.nonleaf ∙ sym (columns_long run))

-- the best point of its problem is the first least one under the candidate
pub best_under : (run : Run) (values : ℕ → ℕ → ℤ) (s : ℕ) (best : Best) → LieBelow run values s run.nonleaf → IsFirstLeast (fixed_in run values s) best → IsBestUnder run values s best.point
best_under run values s best lie is = record {
  under = fixed_under run values s best.point lie is.feasible;
  least = λ y under. let least = is.least y (under_fixed run values s y under) in omega (arith, ints, least, is.value, fixed_value run values s best.point, fixed_value run values s y);
  first = λ y under before. let first = is.first y (under_fixed run values s y under) before in omega (arith, ints, first, is.value, fixed_value run values s best.point, fixed_value run values s y);
}

pub best_value : (run : Run) (values : ℕ → ℕ → ℤ) (s : ℕ) (best : Best) → IsFirstLeast (fixed_in run values s) best → best.value ≡ value_of (problem_in run s) best.point
best_value run values s best is = is.value ∙ fixed_value run values s best.point

pub none_under : (run : Run) (values : ℕ → ℕ → ℤ) (s : ℕ) → IsBest (fixed_in run values s) None → HasNoneUnder run values s
none_under run values s none x under = none x (under_fixed run values s x under)

-- a value that a point under the candidate has lies in its box
under_lies : (run : Run) (values : ℕ → ℕ → ℤ) (s : ℕ) (x : List ℤ) → IsPointUnder run values s x → LieBelow run values s run.nonleaf
under_lies run values s x under j h =
    let there : j < length (sides run.program) = omega (arith, columns_long run, early_column run j h) in
    let side = side_at (sides run.program) j in
    record {
      lower = subst (λ v. side.lower ≤ℤ v) (under.early j h) (under.feasible.inside.lower j there);
      upper = subst (λ v. v ≤ℤ side.upper) (under.early j h) (under.feasible.inside.upper j there);
    }

abbrev with_value : List ℤ → ℤ → Best
with_value x v = record { point = x; value = v }

-- the least value under a candidate is that of the first least point
pub under_least : (run : Run) (values : ℕ → ℕ → ℤ) (s : ℕ) (x : List ℤ) → IsBestUnder run values s x → least_of (fixed_in run values s) ≡ Some (value_of (problem_in run s) x)
under_least run values s x is =
    let lie = under_lies run values s x is.under in
    let best = with_value x (value_of (problem_in run s) x) in
    let first_least : IsFirstLeast (fixed_in run values s) best = record {
      feasible = under_fixed run values s x is.under;
      value = sym (fixed_value run values s x);
      least = λ y f. let least = is.least y (fixed_under run values s y lie f) in omega (arith, ints, least, fixed_value run values s y);
      first = λ y f before. let first = is.first y (fixed_under run values s y lie f) before in omega (arith, ints, first, fixed_value run values s y);
    } in
    let found = is_best (fixed_in run values s) (Some best) (fixed_filled run values s) first_least in
    sym (ap (option_map (λ (b : Best). b.value)) found)

-- there is none where no point is under the candidate
pub none_least : (run : Run) (values : ℕ → ℕ → ℤ) (s : ℕ) → LieBelow run values s run.nonleaf → HasNoneUnder run values s → least_of (fixed_in run values s) ≡ None
none_least run values s lie none =
    let found = is_best (fixed_in run values s) None (fixed_filled run values s) (λ x f. none x (fixed_under run values s x lie f)) in
    sym (ap (option_map (λ (b : Best). b.value)) found)

-- only the values of the nonleaf columns are looked at
pub fixed_same : (run : Run) (values others : ℕ → ℕ → ℤ) (s : ℕ) → ((j : ℕ) → j < run.nonleaf → values s j ≡ others s j) → fixed_in run values s ≡ fixed_in run others s
fixed_same run values others s same =
    ap (with_box (problem_in run s)) (is_made (box_below run values s run.nonleaf) (side_fixed run others s run.nonleaf) (length run.program.columns) (box_long run values s run.nonleaf) (λ j d l. made_at (side_fixed run values s run.nonleaf) (length run.program.columns) j d l ∙ own j (nat_lt j run.nonleaf) refl))
  where
    own : (j : ℕ) (t : Bool) → nat_lt j run.nonleaf ≡ t → side_fixed run values s run.nonleaf j ≡ side_fixed run others s run.nonleaf j
    own j true p =
        let h = less_from_test j run.nonleaf p in
        fixed_side run values s run.nonleaf j h ∙ ap single (same j h) ∙ sym (fixed_side run others s run.nonleaf j h)
    own j false p =
        let h = not_less_from_test j run.nonleaf p in
        free_side run values s run.nonleaf j h ∙ sym (free_side run others s run.nonleaf j h)
