-- The columns of a run: boxes that aren't empty, stages that never fall, and how many are before the last.
use Rattle.std.proofs.Common.{arith, refl, sym, ap, subst, ◌∙◌, ◌≡◌, ℕ, zero, suc, ◌+◌, ◌-◌, ◌<◌, ◌≤◌, nat_le, nat_lt, Bool, true, false, List, [], ◌∷◌, length, get_or, ℤ, pos, negsuc, neg_ℤ, ◌≤ℤ◌, unsigned_abs, Option, Some, None, slice_index}
use Rattle.std.specs.List.{All, AllPairs, count_by, range_with_len}
use Rattle.std.proofs.lemmas.Int.{clamps, ints}
use Rattle.std.proofs.lemmas.List.{get_or-map}
use Rattle.std.proofs.lemmas.List.FromFn.{get_or-map-range_with_len, length-map-range_with_len, length-range_with_len}
use Rattle.std.proofs.lemmas.List.Sums.{count_by-le-length}
use Rattle.base_words.proofs.Comparisons.{above_from_test}
use Rattle.base_words.specs.Signs.{limit_size}
use Rattle.boxed_problem.specs.Sides.{no_side, side_at}
use Rattle.boxed_problem.specs.declared.parts.Side.{Side}
use Rattle.smps_words.specs.CoreFacts.{is_empty_box, max_end}
use Rattle.smps_words.specs.Stages.{IsStageOf, stage_in}
use Rattle.smps_words.specs.declared.core_file.Core.{Core}
use Rattle.smps_words.specs.declared.periods.Periods.{Periods}
use Rattle.smps_words.proofs.PeriodStages.{column_stage}
use Rattle.sp_model.specs.RunFacts.{IsColumn}
use Rattle.sp_model.specs.declared.program.Column.{Column}
use Rattle.join_words.specs.Boxes.{box_in, boxes_of, filled}
use Rattle.join_words.specs.Parts.{column_at, firsts_of, no_column, parts_of}
use Rattle.join_words.specs.RunOf.{column_of, columns_of, nonleaf_in}
use Rattle.join_words.specs.declared.frame.Frame.{Frame}
use Rattle.smps_join.proofs.Counts.{count_cons, count_map, more_pass}

-- a box that isn't empty, of small ends
record IsBox (side : Side) : Type 0 where
  filled : side.lower ≤ℤ side.upper
  low : neg_ℤ (pos 1000000000) ≤ℤ side.lower
  high : side.upper ≤ℤ pos 1000000000

abs_range : (z : ℤ) → unsigned_abs z ≤ 1000000000 → (neg_ℤ (pos 1000000000) ≤ℤ z) × (z ≤ℤ pos 1000000000)
abs_range (pos a) h = (omega (arith, ints, h), omega (arith, ints, h))
abs_range (negsuc a) h = (omega (arith, ints, h), omega (arith, ints, h))

box_is : (missing : ℤ) (lower upper : Option ℤ) → pos 1 ≤ℤ missing → missing ≤ℤ pos 1000000000 → limit_size lower ≤ max_end → limit_size upper ≤ max_end → is_empty_box lower upper ≡ false → IsBox (filled missing lower upper)
box_is missing (Some l) (Some u) some most low high filled = let a = abs_range l (omega (arith, low)) in let b = abs_range u (omega (arith, high)) in record { filled = above_from_test u l filled; low = a.0; high = b.1 }
box_is missing (Some l) None some most low high filled = let a = abs_range l (omega (arith, low)) in let a0 = a.0 in let a1 = a.1 in record { filled = omega (arith, ints, clamps); low = a0; high = omega (arith, ints, clamps) }
box_is missing None (Some u) some most low high filled = let b = abs_range u (omega (arith, high)) in let b0 = b.0 in let b1 = b.1 in record { filled = omega (arith, ints, clamps); low = omega (arith, ints, clamps); high = b1 }
box_is missing None None some most low high filled = record { filled = omega (arith, ints); low = omega (arith, ints); high = omega (arith, ints) }

column_box : (core : Core) (missing : ℤ) (j : ℕ) → pos 1 ≤ℤ missing → missing ≤ℤ pos 1000000000 → j < length core.columns → IsBox (side_at (boxes_of missing core.columns) j)
column_box core missing j some most lt =
    let at : side_at (boxes_of missing core.columns) j ≡ box_in missing (column_at (parts_of core) j) = get_or-map (box_in missing) core.columns j no_column no_side lt in
    subst IsBox (sym at) (box_is missing (column_at (parts_of core) j).lower (column_at (parts_of core) j).upper some most (core.facts.lowers j no_column lt) (core.facts.uppers j no_column lt) (core.facts.filled j no_column lt))

-- each column
pub columns_are : (core : Core) (periods : Periods) (frame : Frame) (missing : ℤ) → pos 1 ≤ℤ missing → missing ≤ℤ pos 1000000000 → frame.sides ≡ boxes_of missing core.columns → All (IsColumn (length periods.columns)) (columns_of (parts_of core) (firsts_of periods) frame)
columns_are core periods frame missing some most sides k d lt =
    let n = length core.columns in
    let column = column_of (parts_of core) (firsts_of periods) frame in
    let below : k < n = omega (arith, length-map-range_with_len column 0 n, lt) in
    let at : get_or (columns_of (parts_of core) (firsts_of periods) frame) k d ≡ column k = get_or-map-range_with_len column 0 n k k d below (omega arith) in
    let stage = column_stage periods k in
    let P : List Side → Type 0 = λ s. IsBox (side_at s k) in
    let box = subst P (sym sides) (column_box core missing k some most below) in
    let is : IsColumn (length periods.columns) (column k) = record { early = stage.counted; late = stage.there; filled = box.filled; low = box.low; high = box.high } in
    subst (IsColumn (length periods.columns)) (sym at) is

-- stages never fall
more_counted : (firsts : List ℕ) (j k : ℕ) → j ≤ k → stage_in firsts j ≤ stage_in firsts k
more_counted [] j k h = omega arith
more_counted (f ∷ firsts) j k h = omega (arith, count_cons (λ first. nat_le first j) f firsts, count_cons (λ first. nat_le first k) f firsts, more_pass f j k h, more_counted firsts j k h)

pub columns_rise : (core : Core) (periods : Periods) (frame : Frame) → AllPairs (λ (a b : Column). a.stage ≤ b.stage) (columns_of (parts_of core) (firsts_of periods) frame)
columns_rise core periods frame i j d before lt =
    let n = length core.columns in
    let column = column_of (parts_of core) (firsts_of periods) frame in
    let j_below : j < n = omega (arith, length-map-range_with_len column 0 n, lt) in
    let i_below : i < n = omega (arith, before, j_below) in
    let at_i : get_or (columns_of (parts_of core) (firsts_of periods) frame) i d ≡ column i = get_or-map-range_with_len column 0 n i i d i_below (omega arith) in
    let at_j : get_or (columns_of (parts_of core) (firsts_of periods) frame) j d ≡ column j = get_or-map-range_with_len column 0 n j j d j_below (omega arith) in
    omega (arith, ap (λ (c : Column). c.stage) at_i, ap (λ (c : Column). c.stage) at_j, more_counted periods.columns i j (omega (arith, before)))

-- no later period begins with the first column
none_earlier : (periods : Periods) (k : ℕ) → 1 ≤ k → k < length periods.columns → slice_index periods.columns k ≤ 0 → ⊥
none_earlier periods zero some lt le = absurd (omega (arith, some))
none_earlier periods (suc k) some lt le =
    let rise = periods.facts.columns_rise k (omega (arith, lt)) in
    let e : k + 1 ≡ suc k = omega arith in
    omega (arith, le, rise, ap (slice_index periods.columns) e)

-- the first column is of the first stage
first_stage : (periods : Periods) → stage_in periods.columns 0 ≡ 1
first_stage periods =
    let stage = column_stage periods 0 in
    by_test (nat_le 2 (stage_in periods.columns 0)) refl stage
  where
    by_test : (t : Bool) → nat_le 2 (stage_in periods.columns 0) ≡ t → IsStageOf periods.columns 0 (stage_in periods.columns 0) → stage_in periods.columns 0 ≡ 1
    by_test true e stage =
        let two : 2 ≤ stage_in periods.columns 0 = grind arith in
        let long = stage.there in
        let begun = stage.begun in
        absurd (none_earlier periods (stage_in periods.columns 0 - 1) (omega (arith, two)) (omega (arith, long, two)) begun)
    by_test false e stage = let few : stage_in periods.columns 0 < 2 = grind arith in omega (arith, few, stage.counted)

pub first_is : (core : Core) (periods : Periods) (frame : Frame) (d : Column) → 0 < length core.columns → (get_or (columns_of (parts_of core) (firsts_of periods) frame) 0 d).stage ≡ 1
first_is core periods frame d some =
    ap (λ (c : Column). c.stage) (get_or-map-range_with_len (column_of (parts_of core) (firsts_of periods) frame) 0 (length core.columns) 0 0 d some (omega arith)) ∙ first_stage periods

-- how many columns have a stage before the last
pub nonleaf_is : (core : Core) (periods : Periods) (frame : Frame) → nonleaf_in (firsts_of periods) (length core.columns) ≡ count_by (λ (c : Column). nat_lt c.stage (length periods.columns)) (columns_of (parts_of core) (firsts_of periods) frame)
nonleaf_is core periods frame = sym (count_map (λ (c : Column). nat_lt c.stage (length periods.columns)) (column_of (parts_of core) (firsts_of periods) frame) (range_with_len 0 (length core.columns)))

pub nonleaf_le : (periods : Periods) (n : ℕ) → nonleaf_in (firsts_of periods) n ≤ n
nonleaf_le periods n = omega (arith, count_by-le-length (λ j. nat_lt (stage_in periods.columns j) (length periods.columns)) (range_with_len 0 n), length-range_with_len 0 n)
