-- The scenarios of a run: their changes name what is there, no two are of one place, and those of columns with the single box 0 are left out.
use Rattle.std.proofs.Common.{arith, refl, ◌≡◌, suc, nat_lt, Bool, true, false, List, [], ◌∷◌, length, ℤ, pos, ◌+ℤ◌, ◌-ℤ◌, unsigned_abs, Option, Some, None, if◌then◌else◌}
use Rattle.std.proofs.lemmas.Bool.{and_from}
use Rattle.std.specs.Prelude.{IfSome}
use Rattle.std.specs.Int.{int_max, int_min}
use Rattle.std.specs.List.{All, AllByRecursion, AllPairs, cons_option, filter_map}
use Rattle.std.proofs.lemmas.Int.{clamps, ints}
use Rattle.std.proofs.lemmas.List.Elements.{All-cons, recursion_from_All}
use Rattle.std.proofs.lemmas.List.Kept.{AllPairs-cons}
use Rattle.base_words.proofs.Comparisons.{test_from_most}
use Rattle.base_words.proofs.NumberTests.{test_from_less}
use Rattle.boxed_problem.specs.declared.parts.Side.{Side}
use Rattle.dec_core.specs.Scale.{scaled_to}
use Rattle.smps_words.specs.declared.core_data.RowKind.{RowKind}
use Rattle.smps_words.specs.declared.core_data.RowKind.TheVariants.{Less, Greater, Equal}
use Rattle.smps_words.specs.declared.core_file.Core.{Core}
use Rattle.stoch_lines.specs.Places.{same_place}
use Rattle.stoch_lines.specs.declared.places.StochEntry.{StochEntry}
use Rattle.stoch_lines.specs.declared.places.StochPlace.{StochPlace}
use Rattle.stoch_lines.specs.declared.places.StochPlace.TheVariants as place
use Rattle.sp_model.specs.RunFacts.{are_limits, is_change, is_same_place}
use Rattle.sp_model.specs.declared.program.Change.{Change}
use Rattle.sp_model.specs.declared.program.Change.TheVariants.{Cost, Cell, Limits}
use Rattle.smps_stoch.specs.StochFacts.{AreOfTwoPlaces, IsPlace}
use Rattle.join_words.specs.Boxes.{is_idle}
use Rattle.join_words.specs.Limits.{lower_limit, upper_limit}
use Rattle.join_words.specs.Parts.{Parts, parts_of, row_at}
use Rattle.join_words.specs.RunOf.{change_at, change_of, lower_of, range_of, scaled_in, upper_of}
use Rattle.join_words.specs.declared.frame.Frame.{Frame}

module _ {X Y : Type 0} (f : X → Option Y) where
  -- what is kept of a list
  kept_one : (P : Y → Type 0) (o : Option Y) (ys : List Y) → IfSome o P → All P ys → All P (cons_option o ys)
  kept_one P None ys h all = all
  kept_one P (Some y) ys h all = All-cons P y ys h all

  pub kept_all : (P : Y → Type 0) (xs : List X) → AllByRecursion (λ x. IfSome (f x) P) xs → All P (filter_map f xs)
  kept_all P [] h = λ k d lt. absurd (omega (arith, lt))
  kept_all P (x ∷ xs) h = kept_one P (f x) (filter_map f xs) h.0 (kept_all P xs h.1)

  -- and of its pairs
  kept_first : (S : Y → Y → Type 0) (o : Option Y) (ys : List Y) → IfSome o (λ y. All (S y) ys) → AllPairs S ys → AllPairs S (cons_option o ys)
  kept_first S None ys h all = all
  kept_first S (Some y) ys h all = AllPairs-cons S y ys h all

  -- two items of which the ones that are kept are in a relation
  abbrev pub Related : (Y → Y → Type 0) → X → X → Type 0
  Related S x z = IfSome (f x) (λ y. IfSome (f z) (S y))

  behind_first : (S : Y → Y → Type 0) (o : Option Y) (xs : List X) → AllByRecursion (λ z. IfSome o (λ y. IfSome (f z) (S y))) xs → IfSome o (λ y. All (S y) (filter_map f xs))
  behind_first S None xs h = tt
  behind_first S (Some y) xs h = kept_all (S y) xs h

  pub kept_pairs : (S : Y → Y → Type 0) (xs : List X) → AllPairs (Related S) xs → AllPairs S (filter_map f xs)
  kept_pairs S [] h = λ i j d before lt. absurd (omega (arith, lt))
  kept_pairs S (x ∷ xs) h =
      let behind : All (Related S x) xs = λ k d lt. h 0 (suc k) d (omega arith) (omega (arith, lt)) in
      let rest : AllPairs (Related S) xs = λ i j d before lt. h (suc i) (suc j) d (omega (arith, before)) (omega (arith, lt)) in
      kept_first S (f x) (filter_map f xs) (behind_first S (f x) xs (recursion_from_All (Related S x) xs behind)) (kept_pairs S xs rest)

-- limits of a row are limits
pub limits_are : (kind : RowKind) (rhs : ℤ) (range : Option ℤ) → are_limits (lower_limit kind rhs range) (upper_limit kind rhs range) ≡ true
limits_are Less rhs None = refl
limits_are Less rhs (Some range) = test_from_most (rhs -ℤ pos (unsigned_abs range)) rhs (omega (arith, ints))
limits_are Greater rhs None = refl
limits_are Greater rhs (Some range) = test_from_most rhs (rhs +ℤ pos (unsigned_abs range)) (omega (arith, ints))
limits_are Equal rhs None = test_from_most rhs rhs (omega (arith, ints))
limits_are Equal rhs (Some range) = test_from_most (rhs +ℤ int_min range (pos 0)) (rhs +ℤ int_max range (pos 0)) (omega (arith, ints, clamps))

-- a change, unless its column has left the run
unless : (idle : Bool) (c : Change) (P : Change → Type 0) → (idle ≡ false → P c) → IfSome (if idle then None else Some c) P
unless true c P h = tt
unless false c P h = h refl

-- a change names what is there
pub change_is : (core : Core) (frame : Frame) (e : StochEntry) → IsPlace core e.place → IfSome (change_of (parts_of core) frame e) (λ c. is_change (length core.rows) (length core.columns) c ≡ true)
change_is core frame e there = by_place e.place there
  where
    by_place : (p : StochPlace) → IsPlace core p → IfSome (change_at (parts_of core) frame p e.value) (λ c. is_change (length core.rows) (length core.columns) c ≡ true)
    by_place (place.Cost j) h = unless (is_idle frame.sides j) (Cost j (scaled_to e.value frame.cost_places)) (λ c. is_change (length core.rows) (length core.columns) c ≡ true) (λ live. test_from_less j (length core.columns) h)
    by_place (place.Cell i j) h = unless (is_idle frame.sides j) (Cell i j (scaled_in frame i e.value)) (λ c. is_change (length core.rows) (length core.columns) c ≡ true) (λ live. and_from (nat_lt i (length core.rows)) (nat_lt j (length core.columns)) (test_from_less i (length core.rows) h.0) (test_from_less j (length core.columns) h.1))
    by_place (place.Right i) h = and_from (nat_lt i (length core.rows)) (are_limits (lower_of (parts_of core) frame i e.value) (upper_of (parts_of core) frame i e.value)) (test_from_less i (length core.rows) h) (limits_are (row_at (parts_of core) i).kind (scaled_in frame i e.value) (range_of (parts_of core) frame i))

-- two changes of different places
twice : (a b : Bool) (c d : Change) → is_same_place c d ≡ false → IfSome (if a then None else Some c) (λ x. IfSome (if b then None else Some d) (λ y. is_same_place x y ≡ false))
twice true b c d h = tt
twice false true c d h = tt
twice false false c d h = h

once_left : (a : Bool) (c d : Change) → is_same_place c d ≡ false → IfSome (if a then None else Some c) (λ x. is_same_place x d ≡ false)
once_left true c d h = tt
once_left false c d h = h

once_right : (b : Bool) (c d : Change) → is_same_place c d ≡ false → IfSome (if b then None else Some d) (λ y. is_same_place c y ≡ false)
once_right true c d h = tt
once_right false c d h = h

pub changes_differ : (parts : Parts) (frame : Frame) (e f : StochEntry) → AreOfTwoPlaces e f → Related (change_of parts frame) (λ x y. is_same_place x y ≡ false) e f
changes_differ parts frame e f differ = by_places e.place f.place differ
  where
    by_places : (p q : StochPlace) → same_place p q ≡ false → IfSome (change_at parts frame p e.value) (λ x. IfSome (change_at parts frame q f.value) (λ y. is_same_place x y ≡ false))
    by_places (place.Cost j) (place.Cost k) h = twice (is_idle frame.sides j) (is_idle frame.sides k) (Cost j (scaled_to e.value frame.cost_places)) (Cost k (scaled_to f.value frame.cost_places)) h
    by_places (place.Cost j) (place.Cell i k) h = twice (is_idle frame.sides j) (is_idle frame.sides k) (Cost j (scaled_to e.value frame.cost_places)) (Cell i k (scaled_in frame i f.value)) refl
    by_places (place.Cost j) (place.Right i) h = once_left (is_idle frame.sides j) (Cost j (scaled_to e.value frame.cost_places)) (Limits i (lower_of parts frame i f.value) (upper_of parts frame i f.value)) refl
    by_places (place.Cell i j) (place.Cost k) h = twice (is_idle frame.sides j) (is_idle frame.sides k) (Cell i j (scaled_in frame i e.value)) (Cost k (scaled_to f.value frame.cost_places)) refl
    by_places (place.Cell i j) (place.Cell l k) h = twice (is_idle frame.sides j) (is_idle frame.sides k) (Cell i j (scaled_in frame i e.value)) (Cell l k (scaled_in frame l f.value)) h
    by_places (place.Cell i j) (place.Right l) h = once_left (is_idle frame.sides j) (Cell i j (scaled_in frame i e.value)) (Limits l (lower_of parts frame l f.value) (upper_of parts frame l f.value)) refl
    by_places (place.Right i) (place.Cost k) h = once_right (is_idle frame.sides k) (Limits i (lower_of parts frame i e.value) (upper_of parts frame i e.value)) (Cost k (scaled_to f.value frame.cost_places)) refl
    by_places (place.Right i) (place.Cell l k) h = once_right (is_idle frame.sides k) (Limits i (lower_of parts frame i e.value) (upper_of parts frame i e.value)) (Cell l k (scaled_in frame l f.value)) refl
    by_places (place.Right i) (place.Right l) h = h

-- the column of a change, if it has one, stays in the run
abbrev pub Stays : List Side → Change → Type 0
Stays sides (Cost j value) = is_idle sides j ≡ false
Stays sides (Cell i j value) = is_idle sides j ≡ false
Stays sides (Limits i lower upper) = Unit {0}

-- a change that is there has a column that stays, or none
pub change_stays : (parts : Parts) (frame : Frame) (e : StochEntry) → IfSome (change_of parts frame e) (Stays frame.sides)
change_stays parts frame e = by_place e.place
  where
    by_place : (p : StochPlace) → IfSome (change_at parts frame p e.value) (Stays frame.sides)
    by_place (place.Cost j) = unless (is_idle frame.sides j) (Cost j (scaled_to e.value frame.cost_places)) (Stays frame.sides) (λ live. live)
    by_place (place.Cell i j) = unless (is_idle frame.sides j) (Cell i j (scaled_in frame i e.value)) (Stays frame.sides) (λ live. live)
    by_place (place.Right i) = tt
