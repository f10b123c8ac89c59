-- The entries of a run: in order, of rows and columns that are there, and none of a column whose box is the single 0.
use Rattle.std.proofs.Common.{arith, refl, sym, ap, subst, ◌∙◌, ◌≡◌, ℕ, zero, suc, ◌+◌, ◌-◌, ◌<◌, Bool, true, false, not, ◌&&◌, List, map, length, get_or, pos, unsigned_abs, if◌then◌else◌, ◌≤◌}
use Rattle.std.specs.Ordering.{int_eq}
use Rattle.std.specs.List.{All, AllPairs, filter, range_with_len}
use Rattle.std.proofs.lemmas.List.{get_or-map, get_or_default, length-map}
use Rattle.std.proofs.lemmas.List.Elements.{All-filter, All-map, filter_passes}
use Rattle.std.proofs.lemmas.List.Kept.{AllPairs-filter}
use Rattle.std.proofs.lemmas.List.FromFn.{get_or-map-range_with_len, length-map-range_with_len}
use Rattle.base_words.proofs.Magnitudes.{abs_none}
use Rattle.smps_words.proofs.EntryOrder.{before_before}
use Rattle.boxed_problem.specs.BoxedFacts.{ComesBefore, entry_at, no_entry}
use Rattle.boxed_problem.specs.Sides.{no_side, reach, side_at}
use Rattle.boxed_problem.specs.declared.parts.Entry.{Entry}
use Rattle.boxed_problem.specs.declared.parts.Side.{Side}
use Rattle.smps_words.specs.CoreFacts as core_facts
use Rattle.smps_words.specs.declared.core_data.CoreEntry.{CoreEntry}
use Rattle.smps_words.specs.declared.core_file.Core.{Core}
use Rattle.sp_model.specs.Changes.{side_of}
use Rattle.sp_model.specs.Reaching.{box_reach}
use Rattle.sp_model.specs.declared.program.Program.{Program}
use Rattle.join_words.specs.Boxes.{is_idle, is_zero}
use Rattle.join_words.specs.Parts.{Firsts, column_at, parts_of}
use Rattle.join_words.specs.Powers.{stays}
use Rattle.join_words.specs.RunOf.{column_of, columns_of, entries_of, entry_of, scaled_cost}
use Rattle.join_words.specs.declared.frame.Frame.{Frame}

-- neighbours in order make all pairs in order

far : (es : List CoreEntry) → ((k : ℕ) → k + 1 < length es → core_facts.ComesBefore (core_facts.entry_at es k) (core_facts.entry_at es (k + 1))) → (i n : ℕ) → i + suc n < length es → core_facts.ComesBefore (core_facts.entry_at es i) (core_facts.entry_at es (i + suc n))
far es h i zero lt = let e : i + 1 ≡ i + suc zero = omega arith in let P : ℕ → Type 0 = λ m. core_facts.ComesBefore (core_facts.entry_at es i) (core_facts.entry_at es m) in subst P e (h i (omega (arith, lt)))
far es h i (suc n) lt =
    let e : (i + suc n) + 1 ≡ i + suc (suc n) = omega arith in
    let P : ℕ → Type 0 = λ m. core_facts.ComesBefore (core_facts.entry_at es (i + suc n)) (core_facts.entry_at es m) in
    before_before (core_facts.entry_at es i) (core_facts.entry_at es (i + suc n)) (core_facts.entry_at es (i + suc (suc n))) (far es h i n (omega (arith, lt))) (subst P e (h (i + suc n) (omega (arith, lt))))

at_default : (es : List CoreEntry) (k : ℕ) (d : CoreEntry) → k < length es → core_facts.entry_at es k ≡ get_or es k d
at_default es k d lt = get_or_default es k core_facts.no_entry d lt

core_pairs : (core : Core) → AllPairs core_facts.ComesBefore core.entries
core_pairs core i j d before lt =
    let n : ℕ = j - suc i in
    let e : i + suc n ≡ j = omega (arith, before) in
    let P : ℕ → Type 0 = λ m. core_facts.ComesBefore (core_facts.entry_at core.entries i) (core_facts.entry_at core.entries m) in
    let far_apart = subst P e (far core.entries core.facts.ascending i n (omega (arith, e, lt))) in
    let Q : CoreEntry → Type 0 = λ x. core_facts.ComesBefore x (core_facts.entry_at core.entries j) in
    let R : CoreEntry → Type 0 = λ y. core_facts.ComesBefore (get_or core.entries i d) y in
    subst R (at_default core.entries j d lt) (subst Q (at_default core.entries i d (omega (arith, before, lt))) far_apart)

-- those that stay
abbrev staying : Core → Frame → List CoreEntry
staying core frame = filter (λ (e : CoreEntry). stays frame.sides e.column) core.entries

pub entries_ascend : (core : Core) (frame : Frame) (k : ℕ) → k + 1 < length (entries_of (parts_of core) frame) → ComesBefore (entry_at (entries_of (parts_of core) frame) k) (entry_at (entries_of (parts_of core) frame) (k + 1))
entries_ascend core frame k lt =
    let kept = staying core frame in
    let long = length-map kept (entry_of frame) in
    let first : k < length kept = omega (arith, long, lt) in
    let second : k + 1 < length kept = omega (arith, long, lt) in
    let pair = AllPairs-filter core_facts.ComesBefore (λ (e : CoreEntry). stays frame.sides e.column) core.entries (core_pairs core) k (k + 1) core_facts.no_entry (omega arith) second in
    let at_first = get_or-map (entry_of frame) kept k core_facts.no_entry no_entry first in
    let at_second = get_or-map (entry_of frame) kept (k + 1) core_facts.no_entry no_entry second in
    let P : Entry → Type 0 = λ e. ComesBefore e (entry_at (entries_of (parts_of core) frame) (k + 1)) in
    let Q : Entry → Type 0 = λ f. ComesBefore (entry_of frame (get_or kept k core_facts.no_entry)) f in
    subst P (sym at_first) (subst Q (sym at_second) pair)

pub entries_there : (core : Core) (frame : Frame) → All (λ (e : Entry). (e.row < length core.rows) × (e.column < length core.columns)) (entries_of (parts_of core) frame)
entries_there core frame =
    All-map (λ (e : Entry). (e.row < length core.rows) × (e.column < length core.columns)) (entry_of frame) (staying core frame)
    (All-filter (λ (e : CoreEntry). stays frame.sides e.column) (λ (e : CoreEntry). (e.row < length core.rows) × (e.column < length core.columns)) core.entries core.facts.places)

-- boxes
zero_box : (side : Side) → reach side ≡ 0 → is_zero side ≡ true
zero_box side h =
    let low : unsigned_abs side.lower ≤ 0 = omega (arith, h) in
    let high : unsigned_abs side.upper ≤ 0 = omega (arith, h) in
    ap (λ z. int_eq z (pos 0) && int_eq side.upper (pos 0)) (abs_none side.lower low) ∙ ap (λ z. int_eq (pos 0) (pos 0) && int_eq z (pos 0)) (abs_none side.upper high)

-- the box of a column of the run is that of the frame
box_is_side : (core : Core) (firsts : Firsts) (frame : Frame) (p : Program) (j : ℕ) → p.columns ≡ columns_of (parts_of core) firsts frame → j < length core.columns → box_reach p j ≡ reach (side_at frame.sides j)
box_is_side core firsts frame p j columns lt =
    let column = column_of (parts_of core) firsts frame in
    let n = length core.columns in
    let long = length-map-range_with_len column 0 n in
    ap (λ cs. reach (side_at (map side_of cs) j)) columns
    ∙ (ap reach (get_or-map side_of (map column (range_with_len 0 n)) j (column 0) no_side (omega (arith, long, lt)))
    ∙ ap (λ c. reach (side_of c)) (get_or-map-range_with_len column 0 n j j (column 0) lt (omega arith)))

pub idle_from_reach : (core : Core) (firsts : Firsts) (frame : Frame) (p : Program) (j : ℕ) → p.columns ≡ columns_of (parts_of core) firsts frame → j < length core.columns → box_reach p j ≡ 0 → is_idle frame.sides j ≡ true
idle_from_reach core firsts frame p j columns lt h = zero_box (side_at frame.sides j) (sym (box_is_side core firsts frame p j columns lt) ∙ h)

-- no entry of the run is of such a column
pub entries_stay : (core : Core) (frame : Frame) → All (λ (e : Entry). is_idle frame.sides e.column ≡ false) (entries_of (parts_of core) frame)
entries_stay core frame = All-map (λ (e : Entry). is_idle frame.sides e.column ≡ false) (entry_of frame) (staying core frame) (λ k d lt. stays_live (is_idle frame.sides (get_or (staying core frame) k d).column) (filter_passes (λ (e : CoreEntry). stays frame.sides e.column) core.entries k d lt))
  where
    stays_live : (b : Bool) → not b ≡ true → b ≡ false
    stays_live true h = absurd (let z = h in cc)
    stays_live false h = refl

-- the cost of such a column is 0
pub idle_cost : (core : Core) (firsts : Firsts) (frame : Frame) (j : ℕ) → is_idle frame.sides j ≡ true → (column_of (parts_of core) firsts frame j).cost ≡ pos 0
idle_cost core firsts frame j h = ap (λ t. if t then pos 0 else scaled_cost frame (column_at (parts_of core) j).cost) h
