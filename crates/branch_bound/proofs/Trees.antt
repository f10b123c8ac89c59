-- The boxes of the halving tree, by a column and the sides before it.
use Rattle.std.proofs.Common.{arith, refl, ap, sym, subst, inl, inr, ◌∙◌, ◌≡◌, ◌⊎◌, ℕ, zero, suc, ◌+◌, ◌≤◌, ◌<◌, List, [], ◌∷◌, length, slice_set, ℤ, ◌≤ℤ◌, ◌<ℤ◌, Option, Some, if◌then◌else◌}
use Rattle.std.proofs.lemmas.Int.{ints, clamps}
use Rattle.boxed_problem.specs.Data.{Problem}
use Rattle.branch_bound.specs.Halves.{behind, halves, high_half, low_half, middle}
use Rattle.branch_bound.specs.PlainSearch.{width}
use Rattle.boxed_problem.specs.Sides.{Within, no_side, side_at}
use Rattle.boxed_problem.specs.declared.parts.Best.{Best}
use Rattle.boxed_problem.specs.declared.parts.Side.{Side}
use Rattle.base_words.proofs.Comparisons.{test_from_above, test_from_below}
use Rattle.propagate.proofs.SpanLaws.{item_not_set, same_or_not}
use Rattle.branch_bound.proofs.HalfLaws.{cut_of, narrower}
use Rattle.branch_bound.proofs.HalfLaws.{cut_within}
use Rattle.boxed_problem.proofs.Lying.{filled_at, within_at, within_trans}
use Rattle.branch_bound.specs.Frames.{IsOpen, SingleTo, clip, node_of, tree_box}
use Rattle.branch_bound.specs.Narrowing.{KeepsBetter}
use Rattle.branch_bound.proofs.Cutting.{keeps_set}
use Rattle.propagate.proofs.Setting.{set_both, set_outer}
use Rattle.propagate.proofs.TightLaws.{side_with}

pub same_side : (s t : Side) → s.lower ≡ t.lower → s.upper ≡ t.upper → s ≡ t
same_side s t e d = ap (λ l. side_with l s.upper) e ∙ ap (λ u. side_with t.lower u) d

within_tail : (n o : Side) (new old : List Side) → Within (n ∷ new) (o ∷ old) → Within new old
within_tail n o new old w = record {
  long = omega (arith, w.long);
  filled = w.filled.1;
  lower = λ j l. w.lower (suc j) (omega arith);
  upper = λ j l. w.upper (suc j) (omega arith);
}

-- narrower sides have the same box, since those before the column are single
pub tree_narrowed : (columns new old : List Side) (j : ℕ) (a : Side) → Within new old → SingleTo old j → tree_box columns new j a ≡ tree_box columns old j a
tree_narrowed [] new old j a w h = refl
tree_narrowed (t ∷ columns) [] [] j a w h = refl
tree_narrowed (t ∷ columns) [] (o ∷ old) j a w h = absurd (omega (arith, w.long))
tree_narrowed (t ∷ columns) (n ∷ new) [] j a w h = absurd (omega (arith, w.long))
tree_narrowed (t ∷ columns) (n ∷ new) (o ∷ old) zero a w h = refl
tree_narrowed (t ∷ columns) (n ∷ new) (o ∷ old) (suc j) a w h =
    let low = w.lower 0 (omega arith) in
    let up = w.upper 0 (omega arith) in
    let one = h 0 (omega arith) in
    ap (λ s. s ∷ tree_box columns new j a) (same_side n o (omega (arith, ints, w.filled.0)) (omega (arith, ints, w.filled.0)))
    ∙ ap (λ l. o ∷ l) (tree_narrowed columns new old j a (within_tail n o new old w) (λ k l. h (suc k) (omega arith)))

pub single_narrowed : (new old : List Side) (j : ℕ) → Within new old → SingleTo old j → SingleTo new j
single_narrowed new old j w h k l =
    let a = within_at new old w k in
    let f = filled_at new w.filled k in
    let s = h k l in
    omega (arith, ints, a.0, a.1)

pub single_set : (sides : List Side) (j : ℕ) (s : Side) → SingleTo sides j → SingleTo (slice_set sides j s) j
single_set sides j s h k l =
    let e = item_not_set sides j k s no_side (λ d. absurd (omega (arith, d))) in
    let g = h k l in
    omega (arith, ints, ap (λ (z : Side). z.lower) e, ap (λ (z : Side). z.upper) e, g)

-- the box doesn't depend on the sides from the column on
pub tree_set : (columns sides : List Side) (j : ℕ) (a s : Side) → tree_box columns (slice_set sides j s) j a ≡ tree_box columns sides j a
tree_set [] sides j a s = refl
tree_set (t ∷ columns) [] j a s = refl
tree_set (t ∷ columns) (n ∷ sides) zero a s = refl
tree_set (t ∷ columns) (n ∷ sides) (suc j) a s = ap (λ l. n ∷ l) (tree_set columns sides j a s)

tree_put : (columns sides : List Side) (j : ℕ) (a c : Side) → slice_set (tree_box columns sides j a) j c ≡ tree_box columns sides j c
tree_put [] sides j a c = refl
tree_put (t ∷ columns) [] j a c = refl
tree_put (t ∷ columns) (n ∷ sides) zero a c = refl
tree_put (t ∷ columns) (n ∷ sides) (suc j) a c = ap (λ l. n ∷ l) (tree_put columns sides j a c)

tree_long : (columns sides : List Side) (j : ℕ) (a : Side) → length sides ≡ length columns → length (tree_box columns sides j a) ≡ length columns
tree_long [] sides j a e = refl
tree_long (t ∷ columns) [] j a e = absurd (omega (arith, e))
tree_long (t ∷ columns) (n ∷ sides) zero a e = refl
tree_long (t ∷ columns) (n ∷ sides) (suc j) a e = ap suc (tree_long columns sides j a (omega (arith, e)))

tree_there : (columns sides : List Side) (j : ℕ) (a : Side) → length sides ≡ length columns → j < length columns → side_at (tree_box columns sides j a) j ≡ a
tree_there [] sides j a e l = absurd (omega arith)
tree_there (t ∷ columns) [] j a e l = absurd (omega (arith, e))
tree_there (t ∷ columns) (n ∷ sides) zero a e l = refl
tree_there (t ∷ columns) (n ∷ sides) (suc j) a e l = tree_there columns sides j a (omega (arith, e)) (omega arith)

-- at the first column it is the whole box
pub tree_start : (columns sides : List Side) → length sides ≡ length columns → tree_box columns sides 0 (side_at columns 0) ≡ columns
tree_start [] sides e = refl
tree_start (t ∷ columns) [] e = absurd (omega (arith, e))
tree_start (t ∷ columns) (n ∷ sides) e = refl

-- where the column has its side already, the next column is next
tree_next : (columns sides : List Side) (j : ℕ) (a : Side) → length sides ≡ length columns → j < length columns → a ≡ side_at sides j → tree_box columns sides j a ≡ tree_box columns sides (suc j) (side_at columns (suc j))
tree_next [] sides j a e l d = absurd (omega arith)
tree_next (t ∷ columns) [] j a e l d = absurd (omega (arith, e))
tree_next (t ∷ columns) (n ∷ sides) zero a e l d = ap (λ s. s ∷ columns) d ∙ ap (λ r. n ∷ r) (sym (tree_start columns sides (omega (arith, e))))
tree_next (t ∷ columns) (n ∷ sides) (suc j) a e l d = ap (λ r. n ∷ r) (tree_next columns sides j a (omega (arith, e)) (omega arith) d)

pub tree_next_one : (columns sides : List Side) (j : ℕ) (a : Side) → length sides ≡ length columns → j < length columns → a ≡ side_at sides j → tree_box columns sides j a ≡ tree_box columns sides (j + 1) (side_at columns (j + 1))
tree_next_one columns sides j a e l d =
    let one : suc j ≡ j + 1 = omega arith in
    tree_next columns sides j a e l d ∙ ap (λ k. tree_box columns sides k (side_at columns k)) one

-- behind the last column it is the sides
pub tree_all : (columns sides : List Side) (j : ℕ) (a : Side) → length sides ≡ length columns → length columns ≤ j → tree_box columns sides j a ≡ sides
tree_all [] [] j a e l = refl
tree_all [] (n ∷ sides) j a e l = absurd (omega (arith, e))
tree_all (t ∷ columns) [] j a e l = absurd (omega (arith, e))
tree_all (t ∷ columns) (n ∷ sides) zero a e l = absurd (omega arith)
tree_all (t ∷ columns) (n ∷ sides) (suc j) a e l = ap (λ r. n ∷ r) (tree_all columns sides j a (omega (arith, e)) (omega arith))

-- it is halved at the column
pub tree_halves : (columns sides : List Side) (j : ℕ) (a : Side) → length sides ≡ length columns → j < length columns → SingleTo sides j → a.lower <ℤ a.upper →
    halves (tree_box columns sides j a) ≡ Some (record { low = tree_box columns sides j (low_half a); high = tree_box columns sides j (high_half a) })
tree_halves [] sides j a e l h w = absurd (omega arith)
tree_halves (t ∷ columns) [] j a e l h w = absurd (omega (arith, e))
tree_halves (t ∷ columns) (n ∷ sides) zero a e l h w =
    ap (λ q. if q then Some (record { low = low_half a ∷ columns; high = high_half a ∷ columns }) else behind a (halves columns)) (test_from_below a.lower a.upper w)
tree_halves (t ∷ columns) (n ∷ sides) (suc j) a e l h w =
    let rest = tree_box columns sides j a in
    ap (λ q. if q then Some (record { low = low_half n ∷ rest; high = high_half n ∷ rest }) else behind n (halves rest)) (test_from_above n.lower n.upper (h 0 (omega arith)))
    ∙ ap (λ o. behind n o) (tree_halves columns sides j a (omega (arith, e)) (omega arith) (λ k m. h (suc k) (omega arith)) w)

-- how far a walk has still to go
pub tree_less : (columns sides : List Side) (j : ℕ) (a : Side) → length sides ≡ length columns → j < length columns → SingleTo sides j → a.lower <ℤ a.upper →
    (width (tree_box columns sides j (low_half a)) < width (tree_box columns sides j a)) × (width (tree_box columns sides j (high_half a)) < width (tree_box columns sides j a))
tree_less columns sides j a e l h w = narrower (cut_of (tree_box columns sides j a) (record { low = tree_box columns sides j (low_half a); high = tree_box columns sides j (high_half a) }) (tree_halves columns sides j a e l h w))

-- the sides lie in the half in which they end, or begin
pub tree_low : (columns sides : List Side) (j : ℕ) (a : Side) → length sides ≡ length columns → j < length columns → Within sides (tree_box columns sides j a) → (side_at sides j).upper ≤ℤ middle a → Within sides (tree_box columns sides j (low_half a))
tree_low columns sides j a e l w h =
    let n = tree_long columns sides j a e in
    let there = tree_there columns sides j a e l in
    let low = w.lower j (omega (arith, n)) in
    subst (λ box. Within sides box) (tree_put columns sides j a (low_half a)) (set_outer sides (tree_box columns sides j a) j (low_half a) (omega (arith, n)) (omega (arith, ints, ap (λ (z : Side). z.lower) there, low)) h w)

pub tree_high : (columns sides : List Side) (j : ℕ) (a : Side) → length sides ≡ length columns → j < length columns → Within sides (tree_box columns sides j a) → middle a <ℤ (side_at sides j).lower → Within sides (tree_box columns sides j (high_half a))
tree_high columns sides j a e l w h =
    let n = tree_long columns sides j a e in
    let there = tree_there columns sides j a e l in
    let up = w.upper j (omega (arith, n)) in
    subst (λ box. Within sides box) (tree_put columns sides j a (high_half a)) (set_outer sides (tree_box columns sides j a) j (high_half a) (omega (arith, n)) (omega (arith, ints)) (omega (arith, ints, ap (λ (z : Side). z.upper) there, up)) w)

-- a single side of the box is that of the sides
pub tree_single : (columns sides : List Side) (j : ℕ) (a : Side) → length sides ≡ length columns → j < length columns → Within sides (tree_box columns sides j a) → a.upper ≤ℤ a.lower → (a ≡ side_at sides j) × ((side_at sides j).upper ≤ℤ (side_at sides j).lower)
tree_single columns sides j a e l w h =
    let n = tree_long columns sides j a e in
    let there = tree_there columns sides j a e l in
    let low = w.lower j (omega (arith, n)) in
    let up = w.upper j (omega (arith, n)) in
    let f = filled_at sides w.filled j in
    let dl = ap (λ (z : Side). z.lower) there in
    let du = ap (λ (z : Side). z.upper) there in
    (same_side a (side_at sides j) (omega (arith, ints, low, up, f, dl, du)) (omega (arith, ints, low, up, f, dl, du)), omega (arith, ints, low, up, f, dl, du))

less_still : (k j : ℕ) → (k ≡ j → ⊥) → k < j + 1 → k < j
less_still k j n l = grind arith

pub single_next : (sides : List Side) (j : ℕ) → SingleTo sides j → (side_at sides j).upper ≤ℤ (side_at sides j).lower → SingleTo sides (j + 1)
single_next sides j h s k l = by_place (same_or_not k j)
  where
    by_place : (k ≡ j) ⊎ (k ≡ j → ⊥) → (side_at sides k).upper ≤ℤ (side_at sides k).lower
    by_place (inl e) = subst (λ i. (side_at sides i).upper ≤ℤ (side_at sides i).lower) (sym e) s
    by_place (inr n) = h k (less_still k j n l)

-- the halves of a box whose sides reach into both are open
pub tree_open : (b : Problem) (best : Option Best) (sides : List Side) (j m : ℕ) (a : Side) → j < length b.columns → SingleTo sides j → a.lower <ℤ a.upper → (side_at sides j).lower ≤ℤ middle a → middle a <ℤ (side_at sides j).upper →
    IsOpen b best (record { whole = tree_box b.columns sides j a; sides = sides }) →
    IsOpen b best (node_of b.columns sides (record { mark = m; column = j; half = low_half a })) × IsOpen b best (node_of b.columns sides (record { mark = m; column = j; half = high_half a }))
tree_open b best sides j m a l h wide low high o =
    let box = tree_box b.columns sides j a in
    let long : length sides ≡ length b.columns = o.sides.long ∙ o.inside.long in
    let n : j < length box = omega (arith, o.inside.long) in
    let there = tree_there b.columns sides j a long l in
    let dl = ap (λ (z : Side). z.lower) there in
    let du = ap (λ (z : Side). z.upper) there in
    let from = o.sides.lower j n in
    let to = o.sides.upper j n in
    let c = cut_within (cut_of box (record { low = tree_box b.columns sides j (low_half a); high = tree_box b.columns sides j (high_half a) }) (tree_halves b.columns sides j a long l h wide)) o.inside.filled in
    let e = tree_put b.columns sides j a (low_half a) in
    let d = tree_put b.columns sides j a (high_half a) in (
      record {
        inside = within_trans (tree_box b.columns sides j (low_half a)) box b.columns c.0 o.inside;
        sides = subst (λ w. Within (slice_set sides j (clip (low_half a) (side_at sides j))) w) e
            (set_both sides box j (clip (low_half a) (side_at sides j)) (low_half a) n (omega (arith, ints, clamps)) (omega (arith, ints, clamps, low, high, dl, du, from, to)) (omega (arith, ints, clamps)) o.sides);
        keeps = subst (λ w. KeepsBetter b best w (slice_set sides j (clip (low_half a) (side_at sides j)))) e
            (keeps_set b best box sides j (clip (low_half a) (side_at sides j)) (low_half a) n o.sides (subst (λ w. Within w box) (sym e) c.0) (λ v p q r s. (omega (arith, ints, clamps), omega (arith, ints, clamps))) o.keeps);
      },
      record {
        inside = within_trans (tree_box b.columns sides j (high_half a)) box b.columns c.1 o.inside;
        sides = subst (λ w. Within (slice_set sides j (clip (high_half a) (side_at sides j))) w) d
            (set_both sides box j (clip (high_half a) (side_at sides j)) (high_half a) n (omega (arith, ints, clamps)) (omega (arith, ints, clamps, low, high, dl, du, from, to)) (omega (arith, ints, clamps)) o.sides);
        keeps = subst (λ w. KeepsBetter b best w (slice_set sides j (clip (high_half a) (side_at sides j)))) d
            (keeps_set b best box sides j (clip (high_half a) (side_at sides j)) (high_half a) n o.sides (subst (λ w. Within w box) (sym d) c.1) (λ v p q r s. (omega (arith, ints, clamps), omega (arith, ints, clamps))) o.keeps);
      },
    )
