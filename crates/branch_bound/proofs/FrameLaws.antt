-- Frames, over a trail that changes behind their marks.
use Rattle.std.proofs.Common.{arith, Bool, true, false, nat_lt, length, ◌<◌, ◌≤ℤ◌, refl, ap, sym, subst, ◌∙◌, ◌≡◌, ℕ, ◌+◌, ◌≤◌, List, [], ◌∷◌, ◌++◌, slice_set, Option}
use Rattle.std.proofs.lemmas.Int.{ints, clamps}
use Rattle.std.proofs.lemmas.List.{map-append}
use Rattle.std.specs.List.{AllByRecursion}
use Rattle.boxed_problem.specs.Data.{Problem}
use Rattle.boxed_problem.specs.Objective.{value_of}
use Rattle.boxed_problem.specs.Sides.{Filled, Within, no_side, side_at}
use Rattle.boxed_problem.specs.declared.parts.Best.{Best}
use Rattle.boxed_problem.specs.declared.parts.Side.{Side}
use Rattle.boxed_problem.proofs.Lying.{filled_at, within_self}
use Rattle.propagate.specs.Ranged.{IsInside}
use Rattle.propagate.proofs.SpanLaws.{item_set}
use Rattle.branch_bound.specs.Frames.{Chain, IsFrame, IsOpen, IsRooted, IsStack, SingleTo, box_of, boxes_of, clip, node_of, tree_box}
use Rattle.branch_bound.specs.Narrowing.{Falls, KeepsBetter}
use Rattle.propagate.specs.Trails.{KeepsMarks, sides_at}
use Rattle.branch_bound.specs.declared.frames.Frame.{Frame}
use Rattle.propagate.specs.declared.trail.Trail.{Trail}
use Rattle.propagate.proofs.TightLaws.{set_same}
use Rattle.branch_bound.proofs.Steps.{open_narrowed}
use Rattle.branch_bound.proofs.Trees.{same_side, single_narrowed, single_set, tree_narrowed, tree_set, tree_start}

chain_le : (low high : ℕ) (frames : List Frame) → Chain low frames high → low ≤ high
chain_le low high [] c = c
chain_le low high (frame ∷ frames) c = omega (arith, c.0, chain_le frame.mark high frames c.1)

pub chain_up : (low high more : ℕ) (frames : List Frame) → Chain low frames high → high ≤ more → Chain low frames more
chain_up low high more [] c l = omega arith
chain_up low high more (frame ∷ frames) c l = (c.0, chain_up frame.mark high more frames c.1 l)

pub chain_push : (low high : ℕ) (frames : List Frame) (frame : Frame) → Chain low frames high → frame.mark ≡ high → Chain low (frames ++ frame ∷ []) high
chain_push low high [] frame c e = (omega (arith, c, e), omega (arith, e))
chain_push low high (f ∷ frames) frame c e = (c.0, chain_push f.mark high frames frame c.1 e)

pub chain_popped : (low high : ℕ) (frames : List Frame) (frame : Frame) → Chain low (frames ++ frame ∷ []) high → Chain low frames frame.mark × (frame.mark ≤ high)
chain_popped low high [] frame c = c
chain_popped low high (f ∷ frames) frame c = let r = chain_popped f.mark high frames frame c.1 in ((c.0, r.0), r.1)

-- a frame whose mark gives back the same
frame_same : (b : Problem) (best : Option Best) (m : ℕ) (old new : Trail) (frame : Frame) → KeepsMarks (m + 1) old new → frame.mark ≤ m → IsFrame b best old frame → IsFrame b best new frame
frame_same b best m old new frame k l h =
    let e = sym (k.back frame.mark (omega arith)) in
    record {
      single = subst (λ sides. SingleTo sides frame.column) e h.single;
      node = subst (λ sides. IsOpen b best (node_of b.columns sides frame)) e h.node;
    }

pub frames_same : (b : Problem) (best : Option Best) (low m : ℕ) (old new : Trail) (frames : List Frame) → KeepsMarks (m + 1) old new → Chain low frames m → AllByRecursion (IsFrame b best old) frames → AllByRecursion (IsFrame b best new) frames
frames_same b best low m old new [] k c a = tt
frames_same b best low m old new (frame ∷ frames) k c a =
    (frame_same b best m old new frame k (chain_le frame.mark m frames c.1) a.0, frames_same b best frame.mark m old new frames k c.1 a.1)

pub boxes_same : (columns : List Side) (low m : ℕ) (old new : Trail) (frames : List Frame) → KeepsMarks (m + 1) old new → Chain low frames m → boxes_of columns new frames ≡ boxes_of columns old frames
boxes_same columns low m old new [] k c = refl
boxes_same columns low m old new (frame ∷ frames) k c =
    ap (λ sides. tree_box columns sides frame.column frame.half ∷ boxes_of columns new frames) (k.back frame.mark (omega (arith, chain_le frame.mark m frames c.1)))
    ∙ ap (λ boxes. box_of columns old frame ∷ boxes) (boxes_same columns frame.mark m old new frames k c.1)

-- frames stay where the best gets better
pub frames_later : (b : Problem) (old new : Option Best) (trail : Trail) → Falls old new → (frames : List Frame) → AllByRecursion (IsFrame b old trail) frames → AllByRecursion (IsFrame b new trail) frames
frames_later b old new trail f [] a = tt
frames_later b old new trail f (frame ∷ frames) a = (
  record {
    single = a.0.single;
    node = record { inside = a.0.node.inside; sides = a.0.node.sides; keeps = λ x i m d. a.0.node.keeps x i m (f (value_of b x) d) };
  },
  frames_later b old new trail f frames a.1,
)

pub frames_filled : (b : Problem) (best : Option Best) (trail : Trail) (frames : List Frame) → AllByRecursion (IsFrame b best trail) frames → AllByRecursion Filled (boxes_of b.columns trail frames)
frames_filled b best trail [] a = tt
frames_filled b best trail (frame ∷ frames) a = (a.0.node.inside.filled, frames_filled b best trail frames a.1)

pub boxes_push : (columns : List Side) (trail : Trail) (frames : List Frame) (frame : Frame) → boxes_of columns trail (frames ++ frame ∷ []) ≡ boxes_of columns trail frames ++ box_of columns trail frame ∷ []
boxes_push columns trail frames frame = map-append (box_of columns trail) frames (frame ∷ [])

-- where the search stands at the box of a frame, with sides that were narrowed there
pub record IsCurrent (b : Problem) (best : Option Best) (old : Trail) (frame : Frame) (sides : List Side) : Type 0 where
  pub same : tree_box b.columns sides frame.column frame.half ≡ box_of b.columns old frame
  pub single : SingleTo sides frame.column
  pub node : IsOpen b best (record { whole = tree_box b.columns sides frame.column frame.half; sides = sides })

pub current : (b : Problem) (best : Option Best) (old : Trail) (frame : Frame) (sides : List Side) → IsFrame b best old frame → Within sides (node_of b.columns (sides_at old frame.mark) frame).sides →
    KeepsBetter b best (node_of b.columns (sides_at old frame.mark) frame).sides sides → IsCurrent b best old frame sides
current b best old frame sides h w k =
    let at = sides_at old frame.mark in
    let j = frame.column in
    let cut = slice_set at j (clip frame.half (side_at at j)) in
    let one : SingleTo cut j = single_set at j (clip frame.half (side_at at j)) h.single in
    let same = tree_narrowed b.columns sides cut j frame.half w one ∙ tree_set b.columns at j frame.half (clip frame.half (side_at at j)) in
    record {
      same = same;
      single = single_narrowed sides cut j w one;
      node = subst (λ box. IsOpen b best (record { whole = box; sides = sides })) (sym same) (open_narrowed b best (node_of b.columns at frame) sides h.node w k);
    }

clip_same : (s : Side) → clip s s ≡ s
clip_same s = same_side (clip s s) s (omega (arith, ints, clamps)) (omega (arith, ints, clamps))

abbrev pub root : Problem → Frame
root b = record { mark = 0; column = 0; half = side_at b.columns 0 }

-- the whole box is open at the start
pub root_is : (b : Problem) (best : Option Best) (trail : Trail) → Filled b.columns → IsRooted b trail → IsStack b best trail (root b ∷ [])
root_is b best trail f start =
    let s = side_at b.columns 0 in
    let whole = tree_start b.columns b.columns refl in
    let sides = ap (λ z. slice_set b.columns 0 z) (clip_same s) ∙ set_same b.columns 0 in
    let open_start : IsOpen b best (record { whole = b.columns; sides = b.columns }) = record { inside = within_self b.columns f; sides = within_self b.columns f; keeps = λ x i m d. i } in
    let first = sym start.first in
    record {
      some = omega (arith, start.one);
      chain = (omega arith, omega arith);
      all = (
        record {
          single = λ k l. absurd (omega arith);
          node = subst (λ at. IsOpen b best (node_of b.columns at (root b))) first
              (subst (λ w. IsOpen b best (record { whole = w; sides = slice_set b.columns 0 (clip s s) })) (sym whole) (subst (λ w. IsOpen b best (record { whole = b.columns; sides = w })) (sym sides) open_start));
        },
        tt,
      );
    }

pub root_box : (b : Problem) (trail : Trail) → IsRooted b trail → boxes_of b.columns trail (root b ∷ []) ≡ b.columns ∷ []
root_box b trail start = ap (λ at. tree_box b.columns at 0 (side_at b.columns 0) ∷ []) start.first ∙ ap (λ box. box ∷ []) (tree_start b.columns b.columns refl)

-- a mark that is undone and set again
pub remarked : (old at new : Trail) (m n : ℕ) → KeepsMarks m old at → length at.marks ≡ m → at.sides ≡ sides_at old m → KeepsMarks (length at.marks) at new → n ≡ length at.marks → sides_at new n ≡ at.sides → length new.marks ≡ length at.marks + 1 → KeepsMarks (m + 1) old new
remarked old at new m n h count sides k number back more = record {
  more = omega (arith, count, more);
  back = λ i l. by_place i l (nat_lt i m) refl;
  sparse = k.sparse ∙ h.sparse;
}
  where
    by_place : (i : ℕ) → i < m + 1 → (t : Bool) → nat_lt i m ≡ t → sides_at new i ≡ sides_at old i
    by_place i l true e = let b : i < m = grind arith in k.back i (omega (arith, b, count)) ∙ h.back i b
    by_place i l false e =
        let b : m ≤ i = grind arith in
        let last : i ≡ m = omega (arith, l, b) in
        let same : n ≡ m = number ∙ count in
        ap (λ z. sides_at new z) (last ∙ sym same) ∙ (back ∙ (sides ∙ ap (λ z. sides_at old z) (sym last)))

-- a frame's side isn't empty and lies in the one at its mark
pub frame_inside : (b : Problem) (best : Option Best) (trail : Trail) (frame : Frame) → IsFrame b best trail frame → frame.column < length (sides_at trail frame.mark) →
    IsInside (clip frame.half (side_at (sides_at trail frame.mark) frame.column)) (side_at (sides_at trail frame.mark) frame.column)
frame_inside b best trail frame h l =
    let at = sides_at trail frame.mark in
    let side = side_at at frame.column in
    let sides = (node_of b.columns at frame).sides in
    let filled = filled_at sides h.node.sides.filled frame.column in
    let is = item_set at frame.column (clip frame.half side) no_side l in
    record {
      lower = omega (arith, ints, clamps);
      filled = subst (λ (s : Side). s.lower ≤ℤ s.upper) is filled;
      upper = omega (arith, ints, clamps);
    }
