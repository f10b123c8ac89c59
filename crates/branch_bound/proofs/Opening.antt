-- What is left to be opened after a box.
use Rattle.std.proofs.Common.{arith, ◌-◌, refl, ap, sym, subst, ◌∙◌, ◌≡◌, ℕ, ◌+◌, ◌<◌, false, List, [], ◌∷◌, ◌++◌, length, Option, Some, None}
use Rattle.std.specs.List.{AllByRecursion}
use Rattle.boxed_problem.specs.Data.{Problem}
use Rattle.branch_bound.specs.Halves.{Halves, halves, high_half, low_half}
use Rattle.boxed_problem.specs.Optimum.{priced}
use Rattle.branch_bound.specs.PlainSearch.{Progress, is_pruned, nothing_yet, ref_count, search, search_all}
use Rattle.boxed_problem.specs.Sides.{corner}
use Rattle.boxed_problem.specs.declared.parts.Best.{Best}
use Rattle.boxed_problem.specs.declared.parts.Side.{Side}
use Rattle.branch_bound.proofs.HalfLaws.{single_of}
use Rattle.boxed_problem.proofs.Lying.{within_trans}
use Rattle.branch_bound.proofs.SearchLaws.{search_all-push}
use Rattle.branch_bound.specs.Frames.{Chain, IsFrame, IsHalved, IsOpen, IsReached, IsStack, IsStep, Node, SingleTo, box_of, boxes_of, node_of, tree_box}
use Rattle.branch_bound.specs.Narrowing.{Descends, Falls, IsFound, NotPast}
use Rattle.propagate.specs.Trails.{KeepsMarks, sides_at}
use Rattle.branch_bound.specs.declared.frames.Frame.{Frame}
use Rattle.branch_bound.specs.declared.frames.Place.{Place}
use Rattle.propagate.specs.declared.trail.Trail.{Trail}
use Rattle.propagate.proofs.Backing.{marks_trans}
use Rattle.branch_bound.proofs.Ahead.{Ahead, ahead_spent, not_past-all}
use Rattle.branch_bound.proofs.FrameLaws.{IsCurrent, boxes_push, boxes_same, chain_push, chain_up, frames_filled, frames_later, frames_same}
use Rattle.branch_bound.proofs.Stack.{all_push}
use Rattle.branch_bound.proofs.Steps.{found_point, halve_on, open_down, point_falls, take_point}
use Rattle.branch_bound.proofs.Trees.{tree_halves, tree_open}

-- the point of the sides is taken
pub step_point : (b : Problem) (best : Option Best) (old : Trail) (frame : Frame) (sides : List Side) → IsCurrent b best old frame sides → Descends sides (tree_box b.columns sides frame.column frame.half) sides → halves sides ≡ None →
    is_pruned b sides best ≡ false → IsStep b best (Some (priced b (corner sides))) (box_of b.columns old frame) sides None
step_point b best old frame sides cur d none l n =
    subst (λ box. NotPast (record { best = Some (priced b (corner sides)); opened = n + 1 }) (search b box (record { best = best; opened = n }))) cur.same
    (take_point b best (record { whole = tree_box b.columns sides frame.column frame.half; sides = sides }) sides n cur.node d none l)

pub point_is : (b : Problem) (best : Option Best) (old : Trail) (frame : Frame) (sides : List Side) → IsCurrent b best old frame sides → halves sides ≡ None → is_pruned b sides best ≡ false →
    Falls best (Some (priced b (corner sides))) × IsFound b (Some (priced b (corner sides)))
point_is b best old frame sides cur none l =
    let single = single_of sides cur.node.sides.filled none in
    (point_falls b best sides single l, found_point b best sides (within_trans sides (tree_box b.columns sides frame.column frame.half) b.columns cur.node.sides cur.node.inside) single l)

-- the box is halved
pub step_halved : (b : Problem) (best : Option Best) (old : Trail) (frame : Frame) (sides : List Side) (place : Place) → IsCurrent b best old frame sides →
    IsReached b.columns sides (tree_box b.columns sides frame.column frame.half) place → is_pruned b sides best ≡ false → IsStep b best best (box_of b.columns old frame) sides (Some place)
step_halved b best old frame sides place cur r l =
    let node : Node = record { whole = tree_box b.columns sides frame.column frame.half; sides = sides } in
    let to = tree_box b.columns sides place.column place.side in
    let h : Halves = record { low = tree_box b.columns sides place.column (low_half place.side); high = tree_box b.columns sides place.column (high_half place.side) } in
    let long : length sides ≡ length b.columns = cur.node.sides.long ∙ cur.node.inside.long in
    let some = tree_halves b.columns sides place.column place.side long r.column r.single r.wide in (
      refl,
      record {
        column = r.column;
        single = r.single;
        wide = r.wide;
        low = r.low;
        high = r.high;
        node = open_down b best node to cur.node r.down;
        search = λ n. subst (λ box. NotPast (search b h.high (search b h.low (record { best = best; opened = n + 1 }))) (search b box (record { best = best; opened = n }))) cur.same
            (halve_on b best node to h n cur.node r.down some l);
      },
    )

-- the search of the frames with one more is that after its box
pub push_is : (b : Problem) (trail : Trail) (frames : List Frame) (frame : Frame) (p : Progress) → search_all b (boxes_of b.columns trail (frames ++ frame ∷ [])) p ≡ search_all b (boxes_of b.columns trail frames) (search b (box_of b.columns trail frame) p)
push_is b trail frames frame p = ap (λ boxes. search_all b boxes p) (boxes_push b.columns trail frames frame) ∙ search_all-push b (boxes_of b.columns trail frames) (box_of b.columns trail frame) p

-- what a search has before it opens the box of a frame
pub record IsNext (b : Problem) (best : Option Best) (old : Trail) (frame : Frame) (frames : List Frame) : Type 0 where
  pub is : IsFrame b best old frame
  pub chain : Chain 0 frames frame.mark
  pub all : AllByRecursion (IsFrame b best old) frames

-- the frames below stay
pub stack_below : (b : Problem) (best later : Option Best) (old new : Trail) (frame : Frame) (frames : List Frame) → IsNext b best old frame frames → KeepsMarks (frame.mark + 1) old new → Falls best later → IsStack b later new frames
stack_below b best later old new frame frames h k falls = record {
  some = omega (arith, k.more);
  chain = chain_up 0 frame.mark (length new.marks - 1) frames h.chain (omega (arith, k.more));
  all = frames_later b best later new falls frames (frames_same b best 0 frame.mark old new frames k h.chain h.all);
}

-- a frame for a half
abbrev half_frame : ℕ → Place → Side → Frame
half_frame mark place half = record { mark = mark; column = place.column; half = half }

half_is : (b : Problem) (best : Option Best) (new : Trail) (mark : ℕ) (place : Place) (half : Side) → sides_at new mark ≡ new.sides → SingleTo new.sides place.column → IsOpen b best (node_of b.columns new.sides (half_frame mark place half)) → IsFrame b best new (half_frame mark place half)
half_is b best new mark place half at s o =
    let e = sym at in
    record {
      single = subst (λ sides. SingleTo sides place.column) e s;
      node = subst (λ sides. IsOpen b best (node_of b.columns sides (half_frame mark place half))) e o;
    }

halves_are : (b : Problem) (best : Option Best) (box : List Side) (new : Trail) (mark : ℕ) (place : Place) → sides_at new mark ≡ new.sides → IsHalved b best box new.sides place → IsFrame b best new (half_frame mark place (low_half place.side)) × IsFrame b best new (half_frame mark place (high_half place.side))
halves_are b best box new mark place at h =
    let both = tree_open b best new.sides place.column mark place.side h.column h.single h.wide h.low h.high h.node in
    (half_is b best new mark place (low_half place.side) at h.single both.0, half_is b best new mark place (high_half place.side) at h.single both.1)

-- two frames with the last mark go on the stack
stack_two : (b : Problem) (best : Option Best) (new : Trail) (frames : List Frame) (below top : Frame) → IsStack b best new frames → below.mark + 1 ≡ length new.marks → top.mark + 1 ≡ length new.marks → IsFrame b best new below → IsFrame b best new top →
    IsStack b best new ((frames ++ below ∷ []) ++ top ∷ [])
stack_two b best new frames below top s e d h k = record {
  some = s.some;
  chain = chain_push 0 (length new.marks - 1) (frames ++ below ∷ []) top (chain_push 0 (length new.marks - 1) frames below s.chain (omega (arith, e))) (omega (arith, d));
  all = all_push (IsFrame b best new) (frames ++ below ∷ []) top (all_push (IsFrame b best new) frames below s.all h) k;
}

-- the search of what is left is not past
pub search_ended : (b : Problem) (best later : Option Best) (old new : Trail) (frame : Frame) (frames : List Frame) (n : ℕ) → IsNext b best old frame frames → KeepsMarks (frame.mark + 1) old new →
    NotPast (record { best = later; opened = n + 1 }) (search b (box_of b.columns old frame) (record { best = best; opened = n })) →
    NotPast (search_all b (boxes_of b.columns new frames) (record { best = later; opened = n + 1 })) (search_all b (boxes_of b.columns old frames) (search b (box_of b.columns old frame) (record { best = best; opened = n })))
search_ended b best later old new frame frames n h k past =
    let q : Progress = search b (box_of b.columns old frame) (record { best = best; opened = n }) in
    subst (λ bs. NotPast (search_all b bs (record { best = later; opened = n + 1 })) (search_all b (boxes_of b.columns old frames) q)) (sym (boxes_same b.columns 0 frame.mark old new frames k h.chain))
    (not_past-all b (boxes_of b.columns old frames) (record { best = later; opened = n + 1 }) q (frames_filled b best old frames h.all) past)

search_halved : (b : Problem) (best : Option Best) (old new : Trail) (frame : Frame) (frames : List Frame) (mark : ℕ) (place : Place) (n : ℕ) → IsNext b best old frame frames → KeepsMarks (frame.mark + 1) old new → sides_at new mark ≡ new.sides → IsHalved b best (box_of b.columns old frame) new.sides place →
    NotPast (search_all b (boxes_of b.columns new ((frames ++ half_frame mark place (high_half place.side) ∷ []) ++ half_frame mark place (low_half place.side) ∷ [])) (record { best = best; opened = n + 1 }))
    (search_all b (boxes_of b.columns old frames) (search b (box_of b.columns old frame) (record { best = best; opened = n })))
search_halved b best old new frame frames mark place n h k at is =
    let boxes = boxes_of b.columns old frames in
    let p : Progress = record { best = best; opened = n + 1 } in
    let q : Progress = search b (box_of b.columns old frame) (record { best = best; opened = n }) in
    let high = half_frame mark place (high_half place.side) in
    let low = half_frame mark place (low_half place.side) in
    let first = tree_box b.columns new.sides place.column (low_half place.side) in
    let second = tree_box b.columns new.sides place.column (high_half place.side) in
    let e : search_all b (boxes_of b.columns new ((frames ++ high ∷ []) ++ low ∷ [])) p ≡ search_all b boxes (search b second (search b first p)) =
    push_is b new (frames ++ high ∷ []) low p
    ∙ (push_is b new frames high (search b (box_of b.columns new low) p)
    ∙ (ap (λ bs. search_all b bs (search b (box_of b.columns new high) (search b (box_of b.columns new low) p))) (boxes_same b.columns 0 frame.mark old new frames k h.chain)
    ∙ ap (λ sides. search_all b boxes (search b (tree_box b.columns sides place.column (high_half place.side)) (search b (tree_box b.columns sides place.column (low_half place.side)) p))) at)) in
    subst (λ r. NotPast r (search_all b boxes q)) (sym e) (not_past-all b boxes (search b second (search b first p)) q (frames_filled b best old frames h.all) (is.search n))

-- a trail on which a mark was set keeps what it kept before
marked_keeps : (old at new : Trail) (m : ℕ) → KeepsMarks m old at → KeepsMarks (length at.marks) at new → KeepsMarks m old new
marked_keeps old at new m h k = marks_trans m (length at.marks) old at new h.more h k

-- a mark was set, that remembers the sides
pub record IsMarked (at new : Trail) (mark : ℕ) : Type 0 where
  pub number : mark ≡ length at.marks
  pub count : length new.marks ≡ length at.marks + 1
  pub back : sides_at new mark ≡ at.sides
  pub sides : new.sides ≡ at.sides
  pub earlier : KeepsMarks (length at.marks) at new

-- the halves of a box go on the stack, either one on top
pub halves_stack : (b : Problem) (best later : Option Best) (old at new : Trail) (frame : Frame) (frames : List Frame) (box : List Side) (place : Place) (mark : ℕ) → IsNext b best old frame frames → KeepsMarks (frame.mark + 1) old at → Falls best later →
    IsHalved b later box at.sides place → IsMarked at new mark →
    IsStack b later new ((frames ++ half_frame mark place (high_half place.side) ∷ []) ++ half_frame mark place (low_half place.side) ∷ []) × IsStack b later new ((frames ++ half_frame mark place (low_half place.side) ∷ []) ++ half_frame mark place (high_half place.side) ∷ [])
halves_stack b best later old at new frame frames box place mark next k falls halved m =
    let keeps = marked_keeps old at new (frame.mark + 1) k m.earlier in
    let below = stack_below b best later old new frame frames next keeps falls in
    let here = subst (λ sides. IsHalved b later box sides place) (sym m.sides) halved in
    let halves = halves_are b later box new mark place (m.back ∙ sym m.sides) here in
    let last : mark + 1 ≡ length new.marks = omega (arith, m.number, m.count) in
    (stack_two b later new frames _ _ below last last halves.1 halves.0, stack_two b later new frames _ _ below last last halves.0 halves.1)

-- the search of the halves is not past that of the box
pub halves_search : (b : Problem) (best : Option Best) (old at new : Trail) (frame : Frame) (frames : List Frame) (place : Place) (mark n : ℕ) → IsNext b best old frame frames → KeepsMarks (frame.mark + 1) old at →
    IsHalved b best (box_of b.columns old frame) at.sides place → IsMarked at new mark →
    NotPast (search_all b (boxes_of b.columns new ((frames ++ half_frame mark place (high_half place.side) ∷ []) ++ half_frame mark place (low_half place.side) ∷ [])) (record { best = best; opened = n + 1 }))
    (search_all b (boxes_of b.columns old frames) (search b (box_of b.columns old frame) (record { best = best; opened = n })))
halves_search b best old at new frame frames place mark n next k halved m =
    let keeps = marked_keeps old at new (frame.mark + 1) k m.earlier in
    let here = subst (λ sides. IsHalved b best (box_of b.columns old frame) sides place) (sym m.sides) halved in
    search_halved b best old new frame frames mark place n next keeps (m.back ∙ sym m.sides) here

-- where a frame is still to be opened, the plain search opens more boxes
pub frame_spent : (b : Problem) (start : Option Best) (trail : Trail) (frames : List Frame) (frame : Frame) (best : Option Best) (n : ℕ) →
    Ahead start (search_all b (boxes_of b.columns trail (frames ++ frame ∷ [])) (record { best = best; opened = n })) (search b b.columns nothing_yet) → n < ref_count b
frame_spent b start trail frames frame best n a =
    ahead_spent b start (boxes_of b.columns trail frames) (box_of b.columns trail frame) best n
    (subst (λ boxes. Ahead start (search_all b boxes (record { best = best; opened = n })) (search b b.columns nothing_yet)) (boxes_push b.columns trail frames frame) a)
