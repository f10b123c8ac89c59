-- The boxes of the halving tree that are still to be opened, as frames over a trail.
use Rattle.std.specs.Prelude.{◌≡◌, ℕ, zero, suc, ◌+◌, ◌-◌, ◌≤◌, ◌<◌, List, [], ◌∷◌, map, length, slice_set, ◌≤ℤ◌, ◌<ℤ◌, Option, Some, None}
use Rattle.std.specs.Int.{int_max, int_min}
use Rattle.std.specs.List.{AllByRecursion}
use Rattle.boxed_problem.specs.Data.{Problem}
use Rattle.branch_bound.specs.Halves.{high_half, low_half, middle}
use Rattle.branch_bound.specs.PlainSearch.{search}
use Rattle.boxed_problem.specs.Sides.{Within, side_at}
use Rattle.boxed_problem.specs.declared.parts.Best.{Best}
use Rattle.boxed_problem.specs.declared.parts.Side.{Side}
use Rattle.branch_bound.specs.Narrowing.{Descends, KeepsBetter, NotPast}
use Rattle.propagate.specs.Trails.{sides_at}
use Rattle.branch_bound.specs.declared.frames.Frame.{Frame}
use Rattle.branch_bound.specs.declared.frames.Place.{Place}
use Rattle.propagate.specs.declared.trail.Trail.{Trail}

-- a box of the halving tree, and sides in it
pub record Node : Type 0 where
  pub whole : List Side
  pub sides : List Side

-- a box still to be opened lies in the problem's, its sides lie in it, and they hold what is below
-- the best so far
pub record IsOpen (b : Problem) (best : Option Best) (node : Node) : Type 0 where
  pub inside : Within node.whole b.columns
  pub sides : Within node.sides node.whole
  pub keeps : KeepsBetter b best node.whole node.sides

-- the columns before one are single
abbrev pub SingleTo : List Side → ℕ → Type 0
SingleTo sides j = (k : ℕ) → k < j → (side_at sides k).upper ≤ℤ (side_at sides k).lower

-- the box of the halving tree that has a side at a column: before it the sides, which are single,
-- and behind it the columns
abbrev pub tree_box : List Side → List Side → ℕ → Side → List Side
tree_box [] sides j side = []
tree_box (t ∷ columns) [] j side = []
tree_box (t ∷ columns) (s ∷ sides) zero side = side ∷ columns
tree_box (t ∷ columns) (s ∷ sides) (suc j) side = s ∷ tree_box columns sides j side

-- what two sides have in common
abbrev pub clip : Side → Side → Side
clip half side = record {
  lower = int_max half.lower side.lower;
  upper = int_min half.upper side.upper;
}

-- the box of a frame with what the sides at its mark have in it
abbrev pub node_of : List Side → List Side → Frame → Node
node_of columns sides frame = record {
  whole = tree_box columns sides frame.column frame.half;
  sides = slice_set sides frame.column (clip frame.half (side_at sides frame.column));
}

-- the box of a frame
abbrev pub box_of : List Side → Trail → Frame → List Side
box_of columns trail frame = tree_box columns (sides_at trail frame.mark) frame.column frame.half

-- the boxes of frames
abbrev pub boxes_of : List Side → Trail → List Frame → List (List Side)
boxes_of columns trail frames = map (box_of columns trail) frames

-- a frame stands for a box that is still to be opened
pub record IsFrame (b : Problem) (best : Option Best) (trail : Trail) (frame : Frame) : Type 0 where
  pub single : SingleTo (sides_at trail frame.mark) frame.column
  pub node : IsOpen b best (node_of b.columns (sides_at trail frame.mark) frame)

-- the marks of frames rise, from one number to another
abbrev pub Chain : ℕ → List Frame → ℕ → Type 0
Chain low [] high = low ≤ high
Chain low (frame ∷ frames) high = (low ≤ frame.mark) × Chain frame.mark frames high

-- the frames stand for boxes that are still to be opened, and their marks rise up to the last one
-- of the trail
pub record IsStack (b : Problem) (best : Option Best) (trail : Trail)
    (frames : List Frame) : Type 0 where
  pub some : 0 < length trail.marks
  pub chain : Chain 0 frames (length trail.marks - 1)
  pub all : AllByRecursion (IsFrame b best trail) frames

-- down from a box to the smallest one that holds the sides, which is halved at this place
pub record IsReached (columns sides from : List Side) (place : Place) : Type 0 where
  pub column : place.column < length columns
  pub single : SingleTo sides place.column
  pub down : Descends sides from (tree_box columns sides place.column place.side)
  pub wide : place.side.lower <ℤ place.side.upper
  pub low : (side_at sides place.column).lower ≤ℤ middle place.side
  pub high : middle place.side <ℤ (side_at sides place.column).upper

-- a box that is opened and halved at a place, with the same best so far: the search of its halves
-- one after another is not past that of the box
pub record IsHalved (b : Problem) (best : Option Best) (box sides : List Side)
    (place : Place) : Type 0 where
  pub column : place.column < length b.columns
  pub single : SingleTo sides place.column
  pub wide : place.side.lower <ℤ place.side.upper
  pub low : (side_at sides place.column).lower ≤ℤ middle place.side
  pub high : middle place.side <ℤ (side_at sides place.column).upper
  pub node : IsOpen b best (record {
    whole = tree_box b.columns sides place.column place.side;
    sides = sides;
  })
  pub search : (n : ℕ) → NotPast
      (search b (tree_box b.columns sides place.column (high_half place.side))
      (search b (tree_box b.columns sides place.column (low_half place.side))
      (record { best = best; opened = n + 1 }))) (search b box (record { best = best; opened = n }))

-- what a search did at a box with n boxes opened before: it took its best or left it, or halved it
abbrev pub IsStep : Problem → Option Best → Option Best → List Side → List Side → Option Place
    → Type 0
IsStep b old new box sides None = (n : ℕ)
    → NotPast (record { best = new; opened = n + 1 })
    (search b box (record { best = old; opened = n }))
IsStep b old new box sides (Some place) = (new ≡ old) × IsHalved b old box sides place

-- a trail whose first and only mark remembers the problem's box
pub record IsRooted (b : Problem) (trail : Trail) : Type 0 where
  pub first : sides_at trail 0 ≡ b.columns
  pub one : length trail.marks ≡ 1
