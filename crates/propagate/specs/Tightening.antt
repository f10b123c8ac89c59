-- sides narrowed by the limits of rows
use Rattle.std.specs.Prelude.{◌≡◌, ℕ, ◌*◌, ◌^◌, ◌<◌, ◌≤◌, true, false, unsigned_abs, List, length, ℤ, pos, ◌≤ℤ◌, ◌<ℤ◌, ◌-ℤ◌, ◌*ℤ◌}
use Rattle.boxed_problem.specs.Data.{Problem}
use Rattle.boxed_problem.specs.BoxedFacts.{entry_at, limits_at, limits_size}
use Rattle.boxed_problem.specs.Optimum.{meets_all}
use Rattle.boxed_problem.specs.Points.{InBox}
use Rattle.propagate.specs.Ranges.{high_activity, low_activity, misses}
use Rattle.boxed_problem.specs.Rows.{meets_rows}
use Rattle.boxed_problem.specs.Sides.{Within, reach, side_at}
use Rattle.base_words.specs.Sums.{number_at}
use Rattle.boxed_problem.specs.declared.parts.Entry.{Entry}
use Rattle.boxed_problem.specs.declared.parts.Limits.{Limits}
use Rattle.propagate.specs.declared.range.Range.{Range}
use Rattle.boxed_problem.specs.declared.parts.Side.{Side}
use Rattle.propagate.specs.Ranged.{IsInside, high_end, low_end}
use Rattle.propagate.specs.Trails.{KeepsAllMarks}
use Rattle.propagate.specs.declared.sparse.Sparse.{Sparse}
use Rattle.propagate.specs.declared.trail.Trail.{Trail}

-- how many steps of a size a slack allows, where it doesn't allow all of an extent
pub record IsSteps (size slack extent steps : ℤ) : Type 0 where
  pub least : pos 0 ≤ℤ steps
  pub short : steps <ℤ extent
  pub most : (d : ℤ) → (size *ℤ d) ≤ℤ slack → d ≤ℤ steps

-- a side that keeps each value whose product is at most a slack above the least one
pub record KeepsAbove (value : ℤ) (side : Side) (slack : ℤ) (new : Side) : Type 0 where
  pub inside : IsInside new side
  pub keeps : (x : ℤ) → side.lower ≤ℤ x → x ≤ℤ side.upper
      → ((value *ℤ x) -ℤ low_end value side) ≤ℤ slack → (new.lower ≤ℤ x) × (x ≤ℤ new.upper)

-- a side that keeps each value whose product is at most a slack below the greatest one
pub record KeepsBelow (value : ℤ) (side : Side) (slack : ℤ) (new : Side) : Type 0 where
  pub inside : IsInside new side
  pub keeps : (x : ℤ) → side.lower ≤ℤ x → x ≤ℤ side.upper
      → (high_end value side -ℤ (value *ℤ x)) ≤ℤ slack → (new.lower ≤ℤ x) × (x ≤ℤ new.upper)

-- a side of a column that each point of the sides that meets the rows lies on
pub record IsCut (rows : List Limits) (entries : List Entry) (sides : List Side) (column : ℕ)
    (new : Side) : Type 0 where
  pub inside : IsInside new (side_at sides column)
  pub keeps : (x : List ℤ) → InBox sides x → meets_rows (length rows) rows entries x ≡ true
      → (new.lower ≤ℤ number_at x column) × (number_at x column ≤ℤ new.upper)

-- each point of the old sides that meets the rows lies on the new ones
abbrev pub KeepsMet : List Limits → List Entry → List Side → List Side → Type 0
KeepsMet rows entries old new =
    (x : List ℤ) → InBox old x → meets_rows (length rows) rows entries x ≡ true → InBox new x

-- narrower sides of a trail, that hold the same points which meet the rows of its sparse form
pub record Tightens (sparse : Sparse) (old new : Trail) : Type 0 where
  pub within : Within new.sides old.sides
  pub keeps : KeepsMet sparse.rows sparse.entries old.sides new.sides
  pub marks : KeepsAllMarks old new

-- the range of row i over the sides misses its limits
pub record MissesRow (rows : List Limits) (entries : List Entry) (sides : List Side)
    (i : ℕ) : Type 0 where
  pub short : i < length rows
  pub is : misses (limits_at rows i) (low_activity entries sides i) (high_activity entries sides i)
      ≡ true

-- the new sides lie in the old ones, and hold the same points that meet a problem's rows
pub record HoldsSame (b : Problem) (old new : List Side) : Type 0 where
  pub within : Within new old
  pub keeps : (x : List ℤ) → InBox old x → meets_all b x ≡ true → InBox new x

-- no point of the sides meets all of a problem's rows
abbrev pub HoldsNone : Problem → List Side → Type 0
HoldsNone b sides = (x : List ℤ) → InBox sides x → meets_all b x ≡ false

-- what narrowing by an entry of a row needs: its row and column are there, and the column's side
-- isn't empty; the range holds that of the row over the sides, and doesn't
-- miss the row's limits; and no number is too great
pub record IsReady (rows : List Limits) (entries : List Entry) (sides : List Side) (place : ℕ)
    (range : Range) : Type 0 where
  pub row : (entry_at entries place).row < length rows
  pub column : (entry_at entries place).column < length sides
  pub filled : (side_at sides (entry_at entries place).column).lower
      ≤ℤ (side_at sides (entry_at entries place).column).upper
  pub low : range.low ≤ℤ low_activity entries sides (entry_at entries place).row
  pub high : high_activity entries sides (entry_at entries place).row ≤ℤ range.high
  pub not_missed : misses (limits_at rows (entry_at entries place).row) range.low range.high ≡ false
  pub low_small : unsigned_abs range.low ≤ 2 ^ 122
  pub high_small : unsigned_abs range.high ≤ 2 ^ 122
  pub limits_small : limits_size (limits_at rows (entry_at entries place).row) ≤ 2 ^ 122
  pub entry_small : unsigned_abs (entry_at entries place).value
      * reach (side_at sides (entry_at entries place).column) ≤ 2 ^ 122
