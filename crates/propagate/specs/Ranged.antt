-- The ranges of rows that a trail keeps, and how one changes with a side.
use Rattle.std.specs.Prelude.{◌≡◌, ℕ, ◌<◌, ◌≤◌, List, length, ℤ, pos, ◌+ℤ◌, ◌-ℤ◌, ◌*ℤ◌, ◌≤ℤ◌, slice_index_or}
use Rattle.std.specs.Int.{int_max, int_min}
use Rattle.std.specs.List.{All}
use Rattle.propagate.specs.Ranges.{high_activity, low_activity}
use Rattle.boxed_problem.specs.Sides.{side_at}
use Rattle.boxed_problem.specs.declared.parts.Entry.{Entry}
use Rattle.propagate.specs.declared.range.Range.{Range}
use Rattle.boxed_problem.specs.declared.parts.Side.{Side}
use Rattle.propagate.specs.Spans.{place_at}
use Rattle.propagate.specs.declared.changes.Change.{Change}

-- a side that isn't empty lies in another
pub record IsInside (inner outer : Side) : Type 0 where
  pub lower : outer.lower ≤ℤ inner.lower
  pub filled : inner.lower ≤ℤ inner.upper
  pub upper : inner.upper ≤ℤ outer.upper

-- the least and the greatest of a number's products with a side's values
abbrev pub low_end : ℤ → Side → ℤ
low_end v s = int_min (v *ℤ s.lower) (v *ℤ s.upper)

abbrev pub high_end : ℤ → Side → ℤ
high_end v s = int_max (v *ℤ s.lower) (v *ℤ s.upper)

-- what stands past the end of a list of ranges
abbrev pub no_range : Range
no_range = record { low = pos 0; high = pos 0 }

-- the range at a place
abbrev pub range_at : List Range → ℕ → Range
range_at ranges i = slice_index_or ranges i no_range

-- a range after the side of an entry's column was changed
abbrev pub moved : ℤ → Side → Side → Range → Range
moved v s t r = record {
  low = (r.low -ℤ low_end v s) +ℤ low_end v t;
  high = (r.high -ℤ high_end v s) +ℤ high_end v t;
}

-- the range of row i's activity over the sides
pub record IsRange (entries : List Entry) (sides : List Side) (i : ℕ) (range : Range) : Type 0 where
  pub low : range.low ≡ low_activity entries sides i
  pub high : range.high ≡ high_activity entries sides i

-- the ranges of the first n rows
pub record AreRanges (n : ℕ) (entries : List Entry) (sides : List Side)
    (ranges : List Range) : Type 0 where
  pub long : length ranges ≡ n
  pub all : (i : ℕ) → i < n → IsRange entries sides i (range_at ranges i)

-- what a trail keeps: its sides, and those that its changes give back, lie in the columns'; its
-- ranges are those of the sides; and its marks rise, up to the number of changes
pub record IsTrail (columns : List Side) (n : ℕ) (entries : List Entry) (sides : List Side)
    (changes : List Change) (marks : List ℕ) (ranges : List Range) : Type 0 where
  pub long : length sides ≡ length columns
  pub inside : (j : ℕ) → IsInside (side_at sides j) (side_at columns j)
  pub olds : All (λ c. (c.column < length columns)
      × IsInside c.old (side_at columns c.column)) changes
  pub made : (k : ℕ) → k < length marks → place_at marks k ≤ length changes
  pub rising : (i k : ℕ) → i ≤ k → k < length marks → place_at marks i ≤ place_at marks k
  pub are : AreRanges n entries sides ranges
