-- what an ascent over the prices of the rows keeps: its lists belong together

use Rattle.std.specs.Prelude.{◌≡◌, ◌<◌, List, length, ℤ, pos, ◌≤ℤ◌}
use Rattle.std.specs.List.{All}
use Rattle.boxed_problem.specs.declared.parts.Entry.{Entry}
use Rattle.boxed_problem.specs.declared.parts.Limits.{Limits}
use Rattle.boxed_problem.specs.declared.parts.Side.{Side}

-- a cost, a square and a side for each column, a price for each row, and entries of rows and
-- columns that are there
pub record IsAscent (columns sides : List Side) (rows : List Limits) (entries : List Entry)
    (line square values : List ℤ) : Type 0 where
  pub ends : length columns ≡ length sides
  pub lines : length line ≡ length sides
  pub squares : length square ≡ length sides
  pub prices : length values ≡ length rows
  pub filled : All (λ s. s.lower ≤ℤ s.upper) sides
  pub convex : All (λ q. pos 0 ≤ℤ q) square
  pub places : All (λ e. (e.row < length rows) × (e.column < length sides)) entries
