-- the magnitude of prices, by the rows' limits and by the entries

use Rattle.std.specs.Prelude.{ℕ, ◌*◌, unsigned_abs}
use Rattle.boxed_problem.specs.Data.{Problem}
use Rattle.boxed_problem.specs.BoxedFacts.{limits_at, limits_size}
use Rattle.boxed_problem.specs.Sides.{reach, side_at}
use Rattle.base_words.specs.Sums.{number_at}
use Rattle.boxed_problem.specs.declared.parts.Entry.{Entry}
use Rattle.boxed_problem.specs.declared.parts.Prices.{Prices}

-- the magnitude of what an entry costs at any point of the box
abbrev pub weight : Problem → Prices → Entry → ℕ
weight b prices e = unsigned_abs (number_at prices.values e.row)
    * (unsigned_abs e.value * reach (side_at b.columns e.column))

-- the magnitude of what row i's limits add
abbrev pub limit_weight : Problem → Prices → ℕ → ℕ
limit_weight b prices i =
    unsigned_abs (number_at prices.values i) * limits_size (limits_at b.rows i)
