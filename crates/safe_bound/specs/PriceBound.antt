-- the bound that prices of the rows give on the value of each feasible point in a box

use Rattle.std.specs.Prelude.{ℕ, ◌==◌, List, length, ℤ, pos, ◌+ℤ◌, ◌-ℤ◌, ◌*ℤ◌, int_lt, Option, Some, None, if◌then◌else◌}
use Rattle.std.specs.List.{fold}
use Rattle.wide_num.specs.Quotients.{IsCeiling}
use Rattle.boxed_problem.specs.Data.{Problem}
use Rattle.boxed_problem.specs.BoxedFacts.{limits_at}
use Rattle.boxed_problem.specs.Rows.{activity}
use Rattle.boxed_problem.specs.Sides.{side_at}
use Rattle.base_words.specs.Sums.{number_at, sum_below}
use Rattle.boxed_problem.specs.declared.parts.Entry.{Entry}
use Rattle.boxed_problem.specs.declared.parts.Limits.{Limits}
use Rattle.boxed_problem.specs.declared.parts.Prices.{Prices}
use Rattle.boxed_problem.specs.declared.parts.Side.{Side}
use Rattle.safe_bound.specs.Leasts.{least_on}

-- the number of a limit, 0 where there is none
abbrev pub limit_number : Option ℤ → ℤ
limit_number None = pos 0
limit_number (Some limit) = limit

-- the limit that a price pays for: the lower one for a positive price, else the upper one
abbrev pub paid_limit : Limits → ℤ → ℤ
paid_limit limits price =
    if int_lt (pos 0) price then limit_number limits.lower else limit_number limits.upper

-- row i's price times the limit that it pays for
abbrev pub limit_price : Problem → Prices → ℕ → ℤ
limit_price b prices i =
    number_at prices.values i *ℤ paid_limit (limits_at b.rows i) (number_at prices.values i)

-- the sum, over the rows, of price times lower limit for positive prices and price times upper
-- limit for negative ones
abbrev pub limit_sum : Problem → Prices → ℤ
limit_sum b prices = sum_below (length b.rows) (limit_price b prices)

-- what an entry adds to the price of one unit of column j
abbrev pub entry_price : Prices → ℕ → Entry → ℤ
entry_price prices j e = if e.column == j then number_at prices.values e.row *ℤ e.value else pos 0

-- the price of one unit of column j: the sum, over the column's entries, of the row's price times
-- the entry
abbrev pub unit_price : Problem → Prices → ℕ → ℤ
unit_price b prices j = fold (λ sum e. sum +ℤ entry_price prices j e) (pos 0) b.entries

-- the reduced cost of column j: the scale times its linear cost, less the price of one unit
abbrev pub reduced_cost : Problem → Prices → ℕ → ℤ
reduced_cost b prices j = (prices.scale *ℤ number_at b.line j) -ℤ unit_price b prices j

-- the scale times column j's square cost
abbrev pub scaled_square : Problem → Prices → ℕ → ℤ
scaled_square b prices j = prices.scale *ℤ number_at b.square j

-- the least that column j adds, over its side, to the scale times the objective less the sum of
-- price times activity
abbrev pub reduced_least : Problem → Prices → List Side → ℕ → ℤ
reduced_least b prices box j =
    least_on (reduced_cost b prices j) (scaled_square b prices j) (side_at box j)

-- the same over all columns, with the constant
abbrev pub reduced_least_value : Problem → Prices → List Side → ℤ
reduced_least_value b prices box =
    (prices.scale *ℤ b.constant) +ℤ sum_below (length b.columns) (reduced_least b prices box)

-- the scale times the bound, before it is rounded up
abbrev pub price_total : Problem → Prices → List Side → ℤ
price_total b prices box = limit_sum b prices +ℤ reduced_least_value b prices box

-- the bound that the prices give over a box: the total divided by the scale, rounded up
abbrev pub IsPriceBound : Problem → Prices → List Side → ℤ → Type 0
IsPriceBound b prices box v = IsCeiling (price_total b prices box) prices.scale v

-- the sum, over the rows, of price times activity at a point
abbrev pub priced_activity : Problem → Prices → List ℤ → ℤ
priced_activity b prices x =
    sum_below (length b.rows) (λ i. number_at prices.values i *ℤ activity b.entries x i)
