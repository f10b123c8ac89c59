-- The objective of a problem at a point.
use Rattle.std.specs.Prelude.{ℕ, List, length, ℤ, ◌+ℤ◌, ◌*ℤ◌}
use Rattle.base_words.specs.Sums.{sum_below, number_at}
use Rattle.boxed_problem.specs.Data.{Problem}

-- line times x and square times x times x
abbrev pub curve : ℤ → ℤ → ℤ → ℤ
curve line square x = (line *ℤ x) +ℤ (square *ℤ (x *ℤ x))

-- what column j adds to the objective at a point
abbrev pub value_part : List ℤ → List ℤ → List ℤ → ℕ → ℤ
value_part line square x j = curve (number_at line j) (number_at square j) (number_at x j)

-- the objective at a point
abbrev pub value_of : Problem → List ℤ → ℤ
value_of b x = b.constant +ℤ sum_below (length b.columns) (value_part b.line b.square x)
