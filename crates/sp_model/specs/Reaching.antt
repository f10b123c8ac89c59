-- How great the numbers of a run become at most: in products of weights, costs, box ends and
-- multipliers.

use Rattle.std.specs.Prelude.{ℕ, ◌+◌, ◌*◌, max, List, length, map, ℤ, unsigned_abs}
use Rattle.std.specs.List.{fold, range_with_len}
use Rattle.base_words.specs.Sums.{number_at, size_below}
use Rattle.boxed_problem.specs.BoxedFacts.{row_size}
use Rattle.boxed_problem.specs.Sides.{reach, side_at}
use Rattle.sp_model.specs.Changes.{Data, all_data, sides}
use Rattle.sp_model.specs.declared.program.Options.{Options}
use Rattle.sp_model.specs.declared.program.Program.{Program}

-- the greatest of some numbers, 0 where there is none
abbrev pub greatest : List ℕ → ℕ
greatest ns = fold max 0 ns

-- the greater magnitude of a column's box ends
abbrev pub box_reach : Program → ℕ → ℕ
box_reach program j = reach (side_at (sides program) j)

-- the greatest magnitude of a column's cost, in the core and in all scenarios
abbrev pub cost_reach : Program → ℕ → ℕ
cost_reach program j =
    greatest (map (λ (d : Data). unsigned_abs (number_at d.costs j)) (all_data program))

-- the greatest row of some data: the greater magnitude of its limits and the parts of its entries
abbrev pub data_reach : Program → Data → ℕ
data_reach program d =
    greatest (map (row_size (sides program) d.limits d.entries)
    (range_with_len 0 (length d.limits)))

-- the greatest row of the core and of all scenarios
abbrev pub rows_reach : Program → ℕ
rows_reach program = greatest (map (data_reach program) (all_data program))

-- the magnitude of the costs of all scenarios: scale, total weight, and the constant with each
-- column's cost times its box
abbrev pub line_reach : Program → Options → ℤ → ℕ
line_reach program options total =
    unsigned_abs options.scale * unsigned_abs total
    * (unsigned_abs program.constant
    + size_below (length program.columns) (λ j. cost_reach program j * box_reach program j))

-- how far a multiplier of a column moves at most from a put to the next
abbrev pub step_reach : Program → Options → ℤ → ℕ → ℕ
step_reach program options total j =
    2 * unsigned_abs options.rho * unsigned_abs total * box_reach program j
    + length program.scenarios

-- the greatest magnitude of a multiplier of a column
abbrev pub most_of : Program → Options → ℤ → ℕ → ℕ
most_of program options total j = (options.iterations + 2) * step_reach program options total j

-- what a column adds to the magnitude of a hedged objective
abbrev pub hedge_part : Program → Options → ℤ → ℕ → ℕ
hedge_part program options total j =
    2 * most_of program options total j * box_reach program j + 3 * unsigned_abs options.rho
    * unsigned_abs total * (box_reach program j * box_reach program j) + box_reach program j

-- the magnitude of the hedged objectives beyond the costs
abbrev pub hedge_reach : Program → Options → ℤ → ℕ → ℕ
hedge_reach program options total nonleaf = size_below nonleaf (hedge_part program options total)

-- the magnitude of weighted sums over nodes
abbrev pub raw_reach : Program → Options → ℤ → ℕ → ℕ
raw_reach program options total nonleaf =
    2 * unsigned_abs options.rho * (unsigned_abs total * unsigned_abs total)
    * max 1 (greatest (map (box_reach program) (range_with_len 0 nonleaf)))

-- no number of a run has a greater magnitude
unfoldable pub run_reach : Program → Options → ℤ → ℕ → ℕ
run_reach program options total nonleaf =
    2 * line_reach program options total + 2 * length program.scenarios
    * hedge_reach program options total nonleaf + raw_reach program options total nonleaf
    + rows_reach program
