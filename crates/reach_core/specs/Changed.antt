-- What one change does to the greatest costs, and to the sums and the limits by row.
use Rattle.std.specs.Prelude.{ℕ, ◌*◌, ◌-◌, List, max, slice_index, slice_set, unsigned_abs}
use Rattle.boxed_problem.specs.BoxedFacts.{limits_size}
use Rattle.capped_num.specs.Capped.{capped}
use Rattle.sp_model.specs.Changes.{core_data}
use Rattle.sp_model.specs.Reaching.{box_reach}
use Rattle.sp_model.specs.Values.{cell_in}
use Rattle.sp_model.specs.declared.program.Change.{Change}
use Rattle.sp_model.specs.declared.program.Change.TheVariants as change
use Rattle.sp_model.specs.declared.program.Program.{Program}
use Rattle.reach_core.specs.Greatest.{with_part}

-- its cost among the greatest costs
abbrev pub raised_by : List ℕ → Change → List ℕ
raised_by tops (change.Cost column value) =
    slice_set tops column (max (slice_index tops column) (unsigned_abs value))
raised_by tops (change.Cell row column value) = tops
raised_by tops (change.Limits row lower upper) = tops

-- the sums without the part of the core's entry at its place
abbrev pub taken_by : Program → List ℕ → Change → List ℕ
taken_by program sums (change.Cost column value) = sums
taken_by program sums (change.Cell row column value) = slice_set sums row
    (slice_index sums row - capped
    (unsigned_abs (cell_in (core_data program) row column) * box_reach program column))
taken_by program sums (change.Limits row lower upper) = sums

-- the sums with the part of its entry
abbrev pub given_by : Program → List ℕ → Change → List ℕ
given_by program sums (change.Cost column value) = sums
given_by program sums (change.Cell row column value) =
    with_part program sums (record { row = row; column = column; value = value })
given_by program sums (change.Limits row lower upper) = sums

-- the magnitude of its limits among those of the rows
abbrev pub limited_by : List ℕ → Change → List ℕ
limited_by sizes (change.Cost column value) = sizes
limited_by sizes (change.Cell row column value) = sizes
limited_by sizes (change.Limits row lower upper) =
    slice_set sizes row (limits_size (record { lower = lower; upper = upper }))
