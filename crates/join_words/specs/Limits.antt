-- The limits of a row by its kind, its right-hand side and its range.
use Rattle.std.specs.Prelude.{ℤ, pos, ◌+ℤ◌, ◌-ℤ◌, Option, Some, None, unsigned_abs}
use Rattle.std.specs.Int.{int_min, int_max}
use Rattle.boxed_problem.specs.declared.parts.Limits.{Limits}
use Rattle.smps_words.specs.declared.core_data.RowKind.{RowKind}
use Rattle.smps_words.specs.declared.core_data.RowKind.TheVariants.{Less, Greater, Equal}

-- the lower limit: a range lies below the right-hand side of a row of kind L, and of kind E where
-- it is negative
abbrev pub lower_limit : RowKind → ℤ → Option ℤ → Option ℤ
lower_limit Less rhs None = None
lower_limit Less rhs (Some range) = Some (rhs -ℤ pos (unsigned_abs range))
lower_limit Greater rhs range = Some rhs
lower_limit Equal rhs None = Some rhs
lower_limit Equal rhs (Some range) = Some (rhs +ℤ int_min range (pos 0))

-- the upper limit: a range lies above the right-hand side of a row of kind G, and of kind E where
-- it is positive
abbrev pub upper_limit : RowKind → ℤ → Option ℤ → Option ℤ
upper_limit Less rhs range = Some rhs
upper_limit Greater rhs None = None
upper_limit Greater rhs (Some range) = Some (rhs +ℤ pos (unsigned_abs range))
upper_limit Equal rhs None = Some rhs
upper_limit Equal rhs (Some range) = Some (rhs +ℤ int_max range (pos 0))

-- both
abbrev pub limits_by : RowKind → ℤ → Option ℤ → Limits
limits_by kind rhs range = record {
  lower = lower_limit kind rhs range;
  upper = upper_limit kind rhs range;
}
