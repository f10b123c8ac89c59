use Rattle.std.proofs.Common.{◌≡◌, map, take}
use Rattle.boxed_problem.specs.BoxedFacts.{limits_size}
use Rattle.sp_model.specs.Changes.{limits_of}
use Rattle.sp_model.specs.declared.program.Row.{Row}
use Rattle.reach_core.proofs.rows.limit_sizes.Given as goal

abbrev pub invariant-loop-row : goal.invariant-loop-row
invariant-loop-row l = l.sizes.items ≡ map (λ (row : Row). limits_size (limits_of row)) (take l.row-index l.rows)
