use Rattle.std.proofs.Common.{sym, subst, ◌≤ℤ◌}
use Rattle.boxed_problem.specs.declared.parts.Side.{Side}
use Rattle.candidates.proofs.Means.{side_filled}
use Rattle.candidates.proofs.choosing.cut_mean.Goals as goal

pub cut-requires : goal.cut-requires
cut-requires c = subst (λ (s : Side). s.lower ≤ℤ s.upper) (sym c.side_at.ensures) (side_filled c.args.run.now c.args.column)
