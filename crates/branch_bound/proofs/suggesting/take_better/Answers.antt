use Rattle.std.proofs.Common.{sym, subst}
use Rattle.boxed_problem.specs.Sides.{Within}
use Rattle.branch_bound.proofs.suggesting.take_better.Goals as goal

pub total_from-present-requires : goal.total_from-present-requires
total_from-present-requires c = subst (λ box. Within c.args.sides.now box) (sym c.requires.pricing.priced_under.columns) c.requires.sides

pub total_from-total-requires : goal.total_from-total-requires
total_from-total-requires c = subst (λ box. Within c.args.sides.now box) (sym c.in_ok-priced.ensures.under.columns) c.requires.sides
