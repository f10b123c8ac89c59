use Rattle.std.proofs.Common.{sym, subst, ◌≤◌, ◌^◌}
use Rattle.std.specs.Prelude.{unsigned_abs}
use Rattle.dec_core.specs.declared.decimal.Decimal.{Decimal}
use Rattle.smps_core.proofs.Facts.{side_short}
use Rattle.smps_core.proofs.joining.constant_of.Goals as goal

pub minus-requires : goal.minus-requires
minus-requires c = subst (λ (d : Decimal). unsigned_abs d.mantissa ≤ 10 ^ 36) (sym c.in_ok-right.ensures) (side_short c.args.state.now.rights.values c.args.state.now.rights.facts.shorts 0).1
