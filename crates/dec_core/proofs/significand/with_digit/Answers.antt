use Rattle.std.proofs.Common.{arith}
use Rattle.dec_core.proofs.StripLaws.{zero_behind, digit_behind}
use Rattle.dec_core.proofs.significand.with_digit.Goals as goal

pub returns-then-digit-eq0-clause-stripped : goal.returns-then-digit-eq0-clause-stripped
returns-then-digit-eq0-clause-stripped c = λ n h. zero_behind n _ _ c.args.digit c.if-digit-eq0.true h

pub returns-clause-stripped : goal.returns-clause-stripped
returns-clause-stripped c = λ n h. digit_behind n _ _ c.args.digit c.min.result (omega arith) (omega arith) (grind arith) h
