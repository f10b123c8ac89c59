use Rattle.std.proofs.Common.{arith}
use Rattle.dec_core.proofs.DigitLaws.{digits_behind}
use Rattle.dec_core.proofs.significand.with_digits.Goals as goal

pub loop-byte-preserved : goal.loop-byte-preserved
loop-byte-preserved c = record {
  stripped = λ front h.
      rw (digits_behind front c.args.digits.now c.loop-byte.byte-index c.requires.digits (omega arith))
      (c.with_digit-significand.ensures.stripped _ (c.loop-byte.invariant.stripped front h));
  value = omega arith;
  zeros = omega arith;
}
