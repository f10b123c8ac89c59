use Rattle.std.proofs.Common.{arith}
use Rattle.dec_core.proofs.DigitLaws.{digits_more}
use Rattle.schedule_lines.proofs.numeral.capped_number.Goals as goal

pub loop-byte-preserved : goal.loop-byte-preserved
loop-byte-preserved c = grind (arith, digits_more c.args.digits.now c.loop-byte.byte-index c.requires (omega arith))
