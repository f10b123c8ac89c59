use Rattle.std.proofs.Common.{arith}
use Rattle.dec_core.specs.Stripped.{max_significand}
use Rattle.dec_core.proofs.StripLaws.{scaled_more, scaled_over}
use Rattle.dec_core.proofs.significand.scaled_up.Goals as goal

pub loop-left-preserved : goal.loop-left-preserved
loop-left-preserved c = grind (arith, scaled_more c.loop-left.product c.loop-left.left max_significand (omega arith))

pub returns-else-product-lt-MAX_SIGNIFICAND : goal.returns-else-product-lt-MAX_SIGNIFICAND
returns-else-product-lt-MAX_SIGNIFICAND c =
    grind (arith, scaled_over c.loop-left.product c.loop-left.left max_significand c.if-product-lt-MAX_SIGNIFICAND.false)
