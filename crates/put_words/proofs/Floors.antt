-- A quotient that is rounded down is the greatest whole number that isn't above it.

use Rattle.std.proofs.Common.{arith, ◌<◌, ℤ, pos, negsuc, ◌<ℤ◌}
use Rattle.std.proofs.lemmas.Int.{ints}
use Rattle.base_words.proofs.Quotients.{quotient}
use Rattle.wide_num.specs.Quotients.{IsFloor}
use Rattle.put_words.specs.NextMultipliers.{rounded_down}

pub is_floor : (a b : ℤ) → pos 0 <ℤ b → IsFloor a b (rounded_down a b)
is_floor (pos a) (pos b) h =
    let above : 0 < b = omega (arith, ints) in
    let bounds = quotient a b above in
    (omega (arith, ints), omega (arith, ints))
is_floor (negsuc a) (pos b) h =
    let above : 0 < b = omega (arith, ints) in
    let bounds = quotient a b above in
    (omega (arith, ints), omega (arith, ints))
is_floor (pos a) (negsuc b) h = absurd (omega (arith, ints))
is_floor (negsuc a) (negsuc b) h = absurd (omega (arith, ints))
