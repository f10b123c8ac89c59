use Rattle.std.proofs.Common.{◌≡◌, ◌*◌, ◌^◌, ◌≤◌, min}
use Rattle.dec_core.specs.Stripped.{max_significand}
use Rattle.dec_core.proofs.significand.scaled_up.Given as goal

-- what is left to multiply completes the product, up to the cap
abbrev pub invariant-loop-left : goal.invariant-loop-left
invariant-loop-left l = (l.product ≤ max_significand) × (min (l.product * 10 ^ l.left) max_significand ≡ min (l.fn.value * 10 ^ l.fn.power) max_significand)

abbrev pub decreases-loop-left : goal.decreases-loop-left
decreases-loop-left l = l.left
