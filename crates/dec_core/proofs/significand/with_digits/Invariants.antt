use Rattle.std.proofs.Common.{ℕ, List, ◌++◌, ◌+◌, ◌≤◌, take}
use Rattle.std.specs.Str.Parse.{digits_value}
use Rattle.dec_core.specs.Stripped.{IsStripped, max_significand}
use Rattle.dec_core.proofs.significand.with_digits.Given as goal

-- the digits so far stand behind those at the start
abbrev pub invariant-loop-byte : goal.invariant-loop-byte
invariant-loop-byte l = record {
  stripped : (front : List ℕ) → IsStripped (digits_value 10 front) l.fn.start.value l.fn.start.zeros
      → IsStripped (digits_value 10 (front ++ take l.byte-index l.digits)) l.significand.value l.significand.zeros;
  value : l.significand.value ≤ max_significand;
  zeros : l.significand.zeros ≤ l.fn.start.zeros + l.byte-index;
}
