use Rattle.std.proofs.Common.{◌≡◌, min, take}
use Rattle.std.specs.Str.Parse.{digits_value}
use Rattle.schedule_lines.specs.ReadingSteps.{number_cap}
use Rattle.schedule_lines.proofs.numeral.capped_number.Given as goal

-- the number of the digits so far, up to the cap
abbrev pub invariant-loop-byte : goal.invariant-loop-byte
invariant-loop-byte l = l.number ≡ min (digits_value 10 (take l.byte-index l.digits)) number_cap
