use Rattle.std.proofs.Common.{◌+◌, ◌-◌, ◌≤◌, length}
use Rattle.line_core.proofs.Turns.{StandsAt}
use Rattle.line_core.proofs.line_list.read_lines.Given as goal

abbrev pub invariant-loop-count : goal.invariant-loop-count
invariant-loop-count l = record {
  within : l.at ≤ length l.bytes;
  number : l.number ≤ l.at + 1;
  stands : StandsAt l.bytes l.found l.number l.at;
}

abbrev pub decreases-loop-count : goal.decreases-loop-count
decreases-loop-count l = length l.bytes - l.at
