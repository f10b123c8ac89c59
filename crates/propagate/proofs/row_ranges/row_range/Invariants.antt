use Rattle.std.proofs.Common.{◌≡◌, take}
use Rattle.propagate.specs.Ranges.{high_activity, low_activity}
use Rattle.propagate.proofs.row_ranges.row_range.Given as goal

abbrev pub invariant-loop-entry : goal.invariant-loop-entry
invariant-loop-entry l = record {
  low : l.low ≡ low_activity (take l.entry-index l.entries) l.sides l.row;
  high : l.high ≡ high_activity (take l.entry-index l.entries) l.sides l.row;
}
