use Rattle.std.proofs.Common.{◌≡◌, take}
use Rattle.smps_join.specs.Counting.{live_of}
use Rattle.smps_join.proofs.cells.live_columns.Given as goal

abbrev pub invariant-loop-j : goal.invariant-loop-j
invariant-loop-j l = l.live.items ≡ live_of (take l.j l.sides)
