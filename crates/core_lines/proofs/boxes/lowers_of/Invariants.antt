use Rattle.std.proofs.Common.{◌≡◌, ℕ, ◌<◌, length, get_or, take}
use Rattle.std.specs.Prelude.{None}
use Rattle.core_lines.specs.Boxes.{lower_of}
use Rattle.core_lines.proofs.boxes.lowers_of.Given as goal

abbrev pub invariant-loop-bound : goal.invariant-loop-bound
invariant-loop-bound l = record {
  counted : length l.ends ≡ l.count;
  each : (j : ℕ) → j < l.count → get_or l.ends j None ≡ lower_of (take l.bound-index l.bounds) j;
}
