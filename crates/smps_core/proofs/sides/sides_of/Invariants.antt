use Rattle.std.proofs.Common.{◌≡◌, ℕ, ◌<◌, length, get_or, take}
use Rattle.std.specs.Prelude.{None}
use Rattle.smps_core.specs.CoreData.{side_said}
use Rattle.smps_core.proofs.sides.sides_of.Given as goal

abbrev pub invariant-loop-value : goal.invariant-loop-value
invariant-loop-value l = record {
  counted : length l.sides ≡ l.count;
  each : (place : ℕ) → place < l.count → get_or l.sides place None ≡ side_said (take l.value-index l.values) place;
}
