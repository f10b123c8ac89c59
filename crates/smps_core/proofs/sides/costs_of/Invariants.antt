use Rattle.std.proofs.Common.{◌≡◌, ℕ, ◌<◌, length, get_or, take}
use Rattle.std.specs.Prelude.{None}
use Rattle.smps_core.specs.CoreData.{cost_of}
use Rattle.smps_core.proofs.sides.costs_of.Given as goal

abbrev pub invariant-loop-cell : goal.invariant-loop-cell
invariant-loop-cell l = record {
  counted : length l.costs ≡ l.count;
  each : (j : ℕ) → j < l.count → get_or l.costs j None ≡ cost_of (take l.cell-index l.cells) j;
}
