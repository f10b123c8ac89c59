use Rattle.std.proofs.Common.{◌≡◌, take}
use Rattle.std.specs.List.{fold}
use Rattle.reach_core.specs.Changed.{raised_by}
use Rattle.reach_core.proofs.greatest.raise_all.Given as goal

abbrev pub invariant-loop-change : goal.invariant-loop-change
invariant-loop-change l = l.tops.items ≡ fold raised_by l.fn.tops.items (take l.change-index l.changes)
