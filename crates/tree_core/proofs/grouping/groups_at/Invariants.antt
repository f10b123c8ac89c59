use Rattle.std.proofs.Common.{◌≡◌, ℕ, nat_eq}
use Rattle.std.specs.HashMap.{get}
use Rattle.tree_core.specs.Marks.{groups, mark_of}
use Rattle.tree_core.proofs.FirstOnes.{place_of}
use Rattle.tree_core.proofs.grouping.groups_at.Given as goal

abbrev pub invariant-loop-s : goal.invariant-loop-s
invariant-loop-s l = record {
  places : (key : ℕ) → get nat_eq l.places key ≡ place_of (mark_of l.owners l.stage) l.s key;
  made : l.groups.items ≡ groups (mark_of l.owners l.stage) l.s;
}
