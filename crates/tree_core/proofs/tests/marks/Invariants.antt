use Rattle.std.proofs.Common.{◌≡◌, length}
use Rattle.std.specs.List.{All}
use Rattle.tree_core.proofs.tests.marks.Given as goal

abbrev pub invariant-loop-first : goal.invariant-loop-first
invariant-loop-first l = record {
  marked : All (λ marks. length marks ≡ 3) l.owners;
  many : length l.owners ≡ l.first-index;
}
