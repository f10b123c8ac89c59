use Rattle.std.proofs.Common.{◌≡◌, length}
use Rattle.board_tests.specs.Desks.{AreFresh}
use Rattle.board_tests.proofs.plain.actors.Given as goal

abbrev pub invariant-loop-place : goal.invariant-loop-place
invariant-loop-place l = record {
  fresh : AreFresh l.given l.actors.items;
  many : l.place ≡ length l.actors.items;
}
