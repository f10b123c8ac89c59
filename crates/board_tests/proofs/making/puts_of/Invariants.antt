use Rattle.std.proofs.Common.{◌≡◌, ◌+◌, Some}
use Rattle.std.specs.List.{All}
use Rattle.hedging.specs.Hedges.{made_of}
use Rattle.lagrangian_spoke.specs.Spokes.{IsPutOf}
use Rattle.put_words.specs.Puts.{put_of}
use Rattle.board_tests.proofs.making.puts_of.Given as goal

abbrev pub invariant-loop-step : goal.invariant-loop-step
invariant-loop-step l = record {
  put : put_of l.run l.hedge.put.number ≡ Some (made_of l.hedge);
  number : l.hedge.put.number ≡ l.step + 1;
  puts : All (IsPutOf l.run) l.puts;
}
