use Rattle.std.proofs.Common.{◌≡◌, ◌+◌, Some}
use Rattle.std.specs.List.{All}
use Rattle.hedging.specs.Hedges.{made_of}
use Rattle.put_words.specs.Puts.{put_of}
use Rattle.lagrangian_spoke.specs.Spokes.{IsPutOf}
use Rattle.spoke_tests.proofs.making.all_puts.Given as goal

abbrev pub invariant-loop-step : goal.invariant-loop-step
invariant-loop-step l = record {
  puts : All (IsPutOf l.run) l.puts;
  put : put_of l.run l.hedge.put.number ≡ Some (made_of l.hedge);
  number : l.hedge.put.number ≡ l.step + 1;
}
