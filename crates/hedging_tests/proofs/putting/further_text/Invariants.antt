use Rattle.std.proofs.Common.{◌≡◌, ◌+◌, Some}
use Rattle.hedging.specs.Hedges.{made_of}
use Rattle.put_words.specs.Puts.{put_of}
use Rattle.hedging_tests.proofs.putting.further_text.Given as goal

abbrev pub invariant-loop-step : goal.invariant-loop-step
invariant-loop-step l = record {
  put : put_of l.run l.hedge.put.number ≡ Some (made_of l.hedge);
  number : l.hedge.put.number ≡ l.step + 1;
}
