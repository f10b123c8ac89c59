use Rattle.std.proofs.Common.{◌≤◌, replicate}
use Rattle.schedule_core.specs.Drivers.{IsDriver, LeadsTo}
use Rattle.schedule_core.proofs.driver.Driver.take_turn.Given as goal

abbrev pub invariant-loop-asked : goal.invariant-loop-asked
invariant-loop-asked l = record {
  within : l.asked ≤ l.turn.count;
  driver : IsDriver l.run l.self;
  leads : LeadsTo l.run l.fn.self (replicate l.asked l.turn.actor) l.self;
}
