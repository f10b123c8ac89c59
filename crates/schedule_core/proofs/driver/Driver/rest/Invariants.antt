use Rattle.std.proofs.Common.{◌≤◌}
use Rattle.drive_words.specs.Driving.{rounds_of}
use Rattle.drive_words.specs.Leading.{rounds_ask}
use Rattle.schedule_core.specs.Drivers.{IsDriver, LeadsTo}
use Rattle.schedule_core.proofs.driver.Driver.rest.Given as goal

abbrev pub invariant-loop-made : goal.invariant-loop-made
invariant-loop-made l = record {
  within : l.made ≤ rounds_of l.run;
  driver : IsDriver l.run l.self;
  leads : LeadsTo l.run l.fn.self (rounds_ask l.run l.made) l.self;
}
