use Rattle.std.proofs.Common.{◌≤◌, map}
use Rattle.std.specs.List.{range_with_len}
use Rattle.schedule_lines.specs.declared.schedule.Actor.TheVariants.{Spoke}
use Rattle.schedule_core.specs.Drivers.{IsDriver, LeadsTo}
use Rattle.schedule_core.proofs.driver.Driver.ask_spokes.Given as goal

abbrev pub invariant-loop-spoke : goal.invariant-loop-spoke
invariant-loop-spoke l = record {
  within : l.spoke ≤ l.run.options.lagrangian;
  driver : IsDriver l.run l.self;
  leads : LeadsTo l.run l.fn.self (map Spoke (range_with_len 0 l.spoke)) l.self;
}
