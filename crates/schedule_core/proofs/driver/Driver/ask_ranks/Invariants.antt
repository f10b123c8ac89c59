use Rattle.std.proofs.Common.{◌≤◌, map}
use Rattle.std.specs.List.{range_with_len}
use Rattle.schedule_lines.specs.declared.schedule.Actor.TheVariants.{Rank}
use Rattle.schedule_core.specs.Drivers.{IsDriver, LeadsTo}
use Rattle.schedule_core.proofs.driver.Driver.ask_ranks.Given as goal

abbrev pub invariant-loop-rank : goal.invariant-loop-rank
invariant-loop-rank l = record {
  within : l.rank ≤ l.run.options.ranks;
  driver : IsDriver l.run l.self;
  leads : LeadsTo l.run l.fn.self (map Rank (range_with_len 0 l.rank)) l.self;
}
