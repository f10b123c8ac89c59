use Rattle.std.proofs.Common.{◌≤◌, length, take}
use Rattle.drive_words.specs.Leading.{turns_ask}
use Rattle.schedule_core.specs.Drivers.{IsDriver, LeadsTo}
use Rattle.schedule_core.proofs.driver.Driver.take_turns.Given as goal

abbrev pub invariant-loop-turn : goal.invariant-loop-turn
invariant-loop-turn l = record {
  within : l.turn-index ≤ length l.turns;
  driver : IsDriver l.run l.self;
  leads : LeadsTo l.run l.fn.self (turns_ask (take l.turn-index l.turns)) l.self;
}
