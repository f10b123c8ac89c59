use Rattle.std.proofs.Common.{subst}
use Rattle.run_calls.specs.declared.put.Put.{Put}
use Rattle.schedule_core.specs.Seats.{HubStops}
use Rattle.schedule_core.proofs.Halting.{halted_keeps}
use Rattle.schedule_core.proofs.driver.Driver.stop.Goals as goal

pub stop_at-requires-clause-once : goal.stop_at-requires-clause-once
stop_at-requires-clause-once c = c.requires.driver.free c.if-self.false

pub returns-clause-driver : goal.returns-clause-driver
returns-clause-driver c =
    halted_keeps c.args.run.now c.args.self.now c.requires.driver c.requires.ended c.stop_at.new.board
    (subst (λ (p : Put). HubStops c.args.self.now.board c.stop_at.new.board p.number) c.put.ensures c.stop_at.ensures)
