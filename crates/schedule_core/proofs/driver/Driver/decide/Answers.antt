use Rattle.std.proofs.Common.{subst}
use Rattle.hub_cylinder.specs.Hubs.{Decides}
use Rattle.hub_cylinder.specs.declared.deciding.Decision.{Decision}
use Rattle.schedule_core.proofs.Decisions.{ended_decides, ended_keeps, went_decides, went_keeps}
use Rattle.schedule_core.proofs.driver.Driver.decide.Goals as goal

pub returns-in-Go-clause-driver : goal.returns-in-Go-clause-driver
returns-in-Go-clause-driver c =
    let gone = subst (λ (t : Decision). Decides c.args.run.now c.args.self.now.hub c.decide.new.self t) c.in-Go.is c.in_ok-decide.ensures.decides in
    went_keeps c.args.run.now c.args.self.now c.requires.polled c.requires.going c.requires.written c.decide.new.self c.decide.ensures.hub gone

pub returns-in-Go-clause-decides : goal.returns-in-Go-clause-decides
returns-in-Go-clause-decides c =
    let gone = subst (λ (t : Decision). Decides c.args.run.now c.args.self.now.hub c.decide.new.self t) c.in-Go.is c.in_ok-decide.ensures.decides in
    went_decides c.args.run.now c.args.self.now c.requires.polled c.requires.going c.requires.written c.decide.new.self c.decide.ensures.hub gone

pub returns-in-Stop-clause-driver : goal.returns-in-Stop-clause-driver
returns-in-Stop-clause-driver c =
    let stopped = subst (λ (t : Decision). Decides c.args.run.now c.args.self.now.hub c.decide.new.self t) c.in-Stop.is c.in_ok-decide.ensures.decides in
    ended_keeps c.args.run.now c.args.self.now c.requires.polled c.requires.going c.requires.written c.decide.new.self c.decide.ensures.hub stopped

pub returns-in-Stop-clause-decides : goal.returns-in-Stop-clause-decides
returns-in-Stop-clause-decides c =
    let stopped = subst (λ (t : Decision). Decides c.args.run.now c.args.self.now.hub c.decide.new.self t) c.in-Stop.is c.in_ok-decide.ensures.decides in
    ended_decides c.args.run.now c.args.self.now c.requires.polled c.requires.going c.requires.written c.decide.new.self c.decide.ensures.hub stopped
