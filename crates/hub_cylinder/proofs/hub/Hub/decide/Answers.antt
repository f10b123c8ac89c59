use Rattle.run_log.specs.Events.{present}
use Rattle.hub_cylinder.proofs.GoingOn.{by_test, stop_keeps}
use Rattle.hub_cylinder.proofs.hub.Hub.decide.Goals as goal

pub returns-in-Some-clause-hub : goal.returns-in-Some-clause-hub
returns-in-Some-clause-hub c = let s = c.args.self.now in stop_keeps c.args.run.now s c.requires.hub c.in-Some.end (by_test c.args.run.now (present s.events.items) s.ledger.pair c.in-Some.end c.in-Some.ensures)
