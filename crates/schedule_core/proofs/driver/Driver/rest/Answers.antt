use Rattle.std.proofs.Common.{arith, refl, subst, ◌≡◌, ◌+◌, suc}
use Rattle.drive_words.specs.Driving.{actors_of, rounds_of}
use Rattle.drive_words.specs.Leading.{rounds_ask}
use Rattle.schedule_core.proofs.Steps.{leads_on, rounds_lead}
use Rattle.schedule_core.specs.Drivers.{LeadsTo, world_of}
use Rattle.schedule_core.proofs.driver.Driver.rest.Goals as goal

pub loop-made-init : goal.loop-made-init
loop-made-init c = record { within = omega arith; driver = c.requires.driver; leads = refl }

pub loop-made-preserved : goal.loop-made-preserved
loop-made-preserved c = record {
  within = omega (arith, c.loop-made-test.true, c.rounds-made-end.ensures);
  driver = c.in_ok-round.ensures.driver;
  leads = let e : suc c.loop-made.made ≡ c.loop-made.made + 1 = omega arith in
      subst (λ n. LeadsTo c.args.run.now c.args.self.now (rounds_ask c.args.run.now n) c.round.new.self) e
      (leads_on c.args.run.now c.args.self.now c.loop-made.self c.round.new.self (rounds_ask c.args.run.now c.loop-made.made) (actors_of c.args.run.now)
      c.requires.driver c.loop-made.invariant.driver c.loop-made.invariant.leads c.in_ok-round.ensures.leads);
}

pub returns-then-is_at_rest-clause-leads : goal.returns-then-is_at_rest-clause-leads
returns-then-is_at_rest-clause-leads c = rounds_lead c.args.run.now c.args.self.now.hub.hedge.bound c.loop-made.made (rounds_of c.args.run.now) (world_of c.args.self.now) (world_of c.loop-made.self) c.loop-made.invariant.within c.loop-made.invariant.leads (c.is_at_rest.ensures c.if-is_at_rest.true)

pub returns-clause-leads : goal.returns-clause-leads
returns-clause-leads c =
    let e : c.loop-made.made ≡ rounds_of c.args.run.now = omega (arith, c.loop-made-test.false, c.loop-made.invariant.within, c.rounds-made-end.ensures) in
    subst (λ n. LeadsTo c.args.run.now c.args.self.now (rounds_ask c.args.run.now n) c.loop-made.self) e c.loop-made.invariant.leads
