use Rattle.std.proofs.Common.{arith, refl, sym, subst, [], ◌∷◌, List, replicate}
use Rattle.std.proofs.lemmas.Grind.{replicate_next}
use Rattle.schedule_core.proofs.Steps.{leads_on}
use Rattle.schedule_core.specs.Drivers.{LeadsTo}
use Rattle.schedule_lines.specs.declared.schedule.Actor.{Actor}
use Rattle.schedule_core.proofs.driver.Driver.take_turn.Goals as goal

pub loop-asked-init : goal.loop-asked-init
loop-asked-init c = record { within = omega arith; driver = c.requires.driver; leads = refl }

pub loop-asked-preserved : goal.loop-asked-preserved
loop-asked-preserved c = record {
  within = omega (arith, c.loop-asked-test.true);
  driver = c.in_ok-step.ensures.driver;
  leads = subst (λ (xs : List Actor). LeadsTo c.args.run.now c.args.self.now xs c.step.new.self) (sym (replicate_next c.loop-asked.asked c.args.turn.actor))
      (leads_on c.args.run.now c.args.self.now c.loop-asked.self c.step.new.self (replicate c.loop-asked.asked c.args.turn.actor) (c.args.turn.actor ∷ [])
      c.requires.driver c.loop-asked.invariant.driver c.loop-asked.invariant.leads c.in_ok-step.ensures.steps);
}

pub returns-clause-leads : goal.returns-clause-leads
returns-clause-leads c = subst (λ n. LeadsTo c.args.run.now c.args.self.now (replicate n c.args.turn.actor) c.loop-asked.self) (omega (arith, c.loop-asked-test.false, c.loop-asked.invariant.within)) c.loop-asked.invariant.leads
