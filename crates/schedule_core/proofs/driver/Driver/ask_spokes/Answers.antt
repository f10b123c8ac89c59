use Rattle.std.proofs.Common.{arith, refl, sym, subst, [], ◌∷◌, List, map}
use Rattle.std.specs.List.{range_with_len}
use Rattle.schedule_core.proofs.Steps.{asks_next, leads_on}
use Rattle.schedule_core.specs.Drivers.{LeadsTo}
use Rattle.schedule_lines.specs.declared.schedule.Actor.{Actor}
use Rattle.schedule_lines.specs.declared.schedule.Actor.TheVariants.{Spoke}
use Rattle.schedule_core.proofs.driver.Driver.ask_spokes.Goals as goal

pub spoke_step-requires-clause-spoke : goal.spoke_step-requires-clause-spoke
spoke_step-requires-clause-spoke c = omega (arith, c.loop-spoke-test.true, c.requires.driver.many_spokes)

pub loop-spoke-init : goal.loop-spoke-init
loop-spoke-init c = record { within = omega arith; driver = c.requires.driver; leads = refl }

pub loop-spoke-preserved : goal.loop-spoke-preserved
loop-spoke-preserved c = record {
  within = omega (arith, c.loop-spoke-test.true, c.requires.driver.many_spokes);
  driver = c.in_ok-spoke_step.ensures.driver;
  leads = subst (λ (xs : List Actor). LeadsTo c.args.run.now c.args.self.now xs c.spoke_step.new.self) (sym (asks_next Spoke c.loop-spoke.spoke))
      (leads_on c.args.run.now c.args.self.now c.loop-spoke.self c.spoke_step.new.self (map Spoke (range_with_len 0 c.loop-spoke.spoke)) (Spoke c.loop-spoke.spoke ∷ [])
      c.requires.driver c.loop-spoke.invariant.driver c.loop-spoke.invariant.leads c.in_ok-spoke_step.ensures.steps);
}

pub returns-clause-leads : goal.returns-clause-leads
returns-clause-leads c = subst (λ n. LeadsTo c.args.run.now c.args.self.now (map Spoke (range_with_len 0 n)) c.loop-spoke.self) (omega (arith, c.loop-spoke-test.false, c.loop-spoke.invariant.within, c.requires.driver.many_spokes)) c.loop-spoke.invariant.leads
