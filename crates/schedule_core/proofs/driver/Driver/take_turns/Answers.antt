use Rattle.std.proofs.Common.{arith, refl, subst, List}
use Rattle.std.proofs.lemmas.List.{take_all}
use Rattle.drive_words.specs.Leading.{turns_ask}
use Rattle.schedule_core.proofs.Steps.{turn_leads}
use Rattle.schedule_core.specs.Drivers.{LeadsTo}
use Rattle.schedule_lines.specs.declared.schedule.Turn.{Turn}
use Rattle.schedule_core.proofs.driver.Driver.take_turns.Goals as goal

pub loop-turn-init : goal.loop-turn-init
loop-turn-init c = record { within = omega arith; driver = c.requires.driver; leads = refl }

pub loop-turn-preserved : goal.loop-turn-preserved
loop-turn-preserved c = record {
  within = omega (arith, c.loop-turn-test.true);
  driver = c.in_ok-take_turn.ensures.driver;
  leads = turn_leads c.args.run.now c.args.self.now c.loop-turn.self c.take_turn.new.self c.args.turns.now c.loop-turn.turn-index _ c.loop-turn-test.true
      c.requires.driver c.loop-turn.invariant.driver c.loop-turn.invariant.leads c.in_ok-take_turn.ensures.leads;
}

pub returns-clause-leads : goal.returns-clause-leads
returns-clause-leads c = subst (λ (ts : List Turn). LeadsTo c.args.run.now c.args.self.now (turns_ask ts) c.loop-turn.self) (take_all c.loop-turn.turn-index c.args.turns.now (omega (arith, c.loop-turn-test.false))) c.loop-turn.invariant.leads
