use Rattle.std.proofs.Common.{refl, sym, subst, List}
use Rattle.drive_words.proofs.Reaching.{closed_is_driven, leads_to_rest}
use Rattle.drive_words.specs.Leading.{LeadTo, all_asks}
use Rattle.drive_words.specs.Worlds.{first_world}
use Rattle.schedule_core.proofs.Closing.{are_rising}
use Rattle.schedule_core.proofs.Steps.{all_lead}
use Rattle.schedule_core.specs.Drivers.{LeadsTo, world_of}
use Rattle.drive_words.specs.Leading.{turns_ask}
use Rattle.schedule_lines.specs.declared.schedule.Turn.{Turn}
use Rattle.schedule_core.proofs.driving.driven.Goals as goal

pub close-requires-clause-rest : goal.close-requires-clause-rest
close-requires-clause-rest c =
    leads_to_rest c.args.run.now c.rest.new.self.hub.hedge.bound c.args.schedule.now.turns (world_of c.rest.new.self)
    (all_lead c.args.run.now c.args.schedule.now.turns c.in_ok-driver.driver c.take_turns.new.self c.rest.new.self c.in_ok-driver.ensures.driver c.in_ok-take_turns.ensures.driver c.in_ok-rest.ensures.driver c.in_ok-driver.ensures.first
    (subst (λ (ts : List Turn). LeadsTo c.args.run.now c.in_ok-driver.driver (turns_ask ts) c.take_turns.new.self) c.as_slice.ensures c.in_ok-take_turns.ensures.leads)
    c.in_ok-rest.ensures.leads)
    (are_rising c.args.run.now c.rest.new.self c.in_ok-rest.ensures.driver)

pub returns-clause-driven : goal.returns-clause-driven
returns-clause-driven c =
    let leads : LeadTo c.args.run.now c.in_ok-log.log.first (all_asks c.args.run.now c.args.schedule.now.turns) (first_world c.args.run.now) (world_of c.rest.new.self) =
    subst (λ b. LeadTo c.args.run.now b (all_asks c.args.run.now c.args.schedule.now.turns) (first_world c.args.run.now) (world_of c.rest.new.self)) (sym c.in_ok-log.ensures.first)
    (all_lead c.args.run.now c.args.schedule.now.turns c.in_ok-driver.driver c.take_turns.new.self c.rest.new.self c.in_ok-driver.ensures.driver c.in_ok-take_turns.ensures.driver c.in_ok-rest.ensures.driver c.in_ok-driver.ensures.first
    (subst (λ (ts : List Turn). LeadsTo c.args.run.now c.in_ok-driver.driver (turns_ask ts) c.take_turns.new.self) c.as_slice.ensures c.in_ok-take_turns.ensures.leads)
    c.in_ok-rest.ensures.leads) in
    closed_is_driven c.args.run.now c.in_ok-log.log.first c.args.schedule.now.turns (world_of c.rest.new.self) leads c.in_ok-log.log refl
    (leads_to_rest c.args.run.now c.in_ok-log.log.first c.args.schedule.now.turns (world_of c.rest.new.self) leads (are_rising c.args.run.now c.rest.new.self c.in_ok-rest.ensures.driver))
    c.in_ok-log.ensures.closes c.in_ok-log.ensures.run
