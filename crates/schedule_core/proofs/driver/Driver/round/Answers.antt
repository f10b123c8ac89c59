use Rattle.std.proofs.Common.{[], ◌∷◌}
use Rattle.schedule_core.proofs.Steps.{leads_on}
use Rattle.schedule_core.specs.Asking.{all_ranks, all_spokes}
use Rattle.schedule_lines.specs.declared.schedule.Actor.TheVariants.{Hub}
use Rattle.schedule_core.proofs.driver.Driver.round.Goals as goal

pub returns-clause-leads : goal.returns-clause-leads
returns-clause-leads c =
    leads_on c.args.run.now c.args.self.now c.ask_ranks.new.self c.ask_spokes.new.self (Hub ∷ all_ranks c.args.run.now) (all_spokes c.args.run.now)
    c.requires.driver c.in_ok-ask_ranks.ensures.driver
    (leads_on c.args.run.now c.args.self.now c.hub_step.new.self c.ask_ranks.new.self (Hub ∷ []) (all_ranks c.args.run.now)
    c.requires.driver c.in_ok-hub_step.ensures.driver c.in_ok-hub_step.ensures.steps c.in_ok-ask_ranks.ensures.leads)
    c.in_ok-ask_spokes.ensures.leads
