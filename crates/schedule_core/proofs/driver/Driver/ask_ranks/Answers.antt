use Rattle.std.proofs.Common.{arith, refl, sym, subst, [], ◌∷◌, List, map}
use Rattle.std.specs.List.{range_with_len}
use Rattle.schedule_core.proofs.Steps.{asks_next, leads_on}
use Rattle.schedule_core.specs.Drivers.{LeadsTo}
use Rattle.schedule_lines.specs.declared.schedule.Actor.{Actor}
use Rattle.schedule_lines.specs.declared.schedule.Actor.TheVariants.{Rank}
use Rattle.schedule_core.proofs.driver.Driver.ask_ranks.Goals as goal

pub rank_step-requires-clause-rank : goal.rank_step-requires-clause-rank
rank_step-requires-clause-rank c = omega (arith, c.loop-rank-test.true, c.requires.driver.many_ranks)

pub loop-rank-init : goal.loop-rank-init
loop-rank-init c = record { within = omega arith; driver = c.requires.driver; leads = refl }

pub loop-rank-preserved : goal.loop-rank-preserved
loop-rank-preserved c = record {
  within = omega (arith, c.loop-rank-test.true, c.requires.driver.many_ranks);
  driver = c.in_ok-rank_step.ensures.driver;
  leads = subst (λ (xs : List Actor). LeadsTo c.args.run.now c.args.self.now xs c.rank_step.new.self) (sym (asks_next Rank c.loop-rank.rank))
      (leads_on c.args.run.now c.args.self.now c.loop-rank.self c.rank_step.new.self (map Rank (range_with_len 0 c.loop-rank.rank)) (Rank c.loop-rank.rank ∷ [])
      c.requires.driver c.loop-rank.invariant.driver c.loop-rank.invariant.leads c.in_ok-rank_step.ensures.steps);
}

pub returns-clause-leads : goal.returns-clause-leads
returns-clause-leads c = subst (λ n. LeadsTo c.args.run.now c.args.self.now (map Rank (range_with_len 0 n)) c.loop-rank.self) (omega (arith, c.loop-rank-test.false, c.loop-rank.invariant.within, c.requires.driver.many_ranks)) c.loop-rank.invariant.leads
