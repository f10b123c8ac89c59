use Rattle.std.proofs.Common.{sym, ap, subst, ◌∙◌}
use Rattle.std.specs.List.{All, AllZip}
use Rattle.lagrangian_spoke.specs.Spokes.{IsPutOf}
use Rattle.run_calls.specs.declared.put.Put.{Put}
use Rattle.schedule_core.proofs.Closing.{all_answered, all_may, are_ends, closes_behind, is_put}
use Rattle.schedule_core.specs.Ends.{IsLeft, MayFinish}
use Rattle.schedule_core.proofs.driving.close.Goals as goal

pub ends_of-requires-clause-may : goal.ends_of-requires-clause-may
ends_of-requires-clause-may c = subst (λ (p : Put). All (MayFinish c.args.run.now p.number) c.args.driver.spokes.items) (sym c.put.ensures) (all_may c.args.run.now c.args.driver c.requires.driver c.requires.rest)

pub ends_of-requires-clause-put : goal.ends_of-requires-clause-put
ends_of-requires-clause-put c = subst (IsPutOf c.args.run.now) (sym c.put.ensures) (is_put c.args.run.now c.args.driver c.requires.driver)

pub end-requires-clause-ends : goal.end-requires-clause-ends
end-requires-clause-ends c = are_ends c.args.run.now c.args.driver c.requires.driver c.requires.rest c.in_ok-ends.ends
    (subst (λ n. AllZip (IsLeft c.args.run.now n) c.args.driver.spokes.items c.in_ok-ends.ends) (ap (λ (p : Put). p.number) c.put.ensures ∙ c.requires.driver.hub.number) c.in_ok-ends.ensures)

pub end-requires-clause-answered : goal.end-requires-clause-answered
end-requires-clause-answered c = all_answered c.args.run.now c.args.driver c.requires.driver c.requires.rest c.in_ok-ends.ends
    (subst (λ n. AllZip (IsLeft c.args.run.now n) c.args.driver.spokes.items c.in_ok-ends.ends) (ap (λ (p : Put). p.number) c.put.ensures ∙ c.requires.driver.hub.number) c.in_ok-ends.ensures)

pub returns-clause-closes : goal.returns-clause-closes
returns-clause-closes c = closes_behind c.args.run.now c.args.driver c.requires.driver c.requires.rest c.in_ok-ends.ends
    (subst (λ n. AllZip (IsLeft c.args.run.now n) c.args.driver.spokes.items c.in_ok-ends.ends) (ap (λ (p : Put). p.number) c.put.ensures ∙ c.requires.driver.hub.number) c.in_ok-ends.ensures)
    c.end.result c.end.ensures.closes
