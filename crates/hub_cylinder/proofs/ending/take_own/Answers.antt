use Rattle.std.proofs.Common.{sym, subst, ◌∙◌, ap, Option, Some, ℤ, [], ◌∷◌}
use Rattle.sp_model.specs.Plans.{cost_of}
use Rattle.run_log.specs.Runs.{own_claims}
use Rattle.run_log.specs.declared.log.End.{End}
use Rattle.run_log.specs.declared.log.Source.TheVariants as source
use Rattle.log_closing.specs.Closings.{Advances}
use Rattle.log_closing.proofs.Advancing.{advance_none}
use Rattle.hub_cylinder.proofs.ClosedRuns.{plan_made}
use Rattle.hub_cylinder.proofs.ending.take_own.Goals as goal

pub own_value-requires : goal.own_value-requires
own_value-requires c = c.requires.plan c.in-Agreed.is

pub returns-in-Agreed : goal.returns-in-Agreed
returns-in-Agreed c = λ first.
    let old = c.args.closing.now in let run = c.args.run.now in let n = c.args.hedge.now.put.number in
    let cost = c.own_value.ensures ∙ ap (λ p. Some (cost_of run p)) (plan_made run n c.args.hedge.now c.requires.put) in
    subst (λ (e : End). Advances first old c.take.new.self (own_claims run n e)) (sym c.in-Agreed.is)
    (subst (λ (v : Option ℤ). Advances first old c.take.new.self (record { source = source.Hub; put = n; value = v } ∷ [])) cost (c.take.ensures first))

pub returns-in-Gap : goal.returns-in-Gap
returns-in-Gap c = λ first. let old = c.args.closing.now in subst (λ (e : End). Advances first old old (own_claims c.args.run.now c.args.hedge.now.put.number e)) (sym c.in-Gap.is) (advance_none first old)

pub returns-in-Iterations : goal.returns-in-Iterations
returns-in-Iterations c = λ first. let old = c.args.closing.now in subst (λ (e : End). Advances first old old (own_claims c.args.run.now c.args.hedge.now.put.number e)) (sym c.in-Iterations.is) (advance_none first old)

pub returns-in-Spent : goal.returns-in-Spent
returns-in-Spent c = λ first. let old = c.args.closing.now in subst (λ (e : End). Advances first old old (own_claims c.args.run.now c.args.hedge.now.put.number e)) (sym c.in-Spent.is) (advance_none first old)
