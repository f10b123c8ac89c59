use Rattle.std.proofs.Common.{arith, ap, ◌∙◌, ◌≤◌, List, length}
use Rattle.std.specs.List.{fold}
use Rattle.std.proofs.lemmas.List.{take_all}
use Rattle.boxed_problem.specs.BoxedFacts.{limits_at}
use Rattle.sp_model.specs.Changes.{core_data}
use Rattle.sp_model.specs.Problems.{scenario_at}
use Rattle.sp_model.specs.declared.program.Change.{Change}
use Rattle.plan_calls.specs.LookUps.{limits_with}
use Rattle.plan_calls.proofs.LookingUp.{limits_are}
use Rattle.plan_calls.proofs.values.limits_at.Goals as goal

pub returns : goal.returns
returns c =
    let run = c.args.run.now in
    let cs = (scenario_at run c.args.scenario).changes in
    let first = limits_at (core_data run.program).limits c.args.row in
    let end : length cs ≤ c.loop-change.change-index = omega (arith, c.loop-change-test.false, ap length c.changes-change-items.ensures) in
    c.loop-change.invariant
    ∙ ap (λ (l : List Change). fold (limits_with c.args.row) first l) (take_all c.loop-change.change-index cs end)
    ∙ limits_are run c.args.scenario c.args.row c.requires.scenario
