use Rattle.std.proofs.Common.{rules, arith, ap, ◌∙◌, ◌<◌, ◌≤◌, List, length, get_or, to_z, FitsSigned}
use Rattle.std.proofs.lemmas.Int.{to_z-of_z}
use Rattle.std.specs.Int.{w128}
use Rattle.std.specs.List.{fold}
use Rattle.std.proofs.lemmas.List.{take_all}
use Rattle.sp_model.specs.Plans.{no_column}
use Rattle.sp_model.specs.Problems.{scenario_at}
use Rattle.sp_model.specs.declared.program.Change.{Change}
use Rattle.plan_calls.specs.LookUps.{cost_with}
use Rattle.plan_calls.proofs.LookingUp.{cost_is, cost_next}
use Rattle.plan_calls.proofs.values.cost_at.Goals as goal

pub loop-change-preserved : goal.loop-change-preserved
loop-change-preserved c =
    let run = c.args.run.now in
    let j = c.args.column in
    let k = c.loop-change.change-index in
    let cs = (scenario_at run c.args.scenario).changes in
    let first = (get_or run.program.columns j no_column).cost in
    let there : k < length cs = omega (arith, c.loop-change-test.true, ap length c.changes-change-items.ensures) in
    let fits : FitsSigned w128 c.cost_with-cost.result = search rules in
    let own = rw c.changes-change-items.ensures at c.cost_with-cost.ensures in
    simp to_z-of_z (cost_next j first cs k (to_z w128 c.loop-change.cost-bits) c.cost_with-cost.result there c.loop-change.invariant own)

pub returns : goal.returns
returns c =
    let run = c.args.run.now in
    let cs = (scenario_at run c.args.scenario).changes in
    let first = (get_or run.program.columns c.args.column no_column).cost in
    let end : length cs ≤ c.loop-change.change-index = omega (arith, c.loop-change-test.false, ap length c.changes-change-items.ensures) in
    c.loop-change.invariant
    ∙ ap (λ (l : List Change). fold (cost_with c.args.column) first l) (take_all c.loop-change.change-index cs end)
    ∙ cost_is run c.args.scenario c.args.column c.requires.scenario c.requires.column
