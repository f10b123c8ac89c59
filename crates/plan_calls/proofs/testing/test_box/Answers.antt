use Rattle.std.proofs.Common.{arith, sym, ap, ◌∙◌, ◌≡◌, ◌<◌, length}
use Rattle.std.specs.List.{range_with_len}
use Rattle.base_words.specs.FirstAnswers.{first_some}
use Rattle.plan_calls.specs.PlanTests.{outside_at}
use Rattle.run_calls.proofs.NumberedAnswers.{number_found, number_none}
use Rattle.plan_calls.proofs.PlanFailures.{box_inside}
use Rattle.plan_calls.proofs.testing.test_box.Goals as goal

pub returns-in-Err-clause-first : goal.returns-in-Err-clause-first
returns-in-Err-clause-first c =
    let run = c.args.run.now in
    let below : c.loop-column.column < length run.program.columns = omega (arith, c.loop-column-test.true, c.len-column-end.ensures) in
    sym (number_found (outside_at run c.args.plan.now c.args.scenario) c.loop-column.column (length run.program.columns) c.in-Err.failure below c.loop-column.invariant (sym c.in-Err.ensures))

pub loop-column-preserved : goal.loop-column-preserved
loop-column-preserved c = number_none (outside_at c.args.run.now c.args.plan.now c.args.scenario) c.loop-column.column c.loop-column.invariant (sym c.in_default.ensures)

pub returns-clause-inside : goal.returns-clause-inside
returns-clause-inside c =
    let run = c.args.run.now in
    let end : c.loop-column.column ≡ length run.program.columns = omega (arith, c.loop-column-test.false, c.len-column-end.ensures, c.loop-column.auto.column-end) in
    box_inside run c.args.plan.now c.args.scenario c.requires.points c.requires.scenario (ap (λ n. first_some (outside_at run c.args.plan.now c.args.scenario) (range_with_len 0 n)) (sym end) ∙ c.loop-column.invariant)
