use Rattle.std.proofs.Common.{arith, ap, sym, ◌∙◌, ◌≡◌, ◌<◌}
use Rattle.std.specs.List.{range_with_len}
use Rattle.base_words.specs.FirstAnswers.{first_some}
use Rattle.run_calls.specs.MultiplierTests.{too_big_in}
use Rattle.sp_model.specs.Problems.{scenarios}
use Rattle.run_calls.proofs.MultiplierFaults.{none_too_big}
use Rattle.run_calls.proofs.NumberedAnswers.{number_found, number_none}
use Rattle.run_calls.proofs.multiplying.sized.Goals as goal

pub returns-in-Err-clause-first : goal.returns-in-Err-clause-first
returns-in-Err-clause-first c =
    let run = c.args.run.now in
    let below : c.loop-scenario.scenario < scenarios run = omega (arith, c.loop-scenario-test.true, c.len-scenario-end.ensures) in
    sym (number_found (too_big_in run c.args.multipliers.now) c.loop-scenario.scenario (scenarios run) c.in-Err.fault below c.loop-scenario.invariant (sym c.in-Err.ensures))

pub loop-scenario-preserved : goal.loop-scenario-preserved
loop-scenario-preserved c = number_none (too_big_in c.args.run.now c.args.multipliers.now) c.loop-scenario.scenario c.loop-scenario.invariant (sym c.in_default.ensures)

pub returns-clause-sized : goal.returns-clause-sized
returns-clause-sized c =
    let run = c.args.run.now in
    let end : c.loop-scenario.scenario ≡ scenarios run = omega (arith, c.loop-scenario-test.false, c.len-scenario-end.ensures, c.loop-scenario.auto.scenario-end) in
    none_too_big run c.args.multipliers.now (ap (λ n. first_some (too_big_in run c.args.multipliers.now) (range_with_len 0 n)) (sym end) ∙ c.loop-scenario.invariant)
