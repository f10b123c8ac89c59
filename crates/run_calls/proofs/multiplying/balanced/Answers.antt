use Rattle.std.proofs.Common.{arith, ap, sym, ◌∙◌, ◌≡◌, ◌<◌, length}
use Rattle.std.specs.List.{range_with_len}
use Rattle.base_words.specs.FirstAnswers.{first_some}
use Rattle.run_calls.specs.MultiplierTests.{unbalanced_in}
use Rattle.run_calls.proofs.MultiplierFaults.{none_unbalanced}
use Rattle.run_calls.proofs.NumberedAnswers.{number_found, number_none}
use Rattle.run_calls.proofs.multiplying.balanced.Goals as goal

pub returns-in-Err-clause-first : goal.returns-in-Err-clause-first
returns-in-Err-clause-first c =
    let run = c.args.run.now in
    let below : c.loop-node.node < length run.program.tree.nodes = omega (arith, c.loop-node-test.true, c.len-node-end.ensures) in
    sym (number_found (unbalanced_in run c.args.multipliers.now) c.loop-node.node (length run.program.tree.nodes) c.in-Err.fault below c.loop-node.invariant (sym c.in-Err.ensures))

pub loop-node-preserved : goal.loop-node-preserved
loop-node-preserved c = number_none (unbalanced_in c.args.run.now c.args.multipliers.now) c.loop-node.node c.loop-node.invariant (sym c.in_default.ensures)

pub returns-clause-balanced : goal.returns-clause-balanced
returns-clause-balanced c =
    let run = c.args.run.now in
    let end : c.loop-node.node ≡ length run.program.tree.nodes = omega (arith, c.loop-node-test.false, c.len-node-end.ensures, c.loop-node.auto.node-end) in
    none_unbalanced run c.args.multipliers.now (ap (λ n. first_some (unbalanced_in run c.args.multipliers.now) (range_with_len 0 n)) (sym end) ∙ c.loop-node.invariant)
