use Rattle.std.proofs.Common.{rules, arith, sym, ap, ◌∙◌, ◌==◌, ◌&&◌, ◌+◌, ◌≤◌, ◌^◌, nat_lt, false, FitsSigned}
use Rattle.std.proofs.lemmas.Int.{to_z-of_z}
use Rattle.std.specs.Int.{w128}
use Rattle.base_words.proofs.NumberTests.{test_from_less, test_from_not_less}
use Rattle.base_words.proofs.Booleans.{and_false, and_true}
use Rattle.put_words.specs.NodeSums.{node_for, weight_of}
use Rattle.hedging.specs.Tables.{gain_of}
use Rattle.hedging.proofs.Filling.{gained_as, gained_on, none_gained, still_table}
use Rattle.hedging.proofs.Places.{both_due, next_is_due}
use Rattle.hedging.proofs.tables.add_node.Goals as goal

pub loop-column-init : goal.loop-column-init
loop-column-init c = none_gained c.args.run.now (λ s j. (node_for c.args.run.now s j == c.args.node) && nat_lt j 0) (gain_of c.args.run.now c.args.x.now c.args.gain) c.args.cells.now (λ s j l h. ap (λ b. (node_for c.args.run.now s j == c.args.node) && b) (test_from_not_less j 0 (omega arith)) ∙ and_false (node_for c.args.run.now s j == c.args.node))

pub add_column-requires-clause-weight : goal.add_column-requires-clause-weight
add_column-requires-clause-weight c =
    let fw : FitsSigned w128 c.weight_over-weight.result = search rules in
    simp to_z-of_z (c.weight_over-weight.ensures ∙ ap (λ ns. weight_of c.args.run.now ns) c.members.ensures.value)

pub add_column-requires-clause-table : goal.add_column-requires-clause-table
add_column-requires-clause-table c = still_table c.args.run.now (λ s j. (node_for c.args.run.now s j == c.args.node) && nat_lt j c.loop-column.column) c.args.x.now c.args.gain (2 ^ 123) (2 ^ 124) c.args.cells.now c.loop-column.cells c.requires.inside c.requires.table c.loop-column.invariant (omega arith)

pub loop-column-preserved : goal.loop-column-preserved
loop-column-preserved c =
    let run = c.args.run.now in
    let n = c.args.node in
    let k = c.loop-column.column in
    gained_on run (λ s j. (node_for run s j == n) && nat_lt j k) (λ s j. (node_for run s j == n) && (j == k)) (λ s j. (node_for run s j == n) && nat_lt j (k + 1)) (gain_of run c.args.x.now c.args.gain) c.args.cells.now c.loop-column.cells c.add_column.new.cells c.loop-column.invariant c.add_column.ensures
    (λ s j l h. both_due (node_for run s j == n) (nat_lt j k) (j == k) (nat_lt j (k + 1)) (next_is_due j k))

pub returns : goal.returns
returns c =
    let run = c.args.run.now in
    let n = c.args.node in
    let all : run.nonleaf ≤ c.loop-column.column = omega (arith, c.loop-column-test.false) in
    gained_as run (λ s j. (node_for run s j == n) && nat_lt j c.loop-column.column) (λ s j. node_for run s j == n) (gain_of run c.args.x.now c.args.gain) c.args.cells.now c.loop-column.cells c.loop-column.invariant
    (λ s j l h. sym (ap (λ b. (node_for run s j == n) && b) (test_from_less j c.loop-column.column (omega (arith, all, h))) ∙ and_true (node_for run s j == n)))
