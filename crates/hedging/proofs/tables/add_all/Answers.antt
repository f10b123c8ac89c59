use Rattle.std.proofs.Common.{arith, sym, ◌==◌, ◌+◌, ◌≤◌, ◌^◌, nat_lt, true, length}
use Rattle.base_words.proofs.NumberTests.{test_from_less, test_from_not_less}
use Rattle.put_words.specs.NodeSums.{node_for}
use Rattle.put_words.proofs.Rises.{node_below}
use Rattle.hedging.specs.Tables.{gain_of}
use Rattle.hedging.proofs.Filling.{gained_as, gained_on, none_gained, still_table}
use Rattle.hedging.proofs.Places.{next_is_due}
use Rattle.hedging.proofs.tables.add_all.Goals as goal

pub loop-node-init : goal.loop-node-init
loop-node-init c = none_gained c.args.run.now (λ s j. nat_lt (node_for c.args.run.now s j) 0) (gain_of c.args.run.now c.args.x.now c.args.gain) c.args.cells.now (λ s j l h. test_from_not_less (node_for c.args.run.now s j) 0 (omega arith))

pub add_node-requires-clause-table : goal.add_node-requires-clause-table
add_node-requires-clause-table c = still_table c.args.run.now (λ s j. nat_lt (node_for c.args.run.now s j) c.loop-node.node) c.args.x.now c.args.gain (2 ^ 122) (2 ^ 123) c.args.cells.now c.loop-node.cells c.requires.inside c.requires.table c.loop-node.invariant (omega arith)

pub loop-node-preserved : goal.loop-node-preserved
loop-node-preserved c =
    let run = c.args.run.now in
    let n = c.loop-node.node in
    gained_on run (λ s j. nat_lt (node_for run s j) n) (λ s j. node_for run s j == n) (λ s j. nat_lt (node_for run s j) (n + 1)) (gain_of run c.args.x.now c.args.gain) c.args.cells.now c.loop-node.cells c.add_node.new.cells c.loop-node.invariant c.add_node.ensures (λ s j l h. next_is_due (node_for run s j) n)

pub returns : goal.returns
returns c =
    let run = c.args.run.now in
    let all : length run.program.tree.nodes ≤ c.loop-node.node = omega (arith, c.len-node-end.ensures, c.loop-node-test.false) in
    gained_as run (λ s j. nat_lt (node_for run s j) c.loop-node.node) (λ s j. true) (gain_of run c.args.x.now c.args.gain) c.args.cells.now c.loop-node.cells c.loop-node.invariant (λ s j l h. sym (test_from_less (node_for run s j) c.loop-node.node (omega (arith, all, node_below run s j l h))))
