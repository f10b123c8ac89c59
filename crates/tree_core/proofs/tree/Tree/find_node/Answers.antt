use Rattle.std.proofs.Common.{arith, sym, ap, ◌∙◌}
use Rattle.base_words.proofs.Positions.{place_at}
use Rattle.tree_core.specs.Nodes.{holds, no_node, node_number}
use Rattle.tree_core.proofs.Listing.{no_place}
use Rattle.tree_core.proofs.tree.Tree.find_node.Goals as goal

pub returns-then-holds : goal.returns-then-holds
returns-then-holds c =
    let node = c.index-nodes-i.result in
    let nodes = c.as_slice-nodes.result.now in
    let test = holds c.args.scenario c.args.stage in
    let passes = ap test (sym c.index-nodes-i.is) ∙ sym c.holds.ensures ∙ c.if-holds.true in
    sym (place_at test nodes c.loop-i.i node c.loop-i-test.true (λ k l. c.loop-i.invariant k node l) passes)
    ∙ ap (λ ns. node_number ns c.args.scenario c.args.stage) c.as_slice-nodes.ensures

pub returns : goal.returns
returns c =
    let nodes = c.as_slice-nodes.result.now in
    sym (no_place (holds c.args.scenario c.args.stage) nodes c.loop-i.i no_node (omega arith) (λ k l. c.loop-i.invariant k no_node l))
    ∙ ap (λ ns. node_number ns c.args.scenario c.args.stage) c.as_slice-nodes.ensures
