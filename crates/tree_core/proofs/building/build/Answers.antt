use Rattle.std.proofs.Common.{◌+◌, ◌++◌, arith, sym, ap, ◌∙◌, length, map}
use Rattle.base_words.proofs.ListSumsByNumber.{flat_map-next}
use Rattle.tree_core.specs.Marks.{node, nodes_at}
use Rattle.tree_core.proofs.TreeLaws.{tree_few, whole_tree}
use Rattle.tree_core.proofs.building.build.Goals as goal

pub loop-before-preserved : goal.loop-before-preserved
loop-before-preserved c =
    let stage = c.loop-before.before + 1 in
    c.in_ok-append.ensures.nodes
    ∙ ap (λ gs. c.loop-before.nodes ++ map (node stage) gs) c.in_ok-groups.ensures.groups
    ∙ ap (λ ns. ns ++ nodes_at c.args.owners.now stage) c.loop-before.invariant
    ∙ sym (flat_map-next (nodes_at c.args.owners.now) c.loop-before.before)

pub returns-clause-tree : goal.returns-clause-tree
returns-clause-tree c = whole_tree c.args.stages c.loop-before.before c.args.owners.now c.loop-before.nodes (omega arith) c.loop-before.invariant

pub returns-clause-numbered : goal.returns-clause-numbered
returns-clause-numbered c =
    let whole = whole_tree c.args.stages c.loop-before.before c.args.owners.now c.loop-before.nodes (omega arith) c.loop-before.invariant in
    omega (arith, ap (λ t. length t.nodes) whole, tree_few c.args.stages c.args.owners.now, c.requires.cells)
