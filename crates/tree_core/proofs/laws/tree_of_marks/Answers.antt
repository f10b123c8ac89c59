use Rattle.tree_core.proofs.TreeLaws.{tree_few, tree_nodes, tree_once, tree_ordered, tree_shared, tree_shares}
use Rattle.tree_core.proofs.laws.tree_of_marks.Goals as goal

pub returns-clause-once : goal.returns-clause-once
returns-clause-once c = tree_once

pub returns-clause-shared : goal.returns-clause-shared
returns-clause-shared c = λ stages owners t s u l h below under. (tree_shared stages owners t s u, tree_shares stages owners t s u l h below under)

pub returns-clause-nodes : goal.returns-clause-nodes
returns-clause-nodes c = tree_nodes

pub returns-clause-ordered : goal.returns-clause-ordered
returns-clause-ordered c = tree_ordered

pub returns-clause-few : goal.returns-clause-few
returns-clause-few c = tree_few
