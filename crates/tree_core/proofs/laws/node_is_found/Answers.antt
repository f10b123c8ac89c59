use Rattle.tree_core.proofs.Finding.{node_found}
use Rattle.tree_core.proofs.laws.node_is_found.Goals as goal

pub returns : goal.returns
returns c = node_found
