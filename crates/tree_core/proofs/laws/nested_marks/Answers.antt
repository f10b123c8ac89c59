use Rattle.tree_core.proofs.TreeLaws.{tree_nested}
use Rattle.tree_core.proofs.laws.nested_marks.Goals as goal

pub returns : goal.returns
returns c = tree_nested
