use Rattle.tree_core.proofs.Finding.{node_found}
use Rattle.text_lines.proofs.scenarios.node.Goals as goal

pub node_of-requires-clause-there : goal.node_of-requires-clause-there
node_of-requires-clause-there c = node_found c.args.run.now.program.tree.nodes c.args.stage c.args.s (c.args.run.now.facts.tree.once c.args.stage c.args.s c.requires.early c.requires.late c.requires.there)
