use Rattle.std.proofs.Common.{refl, ◌+◌}
use Rattle.text_lines.specs.ShowLines.{node_text}
use Rattle.text_lines.proofs.Ranges.{part_put}
use Rattle.text_lines.proofs.scenarios.put_nodes.Goals as goal

pub loop-t-preserved : goal.loop-t-preserved
loop-t-preserved c =
    part_put (node_text c.args.run.now c.args.s) c.args.line.now.items c.loop-t.line.items c.put_node.new.line.items (node_text c.args.run.now c.args.s (c.loop-t.t + 1)) c.loop-t.t c.loop-t.invariant c.in_ok-put_node.ensures refl
