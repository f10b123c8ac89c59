use Rattle.std.proofs.Common.{sym, ◌∙◌, ◌==◌, ◌&&◌, true, false}
use Rattle.std.specs.List.{list_any}
use Rattle.tree_core.specs.Nodes.{scenarios_at}
use Rattle.put_words.specs.NodeSums.{node_for}
use Rattle.hedging.specs.Tables.{gain_of}
use Rattle.hedging.proofs.Filling.{column_due, gained_as, none_gained, other_due}
use Rattle.hedging.proofs.tables.add_column.Goals as goal

pub returns-then-is_of_stage : goal.returns-then-is_of_stage
returns-then-is_of_stage c =
    let run = c.args.run.now in
    let n = c.args.node in
    let k = c.args.column in
    gained_as run (λ s j. (j == k) && list_any (λ u. u == s) (scenarios_at run.program.tree.nodes n)) (λ s j. (node_for run s j == n) && (j == k)) (gain_of run c.args.x.now c.args.gain) c.args.cells.now c.add_members.new.cells c.add_members.ensures
    (λ s j l h. column_due run n k s j c.requires.node c.requires.column (sym c.is_of_stage.ensures ∙ c.if-is_of_stage.true) l h)

pub returns-else-is_of_stage : goal.returns-else-is_of_stage
returns-else-is_of_stage c =
    let run = c.args.run.now in
    let n = c.args.node in
    let k = c.args.column in
    none_gained run (λ s j. (node_for run s j == n) && (j == k)) (gain_of run c.args.x.now c.args.gain) c.args.cells.now
    (λ s j l h. other_due run n k s j c.requires.node c.requires.column (sym c.is_of_stage.ensures ∙ c.if-is_of_stage.false) l h)
