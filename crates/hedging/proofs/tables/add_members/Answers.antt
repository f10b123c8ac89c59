use Rattle.std.proofs.Common.{arith, sym, ap, subst, ◌∙◌, ◌≡◌, ◌==◌, ◌&&◌, ◌+◌, ◌<◌, ◌^◌, ℕ, List, length, take, get_or}
use Rattle.std.proofs.Math.Seq.{take-length}
use Rattle.std.specs.List.{list_any}
use Rattle.base_words.proofs.Booleans.{and_false}
use Rattle.tree_core.specs.Nodes.{scenarios_at}
use Rattle.sp_model.specs.Problems.{scenarios}
use Rattle.put_words.specs.NodeSums.{node_for}
use Rattle.hedging.specs.Tables.{gain_of}
use Rattle.hedging.proofs.Filling.{gained_as, gained_on, member_node, none_gained, still_table}
use Rattle.hedging.proofs.Fitting.{node_members}
use Rattle.tree_core.proofs.Listing.{ones}
use Rattle.hedging.proofs.Places.{both_due, member_due}
use Rattle.hedging.proofs.tables.add_members.Goals as goal

-- one member more, which is u
abbrev member_step : List ℕ → ℕ → ℕ → ℕ → Type 0
member_step ns i s u = ones (list_any (λ v. v == s) (take (i + 1) ns)) ≡ ones (list_any (λ v. v == s) (take i ns)) + ones (u == s)

pub loop-i-init : goal.loop-i-init
loop-i-init c = none_gained c.args.run.now (λ s j. (j == c.args.column) && list_any (λ u. u == s) (take 0 (scenarios_at c.args.run.now.program.tree.nodes c.args.node))) (gain_of c.args.run.now c.args.x.now c.args.gain) c.args.cells.now (λ s j l h. and_false (j == c.args.column))

pub add_cell-requires-clause-scenario : goal.add_cell-requires-clause-scenario
add_cell-requires-clause-scenario c =
    let run = c.args.run.now in
    let ns = scenarios_at run.program.tree.nodes c.args.node in
    let within : c.loop-i.i < length ns = omega (arith, ap length c.members-members.ensures.value, c.loop-i-test.true) in
    let below : get_or ns c.loop-i.i 0 < scenarios run = (node_members run c.args.node c.requires.node).there c.loop-i.i 0 within in
    subst (λ (ms : List ℕ). get_or ms c.loop-i.i 0 < scenarios run) (sym c.members-members.ensures.value) below

pub add_cell-requires-clause-is : goal.add_cell-requires-clause-is
add_cell-requires-clause-is c =
    let run = c.args.run.now in
    let ns = scenarios_at run.program.tree.nodes c.args.node in
    let within : c.loop-i.i < length ns = omega (arith, ap length c.members-members.ensures.value, c.loop-i-test.true) in
    let below : get_or ns c.loop-i.i 0 < scenarios run = (node_members run c.args.node c.requires.node).there c.loop-i.i 0 within in
    let own : c.args.node ≡ node_for run (get_or ns c.loop-i.i 0) c.args.column = member_node run c.args.node c.loop-i.i c.args.column 0 c.requires.node c.requires.column c.requires.of_stage within below in
    subst (λ (ms : List ℕ). c.args.node ≡ node_for run (get_or ms c.loop-i.i 0) c.args.column) (sym c.members-members.ensures.value) own

pub add_cell-requires-clause-table : goal.add_cell-requires-clause-table
add_cell-requires-clause-table c = still_table c.args.run.now (λ s j. (j == c.args.column) && list_any (λ u. u == s) (take c.loop-i.i (scenarios_at c.args.run.now.program.tree.nodes c.args.node))) c.args.x.now c.args.gain (2 ^ 124) (2 ^ 125) c.args.cells.now c.loop-i.cells c.requires.inside c.requires.table c.loop-i.invariant (omega arith)

pub loop-i-preserved : goal.loop-i-preserved
loop-i-preserved c =
    let run = c.args.run.now in
    let k = c.args.column in
    let i = c.loop-i.i in
    let ns = scenarios_at run.program.tree.nodes c.args.node in
    let within : i < length ns = omega (arith, ap length c.members-members.ensures.value, c.loop-i-test.true) in
    let ascending = (node_members run c.args.node c.requires.node).ascending in
    gained_on run (λ s j. (j == k) && list_any (λ u. u == s) (take i ns)) (λ s j. (j == k) && (get_or c.members-members.result.now i 0 == s)) (λ s j. (j == k) && list_any (λ u. u == s) (take (i + 1) ns)) (gain_of run c.args.x.now c.args.gain) c.args.cells.now c.loop-i.cells c.add_cell.new.cells c.loop-i.invariant c.add_cell.ensures
    (λ s j l h. both_due (j == k) (list_any (λ u. u == s) (take i ns)) (get_or c.members-members.result.now i 0 == s) (list_any (λ u. u == s) (take (i + 1) ns))
    (subst (λ (ms : List ℕ). member_step ns i s (get_or ms i 0)) (sym c.members-members.ensures.value) (member_due ns s i 0 ascending within)))

pub returns : goal.returns
returns c =
    let run = c.args.run.now in
    let ns = scenarios_at run.program.tree.nodes c.args.node in
    let all : take c.loop-i.i ns ≡ ns = ap (λ n. take n ns) (omega (arith, ap length c.members-members.ensures.value, c.loop-i-test.false, c.loop-i.auto.i-end)) ∙ take-length ns in
    gained_as run (λ s j. (j == c.args.column) && list_any (λ u. u == s) (take c.loop-i.i ns)) (λ s j. (j == c.args.column) && list_any (λ u. u == s) ns) (gain_of run c.args.x.now c.args.gain) c.args.cells.now c.loop-i.cells c.loop-i.invariant (λ s j l h. ap (λ ms. (j == c.args.column) && list_any (λ u. u == s) ms) (sym all))
