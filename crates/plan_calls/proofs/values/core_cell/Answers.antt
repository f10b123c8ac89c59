use Rattle.std.proofs.Common.{arith, sym, ap, ◌∙◌, ◌<◌, ◌≤◌, length, get_or, rules, FitsSigned}
use Rattle.std.specs.Prelude.{find}
use Rattle.std.proofs.lemmas.Int.{to_z-of_z}
use Rattle.std.proofs.lemmas.List.{take_all}
use Rattle.std.specs.Int.{w128}
use Rattle.boxed_problem.specs.BoxedFacts.{no_entry}
use Rattle.reach_core.proofs.Finding.{value_of}
use Rattle.sp_model.specs.Values.{is_cell}
use Rattle.plan_calls.proofs.LookingUp.{first_is, none_more}
use Rattle.plan_calls.proofs.values.core_cell.Goals as goal

pub returns-then-is_cell : goal.returns-then-is_cell
returns-then-is_cell c =
    let es = c.args.program.now.entries in
    let k = c.loop-entry.entry-index in
    let there : k < length es = omega (arith, c.loop-entry-test.true, ap length c.as_slice-entry-items.ensures) in
    let own = rw c.as_slice-entry-items.ensures at (sym c.is_cell.ensures ∙ c.if-is_cell.true) in
    let fits : FitsSigned w128 (get_or c.as_slice-entry-items.result.now k no_entry).value = search rules in
    simp to_z-of_z (rw c.as_slice-entry-items.ensures (sym (ap value_of (first_is es c.args.row c.args.column k no_entry there c.loop-entry.invariant own))))

pub loop-entry-preserved : goal.loop-entry-preserved
loop-entry-preserved c =
    let es = c.args.program.now.entries in
    let k = c.loop-entry.entry-index in
    let there : k < length es = omega (arith, c.loop-entry-test.true, ap length c.as_slice-entry-items.ensures) in
    let other = rw c.as_slice-entry-items.ensures at (sym c.is_cell.ensures ∙ c.if-is_cell.false) in
    none_more es c.args.row c.args.column k no_entry there c.loop-entry.invariant other

pub returns : goal.returns
returns c =
    let es = c.args.program.now.entries in
    let end : length es ≤ c.loop-entry.entry-index = omega (arith, c.loop-entry-test.false, ap length c.as_slice-entry-items.ensures) in
    sym (ap value_of (sym (ap (find (is_cell c.args.row c.args.column)) (take_all c.loop-entry.entry-index es end)) ∙ c.loop-entry.invariant))
