use Rattle.std.proofs.Common.{◌+◌, ◌≤◌, length, sym, arith}
use Rattle.std.proofs.lemmas.List.{take_rest}
use Rattle.std.proofs.lemmas.Grind.{common_steps}
use Rattle.line_core.proofs.Parts.{fields_next, fields_last}
use Rattle.line_core.proofs.field_list.fields.Goals as goal

pub loop-count-preserved : goal.loop-count-preserved
loop-count-preserved c =
    let at = c.loop-count.at in
    let count = c.in-Some.count in
    let place = simp take_rest at c.in-Some.ensures.place in
    let small = simp take_rest at c.in-Some.ensures.within in
    let within : at + (count + 1) ≤ length c.args.text.now = grind (arith, common_steps, c.loop-count.invariant.within) in
    record {
      within = within;
      found = fields_next c.args.start at count c.args.text.now c.loop-count.spans c.push_run.new.spans (sym place) (omega arith) c.in_ok-push_run.ensures c.loop-count.invariant.found;
    }

pub returns : goal.returns
returns c =
    let place = simp take_rest at c.in_default.ensures.place in
    fields_last c.args.start c.loop-count.at c.args.text.now c.loop-count.spans c.push_run-2.new.spans (sym place) c.loop-count.invariant.within c.in_ok-push_run-2.ensures c.loop-count.invariant.found
