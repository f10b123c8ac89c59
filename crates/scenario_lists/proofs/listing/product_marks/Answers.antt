use Rattle.std.proofs.Common.{arith}
use Rattle.base_words.proofs.Made.{next_made}
use Rattle.scenario_lists.specs.Combinations.{choices_of, mark_in}
use Rattle.scenario_lists.specs.ScenarioList.{product_marks_at}
use Rattle.scenario_lists.proofs.Rows.{rows_push}
use Rattle.scenario_lists.proofs.listing.product_marks.Goals as goal

pub loop-number-preserved : goal.loop-number-preserved
loop-number-preserved c =
    let es = c.args.elements.now in
    let s = c.loop-number.number in
    record {
      marks = next_made (product_marks_at c.args.stages es) 0 s s c.loop-number.made c.push.new.self c.in_ok-marks.marks (omega arith) c.in_ok-push.ensures.ok c.in_ok-marks.ensures c.loop-number.invariant.marks;
      rows = rows_push (mark_in es (choices_of es s)) c.args.stages c.loop-number.made c.push.new.self c.in_ok-marks.marks c.in_ok-push.ensures.ok c.in_ok-marks.ensures c.loop-number.invariant.rows;
    }
