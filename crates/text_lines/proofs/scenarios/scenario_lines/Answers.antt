use Rattle.std.proofs.Common.{◌∙◌, ap}
use Rattle.std.specs.Prelude.{slice_index_or}
use Rattle.boxed_problem.specs.BoxedFacts.{no_limits}
use Rattle.sp_model.specs.Problems.{data_at}
use Rattle.sp_model.specs.Values.{limits_in}
use Rattle.text_lines.specs.ShowLines.{limits_line, scenario_line}
use Rattle.text_lines.proofs.Ranges.{full_put, limits_long, line_behind}
use Rattle.text_lines.proofs.scenarios.scenario_lines.Goals as goal

pub loop-i-preserved : goal.loop-i-preserved
loop-i-preserved c =
    let is = c.in_ok-limits_line.ensures ∙ ap (limits_line c.args.core.now c.args.s c.loop-i.i) (c.limits_at.ensures ∙ ap (λ limits. slice_index_or limits c.loop-i.i no_limits) (c.deref.ensures.value ∙ c.in_ok-limits.ensures)) in
    record {
      lines = line_behind (scenario_line c.args.run.now c.args.s) (λ i. limits_line c.args.core.now c.args.s i (limits_in (data_at c.args.run.now c.args.s) i)) c.loop-i.i c.loop-i.lines c.push-in-loop-i.new.self c.in_ok-limits_line.field-0 c.loop-i.invariant.lines c.in_ok-push-2.ensures.ok is;
      full = full_put c.loop-i.lines c.push-in-loop-i.new.self c.in_ok-limits_line.field-0 (limits_line c.args.core.now c.args.s c.loop-i.i c.limits_at.result) c.loop-i.invariant.full c.in_ok-push-2.ensures.ok c.in_ok-limits_line.ensures (limits_long c.args.core.now c.args.s c.loop-i.i c.limits_at.result);
    }
