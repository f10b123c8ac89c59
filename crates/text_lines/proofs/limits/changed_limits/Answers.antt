use Rattle.std.proofs.Common.{arith, ap, sym, ◌∙◌, length, map}
use Rattle.std.proofs.lemmas.List.{take_all}
use Rattle.std.specs.List.{fold}
use Rattle.sp_model.specs.Changes.{core_data, data_of, limits_of}
use Rattle.sp_model.specs.Drafts.{with_limits}
use Rattle.sp_model.proofs.Cells.{limits_part}
use Rattle.text_lines.proofs.limits.changed_limits.Goals as goal

pub returns : goal.returns
unfolding data_of
returns c =
    let changes = c.args.scenario.now.changes in
    c.loop-change.invariant
    ∙ ap (fold with_limits (map limits_of c.args.program.now.rows)) (take_all c.loop-change.change-index changes (omega (arith, ap length c.as_slice-change-items.ensures)))
    ∙ sym (limits_part (core_data c.args.program.now) changes)
