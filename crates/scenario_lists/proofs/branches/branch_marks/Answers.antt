use Rattle.std.proofs.Common.{arith, ap, ◌≡◌, ◌∙◌, List, [], ◌∷◌, ◌++◌, get_or, length, length-append}
use Rattle.std.proofs.lemmas.List.{take_all}
use Rattle.std.specs.List.{fold}
use Rattle.smps_stoch.specs.declared.stoch.Branch.{Branch}
use Rattle.scenario_lists.specs.ScenarioList.{branch_marks, with_marks}
use Rattle.scenario_lists.proofs.Rows.{next_folded, rows_push}
use Rattle.scenario_lists.proofs.branches.branch_marks.Goals as goal

pub loop-k-preserved : goal.loop-k-preserved
loop-k-preserved c =
    let branch = c.index-as_slice-k.result in
    let k = c.loop-k.k in
    let made = c.loop-k.made in
    let at : branch ≡ get_or c.args.branches.now k branch = c.index-as_slice-k.is ∙ ap (λ (bs : List Branch). get_or bs k branch) c.as_slice.ensures in
    let pushed = c.in_ok-push.ensures.ok in
    record {
      made = next_folded (with_marks c.args.stages) [] c.args.branches.now k made c.push.new.self branch (omega arith) at (pushed ∙ ap (λ row. made ++ row ∷ []) c.in_ok-marks.ensures) c.loop-k.invariant.made;
      many = omega (arith, ap length pushed ∙ length-append made (c.in_ok-marks.marks ∷ []), c.loop-k.invariant.many);
      rows = rows_push _ c.args.stages made c.push.new.self c.in_ok-marks.marks pushed c.in_ok-marks.ensures c.loop-k.invariant.rows;
    }

pub returns-clause-marks : goal.returns-clause-marks
unfolding branch_marks
returns-clause-marks c = c.loop-k.invariant.made ∙ ap (fold (with_marks c.args.stages) []) (take_all c.loop-k.k c.args.branches.now (omega arith))
