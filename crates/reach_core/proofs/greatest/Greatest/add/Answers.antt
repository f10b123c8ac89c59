use Rattle.std.proofs.Common.{ap, ◌≡◌, ◌∙◌}
use Rattle.std.specs.List.{fold}
use Rattle.sp_model.specs.Changes.{data_of}
use Rattle.reach_core.specs.Changed.{raised_by}
use Rattle.reach_core.proofs.ScenarioSums.{rows_next, tops_next}
use Rattle.reach_core.proofs.greatest.Greatest.add.Goals as goal

pub returns : goal.returns
returns c = λ ds before.
    let p = c.args.program.now in
    let s = c.args.scenario.now in
    let old = c.args.self.now in
    let raised : c.raise_all.new.tops.items ≡ fold raised_by old.tops.items s.changes = c.raise_all.ensures ∙ ap (fold raised_by old.tops.items) c.as_slice.ensures in
    record {
      tops = tops_next p ds s old.tops.items c.raise_all.new.tops.items c.requires.scenario before.tops raised;
      rows = rows_next p ds (data_of p s) old.rows c.in_ok-row.row c.larger-self.result before.rows c.in_ok-row.ensures.few c.in_ok-row.ensures.exact c.larger-self.ensures;
    }
