use Rattle.std.proofs.Common.{sym, ◌∙◌, ap, length, map, unsigned_abs}
use Rattle.std.proofs.lemmas.List.{length-map}
use Rattle.boxed_problem.specs.BoxedFacts.{limits_size}
use Rattle.sp_model.specs.declared.program.Column.{Column}
use Rattle.sp_model.specs.declared.program.Row.{Row}
use Rattle.capped_num.specs.Capped.{capped}
use Rattle.sp_model.specs.Changes.{core_data, limits_of}
use Rattle.sp_model.specs.Reaching.{data_reach}
use Rattle.reach_core.proofs.Data.{greatest_one, sums_long}
use Rattle.reach_core.proofs.ScenarioSums.{core_is, core_tops}
use Rattle.reach_core.proofs.greatest.of_core.Goals as goal

pub greatest_row-rows-requires : goal.greatest_row-rows-requires
greatest_row-rows-requires c =
    let p = c.args.program.now in
    let sizes = c.as_slice-2.ensures.value ∙ c.requires.limits in
    let sums = c.as_slice-3.ensures.value ∙ c.requires.sums in
    ap length sizes ∙ (length-map p.rows (λ (row : Row). limits_size (limits_of row)) ∙ sym (ap length sums ∙ sums_long p p.entries))

pub returns : goal.returns
returns c =
    let p = c.args.program.now in
    let sizes = c.as_slice-2.ensures.value ∙ c.requires.limits in
    let sums = c.as_slice-3.ensures.value ∙ c.requires.sums in
    record {
      tops = core_tops p c.in_ok-tops.tops.items (c.in_ok-tops.ensures ∙ ap (map (λ (column : Column). unsigned_abs column.cost)) c.as_slice.ensures);
      rows = core_is p c.as_slice-2.result.now c.as_slice-3.result.now c.greatest_row-rows.result sizes sums c.greatest_row-rows.ensures ∙ ap capped (greatest_one (data_reach p) (core_data p));
    }
