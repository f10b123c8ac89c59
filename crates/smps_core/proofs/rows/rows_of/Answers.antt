use Rattle.std.proofs.Common.{◌≡◌, ap, ◌∙◌, List, get_or}
use Rattle.std.specs.Prelude.{Option, None}
use Rattle.std.proofs.lemmas.Result.{IfOk-weaker}
use Rattle.dec_core.specs.declared.decimal.Decimal.{Decimal}
use Rattle.core_lines.specs.States.{before_in}
use Rattle.core_lines.specs.declared.cells.RowValue.{RowValue}
use Rattle.smps_core.specs.CoreData.{rows_of, side_said}
use Rattle.smps_core.proofs.ByNumber.{rows_are}
use Rattle.smps_core.proofs.rows.rows_of.Goals as goal

pub returns : goal.returns
returns c = IfOk-weaker c.rows_with.result _ (λ rows. rows ≡ rows_of (before_in c.args.state.now)) (λ rows is.
    rows_are (before_in c.args.state.now) c.as_slice-3.result.now c.as_slice-4.result.now c.as_slice-5.result.now c.len-count.result rows c.len-count.ensures.len c.as_slice-3.ensures
    (λ place lt. ap (λ (l : List (Option Decimal)). get_or l place None) c.as_slice-4.ensures ∙ c.in_ok-rights.ensures.each place lt ∙ ap (λ (l : List RowValue). side_said l place) c.as_slice.ensures)
    (λ place lt. ap (λ (l : List (Option Decimal)). get_or l place None) c.as_slice-5.ensures ∙ c.in_ok-ranges.ensures.each place lt ∙ ap (λ (l : List RowValue). side_said l place) c.as_slice-2.ensures)
    is) c.rows_with.ensures
