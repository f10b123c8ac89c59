use Rattle.std.proofs.Common.{◌≡◌, ap, ◌∙◌, List, get_or, length}
use Rattle.std.specs.Prelude.{Option, None, ℤ}
use Rattle.std.proofs.lemmas.Result.{IfOk-weaker}
use Rattle.dec_core.specs.declared.decimal.Decimal.{Decimal}
use Rattle.core_lines.specs.Boxes.{lower_of, upper_of}
use Rattle.core_lines.specs.States.{before_in}
use Rattle.core_lines.specs.declared.cells.Bound.{Bound}
use Rattle.core_lines.specs.declared.cells.Cell.{Cell}
use Rattle.smps_core.specs.CoreData.{columns_of, cost_of}
use Rattle.smps_core.proofs.ByNumber.{columns_are}
use Rattle.smps_core.proofs.columns.columns_of.Goals as goal

pub returns : goal.returns
returns c = IfOk-weaker c.columns_with.result _ (λ columns. columns ≡ columns_of (before_in c.args.state.now)) (λ columns is.
    columns_are (before_in c.args.state.now) c.as_slice-4.result.now c.as_slice-5.result.now c.as_slice-6.result.now c.as_slice-7.result.now c.len-count.result columns c.len-count.ensures.len c.as_slice-6.ensures
    (ap (λ (l : List (Option Decimal)). length l) c.as_slice-7.ensures ∙ c.in_ok-costs.ensures.counted)
    (λ j lt. ap (λ (l : List (Option ℤ)). get_or l j None) c.as_slice-4.ensures ∙ c.in_ok-lowers.ensures.each j lt ∙ ap (λ (l : List Bound). lower_of l j) c.as_slice.ensures)
    (λ j lt. ap (λ (l : List (Option ℤ)). get_or l j None) c.as_slice-5.ensures ∙ c.in_ok-uppers.ensures.each j lt ∙ ap (λ (l : List Bound). upper_of l j) c.as_slice-2.ensures)
    (λ j lt. ap (λ (l : List (Option Decimal)). get_or l j None) c.as_slice-7.ensures ∙ c.in_ok-costs.ensures.each j lt ∙ ap (λ (l : List Cell). cost_of l j) c.as_slice-3.ensures)
    is) c.columns_with.ensures
