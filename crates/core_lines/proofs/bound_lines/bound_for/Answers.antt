use Rattle.std.proofs.Common.{◌≡◌, ◌≤◌, ◌∙◌, sym, subst, true, false, arith}
use Rattle.std.proofs.lemmas.Grind.{common_steps}
use Rattle.base_words.specs.Signs.{limit_size}
use Rattle.smps_words.specs.CoreFacts.{max_end}
use Rattle.core_lines.proofs.RoundedSizes.{lower_small, upper_small}
use Rattle.core_lines.specs.BoundLines.{has_value, is_beyond}
use Rattle.core_lines.specs.Boxes.{end_said}
use Rattle.core_lines.specs.declared.cells.EndChange.{EndChange}
use Rattle.core_lines.proofs.bound_lines.bound_for.Goals as goal

pub returns-clause-small : goal.returns-clause-small
returns-clause-small c =
    let past = sym c.is_past.ensures ∙ c.if-is_past.false in
    let small : has_value c.args.kind ≡ true → is_beyond c.args.value ≡ false = λ h. grind (arith, common_steps) in (
      subst (λ (e : EndChange). limit_size (end_said e) ≤ max_end) (sym c.lower_said.ensures) (lower_small c.args.kind c.args.value small),
      subst (λ (e : EndChange). limit_size (end_said e) ≤ max_end) (sym c.upper_said.ensures) (upper_small c.args.kind c.args.value small),
    )
