use Rattle.std.proofs.Common.{rules, FitsSigned, ℤ, of_z, refl, subst, to_z, to_z-of_z}
use Rattle.std.specs.Int.{w128}
use Rattle.run_text.proofs.whole.body.Goals as goal
use Rattle.run_text.specs.Bodies.{IsWorth, IsWorthIfAny, body_lines_of, upper_value}
use Rattle.text_lines.specs.Headings.{unit_of}
use Rattle.text_lines.proofs.Units.{unit_facts}

pub returns-clause-text : goal.returns-clause-text
returns-clause-text g c =
    let unit : FitsSigned w128 (unit_of c.args.run.now) = (unit_facts c.args.run.now).unit in
    let fits : FitsSigned w128 c.args.log.now.lower = search rules in
    let lower_raw : IsWorth (to_z w128 (of_z w128 (unit_of c.args.run.now))) (to_z w128 (of_z w128 c.args.log.now.lower)) c.worth_of-lower.result = subst (λ (unit : ℤ). IsWorth (to_z w128 (of_z w128 unit)) (to_z w128 (of_z w128 c.args.log.now.lower)) c.worth_of-lower.result) c.unit-unit.ensures.value c.worth_of-lower.ensures in
    let lower : IsWorth (unit_of c.args.run.now) c.args.log.now.lower c.worth_of-lower.result = simp to_z-of_z at lower_raw in
    let upper_raw : IsWorthIfAny (to_z w128 (of_z w128 (unit_of c.args.run.now))) (upper_value c.args.log.now) c.worth_if_any-upper.result = subst (λ (unit : ℤ). IsWorthIfAny (to_z w128 (of_z w128 unit)) (upper_value c.args.log.now) c.worth_if_any-upper.result) c.unit-unit.ensures.value c.worth_if_any-upper.ensures in
    let upper : IsWorthIfAny (unit_of c.args.run.now) (upper_value c.args.log.now) c.worth_if_any-upper.result = simp to_z-of_z at upper_raw in
    (body_lines_of c.args.log.now c.worth_of-lower.result c.worth_if_any-upper.result, (c.worth_of-lower.result, c.worth_if_any-upper.result, lower, upper, refl), c.put_lines.ensures.text)
