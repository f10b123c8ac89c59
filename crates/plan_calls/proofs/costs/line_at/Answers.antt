use Rattle.std.proofs.Common.{rules, sym, ap, ◌∙◌, ◌≡◌, ◌*ℤ◌, FitsSigned}
use Rattle.std.proofs.lemmas.Int.{to_z-of_z}
use Rattle.std.specs.Int.{w128}
use Rattle.sp_model.specs.Problems.{factor_of}
use Rattle.sp_model.proofs.DataFacts.{cost_fits}
use Rattle.plan_calls.proofs.PlanValues.{line_is}
use Rattle.plan_calls.proofs.costs.line_at.Goals as goal

pub times-requires : goal.times-requires
times-requires c =
    let run = c.args.run.now in
    let ff : FitsSigned w128 c.factor.result = search rules in
    let fc : FitsSigned w128 c.cost_at.result = search rules in
    simp to_z-of_z (rw (c.factor.ensures, c.cost_at.ensures) (cost_fits run c.args.scenario c.args.column c.requires.scenario c.requires.column))

pub returns : goal.returns
returns c =
    let run = c.args.run.now in
    let s = c.args.scenario in
    let ff : FitsSigned w128 c.factor.result = search rules in
    let fc : FitsSigned w128 c.cost_at.result = search rules in
    let ft : FitsSigned w128 c.times.result = search rules in
    let product : c.times.result ≡ (c.factor.result *ℤ c.cost_at.result) = simp to_z-of_z at c.times.ensures in
    simp to_z-of_z (product ∙ (ap (λ z. z *ℤ c.cost_at.result) c.factor.ensures ∙ (ap (λ z. factor_of run s *ℤ z) c.cost_at.ensures ∙ sym (line_is run s c.args.column))))
