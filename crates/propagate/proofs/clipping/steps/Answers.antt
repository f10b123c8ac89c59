use Rattle.std.proofs.Common.{sym, subst, ◌∙◌, ◌-ℤ◌, FitsSigned, rules}
use Rattle.std.proofs.lemmas.Int.{to_z-of_z}
use Rattle.std.specs.Int.{w128}
use Rattle.propagate.specs.Tightening.{IsSteps}
use Rattle.propagate.proofs.ClipLaws.{steps_are}
use Rattle.propagate.proofs.clipping.steps.Goals as goal

pub returns : goal.returns
returns c =
    let a = c.ranges.size in
    let b = c.ranges.slack in
    let s = c.args.side in
    let fits : FitsSigned w128 c.div_euclid.result = search rules in
    let quotient = simp to_z-of_z at c.div_euclid.ensures in
    subst (λ q. IsSteps c.args.size c.args.slack (s.upper -ℤ s.lower) q) (sym (to_z-of_z w128 c.div_euclid.result fits ∙ quotient)) (steps_are c.args.size c.args.slack (s.upper -ℤ s.lower) c.requires.size c.requires.slack c.requires.short)
