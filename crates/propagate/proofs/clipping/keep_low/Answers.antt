use Rattle.std.proofs.Common.{arith, ◌-ℤ◌, FitsSigned, w64, rules}
use Rattle.std.proofs.lemmas.Int.{ints, to_z-of_z}
use Rattle.std.specs.Int.{w128}
use Rattle.propagate.specs.Tightening.{IsSteps}
use Rattle.propagate.proofs.clipping.keep_low.Goals as goal

pub returns-clause-keeps : goal.returns-clause-keeps
returns-clause-keeps c = λ x u h.
    let s = c.args.side in
    let fz = c.ranges.size in
    let fk = c.ranges.slack in
    let fs : FitsSigned w128 c.steps.result = search rules in
    let fu : FitsSigned w64 c.go_up-upper.result = search rules in
    let is : IsSteps c.args.size c.args.slack (s.upper -ℤ s.lower) c.steps.result = simp to_z-of_z at c.steps.ensures in
    let e = simp to_z-of_z at c.go_up-upper.ensures in
    let most = is.most (x -ℤ s.lower) h in
    simp to_z-of_z (omega (arith, ints, e, most))
