use Rattle.std.proofs.Common.{arith, ap, ◌≡◌, ◌-ℤ◌, FitsSigned, w64, rules}
use Rattle.std.proofs.lemmas.Int.{ints, to_z-of_z}
use Rattle.std.specs.Int.{w128}
use Rattle.propagate.proofs.ClipLaws.{between_fits, wider}
use Rattle.propagate.proofs.clipping.go_down.Goals as goal

pub overflow_sub-lower : goal.overflow_sub-lower
overflow_sub-lower c =
    let s = c.args.side in
    let fs = c.ranges.steps in
    let fl : FitsSigned w64 s.lower = search rules in
    let fu : FitsSigned w64 s.upper = search rules in
    let from : c.from.result ≡ s.upper = simp to_z-of_z at c.from.ensures in
    let ff : FitsSigned w128 c.from.result = search rules in
    let fit : FitsSigned w64 (s.upper -ℤ c.args.steps) = between_fits s.lower s.upper (s.upper -ℤ c.args.steps) (omega (arith, ints, c.requires.least, c.requires.most)) (omega (arith, ints, c.requires.least, c.requires.most)) fl fu in
    simp to_z-of_z (rw from (wider (s.upper -ℤ c.args.steps) fit))

pub overflow_cast-result : goal.overflow_cast-result
overflow_cast-result c =
    let s = c.args.side in
    let fs = c.ranges.steps in
    let fl : FitsSigned w64 s.lower = search rules in
    let fu : FitsSigned w64 s.upper = search rules in
    let from : c.from.result ≡ s.upper = simp to_z-of_z at c.from.ensures in
    let ff : FitsSigned w128 c.from.result = search rules in
    let fit : FitsSigned w64 (s.upper -ℤ c.args.steps) = between_fits s.lower s.upper (s.upper -ℤ c.args.steps) (omega (arith, ints, c.requires.least, c.requires.most)) (omega (arith, ints, c.requires.least, c.requires.most)) fl fu in
    let both : FitsSigned w128 (c.from.result -ℤ c.args.steps) = rw from (wider (s.upper -ℤ c.args.steps) fit) in
    simp to_z-of_z (rw from fit)

pub returns : goal.returns
returns c =
    let s = c.args.side in
    let fs = c.ranges.steps in
    let fl : FitsSigned w64 s.lower = search rules in
    let fu : FitsSigned w64 s.upper = search rules in
    let from : c.from.result ≡ s.upper = simp to_z-of_z at c.from.ensures in
    let ff : FitsSigned w128 c.from.result = search rules in
    let fit : FitsSigned w64 (s.upper -ℤ c.args.steps) = between_fits s.lower s.upper (s.upper -ℤ c.args.steps) (omega (arith, ints, c.requires.least, c.requires.most)) (omega (arith, ints, c.requires.least, c.requires.most)) fl fu in
    let both : FitsSigned w128 (c.from.result -ℤ c.args.steps) = rw from (wider (s.upper -ℤ c.args.steps) fit) in
    let small : FitsSigned w64 (c.from.result -ℤ c.args.steps) = rw from fit in
    simp to_z-of_z (ap (λ z. z -ℤ c.args.steps) from)
