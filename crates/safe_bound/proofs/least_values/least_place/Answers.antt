use Rattle.std.proofs.Common.{arith, ◌≡◌, ◌^◌, pos, ◌≤ℤ◌, ◌<ℤ◌, FitsSigned, w64, rules}
use Rattle.std.proofs.lemmas.Int.{ints, to_z-of_z}
use Rattle.std.specs.Int.{w128}
use Rattle.safe_bound.proofs.Vertex.{falling_least, nearest_least, rising_least}
use Rattle.boxed_problem.proofs.Narrower.{numbers_small}
use Rattle.safe_bound.proofs.least_values.least_place.Goals as goal

pub turning_place-requires-clause-small_line : goal.turning_place-requires-clause-small_line
turning_place-requires-clause-small_line c =
    let a = c.ranges.line in
    let wide : c.args.side.lower <ℤ c.args.side.upper = omega (arith, ints, c.if-side.false) in
    simp to_z-of_z ((numbers_small c.args.line c.args.square c.args.side (2 ^ 125) wide c.requires.fits).0)

pub turning_place-requires-clause-small_square : goal.turning_place-requires-clause-small_square
turning_place-requires-clause-small_square c =
    let a = c.ranges.square in
    let wide : c.args.side.lower <ℤ c.args.side.upper = omega (arith, ints, c.if-side.false) in
    simp to_z-of_z ((numbers_small c.args.line c.args.square c.args.side (2 ^ 125) wide c.requires.fits).1)

pub returns-then-square-gt0 : goal.returns-then-square-gt0
returns-then-square-gt0 c =
    let a = c.ranges.line in
    let b = c.ranges.square in
    let fv : FitsSigned w128 c.turning_place.result = search rules in
    let fn : FitsSigned w64 c.nearest.result = search rules in
    let above : pos 0 <ℤ c.args.square = omega (arith, ints, c.if-square-gt0.true) in
    let v = simp to_z-of_z at c.turning_place.ensures in
    let n = simp to_z-of_z at c.nearest.ensures in
    simp to_z-of_z (nearest_least c.args.line c.args.square c.args.side c.turning_place.result c.nearest.result above v n)

pub returns-then-line-lt0 : goal.returns-then-line-lt0
returns-then-line-lt0 c =
    let fu : FitsSigned w64 c.args.side.upper = search rules in
    let none : c.args.square ≡ pos 0 = omega (arith, ints, c.if-square-gt0.false, c.requires.convex) in
    let below : c.args.line <ℤ pos 0 = omega (arith, ints, c.if-line-lt0.true) in
    simp to_z-of_z (falling_least c.args.line c.args.square c.args.side c.requires.filled none below)

pub returns-else-line-lt0 : goal.returns-else-line-lt0
returns-else-line-lt0 c =
    let fl : FitsSigned w64 c.args.side.lower = search rules in
    let none : c.args.square ≡ pos 0 = omega (arith, ints, c.if-square-gt0.false, c.requires.convex) in
    let above : pos 0 ≤ℤ c.args.line = omega (arith, ints, c.if-line-lt0.false) in
    simp to_z-of_z (rising_least c.args.line c.args.square c.args.side c.requires.filled none above)
