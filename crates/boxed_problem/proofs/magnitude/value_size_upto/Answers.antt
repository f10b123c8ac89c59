use Rattle.std.proofs.Common.{arith, ap, suc, ◌+◌, ◌*◌, ◌≤◌, length, FitsSigned, unsigned_abs, rules}
use Rattle.std.proofs.lemmas.Int.{to_z-of_z}
use Rattle.std.specs.Int.{w128}
use Rattle.boxed_problem.specs.BoxedFacts.{column_size}
use Rattle.boxed_problem.specs.Sides.{reach, side_at}
use Rattle.base_words.specs.Sums.{number_at, size_below}
use Rattle.base_words.proofs.SumBounds.{size_below-le}
use Rattle.boxed_problem.proofs.magnitude.value_size_upto.Goals as goal

pub returns-in_default : goal.returns-in_default
returns-in_default c =
    let j = c.loop-j.j in
    let g = column_size c.args.columns.now c.args.line.now c.args.square.now in
    let fl : FitsSigned w128 (number_at c.args.line.now j) = search rules in
    let fs : FitsSigned w128 (number_at c.args.square.now j) = search rules in
    let linear = ap (λ z. unsigned_abs z * reach (side_at c.args.columns.now j)) (to_z-of_z w128 (number_at c.args.line.now j) fl) in
    let squared = ap (λ z. unsigned_abs z * (reach (side_at c.args.columns.now j) * reach (side_at c.args.columns.now j))) (to_z-of_z w128 (number_at c.args.square.now j) fs) in
    let upto : size_below j g + g j ≤ size_below (length c.args.columns.now) g = size_below-le (suc j) (length c.args.columns.now) g (omega arith) in
    omega (arith, linear, squared, c.in_default.ensures, upto, c.loop-j.invariant.sum, ap unsigned_abs (to_z-of_z w128 c.args.constant c.ranges.constant))
