use Rattle.std.proofs.Common.{arith}
use Rattle.std.proofs.lemmas.Int.{to_z-of_z}
use Rattle.base_words.proofs.Magnitudes.{less_fits}
use Rattle.propagate.proofs.RangingLaws.{less_more_fit}
use Rattle.propagate.proofs.ranging.replace_part.Goals as goal

pub overflow_sub-result : goal.overflow_sub-result
overflow_sub-result c =
    let fs = c.ranges.sum in
    let fb = c.ranges.before in
    simp to_z-of_z (less_fits c.args.sum c.args.before (omega (arith, c.requires.sum)) (omega (arith, c.requires.before)))

pub overflow_add-result : goal.overflow_add-result
overflow_add-result c =
    let fs = c.ranges.sum in
    let fb = c.ranges.before in
    let fa = c.ranges.after in
    let f = less_fits c.args.sum c.args.before (omega (arith, c.requires.sum)) (omega (arith, c.requires.before)) in
    simp to_z-of_z (less_more_fit c.args.sum c.args.before c.args.after c.requires.sum c.requires.before c.requires.after)

pub returns : goal.returns
returns c =
    let fs = c.ranges.sum in
    let fb = c.ranges.before in
    let fa = c.ranges.after in
    let f = less_fits c.args.sum c.args.before (omega (arith, c.requires.sum)) (omega (arith, c.requires.before)) in
    let g = less_more_fit c.args.sum c.args.before c.args.after c.requires.sum c.requires.before c.requires.after in
    simp to_z-of_z
