use Rattle.std.proofs.Common.{arith, pos, ◌≤ℤ◌, ◌-ℤ◌, ◌<ℤ◌, FitsSigned}
use Rattle.std.proofs.lemmas.Int.{ints, to_z-of_z}
use Rattle.std.specs.Int.{w128}
use Rattle.propagate.proofs.ClipLaws.{above_falling, above_rising, negated_fits}
use Rattle.propagate.proofs.clipping.cut_above.Goals as goal

pub returns-then-value-gt0 : goal.returns-then-value-gt0
returns-then-value-gt0 c =
    let s = c.args.side in
    let fv = c.ranges.value in
    let fk = c.ranges.slack in
    let sign : pos 0 <ℤ c.args.value = omega (arith, ints, c.if-value-gt0.true) in
    let filled : s.lower ≤ℤ s.upper = omega (arith, ints, c.requires.wide) in
    let raw = simp to_z-of_z at c.keep_low.ensures in
    record { inside = raw.inside; keeps = λ x l u h. (omega (arith, ints, raw.lower, l), raw.keeps x u (above_rising c.args.value s x c.args.slack sign filled h)) }

pub returns-then-value-lt0 : goal.returns-then-value-lt0
returns-then-value-lt0 c =
    let s = c.args.side in
    let fv = c.ranges.value in
    let fk = c.ranges.slack in
    let sign : c.args.value <ℤ pos 0 = omega (arith, ints, c.if-value-lt0.true) in
    let filled : s.lower ≤ℤ s.upper = omega (arith, ints, c.requires.wide) in
    let fn : FitsSigned w128 (pos 0 -ℤ c.args.value) = negated_fits c.args.value s c.requires.wide c.requires.fits in
    let raw = simp to_z-of_z at c.keep_high.ensures in
    record { inside = raw.inside; keeps = λ x l u h. (raw.keeps x l (above_falling c.args.value s x c.args.slack sign filled h), omega (arith, ints, raw.upper, u)) }
