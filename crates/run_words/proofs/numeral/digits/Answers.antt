use Rattle.std.proofs.Common.{arith, ◌+◌}
use Rattle.run_words.proofs.Digits.{digit_in, next_value, value_below, power_below}
use Rattle.run_words.proofs.numeral.digits.Goals as goal

pub overflow_mul-value : goal.overflow_mul-value
overflow_mul-value c =
    let p = value_below c.loop-b.b-index c.loop-b.value 0 c.loop-b.invariant.below (omega arith) in
    let q = power_below (c.loop-b.b-index + 1) (omega arith) in
    omega (arith, p, q)

pub overflow_add-value : goal.overflow_add-value
overflow_add-value c =
    let r = digit_in c.args.text.now c.loop-b.b-index c.requires.digits c.loop-b-test.true in
    let p = value_below c.loop-b.b-index c.loop-b.value c.from.result c.loop-b.invariant.below (omega (arith, r.0, r.1, c.from.ensures)) in
    let q = power_below (c.loop-b.b-index + 1) (omega arith) in
    omega (arith, p, q)

pub loop-b-preserved : goal.loop-b-preserved
loop-b-preserved c =
    let r = digit_in c.args.text.now c.loop-b.b-index c.requires.digits c.loop-b-test.true in
    record {
      value = next_value c.args.text.now c.loop-b.b-index c.loop-b.value c.from.result c.requires.digits c.loop-b-test.true c.loop-b.invariant.value (omega (arith, r.0, r.1, c.from.ensures));
      below = value_below c.loop-b.b-index c.loop-b.value c.from.result c.loop-b.invariant.below (omega (arith, r.0, r.1, c.from.ensures));
    }
