use Rattle.std.proofs.Common.{rules, arith, pos, ◌+ℤ◌, ◌<ℤ◌, ◌≡◌}
use Rattle.std.specs.Prelude.{FitsSigned}
use Rattle.std.specs.Int.{w128}
use Rattle.std.proofs.lemmas.Int.{ints, to_z-of_z}
use Rattle.wide_num.proofs.QuotientLemmas.{ceiling_at, ceiling_above}
use Rattle.wide_num.proofs.quotient.ceil_div.Goals as goal

pub returns-then-rem_euclid-eq0 : goal.returns-then-rem_euclid-eq0
returns-then-rem_euclid-eq0 c =
    let a = c.ranges.a in
    let b = c.ranges.b in
    let fits : FitsSigned w128 c.div_euclid-down.result = search rules in
    let down = simp to_z-of_z at c.div_euclid-down.ensures in
    let rest = simp to_z-of_z at c.rem_euclid.ensures.value in
    let none : c.rem_euclid.result ≡ pos 0 = grind (arith, ints, c.rem_euclid.ensures.lower_bound, c.if-rem_euclid-eq0.true) in
    rw (to_z-of_z w128 c.div_euclid-down.result fits) (ceiling_at c.args.a c.args.b c.div_euclid-down.result c.requires down (rw rest at none))

pub returns-else-rem_euclid-eq0 : goal.returns-else-rem_euclid-eq0
returns-else-rem_euclid-eq0 c =
    let a = c.ranges.a in
    let b = c.ranges.b in
    let fits : FitsSigned w128 c.div_euclid-down.result = search rules in
    let down = simp to_z-of_z at c.div_euclid-down.ensures in
    let rest = simp to_z-of_z at c.rem_euclid.ensures.value in
    let upper = simp to_z-of_z at c.rem_euclid.ensures.upper_bound in
    let some : pos 0 <ℤ c.rem_euclid.result = grind (arith, ints, c.rem_euclid.ensures.lower_bound, c.if-rem_euclid-eq0.false) in
    let less : c.rem_euclid.result <ℤ c.args.b = grind (arith, ints, c.rem_euclid.ensures.lower_bound, upper) in
    let more : FitsSigned w128 (c.div_euclid-down.result +ℤ pos 1) = search rules in
    simp to_z-of_z (ceiling_above c.args.a c.args.b c.div_euclid-down.result c.requires down (rw rest at some) (rw rest at less))
