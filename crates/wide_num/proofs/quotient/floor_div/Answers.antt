use Rattle.std.proofs.Common.{rules}
use Rattle.std.specs.Prelude.{FitsSigned}
use Rattle.std.specs.Int.{w128}
use Rattle.std.proofs.lemmas.Int.{to_z-of_z}
use Rattle.wide_num.proofs.QuotientLemmas.{floor_from_euclid}
use Rattle.wide_num.proofs.quotient.floor_div.Goals as goal

pub returns : goal.returns
returns c =
    let a = c.ranges.a in
    let b = c.ranges.b in
    let fits : FitsSigned w128 c.div_euclid.result = search rules in
    let quotient = simp to_z-of_z at c.div_euclid.ensures in
    rw (to_z-of_z w128 c.div_euclid.result fits) (floor_from_euclid c.args.a c.args.b c.div_euclid.result c.requires quotient)
