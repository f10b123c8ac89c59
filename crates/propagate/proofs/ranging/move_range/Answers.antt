use Rattle.std.proofs.Common.{◌≡◌, ◌^◌, FitsSigned, rules}
use Rattle.std.proofs.lemmas.Int.{to_z-of_z}
use Rattle.std.specs.Int.{w128}
use Rattle.propagate.specs.Ranged.{high_end, low_end, moved}
use Rattle.propagate.proofs.RangingLaws.{ends_small, same_range}
use Rattle.propagate.proofs.ranging.move_range.Goals as goal

pub replace_part-requires-clause-before : goal.replace_part-requires-clause-before
replace_part-requires-clause-before c =
    let f : FitsSigned w128 c.ends-before.result.low = search rules in
    let fv = c.ranges.value in
    let e : c.ends-before.result.low ≡ low_end c.args.value c.args.old = simp to_z-of_z at c.ends-before.ensures.low in
    simp to_z-of_z (rw e (ends_small c.args.value c.args.old (2 ^ 122) c.requires.old_fits).0)

pub replace_part-requires-clause-after : goal.replace_part-requires-clause-after
replace_part-requires-clause-after c =
    let f : FitsSigned w128 c.ends-after.result.low = search rules in
    let fv = c.ranges.value in
    let e : c.ends-after.result.low ≡ low_end c.args.value c.args.new = simp to_z-of_z at c.ends-after.ensures.low in
    simp to_z-of_z (rw e (ends_small c.args.value c.args.new (2 ^ 122) c.requires.new_fits).0)

pub replace_part-requires-2-clause-before : goal.replace_part-requires-2-clause-before
replace_part-requires-2-clause-before c =
    let f : FitsSigned w128 c.ends-before.result.high = search rules in
    let fv = c.ranges.value in
    let e : c.ends-before.result.high ≡ high_end c.args.value c.args.old = simp to_z-of_z at c.ends-before.ensures.high in
    simp to_z-of_z (rw e (ends_small c.args.value c.args.old (2 ^ 122) c.requires.old_fits).1)

pub replace_part-requires-2-clause-after : goal.replace_part-requires-2-clause-after
replace_part-requires-2-clause-after c =
    let f : FitsSigned w128 c.ends-after.result.high = search rules in
    let fv = c.ranges.value in
    let e : c.ends-after.result.high ≡ high_end c.args.value c.args.new = simp to_z-of_z at c.ends-after.ensures.high in
    simp to_z-of_z (rw e (ends_small c.args.value c.args.new (2 ^ 122) c.requires.new_fits).1)

pub returns : goal.returns
returns c =
    let fv = c.ranges.value in
    let fbl : FitsSigned w128 c.ends-before.result.low = search rules in
    let fbh : FitsSigned w128 c.ends-before.result.high = search rules in
    let fal : FitsSigned w128 c.ends-after.result.low = search rules in
    let fah : FitsSigned w128 c.ends-after.result.high = search rules in
    let frl : FitsSigned w128 c.args.range.low = search rules in
    let frh : FitsSigned w128 c.args.range.high = search rules in
    let fl : FitsSigned w128 c.replace_part.result = search rules in
    let fh : FitsSigned w128 c.replace_part-2.result = search rules in
    let low = rw (simp to_z-of_z at c.ends-before.ensures.low, simp to_z-of_z at c.ends-after.ensures.low) at (simp to_z-of_z at c.replace_part.ensures) in
    let high = rw (simp to_z-of_z at c.ends-before.ensures.high, simp to_z-of_z at c.ends-after.ensures.high) at (simp to_z-of_z at c.replace_part-2.ensures) in
    simp to_z-of_z (same_range (record { low = c.replace_part.result; high = c.replace_part-2.result }) (moved c.args.value c.args.old c.args.new c.args.range) low high)
