use Rattle.std.proofs.Common.{rules, FitsSigned}
use Rattle.std.specs.Int.{w128}
use Rattle.std.proofs.lemmas.Int.{to_z-of_z}
use Rattle.wide_num.specs.LowestTerms.{IsLowest}
use Rattle.wide_num.proofs.LowestLemmas.{lowest_from_gcd, same_value}
use Rattle.wide_num.proofs.UniqueLemmas.{same_lowest}
use Rattle.wide_num.proofs.lowest.reduce.Goals as goal

-- what is put together is in lowest terms
lowest : (c : goal.After-signed-2) → IsLowest c.args.top c.args.bottom (record { top = c.signed.result; bottom = c.signed-2.result })
lowest c =
    let top_range = c.ranges.top in
    let bottom_range = c.ranges.bottom in
    let over = simp to_z-of_z at c.unsigned_abs-over.ensures.value in
    let under = simp to_z-of_z at c.unsigned_abs-under.ensures.value in
    let sign = simp to_z-of_z at c.signed.ensures in
    lowest_from_gcd
    c.args.top
    c.args.bottom
    c.signed.result
    c.signed-2.result
    c.unsigned_abs-over.result
    c.unsigned_abs-under.result
    c.common_divisor-common.result
    c.exact_quotient.result
    c.exact_quotient-2.result
    c.requires.above
    c.common_divisor-common.ensures.above
    c.common_divisor-common.ensures.greatest
    over
    under
    c.exact_quotient.ensures
    c.exact_quotient-2.ensures
    sign
    c.signed-2.ensures

pub returns-clause-lowest : goal.returns-clause-lowest
returns-clause-lowest c =
    let top_fits : FitsSigned w128 c.signed.result = search rules in
    let bottom_fits : FitsSigned w128 c.signed-2.result = search rules in
    simp to_z-of_z (lowest c)

pub returns-clause-value : goal.returns-clause-value
returns-clause-value c =
    let top_fits : FitsSigned w128 c.signed.result = search rules in
    let bottom_fits : FitsSigned w128 c.signed-2.result = search rules in
    simp to_z-of_z (same_value c.args.top c.args.bottom (record { top = c.signed.result; bottom = c.signed-2.result }) (lowest c))

pub returns-clause-only : goal.returns-clause-only
returns-clause-only c =
    let top_fits : FitsSigned w128 c.signed.result = search rules in
    let bottom_fits : FitsSigned w128 c.signed-2.result = search rules in
    λ f h. simp to_z-of_z (same_lowest c.args.top c.args.bottom f (record { top = c.signed.result; bottom = c.signed-2.result }) h (lowest c))
