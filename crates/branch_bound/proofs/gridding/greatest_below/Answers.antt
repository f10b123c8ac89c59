use Rattle.std.proofs.Common.{arith, ap, ◌∙◌, ◌≡◌, ◌+ℤ◌, ◌-ℤ◌, ◌*ℤ◌, pos, FitsSigned, rules}
use Rattle.std.proofs.lemmas.Int.{ints, to_z-of_z}
use Rattle.std.specs.Int.{int_div_euclid, w128}
use Rattle.branch_bound.proofs.GridLaws.{at_most_floor}
use Rattle.branch_bound.proofs.gridding.greatest_below.Goals as goal

pub returns : goal.returns
returns c = λ v a l.
    let base = c.args.grid.base in
    let step = c.args.grid.step in
    let fv = c.ranges.value in
    let fb : FitsSigned w128 base = search rules in
    let fs : FitsSigned w128 step = search rules in
    let ft : FitsSigned w128 c.in_ok-top.top = search rules in
    let ff : FitsSigned w128 c.in_ok-far.far = search rules in
    let fq : FitsSigned w128 c.div_euclid.result = search rules in
    let fm : FitsSigned w128 c.in_ok-more.more = search rules in
    let fw : FitsSigned w128 c.in_ok-below.below = search rules in
    let top : FitsSigned w128 (c.args.value -ℤ pos 1) × (c.in_ok-top.top ≡ (c.args.value -ℤ pos 1)) = simp to_z-of_z at c.in_ok-top.ensures in
    let far : FitsSigned w128 (c.in_ok-top.top -ℤ base) × (c.in_ok-far.far ≡ (c.in_ok-top.top -ℤ base)) = simp to_z-of_z at c.in_ok-far.ensures in
    let quotient : c.div_euclid.result ≡ int_div_euclid c.in_ok-far.far step = simp to_z-of_z at c.div_euclid.ensures in
    let more : FitsSigned w128 (step *ℤ c.div_euclid.result) × (c.in_ok-more.more ≡ (step *ℤ c.div_euclid.result)) = simp to_z-of_z at c.in_ok-more.ensures in
    let below : FitsSigned w128 (base +ℤ c.in_ok-more.more) × (c.in_ok-below.below ≡ (base +ℤ c.in_ok-more.more)) = simp to_z-of_z at c.in_ok-below.ensures in
    let same : c.in_ok-more.more ≡ (step *ℤ int_div_euclid (c.in_ok-top.top -ℤ base) step) = more.1 ∙ ap (λ z. step *ℤ z) (quotient ∙ ap (λ z. int_div_euclid z step) far.1) in
    let most = at_most_floor step base c.in_ok-top.top v c.requires a (omega (arith, ints, top.1, l)) in
    simp to_z-of_z (omega (arith, ints, most, below.1, same))
