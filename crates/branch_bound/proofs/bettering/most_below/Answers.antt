use Rattle.std.proofs.Common.{sym, subst, ◌≡◌, ◌*ℤ◌, ◌≤ℤ◌, ◌<ℤ◌, ℤ, FitsSigned, rules}
use Rattle.std.proofs.lemmas.Int.{to_z-of_z}
use Rattle.std.specs.Int.{w128}
use Rattle.boxed_problem.specs.Data.{problem_of}
use Rattle.branch_bound.specs.Bettering.{IsMost}
use Rattle.branch_bound.specs.ValueGrid.{Apart}
use Rattle.branch_bound.proofs.BetterLaws.{most_is}
use Rattle.branch_bound.proofs.bettering.most_below.Goals as goal

pub returns : goal.returns
returns c = λ x i d.
    let b = problem_of c.args.problem.now in
    let best = c.in-Some.best in
    let scale = c.args.scale in
    let grid = c.args.grid in
    let below = c.in-Some-greatest_below.below in
    let most = c.in-Some-scaled.most in
    let fs = c.ranges.scale in
    let fb : FitsSigned w128 grid.base = search rules in
    let ft : FitsSigned w128 grid.step = search rules in
    let fv : FitsSigned w128 best.value = search rules in
    let fw : FitsSigned w128 below = search rules in
    let fm : FitsSigned w128 most = search rules in
    let e : most ≡ (scale *ℤ below) = simp to_z-of_z at c.in-Some-scaled.ensures in
    let highest : (v : ℤ) → Apart grid.step v grid.base → v <ℤ best.value → v ≤ℤ below = simp to_z-of_z at c.in-Some-greatest_below.ensures in
    let is = subst (λ o. IsMost b o scale most) (sym c.in-Some.is) (most_is b best grid.base grid.step scale below most c.requires.scale c.requires.grid highest e) in
    simp to_z-of_z (is x i d)
