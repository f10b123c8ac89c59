use Rattle.std.proofs.Common.{rules, arith, ap, ◌∙◌, ◌≡◌, ◌≤◌, ◌^◌, pos, ◌*ℤ◌, unsigned_abs, FitsSigned}
use Rattle.std.proofs.lemmas.Int.{to_z-of_z}
use Rattle.std.specs.Int.{w128}
use Rattle.tree_core.specs.Nodes.{scenarios_at}
use Rattle.put_words.specs.NextMultipliers.{rounded_down}
use Rattle.put_words.specs.NodeSums.{sum_of, weight_at, weight_of}
use Rattle.hedging.proofs.Fitting.{pull_fits, rate_small}
use Rattle.hedging.proofs.moving.pull.Goals as goal

pub twice-requires : goal.twice-requires
twice-requires c =
    let run = c.args.run.now in
    let fr : FitsSigned w128 c.rate.result = search rules in
    let bound : unsigned_abs (run.options.rho *ℤ weight_at run c.args.scenario) ≤ 2 ^ 123 = omega (arith, rate_small run c.args.scenario c.requires.scenario) in
    let small : unsigned_abs c.rate.result ≤ 2 ^ 123 = rw c.rate.ensures bound in
    simp to_z-of_z small

pub times-product-requires : goal.times-product-requires
times-product-requires c =
    let fr : FitsSigned w128 c.rate.result = search rules in
    let ft : FitsSigned w128 c.twice.result = search rules in
    let fs : FitsSigned w128 c.args.sums.now.sum = search rules in
    let double : c.twice.result ≡ (pos 2 *ℤ c.rate.result) = simp to_z-of_z at c.twice.ensures in
    let h : FitsSigned w128 (c.twice.result *ℤ c.args.sums.now.sum) = rw (double, c.rate.ensures, c.requires.sums.sum) (pull_fits c.args.run.now c.args.x.now c.args.node c.args.scenario c.args.column c.requires.inside c.requires.node c.requires.scenario c.requires.column) in
    simp to_z-of_z h

pub returns : goal.returns
returns c =
    let run = c.args.run.now in
    let x = c.args.x.now in
    let nodes = run.program.tree.nodes in
    let j = c.args.column in
    let rate = run.options.rho *ℤ weight_at run c.args.scenario in
    let fr : FitsSigned w128 c.rate.result = search rules in
    let ft : FitsSigned w128 c.twice.result = search rules in
    let fs : FitsSigned w128 c.args.sums.now.sum = search rules in
    let fp : FitsSigned w128 c.times-product.result = search rules in
    let fq : FitsSigned w128 c.share.result = search rules in
    let double : c.twice.result ≡ (pos 2 *ℤ c.rate.result) = simp to_z-of_z at c.twice.ensures in
    let product : c.times-product.result ≡ (c.twice.result *ℤ c.args.sums.now.sum) = simp to_z-of_z at c.times-product.ensures in
    let share : c.share.result ≡ rounded_down c.times-product.result (weight_of run (scenarios_at nodes c.args.node)) = simp to_z-of_z at c.share.ensures in
    let numerator : c.times-product.result ≡ ((pos 2 *ℤ rate) *ℤ sum_of run x (scenarios_at nodes c.args.node) j) =
    product
    ∙ ap (λ z. z *ℤ c.args.sums.now.sum) (double ∙ ap (λ z. pos 2 *ℤ z) c.rate.ensures)
    ∙ ap (λ z. (pos 2 *ℤ rate) *ℤ z) c.requires.sums.sum in
    simp to_z-of_z
    (share
    ∙ ap (λ z. rounded_down z (weight_of run (scenarios_at nodes c.args.node))) numerator
    ∙ ap (λ n. rounded_down ((pos 2 *ℤ rate) *ℤ sum_of run x (scenarios_at nodes n) j) (weight_of run (scenarios_at nodes n))) c.requires.is)
