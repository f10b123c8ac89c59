use Rattle.std.proofs.Common.{rules, refl, ap, ◌∙◌, ◌≡◌, ℤ, ◌-ℤ◌, ◌*ℤ◌, FitsSigned}
use Rattle.std.proofs.lemmas.Int.{to_z-of_z}
use Rattle.std.specs.Int.{w128}
use Rattle.hedging.proofs.Fitting.{apart_fits, whole_fits}
use Rattle.put_words.specs.NodeSums.{value_at, weight_of}
use Rattle.tree_core.specs.Nodes.{scenarios_at}
use Rattle.hedging.proofs.moving.apart.Goals as goal

pub times-whole-requires : goal.times-whole-requires
times-whole-requires c =
    let fw : FitsSigned w128 c.args.sums.now.weight = search rules in
    let fv : FitsSigned w128 c.wide_value.result = search rules in
    let h : FitsSigned w128 (c.args.sums.now.weight *ℤ c.wide_value.result) = rw (c.requires.sums.weight, c.wide_value.ensures) (whole_fits c.args.run.now c.args.x.now c.args.node c.args.scenario c.args.column c.requires.inside c.requires.node c.requires.scenario c.requires.column) in
    simp to_z-of_z h

pub minus-requires : goal.minus-requires
minus-requires c =
    let run = c.args.run.now in
    let ns = scenarios_at run.program.tree.nodes c.args.node in
    let fw : FitsSigned w128 c.args.sums.now.weight = search rules in
    let fv : FitsSigned w128 c.wide_value.result = search rules in
    let ft : FitsSigned w128 c.times-whole.result = search rules in
    let fs : FitsSigned w128 c.args.sums.now.sum = search rules in
    let whole : c.times-whole.result ≡ (weight_of run ns *ℤ value_at run c.args.x.now c.args.scenario c.args.column) = (simp to_z-of_z at c.times-whole.ensures) ∙ rw (c.requires.sums.weight, c.wide_value.ensures) refl in
    let h : FitsSigned w128 (c.times-whole.result -ℤ c.args.sums.now.sum) = rw (whole, c.requires.sums.sum) (apart_fits run c.args.x.now c.args.node c.args.scenario c.args.column c.requires.inside c.requires.node c.requires.scenario c.requires.column) in
    simp to_z-of_z h

pub returns : goal.returns
returns c =
    let run = c.args.run.now in
    let ns = scenarios_at run.program.tree.nodes c.args.node in
    let fw : FitsSigned w128 c.args.sums.now.weight = search rules in
    let fv : FitsSigned w128 c.wide_value.result = search rules in
    let ft : FitsSigned w128 c.times-whole.result = search rules in
    let fs : FitsSigned w128 c.args.sums.now.sum = search rules in
    let fd : FitsSigned w128 c.minus.result = search rules in
    let product : ℤ = weight_of run ns *ℤ value_at run c.args.x.now c.args.scenario c.args.column in
    let whole : c.times-whole.result ≡ product = (simp to_z-of_z at c.times-whole.ensures) ∙ rw (c.requires.sums.weight, c.wide_value.ensures) refl in
    let less : c.minus.result ≡ (c.times-whole.result -ℤ c.args.sums.now.sum) = simp to_z-of_z at c.minus.ensures in
    simp to_z-of_z (less ∙ ap (λ z. z -ℤ c.args.sums.now.sum) whole ∙ ap (λ z. product -ℤ z) c.requires.sums.sum)
