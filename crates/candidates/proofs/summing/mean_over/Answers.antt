use Rattle.std.proofs.Common.{rules, ap, ◌∙◌, ◌≡◌, pos, ◌+ℤ◌, ◌*ℤ◌, ◌<ℤ◌, FitsSigned}
use Rattle.std.proofs.lemmas.Int.{to_z-of_z}
use Rattle.std.specs.Int.{w128}
use Rattle.put_words.specs.NextMultipliers.{rounded_down}
use Rattle.put_words.specs.NodeSums.{sum_of, weight_of}
use Rattle.tree_core.specs.Nodes.{scenarios_at}
use Rattle.candidates.proofs.Means.{node_filled, node_members, numerator_fits, twice_sum_fits, twice_weight_fits, twice_weight_positive}
use Rattle.candidates.proofs.summing.mean_over.Goals as goal

pub times-twice-requires : goal.times-twice-requires
times-twice-requires c =
    let run = c.args.run.now in
    let fs : FitsSigned w128 c.node_sum.result = search rules in
    let h : FitsSigned w128 (pos 2 *ℤ c.node_sum.result) = rw c.node_sum.ensures (twice_sum_fits run c.args.x.now (scenarios_at run.program.tree.nodes c.args.node) c.args.column c.requires.inside (node_members run c.args.node c.requires.node) c.requires.column) in
    simp to_z-of_z h

pub plus-requires : goal.plus-requires
plus-requires c =
    let run = c.args.run.now in
    let x = c.args.x.now in
    let j = c.args.column in
    let ns = scenarios_at run.program.tree.nodes c.args.node in
    let fs : FitsSigned w128 c.node_sum.result = search rules in
    let ft : FitsSigned w128 c.times-twice.result = search rules in
    let fw : FitsSigned w128 c.weight_over-weight.result = search rules in
    let weight : c.weight_over-weight.result ≡ weight_of run ns = c.weight_over-weight.ensures ∙ ap (weight_of run) c.members.ensures.value in
    let doubled : c.times-twice.result ≡ (pos 2 *ℤ c.node_sum.result) = simp to_z-of_z at c.times-twice.ensures in
    let twice : c.times-twice.result ≡ (pos 2 *ℤ sum_of run x ns j) = doubled ∙ ap (λ z. pos 2 *ℤ z) c.node_sum.ensures in
    let h : FitsSigned w128 (c.times-twice.result +ℤ c.weight_over-weight.result) = rw (twice, weight) (numerator_fits run x ns j c.requires.inside (node_members run c.args.node c.requires.node) c.requires.column) in
    simp to_z-of_z h

pub times-requires : goal.times-requires
times-requires c =
    let run = c.args.run.now in
    let ns = scenarios_at run.program.tree.nodes c.args.node in
    let fw : FitsSigned w128 c.weight_over-weight.result = search rules in
    let weight : c.weight_over-weight.result ≡ weight_of run ns = c.weight_over-weight.ensures ∙ ap (weight_of run) c.members.ensures.value in
    let h : FitsSigned w128 (pos 2 *ℤ c.weight_over-weight.result) = rw weight (twice_weight_fits run ns (node_members run c.args.node c.requires.node)) in
    simp to_z-of_z h

pub quotient-requires : goal.quotient-requires
quotient-requires c =
    let run = c.args.run.now in
    let ns = scenarios_at run.program.tree.nodes c.args.node in
    let fw : FitsSigned w128 c.weight_over-weight.result = search rules in
    let fb : FitsSigned w128 c.times.result = search rules in
    let weight : c.weight_over-weight.result ≡ weight_of run ns = c.weight_over-weight.ensures ∙ ap (weight_of run) c.members.ensures.value in
    let doubled : c.times.result ≡ (pos 2 *ℤ c.weight_over-weight.result) = simp to_z-of_z at c.times.ensures in
    let bottom : c.times.result ≡ (pos 2 *ℤ weight_of run ns) = doubled ∙ ap (λ z. pos 2 *ℤ z) weight in
    let h : pos 0 <ℤ c.times.result = rw bottom (twice_weight_positive run ns (node_members run c.args.node c.requires.node) (node_filled run c.args.node c.requires.node)) in
    simp to_z-of_z h

pub returns : goal.returns
returns c =
    let run = c.args.run.now in
    let x = c.args.x.now in
    let j = c.args.column in
    let ns = scenarios_at run.program.tree.nodes c.args.node in
    let fs : FitsSigned w128 c.node_sum.result = search rules in
    let ft : FitsSigned w128 c.times-twice.result = search rules in
    let fw : FitsSigned w128 c.weight_over-weight.result = search rules in
    let fp : FitsSigned w128 c.plus.result = search rules in
    let fb : FitsSigned w128 c.times.result = search rules in
    let fq : FitsSigned w128 c.quotient.result = search rules in
    let weight : c.weight_over-weight.result ≡ weight_of run ns = c.weight_over-weight.ensures ∙ ap (weight_of run) c.members.ensures.value in
    let doubled : c.times-twice.result ≡ (pos 2 *ℤ c.node_sum.result) = simp to_z-of_z at c.times-twice.ensures in
    let added : c.plus.result ≡ (c.times-twice.result +ℤ c.weight_over-weight.result) = simp to_z-of_z at c.plus.ensures in
    let below : c.times.result ≡ (pos 2 *ℤ c.weight_over-weight.result) = simp to_z-of_z at c.times.ensures in
    let quotient : c.quotient.result ≡ rounded_down c.plus.result c.times.result = simp to_z-of_z at c.quotient.ensures in
    let twice : c.times-twice.result ≡ (pos 2 *ℤ sum_of run x ns j) = doubled ∙ ap (λ z. pos 2 *ℤ z) c.node_sum.ensures in
    let top : c.plus.result ≡ ((pos 2 *ℤ sum_of run x ns j) +ℤ weight_of run ns) = added ∙ ap (λ z. z +ℤ c.weight_over-weight.result) twice ∙ ap (λ z. (pos 2 *ℤ sum_of run x ns j) +ℤ z) weight in
    let bottom : c.times.result ≡ (pos 2 *ℤ weight_of run ns) = below ∙ ap (λ z. pos 2 *ℤ z) weight in
    simp to_z-of_z (quotient ∙ ap (λ z. rounded_down z c.times.result) top ∙ ap (rounded_down ((pos 2 *ℤ sum_of run x ns j) +ℤ weight_of run ns)) bottom)
