use Rattle.std.proofs.Common.{rules, ◌∙◌, ◌≡◌, ℕ, ◌+◌, ℤ, ◌+ℤ◌, to_z, FitsSigned}
use Rattle.std.proofs.lemmas.Int.{to_z-of_z}
use Rattle.std.specs.Int.{w128}
use Rattle.put_words.specs.NodeSums.{weight_at}
use Rattle.hedging.proofs.Fitting.{weight_sum_fits}
use Rattle.base_words.proofs.SumBounds.{fold_next}
use Rattle.hedging.proofs.sums.weight_over.Goals as goal

pub plus-sum-requires : goal.plus-sum-requires
plus-sum-requires c =
    let run = c.args.run.now in
    let ns = c.args.members.now in
    let k = c.loop-scenario.scenario-index in
    let f : ℕ → ℤ = weight_at run in
    let fp : FitsSigned w128 c.weight.result = search rules in
    let next = fold_next f ns k 0 (to_z w128 c.loop-scenario.sum-bits) c.weight.result c.loop-scenario-test.true c.loop-scenario.invariant c.weight.ensures in
    simp to_z-of_z (rw next (weight_sum_fits run ns (k + 1) c.requires))

pub loop-scenario-preserved : goal.loop-scenario-preserved
loop-scenario-preserved c =
    let run = c.args.run.now in
    let ns = c.args.members.now in
    let k = c.loop-scenario.scenario-index in
    let f : ℕ → ℤ = weight_at run in
    let fp : FitsSigned w128 c.weight.result = search rules in
    let fs : FitsSigned w128 c.plus-sum.result = search rules in
    let next = fold_next f ns k 0 (to_z w128 c.loop-scenario.sum-bits) c.weight.result c.loop-scenario-test.true c.loop-scenario.invariant c.weight.ensures in
    let whole : c.plus-sum.result ≡ (to_z w128 c.loop-scenario.sum-bits +ℤ c.weight.result) = simp to_z-of_z at c.plus-sum.ensures in
    simp to_z-of_z (whole ∙ next)
