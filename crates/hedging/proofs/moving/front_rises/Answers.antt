use Rattle.std.proofs.Common.{rules, arith, ap, ◌∙◌, ◌≡◌, ℕ, ◌+◌, ◌<◌, List, length, get_or, ℤ, ◌+ℤ◌, to_z, FitsSigned}
use Rattle.std.proofs.lemmas.Int.{to_z-of_z}
use Rattle.std.specs.Int.{w128}
use Rattle.base_words.proofs.SumBounds.{fold_next}
use Rattle.tree_core.specs.Nodes.{scenarios_at}
use Rattle.put_words.specs.NextMultipliers.{rise}
use Rattle.hedging.proofs.Fitting.{node_filled, rises_fit}
use Rattle.hedging.proofs.moving.front_rises.Goals as goal

pub overflow_sub-i-end : goal.overflow_sub-i-end
overflow_sub-i-end c = omega (arith, ap length c.members-members.ensures.value, node_filled c.args.run.now c.args.node c.requires.node)

pub plus-sum-requires : goal.plus-sum-requires
plus-sum-requires c =
    let run = c.args.run.now in
    let ns = scenarios_at run.program.tree.nodes c.args.node in
    let k = c.loop-i.i in
    let f : ℕ → ℤ = rise run c.args.x.now ns c.args.column in
    let fp : FitsSigned w128 c.rise.result = search rules in
    let within : k < length ns = omega (arith, ap length c.members-members.ensures.value, c.loop-i-test.true) in
    let is : c.rise.result ≡ f (get_or ns k 0) = c.rise.ensures ∙ ap (λ (ms : List ℕ). f (get_or ms k 0)) c.members-members.ensures.value in
    let next = fold_next f ns k 0 (to_z w128 c.loop-i.sum-bits) c.rise.result within c.loop-i.invariant is in
    simp to_z-of_z (rw next (rises_fit run c.args.x.now c.args.node c.args.column (k + 1) c.requires.inside c.requires.node c.requires.column))

pub loop-i-preserved : goal.loop-i-preserved
loop-i-preserved c =
    let run = c.args.run.now in
    let ns = scenarios_at run.program.tree.nodes c.args.node in
    let k = c.loop-i.i in
    let f : ℕ → ℤ = rise run c.args.x.now ns c.args.column in
    let fp : FitsSigned w128 c.rise.result = search rules in
    let fs : FitsSigned w128 c.plus-sum.result = search rules in
    let within : k < length ns = omega (arith, ap length c.members-members.ensures.value, c.loop-i-test.true) in
    let is : c.rise.result ≡ f (get_or ns k 0) = c.rise.ensures ∙ ap (λ (ms : List ℕ). f (get_or ms k 0)) c.members-members.ensures.value in
    let next = fold_next f ns k 0 (to_z w128 c.loop-i.sum-bits) c.rise.result within c.loop-i.invariant is in
    let whole : c.plus-sum.result ≡ (to_z w128 c.loop-i.sum-bits +ℤ c.rise.result) = simp to_z-of_z at c.plus-sum.ensures in
    simp to_z-of_z (whole ∙ next)
