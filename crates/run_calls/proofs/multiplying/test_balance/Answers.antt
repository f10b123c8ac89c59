use Rattle.std.proofs.Common.{rules, ap, sym, ◌∙◌, ◌≡◌, FitsSigned}
use Rattle.std.proofs.lemmas.Int.{to_z-of_z}
use Rattle.std.specs.Int.{w128}
use Rattle.base_words.specs.ListSums.{sum_z}
use Rattle.run_calls.specs.MultiplierTests.{balance_of}
use Rattle.sp_model.specs.Plans.{multiplier_of}
use Rattle.run_calls.proofs.MultiplierFaults.{fault_is, no_fault}
use Rattle.run_calls.proofs.multiplying.test_balance.Goals as goal

pub returns-then-is_unbalanced : goal.returns-then-is_unbalanced
returns-then-is_unbalanced c =
    let run = c.args.run.now in
    let multipliers = c.args.multipliers.now in
    let sum = c.sum_over-sum.result in
    let fits : FitsSigned w128 sum = search rules in
    let is : sum ≡ balance_of run multipliers c.args.node c.args.column = c.sum_over-sum.ensures ∙ ap (λ ns. sum_z (λ s. multiplier_of run multipliers s c.args.column) ns) c.members.ensures.value in
    let test = simp to_z-of_z at c.is_unbalanced.ensures in
    simp to_z-of_z (fault_is run multipliers c.args.node c.args.column sum is (sym test ∙ c.if-is_unbalanced.true))

pub returns : goal.returns
returns c =
    let run = c.args.run.now in
    let multipliers = c.args.multipliers.now in
    let sum = c.sum_over-sum.result in
    let fits : FitsSigned w128 sum = search rules in
    let is : sum ≡ balance_of run multipliers c.args.node c.args.column = c.sum_over-sum.ensures ∙ ap (λ ns. sum_z (λ s. multiplier_of run multipliers s c.args.column) ns) c.members.ensures.value in
    let test = simp to_z-of_z at c.is_unbalanced.ensures in
    no_fault run multipliers c.args.node c.args.column sum is (sym test ∙ c.if-is_unbalanced.false)
