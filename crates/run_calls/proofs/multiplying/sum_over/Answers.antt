use Rattle.std.proofs.Common.{rules, arith, ℕ, ◌+◌, ◌≤◌, ◌^◌, ℤ, ◌+ℤ◌, to_z, take, unsigned_abs, FitsSigned}
use Rattle.std.proofs.lemmas.Int.{to_z-of_z}
use Rattle.std.specs.Int.{w128}
use Rattle.base_words.proofs.Magnitudes.{fits_from_abs}
use Rattle.base_words.proofs.SumBounds.{fold_next}
use Rattle.base_words.specs.ListSums.{sum_z}
use Rattle.sp_model.specs.Plans.{multiplier_of}
use Rattle.run_calls.proofs.MemberSums.{balance_abs}
use Rattle.run_calls.proofs.multiplying.sum_over.Goals as goal

pub overflow_add-sum : goal.overflow_add-sum
overflow_add-sum c =
    let run = c.args.run.now in
    let ns = c.args.members.now in
    let k = c.loop-scenario.scenario-index in
    let f : ℕ → ℤ = λ s. multiplier_of run c.args.multipliers.now s c.args.column in
    let fp : FitsSigned w128 c.multiplier-sum.result = search rules in
    let next = fold_next f ns k 0 (to_z w128 c.loop-scenario.sum-bits) c.multiplier-sum.result c.loop-scenario-test.true c.loop-scenario.invariant c.multiplier-sum.ensures in
    let small : unsigned_abs (sum_z f (take (k + 1) ns)) ≤ 2 ^ 126 = omega (arith, balance_abs run c.args.multipliers.now ns c.args.column (k + 1) c.requires.sized c.requires.members c.requires.column) in
    simp to_z-of_z (rw next (fits_from_abs (sum_z f (take (k + 1) ns)) small))

pub loop-scenario-preserved : goal.loop-scenario-preserved
loop-scenario-preserved c =
    let run = c.args.run.now in
    let ns = c.args.members.now in
    let k = c.loop-scenario.scenario-index in
    let f : ℕ → ℤ = λ s. multiplier_of run c.args.multipliers.now s c.args.column in
    let fp : FitsSigned w128 c.multiplier-sum.result = search rules in
    let next = fold_next f ns k 0 (to_z w128 c.loop-scenario.sum-bits) c.multiplier-sum.result c.loop-scenario-test.true c.loop-scenario.invariant c.multiplier-sum.ensures in
    let small : unsigned_abs (sum_z f (take (k + 1) ns)) ≤ 2 ^ 126 = omega (arith, balance_abs run c.args.multipliers.now ns c.args.column (k + 1) c.requires.sized c.requires.members c.requires.column) in
    let both : FitsSigned w128 (to_z w128 c.loop-scenario.sum-bits +ℤ c.multiplier-sum.result) = rw next (fits_from_abs (sum_z f (take (k + 1) ns)) small) in
    simp to_z-of_z next
