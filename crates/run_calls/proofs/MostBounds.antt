-- How great multipliers and their steps become at most, from the reach of a run.

use Rattle.std.proofs.Common.{arith, refl, sym, ap, ◌∙◌, ◌≡◌, ℕ, ◌+◌, ◌*◌, ◌^◌, ◌<◌, ◌≤◌, max, nat_le, nat_lt, Bool, true, false, length, get_or, ℤ, pos, negsuc, neg_ℤ, ◌≤ℤ◌, unsigned_abs}
use Rattle.std.proofs.lemmas.Int.{ints}
use Rattle.std.proofs.lemmas.List.{get_or-map}
use Rattle.std.proofs.lemmas.List.Sums.{count_by-le-length}
use Rattle.std.proofs.Math.Nat.{mul-le-mul}
use Rattle.base_words.proofs.SumBounds.{size_below-part}
use Rattle.boxed_problem.specs.Sides.{no_side, reach}
use Rattle.sp_model.specs.Changes.{side_of}
use Rattle.run_calls.specs.MultiplierTests.{most_at}
use Rattle.sp_model.specs.Plans.{no_column}
use Rattle.sp_model.specs.Problems.{scenarios}
use Rattle.sp_model.specs.Reaching.{box_reach, hedge_part, hedge_reach, step_reach}
use Rattle.sp_model.specs.declared.program.Column.{Column}
use Rattle.sp_model.specs.declared.program.Program.{Program}
use Rattle.sp_model.specs.declared.run.Run.{Run}
use Rattle.sp_model.proofs.Bounds.{reach_parts, total_abs}
use Rattle.base_words.proofs.NumberTests.{none_from_test, some_from_test}

-- a nonleaf column is a column
pub early_column : (run : Run) (j : ℕ) → j < run.nonleaf → j < length run.program.columns
early_column run j l =
    let most = count_by-le-length (λ (c : Column). nat_lt c.stage run.program.tree.stages) run.program.columns in
    omega (arith, most, run.facts.stages.nonleaf_is)

-- the reach of a column's box, by the column
pub box_is : (program : Program) (j : ℕ) (c : Column) → j < length program.columns → c ≡ get_or program.columns j no_column → box_reach program j ≡ max (unsigned_abs c.lower) (unsigned_abs c.upper)
box_is program j c l e = ap reach (get_or-map side_of program.columns j no_column no_side l) ∙ ap (λ (k : Column). max (unsigned_abs k.lower) (unsigned_abs k.upper)) (sym e)

end_small : (a : ℤ) → neg_ℤ (pos 1000000000) ≤ℤ a → a ≤ℤ pos 1000000000 → unsigned_abs a ≤ 1000000000
end_small (pos a) h k = omega (arith, ints)
end_small (negsuc a) h k = omega (arith, ints)

pub box_small : (run : Run) (j : ℕ) → j < length run.program.columns → box_reach run.program j ≤ 1000000000
box_small run j l =
    let c = get_or run.program.columns j no_column in
    let fact = run.facts.stages.columns j no_column l in
    let filled = fact.filled in
    let low = fact.low in
    let high = fact.high in
    let first = end_small c.lower low (omega (arith, ints)) in
    let second = end_small c.upper (omega (arith, ints)) high in
    omega (arith, box_is run.program j c l refl, first, second)

rho_small : (a : ℤ) → pos 1 ≤ℤ a → a ≤ℤ pos 1000000000 → unsigned_abs a ≤ 1000000000
rho_small (pos a) h k = omega (arith, ints)
rho_small (negsuc a) h k = absurd (omega (arith, ints))

pub rho_abs : (run : Run) → unsigned_abs run.options.rho ≤ 1000000000
rho_abs run = rho_small run.options.rho run.facts.options_fit.some_rho run.facts.options_fit.rho

-- twice the penalty times the total weight
pub rate_small : (run : Run) → 2 * unsigned_abs run.options.rho * unsigned_abs run.total ≤ 2 ^ 91
rate_small run =
    let rho : 2 * unsigned_abs run.options.rho ≤ 2 ^ 31 = omega (arith, rho_abs run) in
    let total : unsigned_abs run.total ≤ 2 ^ 60 = omega (arith, total_abs run) in
    omega (arith, mul-le-mul rho total)

pub part_small : (run : Run) (j : ℕ) → j < length run.program.columns → 2 * unsigned_abs run.options.rho * unsigned_abs run.total * box_reach run.program j ≤ 2 ^ 121
part_small run j l = omega (arith, mul-le-mul (rate_small run) (box_small run j l))

scenarios_few : (run : Run) → scenarios run ≤ 4096
scenarios_few run = run.facts.counts.scenarios

pub step_small : (run : Run) (j : ℕ) → j < length run.program.columns → step_reach run.program run.options run.total j < 2 ^ 122
step_small run j l = omega (arith, part_small run j l, scenarios_few run)

-- as many multipliers as there are scenarios, of the greatest magnitude
pub most_room : (run : Run) (j : ℕ) → j < run.nonleaf → scenarios run * most_at run j ≤ 2 ^ 120
most_room run j h = by_box (nat_le 1 (box_reach run.program j)) refl
  where
    by_box : (b : Bool) → nat_le 1 (box_reach run.program j) ≡ b → scenarios run * most_at run j ≤ 2 ^ 120
    by_box true e =
        let n = scenarios run in
        let most = most_at run j in
        let m = box_reach run.program j in
        let hedge = hedge_reach run.program run.options run.total run.nonleaf in
        let some = some_from_test m e in
        let twice : most ≤ 2 * most = omega arith in
        let wide = mul-le-mul twice some in
        let part = size_below-part run.nonleaf (hedge_part run.program run.options run.total) j h in
        let below : most ≤ hedge = omega (arith, wide, part) in
        let many : n ≤ 2 * n = omega arith in
        omega (arith, mul-le-mul many below, (reach_parts run).1)
    by_box false e =
        let m = box_reach run.program j in
        let none = none_from_test m e in
        let rate = 2 * unsigned_abs run.options.rho * unsigned_abs run.total in
        let few : run.options.iterations + 2 ≤ 100002 = omega (arith, run.facts.options_fit.iterations) in
        let step : step_reach run.program run.options run.total j ≤ 4096 = omega (arith, ap (λ k. rate * k) none, scenarios_few run) in
        let most = mul-le-mul few step in
        omega (arith, mul-le-mul (scenarios_few run) most)

pub most_small : (run : Run) (j : ℕ) → j < run.nonleaf → most_at run j ≤ 2 ^ 120
most_small run j h =
    let some : 1 ≤ scenarios run = run.facts.counts.some_scenarios in
    let same : most_at run j ≤ most_at run j = omega arith in
    omega (arith, mul-le-mul some same, most_room run j h)
