use Rattle.std.proofs.Common.{arith, ap, ◌*◌, FitsSigned, rules, unsigned_abs}
use Rattle.std.proofs.lemmas.Int.{to_z-of_z}
use Rattle.std.specs.Int.{w128}
use Rattle.boxed_problem.specs.Data.{problem_of}
use Rattle.row_prices.proofs.FitLaws.{parts_weigh}
use Rattle.row_prices.proofs.fitting.prices_size.Goals as goal

pub returns : goal.returns
returns c =
    let b = c.args.problem.now in
    let prices = c.args.prices.now in
    let fs : FitsSigned w128 prices.scale = search rules in
    let scaled = ap (λ z. unsigned_abs z * c.in_ok-objective.objective) (to_z-of_z w128 prices.scale fs) in
    let weigh = parts_weigh (problem_of b) prices c.in_ok-objective.objective c.in_ok-limits.limits c.in_ok-entries.entries b.facts.places c.in_ok-objective.ensures c.in_ok-limits.ensures c.in_ok-entries.ensures in
    omega (arith, c.in_ok-size.ensures, c.in_ok-rows.ensures, c.in_ok-scaled.ensures, c.unsigned_abs.ensures.value, ap (λ n. n * c.in_ok-objective.objective) c.unsigned_abs.ensures.value, scaled, weigh)
