use Rattle.std.proofs.Common.{ap, ◌+ℤ◌, ◌*ℤ◌, FitsSigned, rules}
use Rattle.std.proofs.lemmas.Int.{to_z-of_z}
use Rattle.std.specs.Int.{w128}
use Rattle.boxed_problem.specs.Data.{problem_of}
use Rattle.safe_bound.proofs.PriceSizes.{constant_fits, scaled_constant-fits}
use Rattle.safe_bound.proofs.costs.reduced_constant.Goals as goal

pub overflow_add-result : goal.overflow_add-result
overflow_add-result c =
    let b = problem_of c.args.problem.now in
    let y = c.args.prices.now in
    let places = c.args.problem.now.facts.places in
    let fs : FitsSigned w128 y.scale = search rules in
    let fc : FitsSigned w128 b.constant = search rules in
    let fp = scaled_constant-fits b y places c.requires.size in
    let fl : FitsSigned w128 c.limit_sum.result = search rules in
    let all = constant_fits b y places c.requires.size in
    simp to_z-of_z (rw c.limit_sum.ensures all)

pub returns : goal.returns
returns c =
    let b = problem_of c.args.problem.now in
    let y = c.args.prices.now in
    let places = c.args.problem.now.facts.places in
    let fs : FitsSigned w128 y.scale = search rules in
    let fc : FitsSigned w128 b.constant = search rules in
    let fp = scaled_constant-fits b y places c.requires.size in
    let fl : FitsSigned w128 c.limit_sum.result = search rules in
    let all = constant_fits b y places c.requires.size in
    let sum : FitsSigned w128 (c.limit_sum.result +ℤ (y.scale *ℤ b.constant)) = rw c.limit_sum.ensures all in
    simp to_z-of_z (ap (λ z. z +ℤ (y.scale *ℤ b.constant)) c.limit_sum.ensures)
