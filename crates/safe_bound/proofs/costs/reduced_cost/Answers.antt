use Rattle.std.proofs.Common.{refl, ◌*ℤ◌, ◌-ℤ◌, FitsSigned, rules}
use Rattle.std.proofs.lemmas.Int.{to_z-of_z}
use Rattle.std.specs.Int.{w128}
use Rattle.boxed_problem.specs.Data.{problem_of}
use Rattle.base_words.specs.Sums.{number_at}
use Rattle.safe_bound.proofs.PriceSizes.{reduced_cost-fits, scaled_line-fits, scaled_square-fits}
use Rattle.safe_bound.proofs.costs.reduced_cost.Goals as goal

pub overflow_mul-result : goal.overflow_mul-result
overflow_mul-result c =
    let b = problem_of c.args.problem.now in
    let y = c.args.prices.now in
    let fs : FitsSigned w128 y.scale = search rules in
    let fl : FitsSigned w128 (number_at c.as_slice-lines.result.now c.args.column) = search rules in
    let all = scaled_line-fits b y c.args.column c.args.problem.now.facts.places c.requires.column c.requires.used c.requires.fits.size in
    simp to_z-of_z (rw c.as_slice-lines.ensures all)

pub overflow_sub-result : goal.overflow_sub-result
overflow_sub-result c =
    let b = problem_of c.args.problem.now in
    let y = c.args.prices.now in
    let fs : FitsSigned w128 y.scale = search rules in
    let fl : FitsSigned w128 (number_at c.as_slice-lines.result.now c.args.column) = search rules in
    let fu : FitsSigned w128 c.unit_price-units.result = search rules in
    let one' = scaled_line-fits b y c.args.column c.args.problem.now.facts.places c.requires.column c.requires.used c.requires.fits.size in
    let fp : FitsSigned w128 (y.scale *ℤ number_at c.as_slice-lines.result.now c.args.column) = rw c.as_slice-lines.ensures one' in
    let all = reduced_cost-fits b y c.args.column c.args.problem.now.facts.places c.requires.column c.requires.used c.requires.fits.size in
    simp to_z-of_z (rw (c.as_slice-lines.ensures, c.unit_price-units.ensures) all)

pub overflow_mul-result-2 : goal.overflow_mul-result-2
overflow_mul-result-2 c =
    let b = problem_of c.args.problem.now in
    let y = c.args.prices.now in
    let fs : FitsSigned w128 y.scale = search rules in
    let fl : FitsSigned w128 (number_at c.as_slice-squares.result.now c.args.column) = search rules in
    let all = scaled_square-fits b y c.args.column c.args.problem.now.facts.places c.requires.column c.requires.used c.requires.fits.size in
    simp to_z-of_z (rw c.as_slice-squares.ensures all)

pub returns-clause-line : goal.returns-clause-line
returns-clause-line c =
    let b = problem_of c.args.problem.now in
    let y = c.args.prices.now in
    let fs : FitsSigned w128 y.scale = search rules in
    let fl : FitsSigned w128 (number_at c.as_slice-lines.result.now c.args.column) = search rules in
    let fu : FitsSigned w128 c.unit_price-units.result = search rules in
    let one' = scaled_line-fits b y c.args.column c.args.problem.now.facts.places c.requires.column c.requires.used c.requires.fits.size in
    let fp : FitsSigned w128 (y.scale *ℤ number_at c.as_slice-lines.result.now c.args.column) = rw c.as_slice-lines.ensures one' in
    let all = reduced_cost-fits b y c.args.column c.args.problem.now.facts.places c.requires.column c.requires.used c.requires.fits.size in
    let both : FitsSigned w128 ((y.scale *ℤ number_at c.as_slice-lines.result.now c.args.column) -ℤ c.unit_price-units.result) = rw (c.as_slice-lines.ensures, c.unit_price-units.ensures) all in
    simp to_z-of_z (rw (c.as_slice-lines.ensures, c.unit_price-units.ensures) refl)

pub returns-clause-square : goal.returns-clause-square
returns-clause-square c =
    let b = problem_of c.args.problem.now in
    let y = c.args.prices.now in
    let fs : FitsSigned w128 y.scale = search rules in
    let fl : FitsSigned w128 (number_at c.as_slice-squares.result.now c.args.column) = search rules in
    let all = scaled_square-fits b y c.args.column c.args.problem.now.facts.places c.requires.column c.requires.used c.requires.fits.size in
    let fp : FitsSigned w128 (y.scale *ℤ number_at c.as_slice-squares.result.now c.args.column) = rw c.as_slice-squares.ensures all in
    simp to_z-of_z (rw c.as_slice-squares.ensures refl)
