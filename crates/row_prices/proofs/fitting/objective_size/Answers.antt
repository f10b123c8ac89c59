use Rattle.std.proofs.Common.{arith, ap, add-one, ◌+◌, FitsSigned, rules, ◌≡◌}
use Rattle.std.proofs.lemmas.Int.{to_z-of_z}
use Rattle.std.specs.Int.{w128}
use Rattle.boxed_problem.specs.BoxedFacts.{column_size}
use Rattle.base_words.specs.Sums.{number_at, size_below}
use Rattle.row_prices.proofs.fitting.objective_size.Goals as goal

pub loop-j-preserved : goal.loop-j-preserved
loop-j-preserved c =
    let b = c.args.problem.now in
    let j = c.loop-j.j in
    let g = column_size b.columns b.line b.square in
    let fl : FitsSigned w128 (number_at c.as_slice-line.result.now j) = search rules in
    let fs : FitsSigned w128 (number_at c.as_slice-square.result.now j) = search rules in
    let part : c.in_ok-part.part ≡ g j = rw (c.as_slice-columns.ensures, c.as_slice-line.ensures, c.as_slice-square.ensures) at (simp to_z-of_z at c.in_ok-part.ensures) in
    let more : size_below (j + 1) g ≡ size_below j g + g j = ap (λ n. size_below n g) (add-one j) in
    omega (arith, c.loop-j.invariant, c.in_ok-sum.ensures, part, more)
