use Rattle.std.proofs.Common.{arith, ap, ◌∙◌, ◌≡◌, suc, ◌+◌, ◌*◌, ◌≤◌, length, FitsSigned, unsigned_abs, rules}
use Rattle.std.proofs.lemmas.Int.{to_z-of_z}
use Rattle.std.specs.Int.{w128}
use Rattle.boxed_problem.specs.Data.{problem_of}
use Rattle.boxed_problem.specs.BoxedFacts.{row_size}
use Rattle.boxed_problem.specs.PriceFit.{price_part}
use Rattle.base_words.specs.Sums.{number_at, size_below}
use Rattle.base_words.proofs.SumBounds.{size_below-le}
use Rattle.boxed_problem.proofs.problem.Boxed.is_small.Goals as goal

pub returns-in_default-add_product-2 : goal.returns-in_default-add_product-2
returns-in_default-add_product-2 c =
    let b = c.args.self.now in
    let i = c.loop-i.i in
    let g = price_part (problem_of b) c.args.prices.now in
    let upto : size_below i g + g i ≤ size_below (length b.rows) g = size_below-le (suc i) (length b.rows) g (omega (arith, ap length c.as_slice-rows.ensures)) in
    let fv : FitsSigned w128 (number_at c.as_slice-values.result.now i) = search rules in
    let price : c.unsigned_abs-in-loop-i.result ≡ unsigned_abs (number_at c.args.prices.now.values i) = rw c.as_slice-values.ensures at (simp to_z-of_z at c.unsigned_abs-in-loop-i.ensures.value) in
    let size : c.in-Some-row_size_upto.size ≡ row_size b.columns b.rows b.entries i = rw (c.as_slice-columns.ensures, c.as_slice-rows.ensures, c.as_slice-entries.ensures) at c.in-Some-row_size_upto.ensures.0 in
    let part : (c.unsigned_abs-in-loop-i.result * c.in-Some-row_size_upto.size) ≡ g i = ap (λ n. n * c.in-Some-row_size_upto.size) price ∙ ap (λ n. unsigned_abs (number_at c.args.prices.now.values i) * n) size in
    (λ h. absurd cc, λ h. absurd (omega (arith, part, upto, c.in_default-add_product-2.ensures, c.loop-i.invariant.sum, h)))
