use Rattle.std.proofs.Common.{arith, refl, ap, sym, subst, ◌∙◌, ◌≡◌, ◌+◌, ◌<◌, length, ◌*ℤ◌, FitsSigned, to_z, rules}
use Rattle.std.proofs.lemmas.Int.{to_z-of_z}
use Rattle.std.specs.Int.{w128}
use Rattle.boxed_problem.specs.Data.{problem_of}
use Rattle.base_words.specs.Sums.{number_at}
use Rattle.safe_bound.specs.PriceBound.{limit_price}
use Rattle.base_words.proofs.SumBounds.{sum_below-more}
use Rattle.safe_bound.proofs.PriceSizes.{limit_price-fits, limit_sum-fits}
use Rattle.safe_bound.proofs.costs.limit_sum.Goals as goal

pub overflow_mul-sum : goal.overflow_mul-sum
overflow_mul-sum c =
    let b = problem_of c.args.problem.now in
    let y = c.args.prices.now in
    let i = c.loop-i.i in
    let places = c.args.problem.now.facts.places in
    let short : i < length b.rows = omega (arith, c.loop-i-test.true, ap length c.as_slice-rows.ensures) in
    let price = number_at c.as_slice-values.result.now i in
    let fy : FitsSigned w128 price = search rules in
    let fp : FitsSigned w128 c.paid_limit.result = search rules in
    let paid = simp to_z-of_z at c.paid_limit.ensures in
    let part : (price *ℤ c.paid_limit.result) ≡ limit_price b y i = ap (λ z. price *ℤ z) paid ∙ rw (c.as_slice-values.ensures, c.as_slice-rows.ensures) refl in
    let one' = subst (λ z. FitsSigned w128 z) (sym part) (limit_price-fits b y i places short c.requires.size) in
    simp to_z-of_z one'

pub overflow_add-sum : goal.overflow_add-sum
overflow_add-sum c =
    let b = problem_of c.args.problem.now in
    let y = c.args.prices.now in
    let i = c.loop-i.i in
    let places = c.args.problem.now.facts.places in
    let short : i < length b.rows = omega (arith, c.loop-i-test.true, ap length c.as_slice-rows.ensures) in
    let price = number_at c.as_slice-values.result.now i in
    let fy : FitsSigned w128 price = search rules in
    let fp : FitsSigned w128 c.paid_limit.result = search rules in
    let paid = simp to_z-of_z at c.paid_limit.ensures in
    let part : (price *ℤ c.paid_limit.result) ≡ limit_price b y i = ap (λ z. price *ℤ z) paid ∙ rw (c.as_slice-values.ensures, c.as_slice-rows.ensures) refl in
    let one' = subst (λ z. FitsSigned w128 z) (sym part) (limit_price-fits b y i places short c.requires.size) in
    let next = sum_below-more (to_z w128 c.loop-i.sum-bits) (price *ℤ c.paid_limit.result) i (limit_price b y) c.loop-i.invariant part in
    let all = limit_sum-fits b y (i + 1) places (omega arith) c.requires.size in
    simp to_z-of_z (subst (λ z. FitsSigned w128 z) (sym next) all)

pub loop-i-preserved : goal.loop-i-preserved
loop-i-preserved c =
    let b = problem_of c.args.problem.now in
    let y = c.args.prices.now in
    let i = c.loop-i.i in
    let places = c.args.problem.now.facts.places in
    let short : i < length b.rows = omega (arith, c.loop-i-test.true, ap length c.as_slice-rows.ensures) in
    let price = number_at c.as_slice-values.result.now i in
    let fy : FitsSigned w128 price = search rules in
    let fp : FitsSigned w128 c.paid_limit.result = search rules in
    let paid = simp to_z-of_z at c.paid_limit.ensures in
    let part : (price *ℤ c.paid_limit.result) ≡ limit_price b y i = ap (λ z. price *ℤ z) paid ∙ rw (c.as_slice-values.ensures, c.as_slice-rows.ensures) refl in
    let one' = subst (λ z. FitsSigned w128 z) (sym part) (limit_price-fits b y i places short c.requires.size) in
    let next = sum_below-more (to_z w128 c.loop-i.sum-bits) (price *ℤ c.paid_limit.result) i (limit_price b y) c.loop-i.invariant part in
    let all = limit_sum-fits b y (i + 1) places (omega arith) c.requires.size in
    let both = subst (λ z. FitsSigned w128 z) (sym next) all in
    simp to_z-of_z next
