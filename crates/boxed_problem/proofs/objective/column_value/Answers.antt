use Rattle.std.proofs.Common.{arith, ap, ◌∙◌, ◌≡◌, ◌+◌, ◌*◌, ◌≤◌, ◌^◌, ℤ, ◌*ℤ◌, ◌+ℤ◌, FitsSigned, to_z, of_z, unsigned_abs, w64, rules}
use Rattle.std.proofs.lemmas.Int.{to_z-of_z}
use Rattle.std.specs.Int.{w128}
use Rattle.boxed_problem.specs.Objective.{curve}
use Rattle.base_words.proofs.Magnitudes.{product_fits, square_fits, square64_fits}
use Rattle.boxed_problem.proofs.Magnitudes.{curve_fits}
use Rattle.boxed_problem.proofs.objective.column_value.Goals as goal

-- the numbers that the code forms, from those that it is given
wrapped : (line square x y : ℤ) → FitsSigned w128 line → FitsSigned w128 square → FitsSigned w128 x → FitsSigned w128 (x *ℤ x) → FitsSigned w128 (line *ℤ x) → FitsSigned w128 (square *ℤ (x *ℤ x)) → y ≡ x →
    (to_z w128 (of_z w128 (to_z w128 (of_z w128 line) *ℤ to_z w128 (of_z w128 y))) +ℤ to_z w128 (of_z w128 (to_z w128 (of_z w128 square) *ℤ to_z w128 (of_z w128 (to_z w128 (of_z w128 y) *ℤ to_z w128 (of_z w128 y))))))
    ≡ curve line square x
wrapped line square x y fl fs fx fxx fp fq e = rw e (simp to_z-of_z)

same : (line square x y : ℤ) → FitsSigned w128 line → FitsSigned w128 square → FitsSigned w64 x → y ≡ to_z w64 (of_z w64 x) →
    unsigned_abs line * unsigned_abs x + unsigned_abs square * (unsigned_abs x * unsigned_abs x) ≤ 2 ^ 125 →
    (to_z w128 (of_z w128 (to_z w128 (of_z w128 line) *ℤ to_z w128 (of_z w128 y))) +ℤ to_z w128 (of_z w128 (to_z w128 (of_z w128 square) *ℤ to_z w128 (of_z w128 (to_z w128 (of_z w128 y) *ℤ to_z w128 (of_z w128 y))))))
    ≡ curve line square x
same line square x y fl fs fx e h =
    let ey : y ≡ x = e ∙ to_z-of_z w64 x fx in
    let f : FitsSigned w128 x = search rules in
    let fxx = square64_fits x fx in
    wrapped line square x y fl fs f fxx (product_fits line x (omega arith)) (square_fits square x (omega arith)) ey

pub overflow_add-result : goal.overflow_add-result
overflow_add-result c =
    rw (same c.args.line c.args.square c.args.x c.from-x.result c.ranges.line c.ranges.square c.ranges.x c.from-x.ensures c.requires)
    (curve_fits c.args.line c.args.square c.args.x c.requires)

pub returns : goal.returns
returns c =
    let f = curve_fits c.args.line c.args.square c.args.x c.requires in
    ap (λ z. to_z w128 (of_z w128 z)) (same c.args.line c.args.square c.args.x c.from-x.result c.ranges.line c.ranges.square c.ranges.x c.from-x.ensures c.requires)
    ∙ to_z-of_z w128 (curve c.args.line c.args.square c.args.x) f
