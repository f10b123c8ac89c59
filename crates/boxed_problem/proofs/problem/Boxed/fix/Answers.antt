use Rattle.std.proofs.Common.{arith, set, ◌≤ℤ◌, FitsSigned, w64, rules}
use Rattle.std.proofs.lemmas.Int.{ints, to_z-of_z}
use Rattle.std.proofs.lemmas.List.Elements.{All-set, recursion_from_All}
use Rattle.boxed_problem.specs.Sides.{side_at}
use Rattle.boxed_problem.specs.declared.parts.Side.{Side}
use Rattle.boxed_problem.proofs.FixingLaws.{boxed_within, set_within}
use Rattle.base_words.proofs.Comparisons.{above_from_test}
use Rattle.boxed_problem.proofs.problem.Boxed.fix.Goals as goal

pub invariant_of-self : goal.invariant_of-self
invariant_of-self c =
    let b = c.args.self.now in
    let j = c.args.column in
    let v = c.args.value in
    let fv = c.ranges.value in
    let fl : FitsSigned w64 (side_at b.columns j).lower = search rules in
    let fu : FitsSigned w64 (side_at b.columns j).upper = search rules in
    let below = simp to_z-of_z at (rw c.as_slice.ensures at c.if-value-side.false) in
    let above = simp to_z-of_z at (rw c.as_slice.ensures at c.if-side-value.false) in
    let after = simp to_z-of_z at c.set.ensures.after in
    let single : Side = record { lower = v; upper = v } in
    let filled = All-set (λ (s : Side). s.lower ≤ℤ s.upper) b.columns j single (omega (arith, ints)) b.facts.filled in
    let within = set_within b.columns j single c.requires (above_from_test v (side_at b.columns j).lower below) (omega (arith, ints)) (above_from_test (side_at b.columns j).upper v above) (recursion_from_All (λ (s : Side). s.lower ≤ℤ s.upper) b.columns b.facts.filled) in
    rw after (record { facts = boxed_within (set b.columns j single) b.columns b.rows b.entries b.constant b.line b.square filled within b.facts })
