use Rattle.std.proofs.Common.{FitsSigned, w64, rules}
use Rattle.std.proofs.lemmas.Int.{to_z-of_z}
use Rattle.boxed_problem.specs.Sides.{side_at}
use Rattle.base_words.proofs.Comparisons.{above_from_test}
use Rattle.propagate.proofs.TightLaws.{set_no_narrower}
use Rattle.propagate.proofs.tightening.replace_side.Goals as goal

pub returns-else-side-old-clause-sides : goal.returns-else-side-old-clause-sides
returns-else-side-old-clause-sides c =
    let t = c.args.trail.now in
    let j = c.args.column in
    let s = c.args.side in
    let fl : FitsSigned w64 s.lower = search rules in
    let fu : FitsSigned w64 s.upper = search rules in
    let gl : FitsSigned w64 (side_at t.sides j).lower = search rules in
    let gu : FitsSigned w64 (side_at t.sides j).upper = search rules in
    let low = simp to_z-of_z at (rw c.as_slice.ensures at c.if-old-side.false) in
    let high = simp to_z-of_z at (rw c.as_slice.ensures at c.if-side-old.false) in
    set_no_narrower t.sides j s (above_from_test (side_at t.sides j).lower s.lower low) (above_from_test s.upper (side_at t.sides j).upper high) c.requires.inside
