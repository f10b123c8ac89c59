use Rattle.std.proofs.Common.{arith, ◌∙◌, FitsSigned, to_z, of_z, w64, rules}
use Rattle.std.proofs.lemmas.Int.{to_z-of_z}
use Rattle.std.specs.Int.{w128}
use Rattle.safe_bound.specs.Leasts.{IsLeastAt}
use Rattle.boxed_problem.specs.Sides.{reach}
use Rattle.safe_bound.proofs.LeastLaws.{least_at}
use Rattle.base_words.proofs.Magnitudes.{abs_between}
use Rattle.boxed_problem.proofs.Magnitudes.{curve_size}
use Rattle.safe_bound.proofs.least_values.column_least.Goals as goal

pub column_value-requires : goal.column_value-requires
column_value-requires c =
    let a = c.ranges.line in
    let b = c.ranges.square in
    let fp : FitsSigned w64 c.least_place.result = search rules in
    let i = c.least_place.ensures in
    let near = abs_between c.args.side.lower c.args.side.upper c.least_place.result i.lower i.upper in
    let most = curve_size c.args.line c.args.square c.least_place.result (reach c.args.side) near in
    simp to_z-of_z (omega (arith, most, c.requires.fits))

pub returns : goal.returns
returns c =
    let a = c.ranges.line in
    let b = c.ranges.square in
    let fp : FitsSigned w64 c.least_place.result = search rules in
    let fv : FitsSigned w128 c.column_value.result = search rules in
    let raw : IsLeastAt (to_z w128 (of_z w128 c.args.line)) (to_z w128 (of_z w128 c.args.square)) c.args.side c.least_place.result = c.least_place.ensures in
    let i = simp to_z-of_z at raw in
    let v = simp to_z-of_z at c.column_value.ensures in
    simp to_z-of_z (v ∙ least_at c.args.line c.args.square c.args.side c.least_place.result i)
