use Rattle.std.proofs.Common.{sym, ◌∙◌, subst, FitsSigned, rules}
use Rattle.std.proofs.lemmas.Int.{to_z-of_z}
use Rattle.std.specs.Int.{w128}
use Rattle.safe_bound.specs.Leasts.{IsVertex}
use Rattle.base_words.proofs.Magnitudes.{double_fits, less_fits}
use Rattle.safe_bound.proofs.Vertex.{vertex_of}
use Rattle.safe_bound.proofs.least_values.turning_place.Goals as goal

pub returns : goal.returns
returns c =
    let a = c.ranges.line in
    let b = c.ranges.square in
    let fits : FitsSigned w128 c.div_euclid.result = search rules in
    let more = double_fits c.args.square c.requires.small_square in
    let less = less_fits c.args.square c.args.line c.requires.small_square c.requires.small_line in
    let quotient = simp to_z-of_z at c.div_euclid.ensures in
    subst (λ v. IsVertex c.args.line c.args.square v) (sym (to_z-of_z w128 c.div_euclid.result fits ∙ quotient)) (vertex_of c.args.line c.args.square c.requires.square)
