use Rattle.std.proofs.Common.{sym, ◌∙◌, subst, rules, arith}
use Rattle.std.specs.Prelude.{FitsSigned}
use Rattle.std.specs.Int.{w64, w128}
use Rattle.std.proofs.lemmas.Int.{to_z-of_z}
use Rattle.word_codec.specs.Spelling.{IsValue}
use Rattle.word_codec.proofs.Spelled.{cell_off}
use Rattle.word_codec.proofs.cells.decode_cell.Goals as goal

pub returns-else-is_value-clause-err : goal.returns-else-is_value-clause-err
returns-else-is_value-clause-err c =
    let whole : FitsSigned w128 c.joined-multiplier.result = search rules in
    let fits : FitsSigned w64 c.cast_signed-x.result = search rules in
    let same = to_z-of_z w64 c.cast_signed-x.result fits ∙ c.cast_signed-x.ensures in
    cell_off c.args.words (omega arith) c.joined-multiplier.result whole c.joined-multiplier.ensures (omega arith) (λ v. let told = c.is_value.ensures.1 (subst IsValue (sym same) v) in absurd (cc))
