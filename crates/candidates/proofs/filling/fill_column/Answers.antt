use Rattle.std.proofs.Common.{rules, sym, ◌∙◌, length, FitsSigned, w64}
use Rattle.std.proofs.lemmas.Int.{to_z-of_z}
use Rattle.candidates.specs.Filling.{IsPut}
use Rattle.candidates.proofs.FilledIn.{filled_off, filled_on}
use Rattle.candidates.proofs.filling.fill_column.Goals as goal

pub returns-then-not-is_of_stage : goal.returns-then-not-is_of_stage
returns-then-not-is_of_stage c = filled_off c.args.run.now c.args.x.now c.args.choice c.args.node c.args.column c.args.values.now c.requires.column (sym c.is_of_stage.ensures ∙ c.if-not-is_of_stage.true) c.requires.filled

pub returns : goal.returns
returns c =
    let run = c.args.run.now in
    let old = c.args.values.now in
    let ns = c.members.result.now in
    let fits : FitsSigned w64 c.chosen-value.result = search rules in
    let put : IsPut run old ns (length ns) c.args.column c.chosen-value.result c.put.new.values = simp to_z-of_z at c.put.ensures in
    filled_on run c.args.x.now c.args.choice c.args.node c.args.column old c.put.new.values ns c.chosen-value.result c.requires.node c.requires.column (sym c.is_of_stage.ensures ∙ c.if-not-is_of_stage.false) c.members.ensures.value c.chosen-value.ensures put c.requires.filled
