use Rattle.std.proofs.Common.{◌∙◌}
use Rattle.smps_words.proofs.Fields.{field_is}
use Rattle.smps_words.proofs.file_line.FileLine.field.Goals as goal

pub returns : goal.returns
returns c = c.field.ensures ∙ field_is c.args.self.now.bytes.now c.args.self.now.line.now.fields c.args.k
