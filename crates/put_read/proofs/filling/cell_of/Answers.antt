use Rattle.std.proofs.Common.{refl}
use Rattle.put_read.proofs.CellWords.{never_off}
use Rattle.put_read.proofs.filling.cell_of.Goals as goal

pub returns-in-Err : goal.returns-in-Err
returns-in-Err c = λ m x fits is has. absurd (never_off c.args.words.now _ c.args.index c.in-Err.field-0.word m x refl fits is has c.in-Err.ensures.err)
