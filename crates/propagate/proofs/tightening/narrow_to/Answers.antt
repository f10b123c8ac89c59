use Rattle.propagate.proofs.TightLaws.{replaced_tightens}
use Rattle.propagate.proofs.tightening.narrow_to.Goals as goal

pub returns : goal.returns
returns c = replaced_tightens c.args.sparse.now c.args.trail.now c.replace_side.new.trail c.args.column c.args.side c.replace_side.result c.requires.column c.requires.cut c.replace_side.ensures.sides c.replace_side.ensures.fails c.replace_side.ensures.marks
