use Rattle.boxed_problem.specs.Data.{problem_of}
use Rattle.propagate.proofs.TightLaws.{cut_holds}
use Rattle.propagate.proofs.rows.set_side.Goals as goal

pub returns-then-old-side : goal.returns-then-old-side
returns-then-old-side c = cut_holds (problem_of c.args.problem.now) c.args.sides.now c.set-old.new.self c.args.column c.args.side c.requires.within.filled c.requires.column c.requires.cut c.set-old.ensures.after

pub returns-else-old-side : goal.returns-else-old-side
returns-else-old-side c = cut_holds (problem_of c.args.problem.now) c.args.sides.now c.set-old.new.self c.args.column c.args.side c.requires.within.filled c.requires.column c.requires.cut c.set-old.ensures.after
