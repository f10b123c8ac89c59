use Rattle.put_read.proofs.Putting.{cells_few, reading_tells, step_short, steps_on}
use Rattle.put_read.proofs.reader.PutReader.step.Goals as goal

pub fill-requires-clause-short : goal.fill-requires-clause-short
fill-requires-clause-short g c =
    let of = g.B.Board.of c.args.board.now in
    step_short of.run.value (g.B.Board.view c.args.board.now) (g.B.Board.view c.step.new.board) c.args.self.now c.step.new.self of.layout of.facts.layout_is c.requires c.step.ensures.group c.step.ensures.reads

pub fill-requires-clause-small : goal.fill-requires-clause-small
fill-requires-clause-small g c = cells_few (g.B.Board.of c.args.board.now).run.value (g.B.Board.view c.args.board.now) c.args.self.now c.requires

pub returns-in-Reading-clause-reads : goal.returns-in-Reading-clause-reads
returns-in-Reading-clause-reads g c =
    let of = g.B.Board.of c.args.board.now in
    steps_on of.run.value (g.B.Board.view c.args.board.now) (g.B.Board.view c.step.new.board) c.args.self.now c.step.new.self c.fill.new.put of.layout c.step.ensures.made.0 of.facts.layout_is c.requires c.step.ensures.group c.step.ensures.made.1.knows c.step.ensures.made.1.stands c.step.ensures.reads c.fill.ensures.room

pub returns-in-Reading-clause-tells : goal.returns-in-Reading-clause-tells
returns-in-Reading-clause-tells g c =
    let of = g.B.Board.of c.args.board.now in
    reading_tells of.run.value (g.B.Board.view c.args.board.now) c.args.self.now c.step.new.self c.fill.new.put of.most c.in-Reading.put c.requires of.facts.most_is of.facts.there c.in-Reading.ensures.whole c.fill.ensures.put

pub returns-in-Going-clause-reads : goal.returns-in-Going-clause-reads
returns-in-Going-clause-reads g c =
    let of = g.B.Board.of c.args.board.now in
    steps_on of.run.value (g.B.Board.view c.args.board.now) (g.B.Board.view c.step.new.board) c.args.self.now c.step.new.self c.args.self.now.put of.layout c.step.ensures.made.0 of.facts.layout_is c.requires c.step.ensures.group c.step.ensures.made.1.knows c.step.ensures.made.1.stands c.step.ensures.reads c.requires.room

pub returns-in-Again-clause-reads : goal.returns-in-Again-clause-reads
returns-in-Again-clause-reads g c =
    let of = g.B.Board.of c.args.board.now in
    steps_on of.run.value (g.B.Board.view c.args.board.now) (g.B.Board.view c.step.new.board) c.args.self.now c.step.new.self c.args.self.now.put of.layout c.step.ensures.made.0 of.facts.layout_is c.requires c.step.ensures.group c.step.ensures.made.1.knows c.step.ensures.made.1.stands c.step.ensures.reads c.requires.room
