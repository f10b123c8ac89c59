use Rattle.std.proofs.Common.{arith, ◌∙◌}
use Rattle.put_read.proofs.SpokeReading.{spoke_on, three_words, told_accepts, told_of_one, value_read}
use Rattle.put_read.proofs.spokes.SpokeReader.step.Goals as goal

pub words-requires : goal.words-requires
words-requires g c =
    let of = g.B.Board.of c.args.board.now in
    three_words of.run.value (g.B.Board.view c.args.board.now) c.args.self.now c.step.new.self of.most c.in-Reading.put c.requires of.facts.most_is c.in-Reading.ensures.whole

pub returns-in-Reading-clause-reads : goal.returns-in-Reading-clause-reads
returns-in-Reading-clause-reads g c =
    let of = g.B.Board.of c.args.board.now in
    spoke_on of.run.value (g.B.Board.view c.args.board.now) (g.B.Board.view c.step.new.board) c.args.self.now c.step.new.self of.layout c.step.ensures.made.0 of.facts.layout_is c.requires c.step.ensures.group c.step.ensures.made.1.stands c.step.ensures.reads

pub returns-in-Reading-clause-tells : goal.returns-in-Reading-clause-tells
returns-in-Reading-clause-tells g c =
    let of = g.B.Board.of c.args.board.now in let whole = c.in-Reading.ensures.whole in (
      whole.0,
      omega (arith, whole.1, of.facts.most_is),
      whole.2,
      value_read of.run.value (g.B.Board.view c.args.board.now) c.args.self.now c.step.new.self of.most c.in-Reading.put c.requires of.facts.most_is whole c.reply_in-value.result (λ reply fits is. c.reply_in-value.ensures reply fits (c.words.ensures ∙ is)),
    )

pub returns-in-Reading-clause-accepts : goal.returns-in-Reading-clause-accepts
returns-in-Reading-clause-accepts g c =
    let of = g.B.Board.of c.args.board.now in let made = c.in-Reading.ensures.made in
    told_accepts c.args.self.now.reader made.0 c.requires.facts c.requires.one of.layout.ranks (g.B.Board.view c.args.board.now) c.requires.reads.reading _ (g.B.Board.view c.step.new.board) made.1.tells made.1.knows

pub returns-in-Going-clause-reads : goal.returns-in-Going-clause-reads
returns-in-Going-clause-reads g c =
    let of = g.B.Board.of c.args.board.now in
    spoke_on of.run.value (g.B.Board.view c.args.board.now) (g.B.Board.view c.step.new.board) c.args.self.now c.step.new.self of.layout c.step.ensures.made.0 of.facts.layout_is c.requires c.step.ensures.group c.step.ensures.made.1.stands c.step.ensures.reads

pub returns-in-Going-clause-accepts : goal.returns-in-Going-clause-accepts
returns-in-Going-clause-accepts g c =
    let of = g.B.Board.of c.args.board.now in let made = c.in-Going.ensures.made in
    told_accepts c.args.self.now.reader made.0 c.requires.facts c.requires.one of.layout.ranks (g.B.Board.view c.args.board.now) c.requires.reads.reading _ (g.B.Board.view c.step.new.board) made.1.tells made.1.knows

pub returns-in-Again-clause-reads : goal.returns-in-Again-clause-reads
returns-in-Again-clause-reads g c =
    let of = g.B.Board.of c.args.board.now in
    spoke_on of.run.value (g.B.Board.view c.args.board.now) (g.B.Board.view c.step.new.board) c.args.self.now c.step.new.self of.layout c.step.ensures.made.0 of.facts.layout_is c.requires c.step.ensures.group c.step.ensures.made.1.stands c.step.ensures.reads

pub returns-in-Again-clause-tells : goal.returns-in-Again-clause-tells
returns-in-Again-clause-tells g c =
    let made = c.in-Again.ensures.made in
    (c.in-Again.ensures.whole, told_of_one c.args.self.now.reader made.0 c.requires.facts c.requires.one _ made.1.tells)

pub returns-in-Again-clause-accepts : goal.returns-in-Again-clause-accepts
returns-in-Again-clause-accepts g c =
    let of = g.B.Board.of c.args.board.now in let made = c.in-Again.ensures.made in
    told_accepts c.args.self.now.reader made.0 c.requires.facts c.requires.one of.layout.ranks (g.B.Board.view c.args.board.now) c.requires.reads.reading _ (g.B.Board.view c.step.new.board) made.1.tells made.1.knows
