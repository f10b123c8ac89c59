use Rattle.std.proofs.Common.{sym, subst}
use Rattle.stamped_read.specs.Readers.{due}
use Rattle.put_read.specs.Reads.{ReadsPuts, TellsPut}
use Rattle.stamped_read.specs.declared.read.Read.TheVariants as read
use Rattle.lagrangian_spoke.specs.declared.spoke.Phase.TheVariants.{Reads}
use Rattle.lagrangian_spoke.proofs.Leading.{due_phase, is_due}
use Rattle.lagrangian_spoke.proofs.Proceeding.{again_stands, due_keeps, going_stands, to_answer, told_back, worked_stands}
use Rattle.lagrangian_spoke.proofs.ReadLeading.{again_leads, answered_leads, going_leads, refused_reading}
use Rattle.lagrangian_spoke.proofs.spoke.LagrangianSpoke.read.Goals as goal

pub step-requires : goal.step-requires
step-requires g c = subst (λ run. ReadsPuts run (g.B.Board.view c.args.board.now) c.args.self.now.reader) (sym c.requires.run) c.requires.stands.reads

pub returns-in-Going-clause-stands : goal.returns-in-Going-clause-stands
returns-in-Going-clause-stands g c =
    let of = g.B.Board.of c.args.board.now in let view = g.B.Board.view c.args.board.now in let now = g.B.Board.view c.step.new.board in
    going_stands c.args.run.now view now c.args.self.now c.step.new.self c.requires.stands c.requires.phase
    (due_keeps of.layout.ranks c.in-Going.ensures.made.0 view now c.args.self.now.reader.reader c.in-Going.ensures.made.1.knows)
    (subst (λ run. ReadsPuts run now c.step.new.self) c.requires.run c.step.ensures.reads)
    c.in-Going.ensures.tells

pub returns-in-Going-clause-made : goal.returns-in-Going-clause-made
returns-in-Going-clause-made g c =
    let of = g.B.Board.of c.args.board.now in let made = c.in-Going.ensures.made in (
      made.0,
      is_due g.B.Board.leaves g.B.Board.view of.layout.ranks c.args.board.now c.step.new.board (due c.args.self.now.reader.reader) _ made.0 (due_phase c.args.self.now Reads c.requires.phase) made.1.leaves_it made.1.knows,
      going_leads c.args.self.now c.step.new.self made.0 c.requires.phase made.1.stands c.in-Going.ensures.made.1.tells,
      tt,
    )

pub returns-in-Again-clause-stands : goal.returns-in-Again-clause-stands
returns-in-Again-clause-stands g c =
    let of = g.B.Board.of c.args.board.now in let view = g.B.Board.view c.args.board.now in let now = g.B.Board.view c.step.new.board in
    again_stands c.args.run.now view now c.args.self.now c.step.new.self c.requires.stands c.requires.phase
    (due_keeps of.layout.ranks c.in-Again.ensures.made.0 view now c.args.self.now.reader.reader c.in-Again.ensures.made.1.knows)
    (subst (λ run. ReadsPuts run now c.step.new.self) c.requires.run c.step.ensures.reads)
    c.in-Again.ensures.tells
    (told_back c.args.self.now.reader.reader c.step.new.self.reader c.in-Again.ensures.made.0 _ c.in-Again.ensures.made.1.tells c.in-Again.ensures.made.1.stands)

pub returns-in-Again-clause-made : goal.returns-in-Again-clause-made
returns-in-Again-clause-made g c =
    let of = g.B.Board.of c.args.board.now in let made = c.in-Again.ensures.made in (
      made.0,
      is_due g.B.Board.leaves g.B.Board.view of.layout.ranks c.args.board.now c.step.new.board (due c.args.self.now.reader.reader) _ made.0 (due_phase c.args.self.now Reads c.requires.phase) made.1.leaves_it made.1.knows,
      again_leads c.args.self.now c.step.new.self made.0 c.requires.phase made.1.stands _ c.in-Again.ensures.made.1.tells,
      tt,
    )

pub work_out-requires : goal.work_out-requires
work_out-requires g c =
    let of = g.B.Board.of c.args.board.now in let view = g.B.Board.view c.args.board.now in let now = g.B.Board.view c.step.new.board in
    to_answer c.args.run.now view now c.args.self.now c.step.new.self c.requires.stands c.requires.phase
    (due_keeps of.layout.ranks c.step.ensures.made.0 view now c.args.self.now.reader.reader c.step.ensures.made.1.knows)
    (subst (λ run. ReadsPuts run now c.step.new.self) c.requires.run c.step.ensures.reads)
    c.in-Reading.put
    (subst (λ run. TellsPut run c.args.self.now.reader c.step.new.self (read.Reading c.in-Reading.put)) c.requires.run c.in-Reading.ensures.tells)

pub returns-in-Ok-clause-stands : goal.returns-in-Ok-clause-stands
returns-in-Ok-clause-stands g c =
    let of = g.B.Board.of c.args.board.now in let view = g.B.Board.view c.args.board.now in let now = g.B.Board.view c.step.new.board in
    worked_stands c.args.run.now view now c.args.self.now c.step.new.self c.requires.stands c.requires.phase
    (due_keeps of.layout.ranks c.in-Reading.ensures.made.0 view now c.args.self.now.reader.reader c.in-Reading.ensures.made.1.knows)
    (subst (λ run. ReadsPuts run now c.step.new.self) c.requires.run c.step.ensures.reads)
    c.in-Reading.put
    (subst (λ run. TellsPut run c.args.self.now.reader c.step.new.self (read.Reading c.in-Reading.put)) c.requires.run c.in-Reading.ensures.tells)
    _ c.in-Ok.field-0
    (told_back c.args.self.now.reader.reader c.step.new.self.reader c.in-Reading.ensures.made.0 _ c.in-Reading.ensures.made.1.tells c.in-Reading.ensures.made.1.stands)
    c.in-Ok.ensures.ok

pub returns-in-Ok-clause-made : goal.returns-in-Ok-clause-made
returns-in-Ok-clause-made g c =
    let of = g.B.Board.of c.args.board.now in let made = c.in-Reading.ensures.made in (
      made.0,
      is_due g.B.Board.leaves g.B.Board.view of.layout.ranks c.args.board.now c.step.new.board (due c.args.self.now.reader.reader) _ made.0 (due_phase c.args.self.now Reads c.requires.phase) made.1.leaves_it made.1.knows,
      answered_leads c.args.self.now c.step.new.self made.0 c.requires.phase made.1.stands c.args.run.now c.in-Reading.put _ c.in-Ok.field-0 c.in-Ok.ensures.ok c.in-Reading.ensures.made.1.tells,
      tt,
    )

pub returns-in-Err-clause-made : goal.returns-in-Err-clause-made
returns-in-Err-clause-made g c =
    let of = g.B.Board.of c.args.board.now in let made = c.in-Reading.ensures.made in (
      made.0,
      is_due g.B.Board.leaves g.B.Board.view of.layout.ranks c.args.board.now c.step.new.board (due c.args.self.now.reader.reader) _ made.0 (due_phase c.args.self.now Reads c.requires.phase) made.1.leaves_it made.1.knows,
      tt,
      refused_reading c.args.self.now c.step.new.self made.0 c.requires.phase made.1.stands c.in-Reading.put c.work_out.new.self made.1.tells c.in-Err.ensures.err,
    )
