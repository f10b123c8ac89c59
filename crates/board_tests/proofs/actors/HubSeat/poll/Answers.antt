use Rattle.std.proofs.Common.{sym, ap, subst, ◌∙◌}
use Rattle.std.proofs.Common.{inr}
use Rattle.put_codec.specs.declared.run_meaning.RunMeaning.{RunMeaning}
use Rattle.put_read.specs.SpokeReads.{ReadsSpoke}
use Rattle.sp_model.specs.declared.run.Run.{Run}
use Rattle.stamped_read.specs.Readers.{due}
use Rattle.board_tests.proofs.Calling.{hub_polled}
use Rattle.board_tests.proofs.actors.HubSeat.poll.Goals as goal

pub step-requires : goal.step-requires
step-requires g c =
    let run_is = ap (λ (m : RunMeaning). m.run.value) c.requires.of ∙ c.requires.given.of in
    subst (λ (r : Run). ReadsSpoke r (g.B.Board.view c.args.board.now) c.args.self.now.poll) (sym run_is) c.requires.sits.reads

pub returns-clause-of : goal.returns-clause-of
returns-clause-of g c = c.step.ensures.same ∙ c.requires.of

pub returns-clause-sits : goal.returns-clause-sits
returns-clause-sits g c =
    let run_is = ap (λ (m : RunMeaning). m.run.value) c.requires.of ∙ c.requires.given.of in
    hub_polled c.args.given.now.run (g.B.Board.of c.args.board.now).layout.ranks c.step.ensures.made.0 (g.B.Board.view c.args.board.now) (g.B.Board.view c.step.new.board) c.args.self.now c.step.new.self c.requires.sits c.step.ensures.made.1.knows
    (subst (λ (r : Run). ReadsSpoke r (g.B.Board.view c.step.new.board) c.step.new.self) run_is c.step.ensures.reads)

pub returns-clause-made : goal.returns-clause-made
returns-clause-made g c = inr (due c.args.self.now.poll.reader, c.step.ensures.made.0, c.step.ensures.made.1.leaves_it)
