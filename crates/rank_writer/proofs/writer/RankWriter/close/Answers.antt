use Rattle.std.proofs.Common.{sym, subst}
use Rattle.put_codec.specs.Layouts.{width_of}
use Rattle.put_codec.specs.declared.run_meaning.RunMeaning.{RunMeaning}
use Rattle.window_words.specs.Conditions.{IsAllPut}
use Rattle.window_words.specs.declared.views.Call.TheVariants as call
use Rattle.rank_writer.specs.Writers.{StandsFor}
use Rattle.rank_writer.specs.declared.writer.Writing.TheVariants.{Shut}
use Rattle.rank_writer.proofs.Due.{due_close, is_due, leads_shut}
use Rattle.rank_writer.proofs.Standing.{all_put, shut}
use Rattle.rank_writer.proofs.writer.RankWriter.close.Goals as goal

pub close_put-requires : goal.close_put-requires
close_put-requires g c =
    let of = c.args.of.now in let put = c.args.put.now in let view = g.B.Board.view c.args.board.now in
    subst (λ (m : RunMeaning). IsAllPut (width_of m.layout) view) c.requires.of (all_put of.layout view c.args.self.now put.number c.requires.stands c.args.words c.requires.open c.requires.full)

pub returns-clause-stands : goal.returns-clause-stands
returns-clause-stands g c =
    let of = c.args.of.now in let put = c.args.put.now in let view = g.B.Board.view c.args.board.now in
    subst (λ v. StandsFor of.layout v (record c.args.self.now { last = put.number; writing = Shut }) put.number) (sym c.close_put.ensures.view) (shut of.layout view c.args.self.now put.number c.requires.stands c.args.words c.requires.open)

pub returns-clause-made : goal.returns-clause-made
returns-clause-made g c =
    let of = c.args.of.now in let put = c.args.put.now in
    is_due g.B.Board.leaves g.B.Board.view of.layout.ranks c.args.board.now c.close_put.new.self call.Close _ (due_close of.layout c.args.self.now put c.args.words c.requires.open c.requires.full) c.close_put.ensures.leaves c.close_put.ensures.view

pub returns-clause-writes : goal.returns-clause-writes
returns-clause-writes g c = leads_shut c.args.self.now c.args.put.now.number c.args.words c.requires.open c.requires.full
