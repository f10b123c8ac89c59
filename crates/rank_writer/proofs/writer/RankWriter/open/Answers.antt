use Rattle.std.proofs.Common.{sym, subst}
use Rattle.put_codec.specs.declared.run_meaning.RunMeaning.{RunMeaning}
use Rattle.window_words.specs.Conditions.{IsNotAhead, MayOpen}
use Rattle.window_words.specs.declared.views.Call.TheVariants as call
use Rattle.rank_writer.specs.Writers.{StandsFor}
use Rattle.rank_writer.specs.declared.writer.Writing.TheVariants.{Open, Shut}
use Rattle.rank_writer.proofs.Due.{due_when, is_due, leads_when}
use Rattle.rank_writer.proofs.Standing.{may_open, not_ahead, opened}
use Rattle.rank_writer.proofs.writer.RankWriter.open.Goals as goal

pub open_put-requires-clause-free : goal.open_put-requires-clause-free
open_put-requires-clause-free g c =
    let of = c.args.of.now in let put = c.args.put.now in let view = g.B.Board.view c.args.board.now in
    subst (λ (m : RunMeaning). MayOpen m.most view put.number) c.requires.of (may_open of.layout view c.args.self.now put.number c.requires.stands of.most c.requires.shut c.requires.due c.requires.put.number)

pub open_put-requires-clause-led : goal.open_put-requires-clause-led
open_put-requires-clause-led g c =
    let of = c.args.of.now in let put = c.args.put.now in let view = g.B.Board.view c.args.board.now in
    subst (λ (m : RunMeaning). IsNotAhead m.layout.ranks view put.number) c.requires.of (not_ahead of.layout view c.args.self.now put.number c.requires.stands)

pub returns-clause-stands : goal.returns-clause-stands
returns-clause-stands g c =
    let of = c.args.of.now in let put = c.args.put.now in let view = g.B.Board.view c.args.board.now in
    subst (λ v. StandsFor of.layout v (record c.args.self.now { writing = Open 0 }) put.number) (sym c.open_put.ensures.view) (opened of.layout view c.args.self.now put.number c.requires.stands c.requires.shut)

pub returns-clause-made : goal.returns-clause-made
returns-clause-made g c =
    let of = c.args.of.now in let put = c.args.put.now in
    is_due g.B.Board.leaves g.B.Board.view of.layout.ranks c.args.board.now c.open_put.new.self (call.Open put.number) _ (due_when of.layout c.args.self.now put Shut c.requires.shut) c.open_put.ensures.leaves c.open_put.ensures.view

pub returns-clause-writes : goal.returns-clause-writes
returns-clause-writes g c = leads_when c.args.self.now c.args.put.now.number Shut c.requires.shut
