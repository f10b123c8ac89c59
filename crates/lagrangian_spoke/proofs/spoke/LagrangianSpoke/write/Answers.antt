use Rattle.std.proofs.Common.{rules, sym, subst, ◌+◌, FitsSigned}
use Rattle.std.specs.Int.{w128}
use Rattle.window_words.specs.declared.views.Call.TheVariants as call
use Rattle.lagrangian_spoke.specs.declared.spoke.Phase.TheVariants.{Writes}
use Rattle.lagrangian_spoke.specs.Spokes.{StandsFor}
use Rattle.lagrangian_spoke.proofs.Standing.{next_word, reply_at, writes_more}
use Rattle.lagrangian_spoke.proofs.Leading.{due_word, is_due, put_leads}
use Rattle.lagrangian_spoke.proofs.spoke.LagrangianSpoke.write.Goals as goal

pub put_word-requires : goal.put_word-requires
put_word-requires g c =
    let of = g.B.Board.of c.args.board.now in
    let fits : FitsSigned w128 c.args.self.now.value = search rules in
    next_word of.run.value (g.B.Board.view c.args.board.now) c.args.self.now c.requires.stands c.args.words of.layout c.reply_word.result of.facts.layout_is c.requires.phase c.requires.left (reply_at c.args.self.now.value c.args.words c.reply_word.result fits c.reply_word.ensures)

pub returns-clause-stands : goal.returns-clause-stands
returns-clause-stands g c =
    let of = g.B.Board.of c.args.board.now in
    subst (λ v. StandsFor of.run.value v (record c.args.self.now { phase = Writes (c.args.words + 1) })) (sym c.put_word.ensures.view)
    (writes_more of.run.value (g.B.Board.view c.args.board.now) c.args.self.now c.requires.stands c.args.words c.reply_word.result c.requires.phase c.requires.left)

pub returns-clause-made : goal.returns-clause-made
returns-clause-made g c =
    let of = g.B.Board.of c.args.board.now in
    let fits : FitsSigned w128 c.args.self.now.value = search rules in (
      0,
      is_due g.B.Board.leaves g.B.Board.view of.layout.ranks c.args.board.now c.put_word.new.self (call.Put c.reply_word.result) _ 0
          (due_word c.args.self.now c.args.words c.reply_word.result c.requires.phase c.requires.left (reply_at c.args.self.now.value c.args.words c.reply_word.result fits c.reply_word.ensures))
          c.put_word.ensures.leaves c.put_word.ensures.view,
      put_leads c.args.self.now c.args.words c.requires.phase c.requires.left,
    )
