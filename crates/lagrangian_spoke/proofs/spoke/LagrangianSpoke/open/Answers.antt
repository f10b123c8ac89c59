use Rattle.std.proofs.Common.{sym, subst, ap, ◌∙◌}
use Rattle.window_words.specs.Conditions.{IsNotAhead, MayOpen}
use Rattle.window_words.specs.Views.{after}
use Rattle.window_words.specs.declared.views.Call.TheVariants as call
use Rattle.lagrangian_spoke.specs.declared.spoke.Phase.TheVariants.{Opens, Writes}
use Rattle.lagrangian_spoke.specs.Spokes.{StandsFor}
use Rattle.lagrangian_spoke.proofs.Standing.{may_open, not_ahead, opens_writes}
use Rattle.lagrangian_spoke.proofs.Leading.{due_phase, is_due, opened_leads}
use Rattle.lagrangian_spoke.proofs.spoke.LagrangianSpoke.open.Goals as goal

pub open_put-requires-clause-free : goal.open_put-requires-clause-free
open_put-requires-clause-free g c =
    let of = g.B.Board.of c.args.board.now in let view = g.B.Board.view c.args.board.now in
    subst (λ k. MayOpen of.most view k) (sym c.last.ensures) (may_open of.run.value view c.args.self.now c.requires.stands of.most of.facts.most_is c.requires.phase)

pub open_put-requires-clause-led : goal.open_put-requires-clause-led
open_put-requires-clause-led g c =
    let of = g.B.Board.of c.args.board.now in let view = g.B.Board.view c.args.board.now in
    subst (λ k. IsNotAhead of.layout.ranks view k) (sym c.last.ensures) (not_ahead of.run.value view c.args.self.now c.requires.stands of.layout.ranks (ap (λ z. z.ranks) of.facts.layout_is))

pub returns-clause-stands : goal.returns-clause-stands
returns-clause-stands g c =
    let of = g.B.Board.of c.args.board.now in let view = g.B.Board.view c.args.board.now in
    subst (λ v. StandsFor of.run.value v (record c.args.self.now { phase = Writes 0 })) (sym (c.open_put.ensures.view ∙ ap (λ k. after of.run.value.options.ranks (call.Open k) 0 view) c.last.ensures))
    (opens_writes of.run.value view c.args.self.now c.requires.stands c.requires.phase)

pub returns-clause-made : goal.returns-clause-made
returns-clause-made g c =
    let of = g.B.Board.of c.args.board.now in (
      0,
      is_due g.B.Board.leaves g.B.Board.view of.layout.ranks c.args.board.now c.open_put.new.self (call.Open c.last.result) _ 0 (due_phase c.args.self.now Opens c.requires.phase ∙ ap (λ k. call.Open k) (sym c.last.ensures))
          c.open_put.ensures.leaves c.open_put.ensures.view,
      opened_leads c.args.self.now c.requires.phase,
    )
