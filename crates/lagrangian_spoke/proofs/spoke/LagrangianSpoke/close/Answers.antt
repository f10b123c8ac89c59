use Rattle.std.proofs.Common.{sym, subst}
use Rattle.log_words.specs.declared.step.SpokeStep.TheVariants as told
use Rattle.window_words.specs.declared.views.Call.TheVariants as call
use Rattle.lagrangian_spoke.specs.declared.spoke.Phase.TheVariants.{Asks, Writes}
use Rattle.lagrangian_spoke.specs.Spokes.{Leads, Records, StandsFor}
use Rattle.lagrangian_spoke.proofs.Standing.{all_put}
use Rattle.lagrangian_spoke.proofs.Closing.{closes, room_left}
use Rattle.lagrangian_spoke.proofs.Leading.{closed_leads, due_phase, is_due}
use Rattle.lagrangian_spoke.proofs.spoke.LagrangianSpoke.close.Goals as goal

pub close_put-requires : goal.close_put-requires
close_put-requires g c = let of = g.B.Board.of c.args.board.now in all_put of.run.value (g.B.Board.view c.args.board.now) c.args.self.now c.requires.stands of.layout of.facts.layout_is c.requires.phase

pub record-requires : goal.record-requires
record-requires g c = let of = g.B.Board.of c.args.board.now in room_left of.run.value (g.B.Board.view c.args.board.now) c.args.self.now c.requires.stands c.requires.phase

pub returns-clause-stands : goal.returns-clause-stands
returns-clause-stands g c =
    let of = g.B.Board.of c.args.board.now in
    let r = subst (λ k. Records (record c.args.self.now { phase = Asks }) c.record.new.self k) c.last-put.ensures c.record.ensures in
    subst (λ v. StandsFor of.run.value v c.record.new.self) (sym c.close_put.ensures.view)
    (closes of.run.value (g.B.Board.view c.args.board.now) c.args.self.now c.record.new.self c.requires.stands c.requires.phase r)

pub returns-clause-made : goal.returns-clause-made
returns-clause-made g c =
    let of = g.B.Board.of c.args.board.now in
    let s = c.args.self.now in
    let r = subst (λ k. Records (record s { phase = Asks }) c.record.new.self k) c.last-put.ensures c.record.ensures in (
      0,
      is_due g.B.Board.leaves g.B.Board.view of.layout.ranks c.args.board.now c.close_put.new.self call.Close _ 0 (due_phase s (Writes 3) c.requires.phase) c.close_put.ensures.leaves c.close_put.ensures.view,
      subst (λ k. Leads s c.record.new.self 0 s.phase (told.Replied k)) (sym c.last-put.ensures) (closed_leads s c.record.new.self c.requires.phase r.phase r.number r.reader r.items),
    )
