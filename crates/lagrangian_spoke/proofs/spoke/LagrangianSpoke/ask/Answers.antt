use Rattle.std.proofs.Common.{arith, sym, subst}
use Rattle.window_words.specs.declared.views.Call.TheVariants as call
use Rattle.lagrangian_spoke.specs.declared.spoke.Phase.TheVariants.{Asks, Ended, Reads}
use Rattle.lagrangian_spoke.specs.Spokes.{StandsFor}
use Rattle.lagrangian_spoke.proofs.Standing.{asks_ended, asks_reads}
use Rattle.lagrangian_spoke.proofs.Leading.{asked_ends, asked_reads, due_phase, is_due}
use Rattle.lagrangian_spoke.proofs.spoke.LagrangianSpoke.ask.Goals as goal

pub returns-then-stopped-eq0-clause-stands : goal.returns-then-stopped-eq0-clause-stands
returns-then-stopped-eq0-clause-stands g c = let of = g.B.Board.of c.args.board.now in subst (λ v. StandsFor of.run.value v (record c.args.self.now { phase = Reads })) (sym c.stopped.ensures.view) (asks_reads of.run.value (g.B.Board.view c.args.board.now) c.args.self.now c.requires.stands c.requires.phase)

pub returns-then-stopped-eq0-clause-made : goal.returns-then-stopped-eq0-clause-made
returns-then-stopped-eq0-clause-made g c = let of = g.B.Board.of c.args.board.now in (c.stopped.result, is_due g.B.Board.leaves g.B.Board.view of.layout.ranks c.args.board.now c.stopped.new.self call.Stopped _ c.stopped.result (due_phase c.args.self.now Asks c.requires.phase) c.stopped.ensures.leaves c.stopped.ensures.view, asked_reads c.args.self.now c.stopped.result c.requires.phase c.if-stopped-eq0.true)

pub returns-clause-stands : goal.returns-clause-stands
returns-clause-stands g c = let of = g.B.Board.of c.args.board.now in subst (λ v. StandsFor of.run.value v (record c.args.self.now { phase = Ended })) (sym c.stopped.ensures.view) (asks_ended of.run.value (g.B.Board.view c.args.board.now) c.args.self.now c.requires.stands c.requires.phase)

pub returns-clause-made : goal.returns-clause-made
returns-clause-made g c = let of = g.B.Board.of c.args.board.now in (c.stopped.result, is_due g.B.Board.leaves g.B.Board.view of.layout.ranks c.args.board.now c.stopped.new.self call.Stopped _ c.stopped.result (due_phase c.args.self.now Asks c.requires.phase) c.stopped.ensures.leaves c.stopped.ensures.view, asked_ends c.args.self.now c.stopped.result c.requires.phase (omega (arith, c.if-stopped-eq0.false)))
