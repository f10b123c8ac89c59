use Rattle.std.proofs.Common.{arith, ◌<◌, length}
use Rattle.board_tests.proofs.Desking.{acted_again}
use Rattle.board_tests.proofs.plain.PlainDeskDesk.turn.Goals as goal

pub invariant_of-self-2 : goal.invariant_of-self-2
invariant_of-self-2 c =
    let below : c.args.seat < length c.self.inside.actors.items = omega (arith, c.len.ensures, c.if-seat-len.false) in
    acted_again c.self.inside.given.now c.self.inside.board c.act_at.new.board c.self.inside.actors.items c.args.seat c.replace-actor.new.dest c.in_ok-actor.actor c.self.invariant below c.replace-actor.ensures.after c.in_ok-actor.ensures.stays c.in_ok-actor.ensures.sits
