use Rattle.std.proofs.Common.{arith, ◌≤◌}
use Rattle.put_codec.specs.Layouts.{windows_of}
use Rattle.board_tests.proofs.Desking.{more_actors, one_more}
use Rattle.board_tests.proofs.plain.actors.Goals as goal

pub loop-place-preserved : goal.loop-place-preserved
loop-place-preserved c =
    let few : c.loop-place.place ≤ windows_of c.args.given.now.of.layout = omega (arith, c.loop-place-test.true, c.windows-place-end.ensures) in record {
      fresh = one_more c.args.given.now c.loop-place.actors.items c.push.new.self.items c.loop-place.place c.in_ok-actor.actor c.loop-place.invariant.fresh c.loop-place.invariant.many few c.in_ok-actor.ensures c.in_ok-push.ensures.items;
      many = more_actors c.loop-place.actors.items c.push.new.self.items c.loop-place.place c.in_ok-actor.actor c.loop-place.invariant.many c.in_ok-push.ensures.items;
    }
