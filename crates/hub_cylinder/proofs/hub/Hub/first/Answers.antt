use Rattle.std.proofs.Common.{refl, false, None, ◌+◌}
use Rattle.hub_cylinder.proofs.FirstPuts.{first_keeps}
use Rattle.hub_cylinder.proofs.hub.Hub.first.Goals as goal

pub returns-clause-hub : goal.returns-clause-hub
returns-clause-hub c =
    let run = c.args.run.now in
    let rooms = c.in-Ok-rooms_for.rooms in
    first_keeps run rooms (record { run = c.of.result; most = run.options.iterations + 1; hedge = c.in-Ok.hedge; ledger = c.ledger_of.result; events = c.push.new.self; marks = rooms.marks; wrote = false; end = None; logs = rooms.logs; nothing = rooms.nothing }) c.requires c.in-Ok-rooms_for.ensures
    (record { of = c.of.ensures; most = refl; first = c.in-Ok.ensures.ok; pair = c.ledger_of.ensures; events = c.push.ensures.items; spare = c.push.ensures.spare; marks = refl; logs = refl; logs_room = refl; nothing = refl; end = refl })
