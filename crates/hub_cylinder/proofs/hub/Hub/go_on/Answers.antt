use Rattle.std.proofs.Common.{refl, false}
use Rattle.hub_cylinder.proofs.GoingOn.{go_keeps}
use Rattle.hub_cylinder.proofs.hub.Hub.go_on.Goals as goal

pub returns-in-Ok-clause-hub : goal.returns-in-Ok-clause-hub
returns-in-Ok-clause-hub c =
    let s = c.args.self.now in
    go_keeps c.args.run.now s (record s { hedge = c.next.new.hedge; events = c.push.new.self; wrote = false }) c.requires.hub c.requires.goes_on
    (record { run_is = refl; most = refl; made = c.in-Ok.ensures.put; number = c.in-Ok.ensures.number; bound = c.in-Ok.ensures.bound; pair = refl; events = c.push.ensures.items; spare = c.push.ensures.spare; marks = refl; logs = refl; logs_room = refl; nothing = refl; end = c.requires.going })
