use Rattle.plain_board.proofs.Shown.{added, adding_fits, leader_accepts, rooms_kept}
use Rattle.plain_board.proofs.seat.PlainSeat.accept.Goals as goal

pub add-requires : goal.add-requires
add-requires c = adding_fits c.args.leaders c.args.window c.args.entry c.args.self.now.accepted.items _ c.requires c.index_mut-else-window-leaders.ensures.value c.if-window-leaders.false

pub returns-then-window-leaders-clause-accepted : goal.returns-then-window-leaders-clause-accepted
returns-then-window-leaders-clause-accepted c = leader_accepts c.args.self.now.accepted.items c.args.leaders c.args.window c.args.entry _ c.if-window-leaders.true c.replace.ensures.items

pub returns-then-window-leaders-clause-rooms : goal.returns-then-window-leaders-clause-rooms
returns-then-window-leaders-clause-rooms c = rooms_kept c.args.leaders c.args.window c.args.entry c.args.self.now.accepted.items _ c.requires c.index_mut.ensures.value _ c.replace.ensures.room

pub returns-else-window-leaders-clause-accepted : goal.returns-else-window-leaders-clause-accepted
returns-else-window-leaders-clause-accepted c = added c.args.leaders c.args.window c.args.entry c.args.self.now.accepted.items _ c.requires c.index_mut-else-window-leaders.ensures.value _ c.if-window-leaders.false c.add.ensures.items

pub returns-else-window-leaders-clause-rooms : goal.returns-else-window-leaders-clause-rooms
returns-else-window-leaders-clause-rooms c = rooms_kept c.args.leaders c.args.window c.args.entry c.args.self.now.accepted.items _ c.requires c.index_mut-else-window-leaders.ensures.value _ c.add.ensures.room
