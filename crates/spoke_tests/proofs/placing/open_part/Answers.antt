use Rattle.std.proofs.Common.{arith, ◌+◌}
use Rattle.window_words.specs.declared.views.View.{View}
use Rattle.window_words.specs.declared.views.Call.TheVariants.{Open}
use Rattle.window_words.specs.Views.{gained}
use Rattle.spoke_tests.proofs.Seating.{knows_now, stays}
use Rattle.spoke_tests.proofs.Parts.{may_open, not_ahead, part_opened, seat_there}
use Rattle.spoke_tests.proofs.placing.open_part.Goals as goal

pub select-requires : goal.select-requires
select-requires c = let below = c.requires.rank in seat_there c.args.run.now c.args.board.now (c.args.rank + 1) c.requires.board (omega arith)

pub open_put-requires : goal.open_put-requires
open_put-requires c = record {
  free = may_open c.args.run.now c.args.put.now c.requires.put c.args.board.now c.select.new.self c.args.rank c.requires.board c.requires.rank c.select.ensures c.requires.free;
  led = not_ahead c.args.run.now c.args.put.now c.requires.put c.args.board.now c.select.new.self c.args.rank c.requires.board c.requires.rank c.select.ensures c.requires.free;
}

pub returns : goal.returns
returns c = record {
  putting = part_opened c.args.rank c.args.put.now.number _ _ c.requires.free
      (knows_now c.args.board.now c.select.new.self _ c.select.ensures c.open_put.new.self _ _ c.open_put.ensures.leaves.1 (λ (v : View). gained (Open c.args.put.now.number) 0 v) c.open_put.ensures.view);
  stays = stays c.args.board.now c.select.new.self _ c.select.ensures c.open_put.new.self _ _ c.open_put.ensures.leaves.1;
}
