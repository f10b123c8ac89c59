use Rattle.std.proofs.Common.{arith, ◌+◌}
use Rattle.window_words.specs.declared.views.View.{View}
use Rattle.window_words.specs.declared.views.Call.TheVariants.{Close}
use Rattle.window_words.specs.Views.{gained}
use Rattle.spoke_tests.proofs.Seating.{knows_now, stays}
use Rattle.spoke_tests.proofs.Parts.{all_put, part_closed, seat_there}
use Rattle.spoke_tests.proofs.placing.close_part.Goals as goal

pub select-requires : goal.select-requires
select-requires c = let below = c.requires.rank in seat_there c.args.run.now c.args.board.now (c.args.rank + 1) c.requires.board (omega arith)

pub close_put-requires : goal.close_put-requires
close_put-requires c = all_put c.args.run.now c.args.put.now c.requires.put c.args.board.now c.select.new.self c.args.rank c.requires.board c.requires.rank c.select.ensures c.requires.putting

pub returns : goal.returns
returns c = record {
  free = part_closed c.args.rank c.args.put.now.number _ _ _ c.requires.putting
      (knows_now c.args.board.now c.select.new.self _ c.select.ensures c.close_put.new.self _ _ c.close_put.ensures.leaves.1 (λ (v : View). gained Close 0 v) c.close_put.ensures.view);
  stays = stays c.args.board.now c.select.new.self _ c.select.ensures c.close_put.new.self _ _ c.close_put.ensures.leaves.1;
}
