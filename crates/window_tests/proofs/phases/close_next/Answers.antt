use Rattle.window_words.specs.declared.views.View.{View}
use Rattle.window_words.specs.declared.views.Call.TheVariants.{Close}
use Rattle.window_words.specs.Views.{gained}
use Rattle.window_tests.proofs.Phasing.{all_put, knows_now, put_closed, stays}
use Rattle.window_tests.proofs.phases.close_next.Goals as goal

pub close_put-requires : goal.close_put-requires
close_put-requires c = all_put c.args.board.now c.select.new.self _ c.select.ensures c.args.window c.args.last c.requires.putting

pub returns : goal.returns
returns c = record {
  put = put_closed c.args.window c.args.last _ _ _ c.requires.putting
      (knows_now c.args.board.now c.select.new.self c.close_put.new.self _ c.select.ensures _ _ c.close_put.ensures.leaves.1 (λ (v : View). gained Close 0 v) c.close_put.ensures.view);
  stays = stays c.args.board.now c.select.new.self c.close_put.new.self _ c.select.ensures _ _ c.close_put.ensures.leaves.1;
}
