use Rattle.window_words.specs.declared.views.View.{View}
use Rattle.window_words.specs.declared.views.Call.TheVariants.{Open}
use Rattle.window_words.specs.Views.{gained}
use Rattle.std.proofs.Common.{◌+◌}
use Rattle.window_tests.proofs.Phasing.{knows_now, may_open, not_ahead, put_opened, stays}
use Rattle.window_tests.proofs.phases.open_next.Goals as goal

pub open_put-requires : goal.open_put-requires
open_put-requires c = record {
  free = may_open c.args.board.now c.select.new.self _ c.select.ensures c.args.window c.args.last c.requires.put c.requires.leads.most;
  led = not_ahead c.args.board.now c.select.new.self _ c.select.ensures c.args.window c.args.last _ c.requires.put c.requires.leads.leads;
}

pub returns : goal.returns
returns c = record {
  putting = put_opened c.args.window c.args.last _ _ c.requires.put
      (knows_now c.args.board.now c.select.new.self c.open_put.new.self _ c.select.ensures _ _ c.open_put.ensures.leaves.1 (λ (v : View). gained (Open (c.args.last + 1)) 0 v) c.open_put.ensures.view);
  stays = stays c.args.board.now c.select.new.self c.open_put.new.self _ c.select.ensures _ _ c.open_put.ensures.leaves.1;
}
