use Rattle.std.proofs.Common.{ap}
use Rattle.window_words.specs.declared.views.View.{View}
use Rattle.table_board.specs.Tables.{SeatValue}
use Rattle.window_tests.specs.declared.tiny.Tiny.{Tiny}
use Rattle.window_tests.proofs.Phasing.{put_opened}
use Rattle.window_tests.proofs.Ranking.{rank_may_open, rank_leads}
use Rattle.window_tests.proofs.ranks.open_at.Goals as goal

pub open_put-requires : goal.open_put-requires
open_put-requires c = record {
  free = rank_may_open c.args.seat.now c.args.window c.args.last c.requires.put c.requires.leads.1;
  led = rank_leads c.args.seat.now c.args.window c.args.last _ c.requires.put c.requires.leads.0;
}

pub returns : goal.returns
returns c = record {
  putting = put_opened c.args.window c.args.last _ _ c.requires.put c.open_put.ensures.view;
  same = (ap (λ (z : SeatValue Tiny). z.0) c.open_put.ensures.leaves.0, c.open_put.ensures.same, (ap (λ (v : View). v.hub) c.open_put.ensures.view, ap (λ (v : View). v.stopped) c.open_put.ensures.view));
}
