use Rattle.std.proofs.Common.{ap}
use Rattle.window_words.specs.declared.views.View.{View}
use Rattle.table_board.specs.Tables.{SeatValue}
use Rattle.window_tests.specs.declared.tiny.Tiny.{Tiny}
use Rattle.window_tests.proofs.Phasing.{put_closed}
use Rattle.window_tests.proofs.Ranking.{rank_all_put}
use Rattle.window_tests.proofs.ranks.close_at.Goals as goal

pub close_put-requires : goal.close_put-requires
close_put-requires c = rank_all_put c.args.seat.now c.args.window c.args.last c.requires.putting

pub returns : goal.returns
returns c = record {
  put = put_closed c.args.window c.args.last _ _ _ c.requires.putting c.close_put.ensures.view;
  same = (ap (λ (z : SeatValue Tiny). z.0) c.close_put.ensures.leaves.0, c.close_put.ensures.same, (ap (λ (v : View). v.hub) c.close_put.ensures.view, ap (λ (v : View). v.stopped) c.close_put.ensures.view));
}
