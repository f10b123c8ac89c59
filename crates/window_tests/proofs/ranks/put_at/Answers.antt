use Rattle.std.proofs.Common.{ap}
use Rattle.window_words.specs.declared.views.View.{View}
use Rattle.table_board.specs.Tables.{SeatValue}
use Rattle.window_tests.specs.declared.tiny.Tiny.{Tiny}
use Rattle.window_tests.proofs.Phasing.{word_put}
use Rattle.window_tests.proofs.Ranking.{rank_next_word}
use Rattle.window_tests.proofs.ranks.put_at.Goals as goal

pub put_word-requires : goal.put_word-requires
put_word-requires c = rank_next_word c.args.seat.now c.args.window c.args.last c.args.count _ c.requires.putting c.requires.more c.word_at.ensures

pub returns : goal.returns
returns c = record {
  putting = word_put c.args.window c.args.last c.args.count c.word_at.result _ _ c.requires.putting c.put_word.ensures.view;
  same = (ap (λ (z : SeatValue Tiny). z.0) c.put_word.ensures.leaves.0, c.put_word.ensures.same, (ap (λ (v : View). v.hub) c.put_word.ensures.view, ap (λ (v : View). v.stopped) c.put_word.ensures.view));
}
