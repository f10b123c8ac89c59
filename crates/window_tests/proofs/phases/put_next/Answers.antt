use Rattle.window_words.specs.declared.views.View.{View}
use Rattle.window_words.specs.declared.views.Call.TheVariants.{Put}
use Rattle.window_words.specs.Views.{gained}
use Rattle.window_tests.proofs.Phasing.{knows_now, next_word, stays, word_put}
use Rattle.window_tests.proofs.phases.put_next.Goals as goal

pub put_word-requires : goal.put_word-requires
put_word-requires c = next_word c.args.board.now c.select.new.self _ c.select.ensures c.args.window c.args.last c.args.count _ c.requires.putting c.requires.more c.word_at.ensures

pub returns : goal.returns
returns c = record {
  putting = word_put c.args.window c.args.last c.args.count c.word_at.result _ _ c.requires.putting
      (knows_now c.args.board.now c.select.new.self c.put_word.new.self _ c.select.ensures _ _ c.put_word.ensures.leaves.1 (λ (v : View). gained (Put c.word_at.result) 0 v) c.put_word.ensures.view);
  stays = stays c.args.board.now c.select.new.self c.put_word.new.self _ c.select.ensures _ _ c.put_word.ensures.leaves.1;
}
