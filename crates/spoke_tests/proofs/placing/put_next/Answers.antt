use Rattle.std.proofs.Common.{arith, ◌+◌, ◌<◌, sym, subst}
use Rattle.window_words.specs.declared.views.View.{View}
use Rattle.window_words.specs.declared.views.Call.TheVariants.{Put}
use Rattle.window_words.specs.Views.{gained}
use Rattle.put_codec.specs.Layouts.{width_of}
use Rattle.put_codec.specs.declared.layout.Layout.{Layout}
use Rattle.spoke_tests.proofs.Seating.{knows_now, stays}
use Rattle.spoke_tests.proofs.Parts.{fits, next_word, seat_there, word_put}
use Rattle.spoke_tests.proofs.placing.put_next.Goals as goal

pub select-requires : goal.select-requires
select-requires c = let below = c.requires.rank in seat_there c.args.run.now c.args.board.now (c.args.rank + 1) c.requires.board (omega arith)

pub part_word-requires-clause-rank : goal.part_word-requires-clause-rank
part_word-requires-clause-rank c = subst (λ (z : Layout). c.args.rank < z.ranks) (sym c.layout_of-layout.ensures) c.requires.rank

pub part_word-requires-clause-index : goal.part_word-requires-clause-index
part_word-requires-clause-index c = subst (λ (z : Layout). c.args.index < width_of z c.args.rank) (sym c.layout_of-layout.ensures) c.requires.more

pub part_word-requires-clause-put : goal.part_word-requires-clause-put
part_word-requires-clause-put c = fits c.args.run.now c.layout_of-layout.result c.args.put.now c.requires.put c.layout_of-layout.ensures

pub put_word-requires : goal.put_word-requires
put_word-requires c = next_word c.args.run.now c.args.put.now c.requires.put c.args.board.now c.select.new.self c.args.rank c.requires.board c.requires.rank c.select.ensures c.args.index c.layout_of-layout.result c.part_word.result c.requires.putting c.layout_of-layout.ensures c.requires.more c.part_word.ensures

pub returns : goal.returns
returns c = record {
  putting = word_put c.args.rank c.args.put.now.number c.args.index c.part_word.result _ _ c.requires.putting
      (knows_now c.args.board.now c.select.new.self _ c.select.ensures c.put_word.new.self _ _ c.put_word.ensures.leaves.1 (λ (v : View). gained (Put c.part_word.result) 0 v) c.put_word.ensures.view);
  stays = stays c.args.board.now c.select.new.self _ c.select.ensures c.put_word.new.self _ _ c.put_word.ensures.leaves.1;
}
