use Rattle.std.proofs.Common.{sym, subst}
use Rattle.run_calls.specs.declared.put.Put.{Put}
use Rattle.put_codec.specs.Entries.{FitsLayout}
use Rattle.put_codec.specs.declared.layout.Layout.{Layout}
use Rattle.put_codec.proofs.Spellable.{put_fits}
use Rattle.board_tests.proofs.given.Given.part.Goals as goal

pub part_word-requires-clause-put : goal.part_word-requires-clause-put
part_word-requires-clause-put c =
    let put = c.requires.put in
    subst (λ (z : Layout × Put). FitsLayout z.0 z.1) (λ i. (sym c.layout_of-layout.ensures i, sym put.put_is i)) (put_fits c.args.self.now.run c.args.put.now.number put.made put.made_is)
