use Rattle.hedging.specs.Hedges.{made_of}
use Rattle.std.proofs.Common.{sym, subst}
use Rattle.put_codec.specs.Entries.{FitsLayout}
use Rattle.put_codec.proofs.Spellable.{put_fits}
use Rattle.spoke_tests.proofs.spelling.part_text.Goals as goal

pub part_word-requires-clause-put : goal.part_word-requires-clause-put
part_word-requires-clause-put c = subst (λ layout. FitsLayout layout c.args.hedge.now.put) (sym c.layout_of-layout.ensures) (put_fits c.args.run.now 1 (made_of c.args.hedge.now) c.requires.put)
