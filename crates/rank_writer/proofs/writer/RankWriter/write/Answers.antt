use Rattle.std.proofs.Common.{sym, subst, ◌+◌, ◌<◌}
use Rattle.put_codec.specs.Entries.{entry_of, part_words}
use Rattle.put_codec.specs.Layouts.{width_of}
use Rattle.put_codec.specs.declared.run_meaning.RunMeaning.{RunMeaning}
use Rattle.window_words.specs.Conditions.{IsNextWord}
use Rattle.window_words.specs.declared.views.Call.TheVariants as call
use Rattle.rank_writer.specs.Writers.{StandsFor}
use Rattle.rank_writer.specs.declared.writer.Writing.TheVariants.{Open}
use Rattle.rank_writer.proofs.Due.{due_word, is_due, leads_on}
use Rattle.rank_writer.proofs.Standing.{entry_is, next_word, one_word, put_fits}
use Rattle.rank_writer.proofs.writer.RankWriter.write.Goals as goal

pub part_word-requires-clause-rank : goal.part_word-requires-clause-rank
part_word-requires-clause-rank g c = c.requires.stands.there

pub part_word-requires-clause-index : goal.part_word-requires-clause-index
part_word-requires-clause-index g c = subst (λ n. c.args.words < n) c.requires.stands.width c.requires.left

pub part_word-requires-clause-put : goal.part_word-requires-clause-put
part_word-requires-clause-put g c =
    let of = c.args.of.now in let put = c.args.put.now in
    put_fits of.run.value of.layout put c.requires.put.made of.facts.layout_is c.requires.put.made_is c.requires.put.put_is

pub put_word-requires : goal.put_word-requires
put_word-requires g c =
    let of = c.args.of.now in let put = c.args.put.now in let view = g.B.Board.view c.args.board.now in let w = c.args.self.now in
    let is = entry_is of.run.value of.layout put c.requires.put.made of.facts.layout_is c.requires.put.made_is c.requires.put.put_is w.rank c.requires.stands.there in
    subst (λ (m : RunMeaning). IsNextWord (λ (x : RunMeaning). entry_of x.run.value) (λ (x : RunMeaning). width_of x.layout) m view c.part_word.result) c.requires.of
    (next_word of.layout view w put.number c.requires.stands c.args.words c.part_word.result (entry_of of.run.value) (part_words of.layout w.rank put) c.requires.open c.requires.left is c.part_word.ensures)

pub returns-clause-stands : goal.returns-clause-stands
returns-clause-stands g c =
    let of = c.args.of.now in let put = c.args.put.now in let view = g.B.Board.view c.args.board.now in
    subst (λ v. StandsFor of.layout v (record c.args.self.now { writing = Open (c.args.words + 1) }) put.number) (sym c.put_word.ensures.view) (one_word of.layout view c.args.self.now put.number c.requires.stands c.args.words c.part_word.result c.requires.open c.requires.left)

pub returns-clause-made : goal.returns-clause-made
returns-clause-made g c =
    let of = c.args.of.now in let put = c.args.put.now in
    is_due g.B.Board.leaves g.B.Board.view of.layout.ranks c.args.board.now c.put_word.new.self (call.Put c.part_word.result) _ (due_word of.layout c.args.self.now put c.args.words c.part_word.result c.requires.open c.requires.left c.part_word.ensures) c.put_word.ensures.leaves c.put_word.ensures.view

pub returns-clause-writes : goal.returns-clause-writes
returns-clause-writes g c = leads_on c.args.self.now c.args.put.now.number c.args.words c.requires.open c.requires.left
