use Rattle.std.proofs.Common.{◌<◌, ◌^◌, ◌∙◌, length, arith}
use Rattle.table_board.proofs.Tabling.{fresh_rule, fresh_stands}
use Rattle.table_board.proofs.table.TableBoard.new.Goals as goal

pub of_words-requires : goal.of_words-requires
of_words-requires g c = fresh_rule g.M.Meaning.entry g.M.Meaning.wide g.M.Meaning.count g.M.Meaning.lead g.M.Meaning.last c.args.meaning _ _ _ c.in_ok-places.ensures (c.as_slice.ensures.value ∙ c.in_ok-words.ensures)

pub invariant_of-result : goal.invariant_of-result
invariant_of-result g c =
    let few : length c.in_ok-words.words.items < 2 ^ 64 = omega (arith, c.in_ok-words.words.ok.0, c.in_ok-words.words.ok.1, c.in_ok-words.words.small) in
    let t = c.in_ok-table.ensures in
    fresh_stands g.M.Meaning.wide g.M.Meaning.count _ _ c.args.meaning c.in_ok-words.words.items c.as_slice.result.now _ _ c.in_ok-table.hub c.in_ok-places.ensures c.in_ok-words.ensures c.as_slice.ensures.value few t.0 t.2 t.4 t.5
