use Rattle.std.proofs.Common.{◌<◌, length, refl, arith}
use Rattle.plain_board.proofs.Answering.{stop_word_there, stopped_tells}
use Rattle.plain_board.proofs.plain.PlainBoardBoard.stopped.Goals as goal

pub index-requires : goal.index-requires
index-requires g c = let low : 0 < length c.self.inside.words.items = stop_word_there g.M.Meaning.entry g.M.Meaning.wide g.M.Meaning.count g.M.Meaning.lead g.M.Meaning.last _ _ _ _ _ c.self.invariant in omega (arith, c.self.inside.words.ok.0)

pub returns : goal.returns
returns g c =
    let t = stopped_tells g.M.Meaning.entry g.M.Meaning.wide g.M.Meaning.count g.M.Meaning.lead g.M.Meaning.last _ _ _ _ _ c.self.invariant _ c.self.view_is _ c.index.ensures in
    record { leaves = t.0; same = refl; view = refl; hub = t.1 }
