use Rattle.std.proofs.Common.{◌<◌, length, arith}
use Rattle.plain_board.proofs.Answering.{stop_bounds, stop_keeps, stop_tells}
use Rattle.plain_board.proofs.plain.PlainBoardBoard.stop.Goals as goal

pub index_mut-requires : goal.index_mut-requires
index_mut-requires g c = let low : 0 < length c.self.inside.words.items = stop_bounds g.M.Meaning.entry g.M.Meaning.wide g.M.Meaning.count g.M.Meaning.lead g.M.Meaning.last g.met.M.Meaning.fits g.met.M.Meaning.small _ _ _ _ _ c.self.invariant _ c.index_mut-seat.ensures.value _ c.self.view_is in omega (arith, c.self.inside.words.ok.0)

pub invariant_of-self : goal.invariant_of-self
invariant_of-self g c = stop_keeps g.M.Meaning.entry g.M.Meaning.wide g.M.Meaning.count g.M.Meaning.lead g.M.Meaning.last g.met.M.Meaning.fits g.met.M.Meaning.small _ _ _ _ _ c.self.invariant _ c.index_mut-seat.ensures.value _ c.self.view_is c.args.last _ c.requires.hub (omega arith) c.stop.ensures.view c.stop.ensures.room

pub returns : goal.returns
returns g c =
    let t = stop_tells g.M.Meaning.entry g.M.Meaning.wide g.M.Meaning.count g.M.Meaning.lead g.M.Meaning.last g.met.M.Meaning.fits g.met.M.Meaning.small _ _ _ _ _ c.self.invariant _ c.index_mut-seat.ensures.value _ c.self.view_is c.args.last _ c.stop.ensures.view in
    record { leaves = t.0; same = t.1; view = t.2 }
