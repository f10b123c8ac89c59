use Rattle.std.proofs.Common.{◌<◌, length, arith}
use Rattle.plain_board.proofs.Answering.{open_index, open_store, open_keeps, open_tells}
use Rattle.plain_board.proofs.plain.PlainBoardBoard.open_put.Goals as goal

pub index-place-requires : goal.index-place-requires
index-place-requires g c = let low : c.own_window.result < length c.self.inside.starts.items = open_index g.M.Meaning.entry g.M.Meaning.wide g.M.Meaning.count g.M.Meaning.lead g.M.Meaning.last g.met.M.Meaning.fits g.met.M.Meaning.small _ _ _ _ _ c.self.invariant _ c.index_mut-seat.ensures.value _ c.self.view_is c.args.entry _ c.requires.free c.own_window.ensures in omega (arith, c.self.inside.starts.ok.0)

pub index_mut-requires : goal.index_mut-requires
index_mut-requires g c = let low : c.index-place.result.now < length c.self.inside.words.items = open_store g.M.Meaning.entry g.M.Meaning.wide g.M.Meaning.count g.M.Meaning.lead g.M.Meaning.last g.met.M.Meaning.fits g.met.M.Meaning.small _ _ _ _ _ c.self.invariant _ c.index_mut-seat.ensures.value _ c.self.view_is c.args.entry _ _ c.requires.free c.own_window.ensures c.index-place.ensures in omega (arith, c.self.inside.words.ok.0)

pub invariant_of-self : goal.invariant_of-self
invariant_of-self g c = open_keeps g.M.Meaning.entry g.M.Meaning.wide g.M.Meaning.count g.M.Meaning.lead g.M.Meaning.last g.met.M.Meaning.fits g.met.M.Meaning.small _ _ _ _ _ c.self.invariant _ c.index_mut-seat.ensures.value _ c.self.view_is c.args.entry _ _ _ c.requires.free c.requires.led c.own_window.ensures c.index-place.ensures c.open.ensures.view c.open.ensures.room

pub returns : goal.returns
returns g c =
    let t = open_tells g.M.Meaning.entry g.M.Meaning.wide g.M.Meaning.count g.M.Meaning.lead g.M.Meaning.last g.met.M.Meaning.fits g.met.M.Meaning.small _ _ _ _ _ c.self.invariant _ c.index_mut-seat.ensures.value _ c.self.view_is c.args.entry _ _ _ c.requires.free c.own_window.ensures c.index-place.ensures c.open.ensures.view in
    record { leaves = t.0; same = t.1; view = t.2 }
