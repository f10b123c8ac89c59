use Rattle.std.proofs.Common.{◌*◌, ◌<◌, ◌^◌, length, arith}
use Rattle.plain_board.proofs.Answering.{close_fits, close_index, close_store, close_room, close_keeps, close_tells}
use Rattle.plain_board.proofs.plain.PlainBoardBoard.close_put.Goals as goal

pub index-place-requires : goal.index-place-requires
index-place-requires g c = let low : c.own_window.result < length c.self.inside.starts.items = close_index g.M.Meaning.entry g.M.Meaning.wide g.M.Meaning.count g.M.Meaning.lead g.M.Meaning.last g.met.M.Meaning.fits g.met.M.Meaning.small _ _ _ _ _ c.self.invariant _ c.index_mut-seat.ensures.value _ c.self.view_is _ c.requires c.own_window.ensures in omega (arith, c.self.inside.starts.ok.0)

pub index_mut-requires : goal.index_mut-requires
index_mut-requires g c = let low : c.index-place.result.now < length c.self.inside.words.items = close_store g.M.Meaning.entry g.M.Meaning.wide g.M.Meaning.count g.M.Meaning.lead g.M.Meaning.last g.met.M.Meaning.fits g.met.M.Meaning.small _ _ _ _ _ c.self.invariant _ c.index_mut-seat.ensures.value _ c.self.view_is _ _ c.requires c.own_window.ensures c.index-place.ensures in omega (arith, c.self.inside.words.ok.0)

pub overflow_mul-open_entry : goal.overflow_mul-open_entry
overflow_mul-open_entry g c = let fit : 2 * c.open_entry.result < 2 ^ 64 = close_fits g.M.Meaning.entry g.M.Meaning.wide g.M.Meaning.count g.M.Meaning.lead g.M.Meaning.last g.met.M.Meaning.fits g.met.M.Meaning.small _ _ _ _ _ c.self.invariant _ c.index_mut-seat.ensures.value _ c.self.view_is _ c.requires c.open_entry.ensures in omega arith

pub close-requires : goal.close-requires
close-requires g c = close_room g.M.Meaning.entry g.M.Meaning.wide g.M.Meaning.count g.M.Meaning.lead g.M.Meaning.last g.met.M.Meaning.fits g.met.M.Meaning.small _ _ _ _ _ c.self.invariant _ c.index_mut-seat.ensures.value _ c.self.view_is c.requires

pub invariant_of-self : goal.invariant_of-self
invariant_of-self g c = close_keeps g.M.Meaning.entry g.M.Meaning.wide g.M.Meaning.count g.M.Meaning.lead g.M.Meaning.last g.met.M.Meaning.fits g.met.M.Meaning.small _ _ _ _ _ c.self.invariant _ c.index_mut-seat.ensures.value _ c.self.view_is _ _ _ _ c.requires c.open_entry.ensures c.own_window.ensures c.index-place.ensures c.close.ensures.view c.close.ensures.room

pub returns : goal.returns
returns g c =
    let t = close_tells g.M.Meaning.entry g.M.Meaning.wide g.M.Meaning.count g.M.Meaning.lead g.M.Meaning.last g.met.M.Meaning.fits g.met.M.Meaning.small _ _ _ _ _ c.self.invariant _ c.index_mut-seat.ensures.value _ c.self.view_is _ _ _ _ c.requires c.open_entry.ensures c.own_window.ensures c.index-place.ensures c.close.ensures.view in
    record { leaves = t.0; same = t.1; view = t.2 }
