use Rattle.std.proofs.Common.{◌<◌, ◌+◌, length, arith, refl}
use Rattle.plain_board.specs.Seats.{put_count}
use Rattle.plain_board.proofs.Answering.{put_index, put_store, put_keeps, put_tells}
use Rattle.plain_board.proofs.plain.PlainBoardBoard.put_word.Goals as goal

pub index-requires : goal.index-requires
index-requires g c = let low : c.own_window.result < length c.self.inside.starts.items = put_index g.M.Meaning.entry g.M.Meaning.wide g.M.Meaning.count g.M.Meaning.lead g.M.Meaning.last g.met.M.Meaning.fits g.met.M.Meaning.small _ _ _ _ _ c.self.invariant _ c.index_mut-seat.ensures.value _ c.self.view_is c.args.word _ c.requires c.own_window.ensures in omega (arith, c.self.inside.starts.ok.0)

pub overflow_add-place : goal.overflow_add-place
overflow_add-place g c =
    let low : c.index.result.now + 1 + put_count c.index_mut-seat.result.now.pending < length c.self.inside.words.items = put_store g.M.Meaning.entry g.M.Meaning.wide g.M.Meaning.count g.M.Meaning.lead g.M.Meaning.last g.met.M.Meaning.fits g.met.M.Meaning.small _ _ _ _ _ c.self.invariant _ c.index_mut-seat.ensures.value _ c.self.view_is c.args.word _ _ _ c.requires c.own_window.ensures c.index.ensures refl in
    omega (arith, c.self.inside.words.ok.0, c.self.inside.words.ok.1, c.self.inside.words.small)

pub overflow_add-place-2 : goal.overflow_add-place-2
overflow_add-place-2 g c =
    let low : c.index.result.now + 1 + c.put_count.result < length c.self.inside.words.items = put_store g.M.Meaning.entry g.M.Meaning.wide g.M.Meaning.count g.M.Meaning.lead g.M.Meaning.last g.met.M.Meaning.fits g.met.M.Meaning.small _ _ _ _ _ c.self.invariant _ c.index_mut-seat.ensures.value _ c.self.view_is c.args.word _ _ _ c.requires c.own_window.ensures c.index.ensures c.put_count.ensures in omega (arith, c.self.inside.words.ok.0, c.self.inside.words.ok.1, c.self.inside.words.small)

pub index_mut-requires : goal.index_mut-requires
index_mut-requires g c = let low : c.index.result.now + 1 + c.put_count.result < length c.self.inside.words.items = put_store g.M.Meaning.entry g.M.Meaning.wide g.M.Meaning.count g.M.Meaning.lead g.M.Meaning.last g.met.M.Meaning.fits g.met.M.Meaning.small _ _ _ _ _ c.self.invariant _ c.index_mut-seat.ensures.value _ c.self.view_is c.args.word _ _ _ c.requires c.own_window.ensures c.index.ensures c.put_count.ensures in omega (arith, c.self.inside.words.ok.0)

pub put-requires : goal.put-requires
put-requires g c =
    let low : c.index.result.now + 1 + c.put_count.result < length c.self.inside.words.items = put_store g.M.Meaning.entry g.M.Meaning.wide g.M.Meaning.count g.M.Meaning.lead g.M.Meaning.last g.met.M.Meaning.fits g.met.M.Meaning.small _ _ _ _ _ c.self.invariant _ c.index_mut-seat.ensures.value _ c.self.view_is c.args.word _ _ _ c.requires c.own_window.ensures c.index.ensures c.put_count.ensures in omega (arith, c.self.inside.words.ok.0, c.self.inside.words.ok.1, c.self.inside.words.small)

pub invariant_of-self : goal.invariant_of-self
invariant_of-self g c = put_keeps g.M.Meaning.entry g.M.Meaning.wide g.M.Meaning.count g.M.Meaning.lead g.M.Meaning.last g.met.M.Meaning.fits g.met.M.Meaning.small _ _ _ _ _ c.self.invariant _ c.index_mut-seat.ensures.value _ c.self.view_is c.args.word _ _ _ _ _ c.requires c.own_window.ensures c.index.ensures c.put_count.ensures refl (omega arith) c.put.ensures.view c.put.ensures.room

pub returns : goal.returns
returns g c =
    let t = put_tells g.M.Meaning.entry g.M.Meaning.wide g.M.Meaning.count g.M.Meaning.lead g.M.Meaning.last g.met.M.Meaning.fits g.met.M.Meaning.small _ _ _ _ _ c.self.invariant _ c.index_mut-seat.ensures.value _ c.self.view_is c.args.word _ _ _ _ _ c.requires c.own_window.ensures c.index.ensures c.put_count.ensures refl c.put.ensures.view in
    record { leaves = t.0; same = t.1; view = t.2 }
