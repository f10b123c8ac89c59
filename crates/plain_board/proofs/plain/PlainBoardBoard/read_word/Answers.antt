use Rattle.std.proofs.Common.{◌<◌, ◌+◌, length, arith, refl}
use Rattle.plain_board.proofs.Answering.{read_index, read_load, read_room, read_keeps, read_tells}
use Rattle.plain_board.proofs.plain.PlainBoardBoard.read_word.Goals as goal

pub index-requires : goal.index-requires
index-requires g c = let low : c.args.window < length c.self.inside.starts.items = read_index g.M.Meaning.entry g.M.Meaning.wide g.M.Meaning.count g.M.Meaning.lead g.M.Meaning.last g.met.M.Meaning.fits g.met.M.Meaning.small _ _ _ _ _ c.self.invariant _ c.index_mut-seat.ensures.value _ c.self.view_is c.args.window c.requires in omega (arith, c.self.inside.starts.ok.0)

pub overflow_add-index : goal.overflow_add-index
overflow_add-index g c =
    let low : c.index.result.now + 1 + length c.index_mut-seat.result.now.words.items < length c.self.inside.words.items = read_load g.M.Meaning.entry g.M.Meaning.wide g.M.Meaning.count g.M.Meaning.lead g.M.Meaning.last g.met.M.Meaning.fits g.met.M.Meaning.small _ _ _ _ _ c.self.invariant _ c.index_mut-seat.ensures.value _ c.self.view_is c.args.window _ _ c.requires c.index.ensures refl in
    omega (arith, c.self.inside.words.ok.0, c.self.inside.words.ok.1, c.self.inside.words.small)

pub overflow_add-index-2 : goal.overflow_add-index-2
overflow_add-index-2 g c =
    let low : c.index.result.now + 1 + c.len.result < length c.self.inside.words.items = read_load g.M.Meaning.entry g.M.Meaning.wide g.M.Meaning.count g.M.Meaning.lead g.M.Meaning.last g.met.M.Meaning.fits g.met.M.Meaning.small _ _ _ _ _ c.self.invariant _ c.index_mut-seat.ensures.value _ c.self.view_is c.args.window _ _ c.requires c.index.ensures c.len.ensures in
    omega (arith, c.self.inside.words.ok.0, c.self.inside.words.ok.1, c.self.inside.words.small)

pub index-word-requires : goal.index-word-requires
index-word-requires g c = let low : c.index.result.now + 1 + c.len.result < length c.self.inside.words.items = read_load g.M.Meaning.entry g.M.Meaning.wide g.M.Meaning.count g.M.Meaning.lead g.M.Meaning.last g.met.M.Meaning.fits g.met.M.Meaning.small _ _ _ _ _ c.self.invariant _ c.index_mut-seat.ensures.value _ c.self.view_is c.args.window _ _ c.requires c.index.ensures c.len.ensures in omega (arith, c.self.inside.words.ok.0)

pub read-requires : goal.read-requires
read-requires g c = read_room g.M.Meaning.entry g.M.Meaning.wide g.M.Meaning.count g.M.Meaning.lead g.M.Meaning.last g.met.M.Meaning.fits g.met.M.Meaning.small _ _ _ _ _ c.self.invariant _ c.index_mut-seat.ensures.value _ c.self.view_is c.args.window c.requires

pub invariant_of-self : goal.invariant_of-self
invariant_of-self g c = read_keeps g.M.Meaning.entry g.M.Meaning.wide g.M.Meaning.count g.M.Meaning.lead g.M.Meaning.last g.met.M.Meaning.fits g.met.M.Meaning.small _ _ _ _ _ c.self.invariant _ c.index_mut-seat.ensures.value _ c.self.view_is c.args.window _ _ _ _ _ c.requires c.index.ensures c.len.ensures refl c.index-word.ensures c.read.ensures.view c.read.ensures.room

pub returns : goal.returns
returns g c =
    let t = read_tells g.M.Meaning.entry g.M.Meaning.wide g.M.Meaning.count g.M.Meaning.lead g.M.Meaning.last g.met.M.Meaning.fits g.met.M.Meaning.small _ _ _ _ _ c.self.invariant _ c.index_mut-seat.ensures.value _ c.self.view_is c.args.window _ _ _ _ _ c.requires c.index.ensures c.len.ensures refl c.index-word.ensures c.read.ensures.view in
    record { leaves = t.0; same = t.1; view = t.2 }
