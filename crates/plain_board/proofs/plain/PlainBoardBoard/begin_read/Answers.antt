use Rattle.std.proofs.Common.{◌<◌, length, arith}
use Rattle.plain_board.proofs.Answering.{begin_keeps, begin_tells, stamp_index, stamp_load}
use Rattle.plain_board.proofs.plain.PlainBoardBoard.begin_read.Goals as goal

pub index-requires : goal.index-requires
index-requires g c = let low : c.args.window < length c.self.inside.starts.items = stamp_index g.M.Meaning.entry g.M.Meaning.wide g.M.Meaning.count g.M.Meaning.lead g.M.Meaning.last g.met.M.Meaning.fits g.met.M.Meaning.small _ _ _ _ _ c.self.invariant _ c.index_mut-seat.ensures.value _ c.self.view_is c.args.window c.requires in omega (arith, c.self.inside.starts.ok.0)

pub index-first-requires : goal.index-first-requires
index-first-requires g c = let low : c.index.result.now < length c.self.inside.words.items = stamp_load g.M.Meaning.entry g.M.Meaning.wide g.M.Meaning.count g.M.Meaning.lead g.M.Meaning.last g.met.M.Meaning.fits g.met.M.Meaning.small _ _ _ _ _ c.self.invariant _ c.index_mut-seat.ensures.value _ c.self.view_is c.args.window _ c.requires c.index.ensures in omega (arith, c.self.inside.words.ok.0)

pub invariant_of-self : goal.invariant_of-self
invariant_of-self g c = begin_keeps g.M.Meaning.entry g.M.Meaning.wide g.M.Meaning.count g.M.Meaning.lead g.M.Meaning.last g.met.M.Meaning.fits g.met.M.Meaning.small _ _ _ _ _ c.self.invariant _ c.index_mut-seat.ensures.value _ c.self.view_is c.args.window _ _ _ c.requires c.index.ensures c.index-first.ensures c.begin.ensures.view c.begin.ensures.room

pub returns : goal.returns
returns g c =
    let t = begin_tells g.M.Meaning.entry g.M.Meaning.wide g.M.Meaning.count g.M.Meaning.lead g.M.Meaning.last g.met.M.Meaning.fits g.met.M.Meaning.small _ _ _ _ _ c.self.invariant _ c.index_mut-seat.ensures.value _ c.self.view_is c.args.window _ _ _ c.requires c.index.ensures c.index-first.ensures c.begin.ensures.view c.begin.ensures.room in
    record { leaves = t.0.0; same = t.0.1; view = t.0.2; accepted = t.1; own = t.2 }
