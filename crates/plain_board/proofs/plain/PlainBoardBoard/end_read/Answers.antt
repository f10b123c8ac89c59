use Rattle.std.proofs.Common.{◌<◌, length, arith}
use Rattle.plain_board.proofs.Answering.{end_index, end_load, end_room, end_keeps, end_tells}
use Rattle.plain_board.proofs.plain.PlainBoardBoard.end_read.Goals as goal

pub index-requires : goal.index-requires
index-requires g c = let low : c.args.window < length c.self.inside.starts.items = end_index g.M.Meaning.entry g.M.Meaning.wide g.M.Meaning.count g.M.Meaning.lead g.M.Meaning.last g.met.M.Meaning.fits g.met.M.Meaning.small _ _ _ _ _ c.self.invariant _ c.index_mut-seat.ensures.value _ c.self.view_is c.args.window c.requires in omega (arith, c.self.inside.starts.ok.0)

pub index-last-requires : goal.index-last-requires
index-last-requires g c = let low : c.index.result.now < length c.self.inside.words.items = end_load g.M.Meaning.entry g.M.Meaning.wide g.M.Meaning.count g.M.Meaning.lead g.M.Meaning.last g.met.M.Meaning.fits g.met.M.Meaning.small _ _ _ _ _ c.self.invariant _ c.index_mut-seat.ensures.value _ c.self.view_is c.args.window _ c.requires c.index.ensures in omega (arith, c.self.inside.words.ok.0)

pub end-requires : goal.end-requires
end-requires g c = end_room g.M.Meaning.entry g.M.Meaning.wide g.M.Meaning.count g.M.Meaning.lead g.M.Meaning.last g.met.M.Meaning.fits g.met.M.Meaning.small _ _ _ _ _ c.self.invariant _ c.index_mut-seat.ensures.value _ c.self.view_is c.args.window _ _ _ c.requires c.index.ensures c.index-last.ensures c.leaders-leaders.ensures

pub invariant_of-self : goal.invariant_of-self
invariant_of-self g c =
    end_keeps g.M.Meaning.entry g.M.Meaning.wide g.M.Meaning.count g.M.Meaning.lead g.M.Meaning.last g.met.M.Meaning.fits g.met.M.Meaning.small _ _ _ _ _ c.self.invariant _ c.index_mut-seat.ensures.value _ c.self.view_is c.args.window _ _ _ _ c.requires c.index.ensures c.index-last.ensures c.leaders-leaders.ensures c.end.ensures.view c.end.ensures.room

pub returns : goal.returns
returns g c =
    let t = end_tells g.M.Meaning.entry g.M.Meaning.wide g.M.Meaning.count g.M.Meaning.lead g.M.Meaning.last g.met.M.Meaning.fits g.met.M.Meaning.small _ _ _ _ _ c.self.invariant _ c.index_mut-seat.ensures.value _ c.self.view_is c.args.window _ _ _ _ c.requires c.index.ensures c.index-last.ensures c.leaders-leaders.ensures c.end.ensures.view c.end.ensures.room in
    record { leaves = t.0.0; same = t.0.1; view = t.0.2; whole = t.1 }
