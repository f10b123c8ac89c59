use Rattle.std.proofs.Common.{◌*◌, ◌<◌, ◌^◌, length, refl, arith}
use Rattle.table_board.proofs.Sitting.{close_index, close_fits, close_steps, close_keeps, close_tells}
use Rattle.table_board.proofs.seat.TableSeatBoard.close_put.Goals as goal

pub bounds-starts-unwrap_or : goal.bounds-starts-unwrap_or
bounds-starts-unwrap_or g c = close_index g.M.Meaning.entry g.M.Meaning.wide g.M.Meaning.count g.M.Meaning.lead g.M.Meaning.last g.met.M.Meaning.fits g.met.M.Meaning.small _ _ _ c.self.inside.seat.id _ _ _ _ _ _ _ c.self.invariant _ c.self.view_is _ c.requires c.unwrap_or.ensures

pub offset_bounds-starts-unwrap_or : goal.offset_bounds-starts-unwrap_or
offset_bounds-starts-unwrap_or g c = let low : c.unwrap_or.result < length c.self.inside.starts.now = close_index g.M.Meaning.entry g.M.Meaning.wide g.M.Meaning.count g.M.Meaning.lead g.M.Meaning.last g.met.M.Meaning.fits g.met.M.Meaning.small _ _ _ c.self.inside.seat.id _ _ _ _ _ _ _ c.self.invariant _ c.self.view_is _ c.requires c.unwrap_or.ensures in omega (arith, c.self.told.1)

pub overflow_mul-self-inside : goal.overflow_mul-self-inside
overflow_mul-self-inside g c = let fit : 2 * c.self.inside.entry < 2 ^ 64 = close_fits g.M.Meaning.entry g.M.Meaning.wide g.M.Meaning.count g.M.Meaning.lead g.M.Meaning.last g.met.M.Meaning.fits g.met.M.Meaning.small _ _ _ c.self.inside.seat.id _ _ _ _ _ _ _ c.self.invariant _ c.self.view_is c.requires in omega arith

pub store-requires : goal.store-requires
store-requires g c = close_steps g.M.Meaning.entry g.M.Meaning.wide g.M.Meaning.count g.M.Meaning.lead g.M.Meaning.last g.met.M.Meaning.fits g.met.M.Meaning.small _ _ _ c.self.inside.seat.id _ _ _ _ _ _ _ c.self.invariant _ c.self.view_is _ _ c.requires c.unwrap_or.ensures refl

pub invariant_of-self : goal.invariant_of-self
invariant_of-self g c = close_keeps g.M.Meaning.entry g.M.Meaning.wide g.M.Meaning.count g.M.Meaning.lead g.M.Meaning.last g.met.M.Meaning.fits g.met.M.Meaning.small _ _ _ c.self.inside.seat.id _ _ _ _ _ _ _ c.self.invariant _ c.self.view_is 0 _ _ c.store.ensures.0 c.store.ensures.2

pub returns : goal.returns
returns g c = let t = close_tells g.M.Meaning.entry g.M.Meaning.wide g.M.Meaning.count g.M.Meaning.lead g.M.Meaning.last g.met.M.Meaning.fits g.met.M.Meaning.small _ _ _ c.self.inside.seat.id _ _ _ _ _ _ _ c.self.invariant _ c.self.view_is 0 _ _ c.store.ensures.0 c.store.ensures.2 in record { leaves = t.0; same = t.1; view = t.2 }
