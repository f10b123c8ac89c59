use Rattle.std.proofs.Common.{◌*◌, ◌<◌, ◌≤◌, ◌^◌, length, refl, arith}
use Rattle.table_board.proofs.Sitting.{open_index, open_fits, open_steps, open_keeps, open_tells}
use Rattle.table_board.proofs.seat.TableSeatBoard.open_put.Goals as goal

pub bounds-starts-unwrap_or : goal.bounds-starts-unwrap_or
bounds-starts-unwrap_or g c = open_index g.M.Meaning.entry g.M.Meaning.wide g.M.Meaning.count g.M.Meaning.lead g.M.Meaning.last g.met.M.Meaning.fits g.met.M.Meaning.small _ _ _ c.self.inside.seat.id _ _ _ _ _ _ _ c.self.invariant _ c.self.view_is c.args.entry _ c.requires.free c.unwrap_or.ensures

pub offset_bounds-starts-unwrap_or : goal.offset_bounds-starts-unwrap_or
offset_bounds-starts-unwrap_or g c = let low : c.unwrap_or.result < length c.self.inside.starts.now = open_index g.M.Meaning.entry g.M.Meaning.wide g.M.Meaning.count g.M.Meaning.lead g.M.Meaning.last g.met.M.Meaning.fits g.met.M.Meaning.small _ _ _ c.self.inside.seat.id _ _ _ _ _ _ _ c.self.invariant _ c.self.view_is c.args.entry _ c.requires.free c.unwrap_or.ensures in omega (arith, c.self.told.1)

pub overflow_mul-entry : goal.overflow_mul-entry
overflow_mul-entry g c = let t = open_fits g.M.Meaning.entry g.M.Meaning.wide g.M.Meaning.count g.M.Meaning.lead g.M.Meaning.last g.met.M.Meaning.fits g.met.M.Meaning.small _ _ _ c.self.inside.seat.id _ _ _ _ _ _ _ c.self.invariant _ c.self.view_is c.args.entry c.requires.free in let fit : 2 * c.args.entry < 2 ^ 64 = t.1 in omega arith

pub overflow_sub-entry : goal.overflow_sub-entry
overflow_sub-entry g c = let t = open_fits g.M.Meaning.entry g.M.Meaning.wide g.M.Meaning.count g.M.Meaning.lead g.M.Meaning.last g.met.M.Meaning.fits g.met.M.Meaning.small _ _ _ c.self.inside.seat.id _ _ _ _ _ _ _ c.self.invariant _ c.self.view_is c.args.entry c.requires.free in let pos : 1 ≤ c.args.entry = t.0 in omega arith

pub store-requires : goal.store-requires
store-requires g c = open_steps g.M.Meaning.entry g.M.Meaning.wide g.M.Meaning.count g.M.Meaning.lead g.M.Meaning.last g.met.M.Meaning.fits g.met.M.Meaning.small _ _ _ c.self.inside.seat.id _ _ _ _ _ _ _ c.self.invariant _ c.self.view_is c.args.entry _ _ c.requires.free c.requires.led c.unwrap_or.ensures refl

pub invariant_of-self : goal.invariant_of-self
invariant_of-self g c = open_keeps g.M.Meaning.entry g.M.Meaning.wide g.M.Meaning.count g.M.Meaning.lead g.M.Meaning.last g.met.M.Meaning.fits g.met.M.Meaning.small _ _ _ c.self.inside.seat.id _ _ _ _ _ _ _ c.self.invariant _ c.self.view_is c.args.entry 0 _ _ c.requires.free c.store.ensures.0 c.store.ensures.2

pub returns : goal.returns
returns g c = let t = open_tells g.M.Meaning.entry g.M.Meaning.wide g.M.Meaning.count g.M.Meaning.lead g.M.Meaning.last g.met.M.Meaning.fits g.met.M.Meaning.small _ _ _ c.self.inside.seat.id _ _ _ _ _ _ _ c.self.invariant _ c.self.view_is c.args.entry 0 _ _ c.requires.free c.store.ensures.0 c.store.ensures.2 in record { leaves = t.0; same = t.1; view = t.2 }
