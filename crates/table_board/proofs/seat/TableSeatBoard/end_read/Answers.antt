use Rattle.std.proofs.Common.{◌<◌, length, refl, arith}
use Rattle.table_board.proofs.Sitting.{end_index, end_steps, end_keeps, end_tells}
use Rattle.table_board.proofs.seat.TableSeatBoard.end_read.Goals as goal

pub bounds-starts-window : goal.bounds-starts-window
bounds-starts-window g c = end_index g.M.Meaning.entry g.M.Meaning.wide g.M.Meaning.count g.M.Meaning.lead g.M.Meaning.last g.met.M.Meaning.fits g.met.M.Meaning.small _ _ _ c.self.inside.seat.id _ _ _ _ _ _ _ c.self.invariant _ c.self.view_is c.args.window c.requires

pub offset_bounds-starts-window : goal.offset_bounds-starts-window
offset_bounds-starts-window g c = let low : c.args.window < length c.self.inside.starts.now = end_index g.M.Meaning.entry g.M.Meaning.wide g.M.Meaning.count g.M.Meaning.lead g.M.Meaning.last g.met.M.Meaning.fits g.met.M.Meaning.small _ _ _ c.self.inside.seat.id _ _ _ _ _ _ _ c.self.invariant _ c.self.view_is c.args.window c.requires in omega (arith, c.self.told.1)

pub load-requires : goal.load-requires
load-requires g c = end_steps g.M.Meaning.entry g.M.Meaning.wide g.M.Meaning.count g.M.Meaning.lead g.M.Meaning.last g.met.M.Meaning.fits g.met.M.Meaning.small _ _ _ c.self.inside.seat.id _ _ _ _ _ _ _ c.self.invariant _ c.self.view_is c.args.window _ c.requires refl

pub invariant_of-self : goal.invariant_of-self
invariant_of-self g c = end_keeps g.M.Meaning.entry g.M.Meaning.wide g.M.Meaning.count g.M.Meaning.lead g.M.Meaning.last g.met.M.Meaning.fits g.met.M.Meaning.small _ _ _ c.self.inside.seat.id _ _ _ _ _ _ _ c.self.invariant _ c.self.view_is c.args.window 0 _ _ _ c.requires c.load.ensures.0 c.load.ensures.2

pub returns : goal.returns
returns g c = let t = end_tells g.M.Meaning.entry g.M.Meaning.wide g.M.Meaning.count g.M.Meaning.lead g.M.Meaning.last g.met.M.Meaning.fits g.met.M.Meaning.small _ _ _ c.self.inside.seat.id _ _ _ _ _ _ _ c.self.invariant _ c.self.view_is c.args.window 0 _ _ _ c.requires c.load.ensures.0 c.load.ensures.2 in record { leaves = t.0.0; same = t.0.1; view = t.0.2; whole = t.1 }
