use Rattle.std.proofs.Common.{◌<◌, length, refl, arith}
use Rattle.table_board.proofs.Sitting.{begin_index, begin_steps, begin_keeps, begin_tells}
use Rattle.table_board.proofs.seat.TableSeatBoard.begin_read.Goals as goal

pub bounds-starts-window : goal.bounds-starts-window
bounds-starts-window g c = begin_index g.M.Meaning.entry g.M.Meaning.wide g.M.Meaning.count g.M.Meaning.lead g.M.Meaning.last g.met.M.Meaning.fits g.met.M.Meaning.small _ _ _ c.self.inside.seat.id _ _ _ _ _ _ _ c.self.invariant _ c.self.view_is c.args.window c.requires

pub offset_bounds-starts-window : goal.offset_bounds-starts-window
offset_bounds-starts-window g c = let low : c.args.window < length c.self.inside.starts.now = begin_index g.M.Meaning.entry g.M.Meaning.wide g.M.Meaning.count g.M.Meaning.lead g.M.Meaning.last g.met.M.Meaning.fits g.met.M.Meaning.small _ _ _ c.self.inside.seat.id _ _ _ _ _ _ _ c.self.invariant _ c.self.view_is c.args.window c.requires in omega (arith, c.self.told.1)

pub load-first-requires : goal.load-first-requires
load-first-requires g c = begin_steps g.M.Meaning.entry g.M.Meaning.wide g.M.Meaning.count g.M.Meaning.lead g.M.Meaning.last g.met.M.Meaning.fits g.met.M.Meaning.small _ _ _ c.self.inside.seat.id _ _ _ _ _ _ _ c.self.invariant _ c.self.view_is c.args.window _ c.requires refl

pub invariant_of-self : goal.invariant_of-self
invariant_of-self g c = begin_keeps g.M.Meaning.entry g.M.Meaning.wide g.M.Meaning.count g.M.Meaning.lead g.M.Meaning.last g.met.M.Meaning.fits g.met.M.Meaning.small _ _ _ c.self.inside.seat.id _ _ _ _ _ _ _ c.self.invariant _ c.self.view_is c.args.window _ _ _ _ c.requires refl c.load-first.ensures.0 c.load-first.ensures.2

pub returns : goal.returns
returns g c = let t = begin_tells g.M.Meaning.entry g.M.Meaning.wide g.M.Meaning.count g.M.Meaning.lead g.M.Meaning.last g.met.M.Meaning.fits g.met.M.Meaning.small _ _ _ c.self.inside.seat.id _ _ _ _ _ _ _ c.self.invariant _ c.self.view_is c.args.window _ _ _ _ c.requires refl c.load-first.ensures.0 c.load-first.ensures.2 in record { leaves = t.0.0; same = t.0.1; view = t.0.2; accepted = t.1; own = t.2 }
