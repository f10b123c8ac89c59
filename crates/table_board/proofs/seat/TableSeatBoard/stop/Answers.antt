use Rattle.table_board.proofs.Sitting.{stop_steps, stop_keeps, stop_tells}
use Rattle.table_board.proofs.seat.TableSeatBoard.stop.Goals as goal

pub store-requires : goal.store-requires
store-requires g c = stop_steps g.M.Meaning.entry g.M.Meaning.wide g.M.Meaning.count g.M.Meaning.lead g.M.Meaning.last g.met.M.Meaning.fits g.met.M.Meaning.small _ _ _ c.self.inside.seat.id _ _ _ _ _ _ _ c.self.invariant _ c.self.view_is c.args.last c.requires.hub

pub invariant_of-self : goal.invariant_of-self
invariant_of-self g c = stop_keeps g.M.Meaning.entry g.M.Meaning.wide g.M.Meaning.count g.M.Meaning.lead g.M.Meaning.last g.met.M.Meaning.fits g.met.M.Meaning.small _ _ _ c.self.inside.seat.id _ _ _ _ _ _ _ c.self.invariant _ c.self.view_is c.args.last _ _ c.store.ensures.0 c.store.ensures.2

pub returns : goal.returns
returns g c = let t = stop_tells g.M.Meaning.entry g.M.Meaning.wide g.M.Meaning.count g.M.Meaning.lead g.M.Meaning.last g.met.M.Meaning.fits g.met.M.Meaning.small _ _ _ c.self.inside.seat.id _ _ _ _ _ _ _ c.self.invariant _ c.self.view_is c.args.last _ _ c.store.ensures.0 c.store.ensures.2 in record { leaves = t.0; same = t.1; view = t.2 }
