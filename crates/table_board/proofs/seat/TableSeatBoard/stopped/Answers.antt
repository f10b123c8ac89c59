use Rattle.table_board.proofs.Sitting.{ask_steps, ask_keeps, ask_tells}
use Rattle.table_board.proofs.seat.TableSeatBoard.stopped.Goals as goal

pub load-requires : goal.load-requires
load-requires g c = ask_steps g.M.Meaning.entry g.M.Meaning.wide g.M.Meaning.count g.M.Meaning.lead g.M.Meaning.last g.met.M.Meaning.fits g.met.M.Meaning.small _ _ _ c.self.inside.seat.id _ _ _ _ _ _ _ c.self.invariant _ c.self.view_is

pub invariant_of-self : goal.invariant_of-self
invariant_of-self g c = ask_keeps g.M.Meaning.entry g.M.Meaning.wide g.M.Meaning.count g.M.Meaning.lead g.M.Meaning.last g.met.M.Meaning.fits g.met.M.Meaning.small _ _ _ c.self.inside.seat.id _ _ _ _ _ _ _ c.self.invariant _ c.self.view_is _ _ _ c.load.ensures.0 c.load.ensures.2

pub returns : goal.returns
returns g c = let t = ask_tells g.M.Meaning.entry g.M.Meaning.wide g.M.Meaning.count g.M.Meaning.lead g.M.Meaning.last g.met.M.Meaning.fits g.met.M.Meaning.small _ _ _ c.self.inside.seat.id _ _ _ _ _ _ _ c.self.invariant _ c.self.view_is _ _ _ c.load.ensures.0 c.load.ensures.2 in record { leaves = t.0.0; same = t.0.1; view = t.0.2; hub = t.1 }
