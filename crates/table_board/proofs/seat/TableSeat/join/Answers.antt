use Rattle.table_board.proofs.Sitting.{join_steps, join_keeps, join_shows}
use Rattle.table_board.proofs.seat.TableSeat.join.Goals as goal

pub join_seat-requires : goal.join_seat-requires
join_seat-requires g c = join_steps g.M.Meaning.entry g.M.Meaning.wide g.M.Meaning.count g.M.Meaning.lead g.M.Meaning.last g.met.M.Meaning.fits g.met.M.Meaning.small _ _ _ c.self.inside.seat.id _ _ _ _ _ _ _ c.self.invariant _ c.self.view_is _ _ c.other.inside.seat.id _ _ _ _ _ _ _ _ c.other.invariant _ c.other.view_is c.requires.table.0 c.requires.table.1 c.requires.free.0 c.requires.free.1

pub invariant_of-result : goal.invariant_of-result
invariant_of-result g c = join_keeps g.M.Meaning.entry g.M.Meaning.wide g.M.Meaning.count g.M.Meaning.lead g.M.Meaning.last g.met.M.Meaning.fits g.met.M.Meaning.small _ _ _ c.self.inside.seat.id _ _ _ _ _ _ _ c.self.invariant _ c.self.view_is _ _ c.other.inside.seat.id _ _ _ _ _ _ _ _ c.other.invariant _ c.other.view_is c.requires.table.0 c.requires.table.1 _ _ _ c.join_seat.ensures.0 c.join_seat.ensures.2 c.or.ensures

pub returns : goal.returns
returns g c = join_shows g.M.Meaning.entry g.M.Meaning.wide g.M.Meaning.count g.M.Meaning.lead g.M.Meaning.last g.met.M.Meaning.fits g.met.M.Meaning.small _ _ _ c.self.inside.seat.id _ _ _ _ _ _ _ c.self.invariant _ c.self.view_is _ _ c.other.inside.seat.id _ _ _ _ _ _ _ _ c.other.invariant _ c.other.view_is c.requires.table.0 c.requires.table.1 _ _ c.join_seat.ensures.0 c.join_seat.ensures.2
