use Rattle.table_board.proofs.Tabling.{first_sits, first_shows}
use Rattle.table_board.proofs.seat.TableSeat.first.Goals as goal

pub invariant_of-result : goal.invariant_of-result
invariant_of-result g c = first_sits g.M.Meaning.wide g.M.Meaning.count g.M.Meaning.last _ _ _ _ _ _ c.requires.first.0 c.requires.first.1 c.requires.key c.requires.starts

pub returns : goal.returns
returns g c = first_shows g.M.Meaning.count _ _ _ _ c.requires.first.0 c.requires.first.1
