use Rattle.std.proofs.Common.{ℕ, ap}
use Rattle.atomic_table.specs.Table.{Me}
use Rattle.window_words.specs.Seating.{one_more_dealt, next_owner}
use Rattle.window_words.specs.declared.views.View.{View}
use Rattle.window_words.specs.declared.views.Known.{Known}
use Rattle.table_board.proofs.Sitting.{deal_steps, deal_keeps, owner_sits, shows}
use Rattle.table_board.proofs.seat.TableSeat.deal.Goals as goal

pub split_seat-seat-requires : goal.split_seat-seat-requires
split_seat-seat-requires g c = deal_steps g.M.Meaning.entry g.M.Meaning.wide g.M.Meaning.count g.M.Meaning.lead g.M.Meaning.last g.met.M.Meaning.fits g.met.M.Meaning.small _ _ _ c.self.inside.seat.id _ _ _ _ _ _ _ c.self.invariant _ c.self.view_is c.args.window c.requires.hub c.requires.next c.requires.left

pub invariant_of-self : goal.invariant_of-self
invariant_of-self g c = deal_keeps g.M.Meaning.entry g.M.Meaning.wide g.M.Meaning.count g.M.Meaning.lead g.M.Meaning.last g.met.M.Meaning.fits g.met.M.Meaning.small _ _ _ c.self.inside.seat.id _ _ _ _ _ _ _ c.self.invariant _ c.self.view_is _ _ c.split_seat-seat.ensures.0 c.split_seat-seat.ensures.2

pub invariant_of-result : goal.invariant_of-result
invariant_of-result g c = owner_sits g.M.Meaning.entry g.M.Meaning.wide g.M.Meaning.count g.M.Meaning.lead g.M.Meaning.last g.met.M.Meaning.fits g.met.M.Meaning.small _ _ _ c.self.inside.seat.id _ _ _ _ _ _ _ c.self.invariant _ c.self.view_is c.args.window _ _ c.requires.next c.requires.left c.split_seat-seat.ensures.3 c.split_seat-seat.ensures.4

pub returns : goal.returns
returns g c = record { hub = shows g.M.Meaning.entry g.M.Meaning.wide g.M.Meaning.count g.M.Meaning.lead g.M.Meaning.last g.met.M.Meaning.fits g.met.M.Meaning.small _ _ _ c.self.inside.seat.id _ _ _ _ _ _ _ c.self.invariant _ c.self.view_is (λ (v : View). one_more_dealt v) _ _ c.split_seat-seat.ensures.0 (ap (λ (m : Me ℕ (Known g.row.M.Denot)). m.0.view) c.split_seat-seat.ensures.2); owner = shows g.M.Meaning.entry g.M.Meaning.wide g.M.Meaning.count g.M.Meaning.lead g.M.Meaning.last g.met.M.Meaning.fits g.met.M.Meaning.small _ _ _ c.self.inside.seat.id _ _ _ _ _ _ _ c.self.invariant _ c.self.view_is (λ (v : View). next_owner v) _ _ c.split_seat-seat.ensures.3 (ap (λ (m : Me ℕ (Known g.row.M.Denot)). m.0.view) c.split_seat-seat.ensures.4) }
