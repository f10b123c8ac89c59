use Rattle.std.proofs.Common.{◌+◌, ◌<◌, ◌^◌, get_or, length, refl, arith}
use Rattle.table_board.proofs.Sitting.{put_index, put_fits, put_steps, put_keeps, put_tells}
use Rattle.table_board.proofs.seat.TableSeatBoard.put_word.Goals as goal

pub bounds-starts-unwrap_or : goal.bounds-starts-unwrap_or
bounds-starts-unwrap_or g c = put_index g.M.Meaning.entry g.M.Meaning.wide g.M.Meaning.count g.M.Meaning.lead g.M.Meaning.last g.met.M.Meaning.fits g.met.M.Meaning.small _ _ _ c.self.inside.seat.id _ _ _ _ _ _ _ c.self.invariant _ c.self.view_is c.args.word _ c.requires c.unwrap_or.ensures

pub offset_bounds-starts-unwrap_or : goal.offset_bounds-starts-unwrap_or
offset_bounds-starts-unwrap_or g c = let low : c.unwrap_or.result < length c.self.inside.starts.now = put_index g.M.Meaning.entry g.M.Meaning.wide g.M.Meaning.count g.M.Meaning.lead g.M.Meaning.last g.met.M.Meaning.fits g.met.M.Meaning.small _ _ _ c.self.inside.seat.id _ _ _ _ _ _ _ c.self.invariant _ c.self.view_is c.args.word _ c.requires c.unwrap_or.ensures in omega (arith, c.self.told.1)

pub overflow_add-place : goal.overflow_add-place
overflow_add-place g c = let t = put_fits g.M.Meaning.entry g.M.Meaning.wide g.M.Meaning.count g.M.Meaning.lead g.M.Meaning.last g.met.M.Meaning.fits g.met.M.Meaning.small _ _ _ c.self.inside.seat.id _ _ _ _ _ _ _ c.self.invariant _ c.self.view_is c.args.word _ _ _ c.requires c.unwrap_or.ensures refl refl in let fit : get_or c.self.inside.starts.now c.unwrap_or.result 0 + 1 + c.self.inside.put < 2 ^ 64 = t.1 in omega arith

pub overflow_add-place-2 : goal.overflow_add-place-2
overflow_add-place-2 g c = let t = put_fits g.M.Meaning.entry g.M.Meaning.wide g.M.Meaning.count g.M.Meaning.lead g.M.Meaning.last g.met.M.Meaning.fits g.met.M.Meaning.small _ _ _ c.self.inside.seat.id _ _ _ _ _ _ _ c.self.invariant _ c.self.view_is c.args.word _ _ _ c.requires c.unwrap_or.ensures refl refl in let fit : get_or c.self.inside.starts.now c.unwrap_or.result 0 + 1 + c.self.inside.put < 2 ^ 64 = t.1 in omega arith

pub overflow_add-self : goal.overflow_add-self
overflow_add-self g c = let t = put_fits g.M.Meaning.entry g.M.Meaning.wide g.M.Meaning.count g.M.Meaning.lead g.M.Meaning.last g.met.M.Meaning.fits g.met.M.Meaning.small _ _ _ c.self.inside.seat.id _ _ _ _ _ _ _ c.self.invariant _ c.self.view_is c.args.word _ _ _ c.requires c.unwrap_or.ensures refl refl in let fit : c.self.inside.put + 1 < 2 ^ 64 = t.2 in omega arith

pub store-requires : goal.store-requires
store-requires g c = put_steps g.M.Meaning.entry g.M.Meaning.wide g.M.Meaning.count g.M.Meaning.lead g.M.Meaning.last g.met.M.Meaning.fits g.met.M.Meaning.small _ _ _ c.self.inside.seat.id _ _ _ _ _ _ _ c.self.invariant _ c.self.view_is c.args.word _ _ _ c.requires c.unwrap_or.ensures refl refl

pub invariant_of-self : goal.invariant_of-self
invariant_of-self g c = put_keeps g.M.Meaning.entry g.M.Meaning.wide g.M.Meaning.count g.M.Meaning.lead g.M.Meaning.last g.met.M.Meaning.fits g.met.M.Meaning.small _ _ _ c.self.inside.seat.id _ _ _ _ _ _ _ c.self.invariant _ c.self.view_is c.args.word 0 _ _ c.requires c.store.ensures.0 c.store.ensures.2

pub returns : goal.returns
returns g c = let t = put_tells g.M.Meaning.entry g.M.Meaning.wide g.M.Meaning.count g.M.Meaning.lead g.M.Meaning.last g.met.M.Meaning.fits g.met.M.Meaning.small _ _ _ c.self.inside.seat.id _ _ _ _ _ _ _ c.self.invariant _ c.self.view_is c.args.word 0 _ _ c.store.ensures.0 c.store.ensures.2 in record { leaves = t.0; same = t.1; view = t.2 }
