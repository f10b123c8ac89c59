use Rattle.std.proofs.Common.{◌+◌, ◌<◌, ◌^◌, get_or, length, refl, arith}
use Rattle.table_board.proofs.Sitting.{read_index, read_fits, read_steps, read_keeps, read_tells}
use Rattle.table_board.proofs.seat.TableSeatBoard.read_word.Goals as goal

pub bounds-starts-window : goal.bounds-starts-window
bounds-starts-window g c = read_index g.M.Meaning.entry g.M.Meaning.wide g.M.Meaning.count g.M.Meaning.lead g.M.Meaning.last g.met.M.Meaning.fits g.met.M.Meaning.small _ _ _ c.self.inside.seat.id _ _ _ _ _ _ _ c.self.invariant _ c.self.view_is c.args.window c.requires

pub offset_bounds-starts-window : goal.offset_bounds-starts-window
offset_bounds-starts-window g c = let low : c.args.window < length c.self.inside.starts.now = read_index g.M.Meaning.entry g.M.Meaning.wide g.M.Meaning.count g.M.Meaning.lead g.M.Meaning.last g.met.M.Meaning.fits g.met.M.Meaning.small _ _ _ c.self.inside.seat.id _ _ _ _ _ _ _ c.self.invariant _ c.self.view_is c.args.window c.requires in omega (arith, c.self.told.1)

pub overflow_add-place : goal.overflow_add-place
overflow_add-place g c = let t = read_fits g.M.Meaning.entry g.M.Meaning.wide g.M.Meaning.count g.M.Meaning.lead g.M.Meaning.last g.met.M.Meaning.fits g.met.M.Meaning.small _ _ _ c.self.inside.seat.id _ _ _ _ _ _ _ c.self.invariant _ c.self.view_is c.args.window _ _ c.requires refl refl in let fit : get_or c.self.inside.starts.now c.args.window 0 + 1 + c.self.inside.read < 2 ^ 64 = t.1 in omega arith

pub overflow_add-place-2 : goal.overflow_add-place-2
overflow_add-place-2 g c = let t = read_fits g.M.Meaning.entry g.M.Meaning.wide g.M.Meaning.count g.M.Meaning.lead g.M.Meaning.last g.met.M.Meaning.fits g.met.M.Meaning.small _ _ _ c.self.inside.seat.id _ _ _ _ _ _ _ c.self.invariant _ c.self.view_is c.args.window _ _ c.requires refl refl in let fit : get_or c.self.inside.starts.now c.args.window 0 + 1 + c.self.inside.read < 2 ^ 64 = t.1 in omega arith

pub overflow_add-self : goal.overflow_add-self
overflow_add-self g c = let t = read_fits g.M.Meaning.entry g.M.Meaning.wide g.M.Meaning.count g.M.Meaning.lead g.M.Meaning.last g.met.M.Meaning.fits g.met.M.Meaning.small _ _ _ c.self.inside.seat.id _ _ _ _ _ _ _ c.self.invariant _ c.self.view_is c.args.window _ _ c.requires refl refl in let fit : c.self.inside.read + 1 < 2 ^ 64 = t.2 in omega arith

pub load-word-requires : goal.load-word-requires
load-word-requires g c = read_steps g.M.Meaning.entry g.M.Meaning.wide g.M.Meaning.count g.M.Meaning.lead g.M.Meaning.last g.met.M.Meaning.fits g.met.M.Meaning.small _ _ _ c.self.inside.seat.id _ _ _ _ _ _ _ c.self.invariant _ c.self.view_is c.args.window _ _ c.requires refl refl

pub invariant_of-self : goal.invariant_of-self
invariant_of-self g c = read_keeps g.M.Meaning.entry g.M.Meaning.wide g.M.Meaning.count g.M.Meaning.lead g.M.Meaning.last g.met.M.Meaning.fits g.met.M.Meaning.small _ _ _ c.self.inside.seat.id _ _ _ _ _ _ _ c.self.invariant _ c.self.view_is c.args.window 0 _ _ _ c.requires c.load-word.ensures.0 c.load-word.ensures.2

pub returns : goal.returns
returns g c = let t = read_tells g.M.Meaning.entry g.M.Meaning.wide g.M.Meaning.count g.M.Meaning.lead g.M.Meaning.last g.met.M.Meaning.fits g.met.M.Meaning.small _ _ _ c.self.inside.seat.id _ _ _ _ _ _ _ c.self.invariant _ c.self.view_is c.args.window 0 _ _ _ c.load-word.ensures.0 c.load-word.ensures.2 in record { leaves = t.0; same = t.1; view = t.2 }
