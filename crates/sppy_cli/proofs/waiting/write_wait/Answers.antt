use Rattle.std.proofs.Common.{arith, FitsSigned, to_z-of_z}
use Rattle.std.specs.Int.{w128}
use Rattle.base_words.proofs.Magnitudes.{fits_from_abs}
use Rattle.sppy_cli.proofs.TextLaws.{bound_cut, bound_written}
use Rattle.sppy_cli.proofs.waiting.write_wait.Goals as goal

pub returns-in-Ok-put_bound-clause-written : goal.returns-in-Ok-put_bound-clause-written
returns-in-Ok-put_bound-clause-written g c =
    let fits : FitsSigned w128 c.in-Ok.bound = fits_from_abs c.in-Ok.bound (omega (arith, c.in-Ok.ensures.small)) in
    bound_written c.args.instance.now c.in-Ok.bound (g.K.Sink.written c.args.out.now) (g.K.Sink.written c.put_bound.new.out) c.in-Ok.ensures.answer (simp to_z-of_z at c.in-Ok-put_bound.ensures.text)

pub returns-in-Err-clause-written : goal.returns-in-Err-clause-written
returns-in-Err-clause-written g c =
    let fits : FitsSigned w128 c.in-Ok.bound = fits_from_abs c.in-Ok.bound (omega (arith, c.in-Ok.ensures.small)) in
    bound_cut c.args.instance.now c.in-Ok.bound (g.K.Sink.written c.args.out.now) (g.K.Sink.written c.put_bound.new.out) c.in-Err.status c.in-Ok.ensures.answer (simp to_z-of_z at c.in-Err.ensures.text)
