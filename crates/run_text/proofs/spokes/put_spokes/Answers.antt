use Rattle.std.proofs.Common.{arith, ◌∙◌}
use Rattle.run_text.proofs.Numbering.{spoke_cut, spoke_put}
use Rattle.run_text.proofs.spokes.put_spokes.Goals as goal

pub returns-in-Err-clause-text : goal.returns-in-Err-clause-text
returns-in-Err-clause-text g c =
    spoke_cut c.args.spokes.now c.loop-i.i _ c.index-spokes-i.result (g.K.Sink.written c.args.out.now) (g.K.Sink.written c.loop-i.out) (g.K.Sink.written c.put_spoke.new.out) (omega (arith, c.loop-i-test.true)) c.index-spokes-i.is c.loop-i.invariant.written c.in-Err.ensures.text

pub loop-i-preserved : goal.loop-i-preserved
loop-i-preserved g c = record {
  written = spoke_put c.args.spokes.now c.loop-i.i _ c.index-spokes-i.result (g.K.Sink.written c.args.out.now) (g.K.Sink.written c.loop-i.out) (g.K.Sink.written c.put_spoke.new.out) (omega (arith, c.loop-i-test.true)) c.index-spokes-i.is c.loop-i.invariant.written c.in-Ok.ensures.text;
  count = c.in-Ok.ensures.count ∙ c.loop-i.invariant.count;
}
