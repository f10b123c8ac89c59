use Rattle.std.proofs.Common.{arith, ◌∙◌, length}
use Rattle.text_lines.specs.ShowLines.{scenario_lines_of}
use Rattle.sppy_cli.proofs.TextLaws.{part_cut, part_put}
use Rattle.sppy_cli.proofs.showing.put_scenarios.Goals as goal

pub returns-in-Err-clause-text : goal.returns-in-Err-clause-text
returns-in-Err-clause-text g c =
    part_cut (scenario_lines_of c.args.instance.now.triple.core c.args.instance.now.run) c.loop-s.s (length c.args.instance.now.run.program.scenarios) (g.K.Sink.written c.args.out.now) (g.K.Sink.written c.loop-s.out) (g.K.Sink.written c.put_scenario.new.out) c.in-Err.status (omega (arith, c.len-s-end.ensures, c.loop-s-test.true)) c.loop-s.invariant.written c.in-Err.ensures.text

pub loop-s-preserved : goal.loop-s-preserved
loop-s-preserved g c = record {
  written = part_put (scenario_lines_of c.args.instance.now.triple.core c.args.instance.now.run) c.loop-s.s (g.K.Sink.written c.args.out.now) (g.K.Sink.written c.loop-s.out) (g.K.Sink.written c.put_scenario.new.out) c.loop-s.invariant.written c.in-Ok.ensures.text;
  count = c.in-Ok.ensures.count.0 ∙ c.loop-s.invariant.count;
}
