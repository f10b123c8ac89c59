use Rattle.sppy_cli.proofs.TextLaws.{heading_cut, text_written}
use Rattle.sppy_cli.proofs.commands.write_text.Goals as goal

pub returns-in-Ok-clause-written : goal.returns-in-Ok-clause-written
returns-in-Ok-clause-written g c =
    text_written c.args.action c.args.instance.now (g.K.Sink.written c.args.out.now) (g.K.Sink.written c.put_heading.new.out) (g.K.Sink.written c.write_rest.new.out) c.write_rest.result c.in-Ok.ensures.text c.write_rest.ensures.written

pub returns-in-Err-clause-written : goal.returns-in-Err-clause-written
returns-in-Err-clause-written g c =
    heading_cut c.args.action c.args.instance.now (g.K.Sink.written c.args.out.now) (g.K.Sink.written c.put_heading.new.out) c.in-Err.status c.in-Err.ensures.text
