use Rattle.sppy_cli.proofs.TextLaws.{show_cut}
use Rattle.sppy_cli.proofs.showing.write_show.Goals as goal

pub returns-in-Err-clause-written : goal.returns-in-Err-clause-written
returns-in-Err-clause-written g c =
    show_cut c.args.instance.now (g.K.Sink.written c.args.out.now) (g.K.Sink.written c.put_show.new.out) c.in-Err.status c.in-Err.ensures.text
