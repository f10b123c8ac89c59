use Rattle.std.proofs.Common.{sym}
use Rattle.run_words.specs.Words.{request_of}
use Rattle.sppy_cli.proofs.DeskLaws.{answers_from_none, answers_from_run, names_from_none, names_from_run, reads_kept, writes_kept}
use Rattle.sppy_cli.proofs.Completing.{completes, refuses}
use Rattle.sppy_cli.proofs.commands.desk.Goals as goal

pub returns-in-Ok-clause-answers : goal.returns-in-Ok-clause-answers
returns-in-Ok-clause-answers g c =
    answers_from_run (g.S.Shelf.files c.args.shelf.now) _ (request_of c.in-Some.command) c.in-Ok.instance (g.K.Sink.written c.args.out.now) (g.K.Sink.written c.write_text.new.out) c.write_text.result (sym c.in-Some.ensures.value) c.in-Ok.ensures.gives c.write_text.ensures.written

pub returns-in-Err-clause-answers : goal.returns-in-Err-clause-answers
returns-in-Err-clause-answers g c =
    answers_from_none (g.S.Shelf.files c.args.shelf.now) _ (request_of c.in-Some.command) (g.K.Sink.written c.args.out.now) c.in-Err.status (sym c.in-Some.ensures.value) c.in-Err.ensures.gives

pub returns-in-Ok-clause-names : goal.returns-in-Ok-clause-names
returns-in-Ok-clause-names g c =
    names_from_run (g.S.Shelf.files c.args.shelf.now) _ (request_of c.in-Some.command) c.in-Ok.instance (g.K.Sink.written c.args.out.now) (g.K.Sink.written c.write_text.new.out) (g.S.Shelf.names c.args.shelf.now) (g.S.Shelf.names c.load_instance.new.shelf) c.write_text.result (sym c.in-Some.ensures.value) c.in-Ok.ensures.names c.write_text.ensures.written

pub returns-in-Err-clause-names : goal.returns-in-Err-clause-names
returns-in-Err-clause-names g c =
    names_from_none (g.S.Shelf.files c.args.shelf.now) _ (request_of c.in-Some.command) (g.S.Shelf.names c.args.shelf.now) (g.S.Shelf.names c.load_instance.new.shelf) c.in-Err.status (sym c.in-Some.ensures.value) c.in-Err.ensures.names

pub returns-in-Ok-clause-reads : goal.returns-in-Ok-clause-reads
returns-in-Ok-clause-reads g c = reads_kept _ _ _ c.in-Ok.ensures.count c.write_text.ensures.read

pub returns-in-Err-clause-writes : goal.returns-in-Err-clause-writes
returns-in-Err-clause-writes g c = writes_kept (g.S.Shelf.files c.args.shelf.now) (request_of c.in-Some.command) _ c.in-Err.status c.in-Err.ensures.gives

pub returns-in-Ok-clause-complete : goal.returns-in-Ok-clause-complete
returns-in-Ok-clause-complete g c =
    completes (g.S.Shelf.files c.args.shelf.now) _ (g.K.Sink.written c.args.out.now) (g.K.Sink.written c.write_text.new.out) _ _ _ _ c.write_text.result (returns-in-Ok-clause-answers g c) (returns-in-Ok-clause-reads g c) c.write_text.ensures.count

pub returns-in-Err-clause-complete : goal.returns-in-Err-clause-complete
returns-in-Err-clause-complete g c =
    completes (g.S.Shelf.files c.args.shelf.now) _ (g.K.Sink.written c.args.out.now) (g.K.Sink.written c.args.out.now) _ _ _ _ c.in-Err.status (returns-in-Err-clause-answers g c) c.in-Err.ensures.count (returns-in-Err-clause-writes g c)

pub returns-in-Ok-clause-refuses : goal.returns-in-Ok-clause-refuses
returns-in-Ok-clause-refuses g c =
    refuses (g.S.Shelf.files c.args.shelf.now) _ (g.K.Sink.written c.args.out.now) (g.K.Sink.written c.write_text.new.out) c.write_text.result (returns-in-Ok-clause-answers g c)

pub returns-in-Err-clause-refuses : goal.returns-in-Err-clause-refuses
returns-in-Err-clause-refuses g c =
    refuses (g.S.Shelf.files c.args.shelf.now) _ (g.K.Sink.written c.args.out.now) (g.K.Sink.written c.args.out.now) c.in-Err.status (returns-in-Err-clause-answers g c)
