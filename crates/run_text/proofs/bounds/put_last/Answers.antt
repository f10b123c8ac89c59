use Rattle.std.proofs.Common.{[], ◌∷◌, ◌++◌, codes}
use Rattle.std.specs.List.{concat}
use Rattle.run_text.proofs.Putting.{cut_before, put_two}
use Rattle.run_text.proofs.bounds.put_last.Goals as goal
use Rattle.run_text.specs.Bodies.{worth_or_none, worth_text}
use Rattle.text_lines.specs.Lines.{line_of}

pub returns-in-Ok-clause-text : goal.returns-in-Ok-clause-text
returns-in-Ok-clause-text g c =
    put_two (line_of (codes "lower " ++ worth_text c.args.lower.now)) (line_of (codes "upper " ++ worth_or_none c.args.upper.now)) (g.K.Sink.written c.args.out.now) (g.K.Sink.written c.put_lower.new.out) (g.K.Sink.written c.put_upper.new.out) c.put_upper.result c.in-Ok.ensures.text c.put_upper.ensures.text

pub returns-in-Err-clause-text : goal.returns-in-Err-clause-text
returns-in-Err-clause-text g c =
    cut_before (line_of (codes "lower " ++ worth_text c.args.lower.now)) (concat (line_of (codes "upper " ++ worth_or_none c.args.upper.now) ∷ [])) (g.K.Sink.written c.args.out.now) (g.K.Sink.written c.put_lower.new.out) c.in-Err.ensures.text
