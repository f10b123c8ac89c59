use Rattle.std.proofs.Common.{subst, List, ℕ}
use Rattle.std.specs.List.{concat}
use Rattle.sppy_cli.specs.Texts.{PutsText}
use Rattle.sppy_cli.proofs.puts.put_heading.Goals as goal

pub returns-clause-text : goal.returns-clause-text
returns-clause-text g c =
    subst (λ (lines : List (List ℕ)). PutsText (concat lines) (g.K.Sink.written c.args.out.now) (g.K.Sink.written c.put_lines.new.out) c.put_lines.result) c.in-Ok.ensures.exact c.put_lines.ensures.text
