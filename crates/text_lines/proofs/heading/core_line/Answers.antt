use Rattle.std.proofs.Common.{◌≡◌, ◌∙◌, ◌++◌, IfOk, List, ℕ, ap, subst, length}
use Rattle.std.specs.Prelude.{codes, decimal}
use Rattle.text_lines.specs.Headings.{whole_text}
use Rattle.text_lines.specs.Lines.{line_of}
use Rattle.text_lines.proofs.Ranges.{parts_put}
use Rattle.text_lines.proofs.heading.core_line.Goals as goal

pub returns : goal.returns
returns c =
    let run = c.args.run.now in
    let columns : c.len.result ≡ length run.program.columns = c.len.ensures in
    let rows : c.len-2.result ≡ length run.program.rows = c.len-2.ensures in
    let first : c.put_count.new.line.items ≡ (c.new-line.result.items ++ codes "columns ") ++ decimal c.len.result = c.in_ok-put_count.ensures in
    let second : c.put_whole.new.line.items ≡ c.put_count.new.line.items ++ whole_text c.args.core.now = c.in_ok-put_whole.ensures in
    let third : c.put_count-2.new.line.items ≡ (c.put_whole.new.line.items ++ codes " rows ") ++ decimal c.len-2.result = c.in_ok-put_count-2.ensures in
    let all = parts_put c.new-line.result.items c.put_count.new.line.items c.put_whole.new.line.items c.put_count-2.new.line.items
    (codes "columns ") (decimal (length run.program.columns)) (whole_text c.args.core.now) (codes " rows ") (decimal (length run.program.rows))
    c.new-line.ensures.items
    (first ∙ ap (λ n. (c.new-line.result.items ++ codes "columns ") ++ decimal n) columns)
    second
    (third ∙ ap (λ n. (c.put_whole.new.line.items ++ codes " rows ") ++ decimal n) rows) in
    subst (λ (items : List ℕ). IfOk c.end_line.result (λ text. text ≡ line_of items)) all c.end_line.ensures
