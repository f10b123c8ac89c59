use Rattle.std.proofs.Common.{◌≡◌, ◌++◌, OnOk, List, ℕ, append_assoc, subst}
use Rattle.std.specs.Prelude.{codes, decimal}
use Rattle.text_lines.specs.Headings.{taken_whole}
use Rattle.text_lines.proofs.heading.put_whole.Goals as goal

pub returns : goal.returns
returns c =
    let whole : c.taken_whole.result ≡ taken_whole c.args.core.now = c.taken_whole.ensures in
    let put : OnOk c.put_count.result (c.put_count.new.line.items ≡ (c.args.line.now.items ++ codes " taken-whole ") ++ decimal c.taken_whole.result) = c.put_count.ensures in
    subst (λ (text : List ℕ). OnOk c.put_count.result (c.put_count.new.line.items ≡ text)) (append_assoc c.args.line.now.items (codes " taken-whole ") (decimal (taken_whole c.args.core.now)))
    (subst (λ n. OnOk c.put_count.result (c.put_count.new.line.items ≡ (c.args.line.now.items ++ codes " taken-whole ") ++ decimal n)) whole put)
