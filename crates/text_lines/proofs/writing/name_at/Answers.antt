use Rattle.std.proofs.Common.{◌∙◌, ap, sym, []}
use Rattle.std.proofs.lemmas.Option.{unwrap_or-slice_get}
use Rattle.std.specs.Option.{unwrap_or}
use Rattle.text_lines.proofs.writing.name_at.Goals as goal

pub returns-in-None : goal.returns-in-None
returns-in-None c = sym (sym (unwrap_or-slice_get c.args.names.now c.args.number []) ∙ ap (λ o. unwrap_or o []) (sym c.in-None.ensures.value))
