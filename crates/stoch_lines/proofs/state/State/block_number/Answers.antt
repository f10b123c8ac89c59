use Rattle.std.proofs.Common.{ap, sym, ◌∙◌}
use Rattle.std.specs.List.{position_or_len}
use Rattle.std.specs.Str.{bytes_eq}
use Rattle.stoch_lines.proofs.Positions.{position_none}
use Rattle.stoch_lines.proofs.state.State.block_number.Goals as goal

pub returns-in-None : goal.returns-in-None
returns-in-None c =
    let blocks = c.args.self.now.blocks in
    c.len.ensures.len
    ∙ sym (position_none (bytes_eq c.field.result.now) blocks (sym c.find.ensures ∙ c.in-None.is))
    ∙ ap (λ name. position_or_len (bytes_eq name) blocks) c.field.ensures
