use Rattle.std.proofs.Common.{ap, sym, ◌∙◌}
use Rattle.std.specs.Prelude.{position}
use Rattle.stoch_lines.specs.Places.{same_source}
use Rattle.stoch_lines.specs.Sayings.{element_of}
use Rattle.stoch_lines.proofs.Equal.{source_tests}
use Rattle.stoch_lines.proofs.Positions.{position_none}
use Rattle.stoch_lines.proofs.sources.Sources.element_of.Goals as goal

pub returns-in-None : goal.returns-in-None
returns-in-None c =
    let source = c.args.source in
    let keys = c.self.inside.set.keys in
    let none = ap (λ eq. position (eq source) keys) (sym source_tests) ∙ sym c.get_index_of.ensures.index ∙ c.in-None.is in
    c.len.ensures.len
    ∙ sym (position_none (same_source source) keys none)
    ∙ ap (λ sources. element_of sources source) c.self.view_is
