use Rattle.std.proofs.Common.{ℕ, List, codes, sym, ◌∙◌, ap}
use Rattle.std.specs.List.{list_any}
use Rattle.std.specs.Str.{bytes_eq}
use Rattle.line_core.specs.Fields.{span_text}
use Rattle.line_core.specs.declared.field_list.Span.{Span}
use Rattle.line_core.proofs.Numbered.{list_any-images}
use Rattle.smps_time.proofs.name_lookups.says_explicit.Goals as goal

pub returns : goal.returns
returns c =
    c.is_among.ensures
    ∙ ap (λ (spans : List Span). list_any (λ span. bytes_eq (span_text c.args.line.now.bytes.now span) (codes "EXPLICIT")) spans) c.as_slice.ensures
    ∙ sym (list_any-images (λ (text : List ℕ). bytes_eq text (codes "EXPLICIT")) (span_text c.args.line.now.bytes.now) c.args.line.now.line.now.fields)
