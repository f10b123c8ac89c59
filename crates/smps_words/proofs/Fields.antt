-- The text of a field, by its span and in the list of texts.
use Rattle.std.proofs.Common.{◌≡◌, refl, ℕ, suc, zero, List, [], ◌∷◌, map, get_or}
use Rattle.std.specs.Prelude.{slice_get}
use Rattle.line_core.specs.Fields.{span_text}
use Rattle.line_core.specs.SplitLines.{option_text}
use Rattle.line_core.specs.declared.field_list.Span.{Span}

pub field_is : (bytes : List ℕ) (fields : List Span) (k : ℕ) → option_text bytes (slice_get fields k) ≡ get_or (map (span_text bytes) fields) k []
field_is bytes [] k = refl
field_is bytes (span ∷ fields) zero = refl
field_is bytes (span ∷ fields) (suc k) = field_is bytes fields k
