-- the fields of a text: what stands between its blanks
use Rattle.std.specs.Prelude.{ℕ, ◌+◌, ◌-◌, ◌<◌, ◌≤◌, Bool, ◌&&◌, ◌||◌, List, [], ◌∷◌, ◌++◌, length, take, drop, nat_le, ◌==◌, if◌then◌else◌}
use Rattle.std.specs.List.{slice_split}
use Rattle.line_core.specs.declared.field_list.Span.{Span}

-- a space or a tab
abbrev pub is_blank : ℕ → Bool
is_blank byte = (byte == 32) || (byte == 9)

-- whether a span lies in a file
abbrev pub lies_in : List ℕ → Span → Bool
lies_in bytes span = nat_le span.start span.end && nat_le span.end (length bytes)

-- the bytes of a span in a file, none where it doesn't lie there
abbrev pub span_text : List ℕ → Span → List ℕ
span_text bytes span =
    if lies_in bytes span then take (span.end - span.start) (drop span.start bytes) else []

-- a span of at least one byte of a file
abbrev pub IsSpanOf : List ℕ → Span → Type 0
IsSpanOf bytes span = (span.start < span.end) × (span.end ≤ length bytes)

-- the span of so many bytes from a place on, unless there are none
abbrev pub run_span : ℕ → ℕ → List Span
run_span start count =
    if count == 0 then [] else (record { start = start; end = start + count } ∷ [])

-- the spans of parts that follow one another with one byte between two of them
abbrev pub part_spans : ℕ → List (List ℕ) → List Span
part_spans start [] = []
part_spans start (part ∷ parts) =
    run_span start (length part) ++ part_spans (start + length part + 1) parts

-- the fields of a text that begins at a place: what stands between its blanks
abbrev pub fields_at : ℕ → List ℕ → List Span
fields_at start text = part_spans start (slice_split is_blank text)
