-- what a field is: a longest run of bytes that aren't blanks
use Rattle.std.specs.List.{Contains}
use Rattle.std.specs.Prelude.{◌≡◌, ℕ, ◌+◌, ◌-◌, ◌<◌, ◌≤◌, true, false, List, length, slice_index}
use Rattle.line_core.specs.Fields.{is_blank}
use Rattle.line_core.specs.declared.field_list.Span.{Span}

-- a longest run of bytes that aren't blanks, from one place of a text up to another
pub record IsFieldAt (text : List ℕ) (first stop : ℕ) : Type 0 where
  -- it has a byte, and lies in the text
  pub some : first < stop
  pub within : stop ≤ length text
  -- none of its bytes is a blank
  pub unbroken : (k : ℕ) → first ≤ k → k < stop → is_blank (slice_index text k) ≡ false
  -- the byte before it, if there is one, is a blank, and so is the one behind it
  pub begins : (k : ℕ) → k + 1 ≡ first → is_blank (slice_index text k) ≡ true
  pub ends : stop < length text → is_blank (slice_index text stop) ≡ true

-- the span of a longest run in a text that begins at a place of its file
abbrev pub IsFieldOf : ℕ → List ℕ → Span → Type 0
IsFieldOf start text span =
    (start ≤ span.start) × IsFieldAt text (span.start - start) (span.end - start)

-- a span that ends before another begins
abbrev pub IsBefore : Span → Span → Type 0
IsBefore earlier later = earlier.end < later.start

-- among the spans is each longest run of a text
abbrev pub HasEachField : ℕ → List ℕ → List Span → Type 0
HasEachField start text spans = (span : Span) → IsFieldOf start text span → Contains spans span
