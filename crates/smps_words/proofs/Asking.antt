-- A file that is read as lines, of which there are some, may be refused memory.
use Rattle.std.proofs.Common.{◌≡◌, refl, ℕ, true, List, [], ◌∷◌, length, ◌<◌, ◌∙◌, subst, arith}
use Rattle.std.specs.Prelude.{Option, Some, None, Result, Ok, Err}
use Rattle.std.specs.List.{slice_split}
use Rattle.line_core.specs.SplitLines.{after_lines, fault_or_lines, has_line, is_newline, lines_of, read_parts}
use Rattle.line_core.specs.declared.line_list.Line.{Line}
use Rattle.line_core.specs.declared.line_list.LineFault.{LineFault}
use Rattle.smps_words.specs.Memory.{MayRefuse}

-- behind a part that isn't a line
behind : (rest : List (Result (Option Line) LineFault)) (read : Result (List Line) LineFault) → fault_or_lines rest ≡ read → (found : List Line) → after_lines [] read ≡ Ok found → 0 < length found → ((found : List Line) → fault_or_lines rest ≡ Ok found → 0 < length found → has_line rest ≡ true) → has_line rest ≡ true
behind rest (Ok lines) is found after some more = more found (is ∙ after) some
behind rest (Err fault) is found after some more = cc

-- some lines are read, so one stands before the first fault
parts_ask : (parts : List (Result (Option Line) LineFault)) (found : List Line) → fault_or_lines parts ≡ Ok found → 0 < length found → has_line parts ≡ true
parts_ask [] found is some =
    let none : found ≡ [] = cc in
    let one : 0 < length {A = Line} [] = subst (λ (l : List Line). 0 < length l) none some in
    absurd (omega (arith, one))
parts_ask (Err fault ∷ rest) found is some = cc
parts_ask (Ok None ∷ rest) found is some = behind rest (fault_or_lines rest) refl found is some (parts_ask rest)
parts_ask (Ok (Some line) ∷ rest) found is some = refl

pub lines_ask : (bytes : List ℕ) (found : List Line) → lines_of bytes ≡ Ok found → 0 < length found → MayRefuse bytes
lines_ask bytes found is some = parts_ask (read_parts 1 0 (slice_split is_newline bytes)) found is some
