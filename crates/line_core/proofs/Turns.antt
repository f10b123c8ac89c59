-- a turn of the loop over the lines of a file, and its end: what is read, and when memory may be wanted
use Rattle.std.proofs.Common.{sym, ◌≡◌, ℕ, ◌+◌, ◌≤◌, true, List, [], ◌∷◌, length, take, drop, position, Option, Some, None, Result, Ok, Err, refl, ap, ◌∙◌}
use Rattle.line_core.specs.SplitLines.{after_lines, asks_memory, has_line, is_line, is_newline, lines_of, may_want_memory, read_line, without_return, IsAdded, IsFaultOf}
use Rattle.line_core.specs.declared.line_list.Line.{Line}
use Rattle.line_core.specs.declared.line_list.LineFault.{LineFault}
use Rattle.line_core.proofs.Found.{end_fault, fault_passes, lines_end, lines_fault, lines_turn, reads_from, reads_none, reads_some, rest_of}

-- a line that is read first
first_line : (read : Result (Option Line) LineFault) (rest : List (Result (Option Line) LineFault)) → is_line read ≡ true → has_line (read ∷ rest) ≡ true
first_line (Ok None) rest e = absurd cc
first_line (Ok (Some line)) rest e = refl
first_line (Err fault) rest e = absurd cc

-- a line behind what is read without a fault
later_line : (line : Option Line) (rest : List (Result (Option Line) LineFault)) → has_line rest ≡ true → has_line (Ok line ∷ rest) ≡ true
later_line None rest e = e
later_line (Some line) rest e = refl

-- the text of a turn is read as a line
line_here : (bytes : List ℕ) (number at k : ℕ) → position is_newline (drop at bytes) ≡ Some k → at + k ≤ length bytes →
    is_line (read_line number at (without_return (take k (drop at bytes)))) ≡ true → has_line (reads_from bytes number at) ≡ true
line_here bytes number at k e h is = ap has_line (reads_some bytes number at k e h) ∙ first_line (read_line number at (without_return (take k (drop at bytes)))) (reads_from bytes (number + 1) (at + (k + 1))) is

-- a later text is read as a line
line_later : (bytes : List ℕ) (number at k : ℕ) (line : Option Line) → position is_newline (drop at bytes) ≡ Some k → at + k ≤ length bytes →
    read_line number at (without_return (take k (drop at bytes))) ≡ Ok line → has_line (reads_from bytes (number + 1) (at + (k + 1))) ≡ true → has_line (reads_from bytes number at) ≡ true
line_later bytes number at k line e h is later =
    ap has_line (reads_some bytes number at k e h)
    ∙ ap (λ read. has_line (read ∷ reads_from bytes (number + 1) (at + (k + 1)))) is
    ∙ later_line line (reads_from bytes (number + 1) (at + (k + 1))) later

-- the last text is read as a line
line_last : (bytes : List ℕ) (number at : ℕ) → position is_newline (drop at bytes) ≡ None →
    is_line (read_line number at (drop at bytes)) ≡ true → has_line (reads_from bytes number at) ≡ true
line_last bytes number at e is = ap has_line (reads_none bytes number at e) ∙ first_line (read_line number at (drop at bytes)) [] is

-- where the loop stands: what is found and what is left are the lines of the file, and a line that is left may want memory
pub record StandsAt (bytes : List ℕ) (found : List Line) (number at : ℕ) : Type 0 where
  found_is : after_lines found (rest_of bytes number at) ≡ lines_of bytes
  pub memory : has_line (reads_from bytes number at) ≡ true → may_want_memory bytes ≡ true

after_none : (read : Result (List Line) LineFault) → after_lines [] read ≡ read
after_none (Ok lines) = refl
after_none (Err fault) = refl

-- the loop begins with no line at the start of the file
pub begin : (bytes : List ℕ) → StandsAt bytes [] 1 0
begin bytes = record { found_is = after_none (lines_of bytes); memory = λ asks. asks }

-- a fault in a turn
pub turn_fault : (bytes : List ℕ) (found : List Line) (number at k : ℕ) (text : List ℕ) (fault : LineFault) → StandsAt bytes found number at →
    position is_newline (drop at bytes) ≡ Some k → at + k ≤ length bytes → text ≡ without_return (take k (drop at bytes)) →
    IsFaultOf (asks_memory number at text) (read_line number at text) fault → IsFaultOf (may_want_memory bytes) (lines_of bytes) fault
turn_fault bytes found number at k text fault stands e h is answered =
    fault_passes (asks_memory number at text) (may_want_memory bytes) (read_line number at text) (lines_of bytes) fault answered
    (λ f read. sym stands.found_is ∙ lines_fault bytes found number at k f e h (ap (read_line number at) (sym is) ∙ read))
    (λ asks. stands.memory (line_here bytes number at k e h (ap (asks_memory number at) (sym is) ∙ asks)))

-- a turn without a fault
pub turn : (bytes : List ℕ) (found new : List Line) (number at k : ℕ) (text : List ℕ) → StandsAt bytes found number at →
    position is_newline (drop at bytes) ≡ Some k → at + k ≤ length bytes → text ≡ without_return (take k (drop at bytes)) →
    IsAdded (read_line number at text) found new → StandsAt bytes new (number + 1) (at + (k + 1))
turn bytes found new number at k text stands e h is (line, read, added) =
    let here = ap (read_line number at) (sym is) ∙ read in
    record {
      found_is =
          ap (λ lines. after_lines lines (rest_of bytes (number + 1) (at + (k + 1)))) added
          ∙ sym (lines_turn bytes found number at k line e h here)
          ∙ stands.found_is;
      memory = λ later. stands.memory (line_later bytes number at k line e h here later);
    }

-- a fault in the last text
pub last_fault : (bytes : List ℕ) (found : List Line) (number at : ℕ) (fault : LineFault) → StandsAt bytes found number at →
    position is_newline (drop at bytes) ≡ None → IsFaultOf (asks_memory number at (drop at bytes)) (read_line number at (drop at bytes)) fault →
    IsFaultOf (may_want_memory bytes) (lines_of bytes) fault
last_fault bytes found number at fault stands e answered =
    fault_passes (asks_memory number at (drop at bytes)) (may_want_memory bytes) (read_line number at (drop at bytes)) (lines_of bytes) fault answered
    (λ f read. sym stands.found_is ∙ end_fault bytes found number at f e read)
    (λ asks. stands.memory (line_last bytes number at e asks))

-- the last text without a fault
pub last : (bytes : List ℕ) (found new : List Line) (number at : ℕ) → StandsAt bytes found number at →
    position is_newline (drop at bytes) ≡ None → IsAdded (read_line number at (drop at bytes)) found new → lines_of bytes ≡ Ok new
last bytes found new number at stands e (line, read, added) =
    sym stands.found_is ∙ lines_end bytes found number at line e read ∙ ap Ok (sym added)
