-- What one more line adds to what the lines before it say.
use Rattle.std.proofs.Common.{◌≡◌, Bool, true, false, not, ◌||◌, List, [], ◌∷◌, ◌++◌, length, map, codes, ◌==◌, arith, refl, ap, ◌∙◌}
use Rattle.std.specs.List.{list_any}
use Rattle.std.proofs.lemmas.Grind.{common_steps}
use Rattle.std.proofs.lemmas.List.{append-nil, map-append}
use Rattle.std.proofs.lemmas.List.Elements.{filter-append}
use Rattle.std.proofs.lemmas.List.Folds.{list_any-append}
use Rattle.std.specs.Option.{unwrap_or}
use Rattle.base_words.proofs.Booleans.{or_false}
use Rattle.smps_words.specs.Outcomes.{GoesOn, seen_by}
use Rattle.smps_words.specs.TextLines.{TextLine, field, is_header, is_end}
use Rattle.smps_words.proofs.FoldLaw.{fold_is}
use Rattle.smps_time.specs.TimeFile.{CoreNames, before_of, column_named, line_fault, period_adds, period_lines, place_named, with_line}
use Rattle.smps_time.specs.TimeAnswers.{time_outcome}
use Rattle.smps_time.specs.Reading.{added}

period_by : {X : Type 0} (f : TextLine → X) (lines : List TextLine) (line : TextLine) (header : Bool) → line.header ≡ header → map f (period_lines (lines ++ line ∷ [])) ≡ map f (period_lines lines) ++ period_adds line (f line)
period_by f lines line true e = rw (filter-append, e, append-nil, append-nil) refl
period_by f lines line false e = rw (filter-append, e, map-append) refl

begun_by : (lines : List TextLine) (line : TextLine) → not (length (lines ++ line ∷ []) == 0) ≡ true
begun_by lines line = grind (arith, common_steps)

opened_by : (lines : List TextLine) (line : TextLine) → list_any (is_header (codes "PERIODS")) (lines ++ line ∷ []) ≡ (list_any (is_header (codes "PERIODS")) lines || is_header (codes "PERIODS") line)
opened_by lines line = list_any-append (is_header (codes "PERIODS")) lines (line ∷ []) ∙ ap (λ b. list_any (is_header (codes "PERIODS")) lines || b) (or_false (is_header (codes "PERIODS") line))

one_more : (core : CoreNames) (lines : List TextLine) (line : TextLine) → before_of core (lines ++ line ∷ []) ≡ with_line core (before_of core lines) line
one_more core lines line =
    let begun = begun_by lines line in
    let opened = opened_by lines line in
    let names = period_by (field 2) lines line line.header refl in
    let columns = period_by (λ line. unwrap_or (column_named core line) 0) lines line line.header refl in
    let places = period_by (λ line. unwrap_or (place_named core line) 0) lines line line.header refl in
    cc

goes_on : (core : CoreNames) → GoesOn (before_of core) (with_line core)
goes_on core = record { more = one_more core }

-- lines added one after another come to what is judged by the lines before
pub added_is : (core : CoreNames) (lines : List TextLine) → added core lines ≡ seen_by (before_of core) (time_outcome core lines)
added_is core lines = fold_is (before_of core) (line_fault core) is_end (with_line core) (goes_on core) lines
