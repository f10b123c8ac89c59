-- Where a time file says periods, the core has a column.
use Rattle.std.proofs.Common.{arith, ◌≡◌, ℕ, ◌<◌, ◌==◌, nat_le, Bool, true, false, not, List, [], ◌∷◌, ◌++◌, cond, length, Option, Some, None, Result, Ok, Err, refl, ap, subst, if◌then◌else◌}
use Rattle.std.proofs.lemmas.List.{length-map}
use Rattle.std.specs.Option.{is_none, is_some, unwrap_or}
use Rattle.line_core.specs.SplitLines.{lines_of}
use Rattle.line_core.specs.Names.{number_of}
use Rattle.line_core.specs.declared.line_list.Line.{Line}
use Rattle.line_core.specs.declared.line_list.LineFault.{LineFault}
use Rattle.line_core.specs.declared.line_list.LineFault.TheVariants as lines
use Rattle.smps_time.specs.TimeAnswers.{PeriodsData, data_of, names_of, periods_in, read_meaning, time_meaning, time_outcome}
use Rattle.smps_time.specs.TimeFile.{Before, CoreNames, before_of, column_named, fault_after, header_fault, is_in_order, period_fault, period_lines, place_named}
use Rattle.smps_time.specs.declared.time_fault.TimeKind.{TimeKind}
use Rattle.smps_time.specs.declared.time_fault.TimeKind.TheVariants.{Fields, Limit, NoEnd, Order, Section, Twice, Unknown}
use Rattle.smps_words.specs.Outcomes.{Outcome, answer_of, judged, outcome, seen_by}
use Rattle.smps_words.specs.Outcomes.Outcome.{Faulty, Ended, Endless}
use Rattle.smps_words.specs.PeriodFacts.{max_periods}
use Rattle.smps_words.specs.Tables.{first_true}
use Rattle.smps_words.specs.TextLines.{TextLine, field, field_count, last_number, text_lines, is_end}
use Rattle.smps_words.specs.declared.core_file.Core.{Core}
use Rattle.smps_words.specs.declared.periods.Periods.{Periods}

-- what each line without a fault keeps, all lines up to the end keep
ended_keeps : {L K : Type 0} (P : List L → Type 0) (fault : List L → L → Option K) (ends : L → Bool) → ((before : List L) (line : L) → fault before line ≡ None → P before → P (before ++ line ∷ [])) →
    (rest before after : List L) → P before → outcome fault ends before rest ≡ Ended after → P after
ended_keeps P fault ends step [] before after has e = absurd (let x = e in cc)
ended_keeps {L} {K} P fault ends step (line ∷ rest) before after has e =
    by_fault (fault before line) refl (ends line) e (λ keeps f. ended_keeps P fault ends step rest (before ++ line ∷ []) after keeps f)
  where
    same : (o : Outcome L K (List L)) (x y : List L) → o ≡ Ended x → o ≡ Ended y → x ≡ y
    same o x y e f = cc

    by_fault : (f : Option K) → fault before line ≡ f → (t : Bool) → judged f t line (before ++ line ∷ []) (outcome fault ends (before ++ line ∷ []) rest) ≡ Ended after →
        (P (before ++ line ∷ []) → outcome fault ends (before ++ line ∷ []) rest ≡ Ended after → P after) → P after
    by_fault (Some kind) g t h later = absurd (let x = h in cc)
    by_fault None g true h later = subst P (same (Ended (before ++ line ∷ [])) (before ++ line ∷ []) after refl h) (step before line g has)
    by_fault None g false h later = later (step before line g has) h

-- the third test of a table that tells nothing is off
third_off : {K : Type 0} (a b c : Bool) (j k l : K) (rest : List (Bool × K)) → first_true ((a, j) ∷ (b, k) ∷ (c, l) ∷ rest) ≡ None → c ≡ false
third_off true b c j k l rest e = absurd (let x = e in cc)
third_off false true c j k l rest e = absurd (let x = e in cc)
third_off false false true j k l rest e = absurd (let x = e in cc)
third_off false false false j k l rest e = refl

named_column : (core : CoreNames) (before : Before) (line : TextLine) → period_fault core before line ≡ None → is_none (column_named core line) ≡ false
named_column core before line e = third_off (not before.opened) (not (field_count line == 3)) (is_none (column_named core line)) Section Fields Unknown (
    (is_none (place_named core line), Unknown)
    ∷ (is_some (number_of (field 2 line) before.names), Twice)
    ∷ (not (is_in_order before (unwrap_or (column_named core line) 0) (unwrap_or (place_named core line) 0)), Order)
    ∷ (nat_le max_periods (length before.names), Limit)
    ∷ []) e

-- a name that has a number is one of some
some_named : (name : List ℕ) (names : List (List ℕ)) → is_none (number_of name names) ≡ false → 0 < length names
some_named name [] e = absurd (let x = e in cc)
some_named name (first ∷ names) e = omega arith

-- where a line names a period, the core has a column
abbrev HasColumn : CoreNames → List TextLine → Type 0
HasColumn core before = 0 < length (period_lines before) → 0 < length core.columns

more_lines : (before : List TextLine) (line : TextLine) → line.header ≡ true → length (period_lines (before ++ line ∷ [])) ≡ length (period_lines before)
more_lines [] line e = ap (λ b. length (cond (not b) (line ∷ []) [])) e
more_lines (first ∷ before) line e = by_header first.header (more_lines before line e)
  where
    by_header : (b : Bool) → length (period_lines (before ++ line ∷ [])) ≡ length (period_lines before) →
        length (cond (not b) (first ∷ period_lines (before ++ line ∷ [])) (period_lines (before ++ line ∷ []))) ≡ length (cond (not b) (first ∷ period_lines before) (period_lines before))
    by_header true h = h
    by_header false h = omega (arith, h)

keeps_column : (core : CoreNames) (before : List TextLine) (line : TextLine) → fault_after core before line ≡ None → HasColumn core before → HasColumn core (before ++ line ∷ [])
keeps_column core before line none has = by_header line.header refl none
  where
    by_header : (h : Bool) → line.header ≡ h → (if h then header_fault (before_of core before) line else period_fault core (before_of core before) line) ≡ None → HasColumn core (before ++ line ∷ [])
    by_header true e f = λ some. has (omega (arith, some, more_lines before line e))
    by_header false e f = λ some. some_named (field 0 line) core.columns (named_column core (before_of core before) line f)

same_ok : {X E : Type 0} (r : Result X E) (x y : X) → r ≡ Ok x → r ≡ Ok y → x ≡ y
same_ok r x y e f = cc

-- a time file that says periods names a column of the core
some_named_column : (core : CoreNames) (bytes : List ℕ) (said : PeriodsData) → time_meaning core bytes ≡ Ok said → 0 < length said.names → 0 < length core.columns
some_named_column core bytes said e some = by_lines (lines_of bytes) e
  where
    by_outcome : (ls : List TextLine) (o : Outcome TextLine TimeKind (List TextLine)) → time_outcome core ls ≡ o → answer_of periods_in (last_number ls) NoEnd (seen_by (before_of core) o) ≡ Ok said → 0 < length core.columns
    by_outcome ls (Faulty line kind) g h = absurd (let x = h in cc)
    by_outcome ls Endless g h = absurd (let x = h in cc)
    by_outcome ls (Ended after) g h =
        let keeps = ended_keeps (HasColumn core) (fault_after core) is_end (keeps_column core) ls [] after (λ none. absurd (omega (arith, none))) g in
        let names = ap (λ (p : PeriodsData). length p.names) (same_ok (Ok (periods_in (before_of core after))) (periods_in (before_of core after)) said refl h) in
        keeps (omega (arith, some, names, length-map (period_lines after) (field 2)))

    by_lines : (r : Result (List Line) LineFault) → read_meaning core bytes r ≡ Ok said → 0 < length core.columns
    by_lines (Ok found) f = by_outcome (text_lines bytes found) (time_outcome core (text_lines bytes found)) refl f
    by_lines (Err (lines.NotAscii line)) f = absurd (let x = f in cc)
    by_lines (Err (lines.TooLong line)) f = absurd (let x = f in cc)
    by_lines (Err lines.Memory) f = absurd (let x = f in cc)

pub some_columns : (core : Core) (periods : Periods) (bytes : List ℕ) → time_meaning (names_of core) bytes ≡ Ok (data_of periods) → 0 < length core.columns
some_columns core periods bytes e =
    let few = periods.facts.some in
    let named = some_named_column (names_of core) bytes (data_of periods) e (omega (arith, few)) in
    omega (arith, named, core.facts.named_columns)
