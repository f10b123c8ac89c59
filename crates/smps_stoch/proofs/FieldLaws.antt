-- What fields without a fault give: a probability, a period that is there, a stage.
use Rattle.std.proofs.Common.{◌≡◌, refl, sym, subst, ℕ, ◌+◌, ◌<◌, ◌≤◌, Bool, true, false, not, cond, List, [], ◌∷◌, length, Option, Some, None, Result, Ok, Err, arith, lit≤}
use Rattle.std.specs.Prelude.{fold, position, slice_index, unwrap_or, option_map, is_none, nat_le}
use Rattle.std.specs.Result.{result_unwrap_or}
use Rattle.std.specs.Str.{bytes_eq}
use Rattle.std.proofs.Math.Nat.{le_refl, le_trans}
use Rattle.std.proofs.lemmas.List.Sums.{count_by-le-length}
use Rattle.base_words.proofs.Comparisons.{not_not}
use Rattle.dec_core.proofs.LimitLaws.{within_is}
use Rattle.dec_core.specs.DecimalValue.{decimal_of, decimal_of_spelling, mantissa_of, max_places, places_of}
use Rattle.dec_core.specs.Spelling.{Spelling, spelling_of}
use Rattle.dec_core.specs.declared.decimal.Decimal.{Decimal}
use Rattle.dec_core.specs.declared.decimal.DecFault.{DecFault}
use Rattle.smps_words.specs.CoreFacts.{zero_decimal}
use Rattle.smps_words.specs.NumberFields.{number_in}
use Rattle.smps_words.specs.Stages.{stage_in}
use Rattle.smps_words.specs.Tables.{first_true, ◌or◌}
use Rattle.smps_words.specs.declared.periods.Periods.{Periods}
use Rattle.stoch_lines.proofs.Positions.{position_below}
use Rattle.stoch_lines.specs.Faults.{is_probability, period_fault, probability_fault, number_fault}
use Rattle.stoch_lines.specs.Places.{period_of, stage_of_place}
use Rattle.stoch_lines.specs.declared.kinds.StochKind.TheVariants.{Weight, Unknown}
use Rattle.stoch_lines.specs.declared.places.StochPlace.{StochPlace}
use Rattle.stoch_lines.specs.declared.places.StochPlace.TheVariants.{Cost, Cell, Right}
use Rattle.smps_stoch.specs.SaidFacts.{IsProbable}
use Rattle.smps_stoch.specs.StochFacts.{IsPeriod}

-- a table without a fault, in two parts
pub or_none : {K : Type 0} (a b : Option K) → (a or b) ≡ None → (a ≡ None) × (b ≡ None)
or_none None b e = (refl, e)
or_none (Some kind) b e = absurd (cc e)

-- and its first test
pub first_none : {K : Type 0} (test : Bool) (kind : K) (rest : List (Bool × K)) → first_true ((test, kind) ∷ rest) ≡ None → (test ≡ false) × (first_true rest ≡ None)
first_none true kind rest e = absurd (cc e)
first_none false kind rest e = (refl, e)

-- a number that is read has few places
of_spelling : (s : Option Spelling) (d : Decimal) → decimal_of_spelling s ≡ Ok d → d.places ≤ max_places
of_spelling None d e = absurd (cc e)
of_spelling (Some s) d e =
    let w = within_is s.negative (mantissa_of s) (places_of s) d e in
    subst (λ (x : Decimal). x.places ≤ max_places) (sym w.2) w.0

read_places : (text : List ℕ) (d : Decimal) → decimal_of text ≡ Ok d → d.places ≤ max_places
unfolding decimal_of
read_places text d e = of_spelling (spelling_of text) d e

few_places : (r : Result Decimal DecFault) → ((d : Decimal) → r ≡ Ok d → d.places ≤ max_places) → (result_unwrap_or r zero_decimal).places ≤ max_places
few_places (Ok d) small = small d refl
few_places (Err fault) small = lit≤ tt

-- a probability without a fault
pub probable : (text : List ℕ) → probability_fault text ≡ None → IsProbable (number_in text)
probable text none =
    let parts = or_none (number_fault text) (first_true ((not (is_probability (number_in text)), Weight) ∷ [])) none in
    let test = first_none (not (is_probability (number_in text))) Weight [] parts.1 in
    record { in_range = not_not (is_probability (number_in text)) test.0; places = few_places (decimal_of text) (read_places text) }

-- a period that is named is there
period_at : (periods : Periods) (name : List ℕ) (at : Option ℕ) (other : ℕ) → position (bytes_eq name) periods.names ≡ at → is_none (option_map (λ k. k + 1) at) ≡ false → IsPeriod periods (unwrap_or (option_map (λ k. k + 1) at) other)
period_at periods name None other is some = absurd (cc some)
period_at periods name (Some k) other is some =
    let below = position_below (bytes_eq name) periods.names k is in
    (omega arith, omega (arith, below))

pub known_period : (periods : Periods) (name : List ℕ) (other : ℕ) → period_fault periods name ≡ None → IsPeriod periods (unwrap_or (period_of periods name) other)
known_period periods name other none =
    period_at periods name (position (bytes_eq name) periods.names) other refl (first_none (is_none (period_of periods name)) Unknown [] none).0

-- the number of a stage is that of a period
start_below : (m n : ℕ) → m ≤ m + n
start_below m n = omega arith

counted : (number : ℕ) (firsts : List ℕ) (start : ℕ) → start ≤ fold (λ a x. a + cond (nat_le x number) 1 0) start firsts
counted number [] start = le_refl start
counted number (f ∷ firsts) start = le_trans (start_below start (cond (nat_le f number) 1 0)) (counted number firsts (start + cond (nat_le f number) 1 0))

begun : (firsts : List ℕ) (number : ℕ) → 0 < length firsts → slice_index firsts 0 ≡ 0 → 1 ≤ stage_in firsts number
begun [] number some first = absurd (omega (arith, some))
begun (f ∷ firsts) number some first =
    let P : ℕ → Type 0 = λ x. 1 ≤ stage_in (x ∷ firsts) number in
    let test : nat_le 0 number ≡ true = grind arith in
    let one : 1 ≤ 0 + cond (nat_le 0 number) 1 0 = subst (λ (b : Bool). 1 ≤ 0 + cond b 1 0) (sym test) (lit≤ tt) in
    subst P (sym first) (le_trans one (counted number firsts (0 + cond (nat_le 0 number) 1 0)))

stage_period : (periods : Periods) (firsts : List ℕ) (number : ℕ) → length firsts ≡ length periods.names → slice_index firsts 0 ≡ 0 → IsPeriod periods (stage_in firsts number)
stage_period periods firsts number long first =
    let some = periods.facts.some in
    let below = count_by-le-length (λ f. nat_le f number) firsts in
    (begun firsts number (omega (arith, some, long)) first, omega (arith, below, long))

pub stage_is_period : (periods : Periods) (place : StochPlace) → IsPeriod periods (stage_of_place periods place)
stage_is_period periods (Cost column) = stage_period periods periods.columns column periods.facts.with_columns periods.facts.first_column
stage_is_period periods (Cell row column) = stage_period periods periods.rows row periods.facts.with_rows periods.facts.first_row
stage_is_period periods (Right row) = stage_period periods periods.rows row periods.facts.with_rows periods.facts.first_row
