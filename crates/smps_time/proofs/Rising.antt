-- Periods that begin in order stay in order with one more
use Rattle.std.proofs.Common.{◌≡◌, ℕ, ◌+◌, ◌-◌, ◌<◌, ◌≤◌, Bool, true, ◌&&◌, List, [], ◌∷◌, ◌++◌, length, slice_index, ◌==◌, arith, sym, subst, if◌then◌else◌, inl, inr}
use Rattle.std.proofs.lemmas.List.Elements.{All-push}
use Rattle.std.proofs.Math.Nat.{eq-zero-or-pos}
use Rattle.std.proofs.lemmas.Grind.{common_steps}
use Rattle.std.proofs.lemmas.Bool.Decides.{nat_tests}
use Rattle.smps_words.specs.CoreFacts.{max_columns, max_rows}
use Rattle.smps_time.specs.TimeFile.{Before, is_after_last, begins_first}
use Rattle.smps_time.specs.Reading.{IsRising, MayBegin}

rises_more : (xs : List ℕ) (x : ℕ) → ((k : ℕ) → k + 1 < length xs → slice_index xs k < slice_index xs (k + 1)) → (0 < length xs → slice_index xs (length xs - 1) < x) → (k : ℕ) → k + 1 < length (xs ++ x ∷ []) → slice_index (xs ++ x ∷ []) k < slice_index (xs ++ x ∷ []) (k + 1)
rises_more xs x rise last k h = grind (arith, common_steps, rise k)

first_of_front : (xs : List ℕ) (x : ℕ) → 0 < length xs → slice_index (xs ++ x ∷ []) 0 ≡ slice_index xs 0
first_of_front xs x h = grind (arith, common_steps)

first_of_empty : (xs : List ℕ) (x : ℕ) → length xs ≡ 0 → slice_index (xs ++ x ∷ []) 0 ≡ x
first_of_empty xs x h = grind (arith, common_steps)

-- a bound on the first number, which the new one meets where it is the first
first_stays : (xs : List ℕ) (x most : ℕ) → slice_index xs 0 ≤ most → (length xs ≡ 0 → x ≤ most) → slice_index (xs ++ x ∷ []) 0 ≤ most
first_stays xs x most front new =
    elim (eq-zero-or-pos (length xs)) [
      | inl none ↦ subst (λ n. n ≤ most) (sym (first_of_empty xs x none)) (new none)
      | inr some ↦ subst (λ n. n ≤ most) (sym (first_of_front xs x some)) front
    ]

first_column : (columns : List ℕ) (column place : ℕ) (later : Bool) → (if length columns == 0 then begins_first column place else later) ≡ true → length columns ≡ 0 → column ≡ 0
first_column columns column place later h e = grind (arith, nat_tests)

first_place : (columns : List ℕ) (column place : ℕ) (later : Bool) → (if length columns == 0 then begins_first column place else later) ≡ true → length columns ≡ 0 → place ≤ 1
first_place columns column place later h e = grind (arith, nat_tests)

later_column : (columns : List ℕ) (column : ℕ) (first after : Bool) → (if length columns == 0 then first else (is_after_last columns column && after)) ≡ true → 0 < length columns → slice_index columns (length columns - 1) < column
later_column columns column first after h e = grind (arith, nat_tests)

later_place : (columns places : List ℕ) (place : ℕ) (first after : Bool) → (if length columns == 0 then first else (after && is_after_last places place)) ≡ true → 0 < length columns → slice_index places (length places - 1) < place
later_place columns places place first after h e = grind (arith, nat_tests)

-- one more period that may begin after them
pub period_more : (before : Before) (name : List ℕ) (period : ℕ × ℕ) → IsRising before.names before.columns before.places → MayBegin before period → IsRising (before.names ++ name ∷ []) (before.columns ++ period.0 ∷ []) (before.places ++ period.1 ∷ [])
period_more before name period keeps may =
    let many = keeps.with_columns in
    let paired = keeps.with_places in
    let front : slice_index before.columns 0 ≤ 0 = omega (arith, keeps.first_column) in
    let first : length before.columns ≡ 0 → period.0 ≤ 0 = λ h. let zero = first_column before.columns period.0 period.1 _ may.order h in omega (arith, zero) in
    let start : slice_index (before.columns ++ period.0 ∷ []) 0 ≤ 0 = first_stays before.columns period.0 0 front first in
    record {
      few = grind (arith, common_steps, may.room);
      with_columns = grind (arith, common_steps, many);
      with_places = grind (arith, common_steps, paired);
      first_column = omega (arith, start);
      first_place = first_stays before.places period.1 1 keeps.first_place (λ h. first_place before.columns period.0 period.1 _ may.order (omega (arith, h)));
      columns_rise = rises_more before.columns period.0 keeps.columns_rise (later_column before.columns period.0 _ _ may.order);
      places_rise = rises_more before.places period.1 keeps.places_rise (λ h. later_place before.columns before.places period.1 _ _ may.order (omega (arith, h)));
      small_columns = All-push (λ column. column < max_columns) before.columns period.0 keeps.small_columns may.small_column;
      small_places = All-push (λ place. place ≤ max_rows) before.places period.1 keeps.small_places may.small_place;
    }

-- the same facts of equal lists
pub rising_as : (names names' : List (List ℕ)) (columns columns' places places' : List ℕ) → IsRising names columns places → names' ≡ names → columns' ≡ columns → places' ≡ places → IsRising names' columns' places'
rising_as names names' columns columns' places places' keeps is_names is_columns is_places = rw (is_names, is_columns, is_places) keeps
