-- The facts of accepted periods, out of those that the reader keeps.
use Rattle.std.proofs.Common.{◌≡◌, ℕ, ◌+◌, ◌-◌, ◌<◌, ◌≤◌, List, length, slice_index, get_or, arith, sym, subst, ◌∙◌}
use Rattle.std.specs.List.{All}
use Rattle.std.proofs.lemmas.List.{get_or-map}
use Rattle.std.proofs.Math.ListN.{length-map}
use Rattle.smps_words.specs.CoreFacts.{max_rows}
use Rattle.smps_words.specs.PeriodFacts.{PeriodFacts, min_periods}
use Rattle.smps_time.specs.TimeAnswers.{rows_at}
use Rattle.smps_time.specs.Reading.{IsRising}

row_at : (places : List ℕ) (k : ℕ) (d : ℕ) → k < length places → get_or (rows_at places) k d ≡ get_or places k 0 - 1
row_at places k d h = get_or-map (λ place. place - 1) places k 0 d h

-- a number that isn't the least, less one
less_one : (a b c x y : ℕ) → a < b → b < c → x ≡ b - 1 → y ≡ c - 1 → x < y
less_one a b c x y first second is_x is_y = omega arith

rows_rise : (places : List ℕ) → ((k : ℕ) → k + 1 < length places → slice_index places k < slice_index places (k + 1)) → (k : ℕ) → 1 ≤ k → k + 1 < length places → slice_index (rows_at places) k < slice_index (rows_at places) (k + 1)
rows_rise places rise k positive h =
    let same : k - 1 + 1 ≡ k = omega arith in
    let first : slice_index places (k - 1) < slice_index places k = subst (λ n. slice_index places (k - 1) < slice_index places n) same (rise (k - 1) (omega arith)) in
    less_one _ _ _ _ _ first (rise k h) (row_at places k 0 (omega arith)) (row_at places (k + 1) 0 h)

small_rows : (places : List ℕ) → All (λ place. place ≤ max_rows) places → length (rows_at places) ≡ length places → All (λ row. row < max_rows) (rows_at places)
small_rows places small long = λ k d h.
    let inside : k < length places = omega (arith, h) in
    let here : get_or places k 0 ≤ max_rows = small k 0 inside in
    let row = row_at places k d inside in
    omega (arith, here, row)

-- the facts of the periods that are read
pub facts_of : (names : List (List ℕ)) (columns places : List ℕ) → IsRising names columns places → min_periods ≤ length names → PeriodFacts names columns (rows_at places)
facts_of names columns places keeps some =
    let long : length (rows_at places) ≡ length places = length-map {A = ℕ} places (λ place. place - 1) in
    let paired = keeps.with_places in
    let first : slice_index (rows_at places) 0 ≡ slice_index places 0 - 1 = row_at places 0 0 (omega arith) in
    let low = keeps.first_place in
    record {
      some = some;
      few = keeps.few;
      with_columns = keeps.with_columns;
      with_rows = long ∙ paired;
      first_column = keeps.first_column;
      first_row = omega arith;
      columns_rise = keeps.columns_rise;
      rows_rise = λ k positive h. rows_rise places keeps.places_rise k positive (omega (arith, h));
      small_columns = keeps.small_columns;
      small_rows = small_rows places keeps.small_places long;
    }

-- the same where the rows are made of the places
pub facts_with : (names : List (List ℕ)) (columns places rows : List ℕ) → IsRising names columns places → min_periods ≤ length names → rows ≡ rows_at places → PeriodFacts names columns rows
facts_with names columns places rows keeps some is = subst (λ r. PeriodFacts names columns r) (sym is) (facts_of names columns places keeps some)
