-- Names that are taken up where they are new stand in the order of the lines that are the first to give them.
use Rattle.std.proofs.Common.{◌≡◌, ◌≢◌, refl, sym, subst, ap, ◌∙◌, ℕ, ◌<◌, ◌==◌, true, false, List, [], ◌∷◌, ◌++◌, length, fold, take, get_or, arith, inl, inr}
use Rattle.std.specs.Prelude.{Option, Some, None, is_none, if◌then◌else◌}
use Rattle.std.specs.List.{Contains, list_any}
use Rattle.std.specs.Option.{option_to_list}
use Rattle.std.specs.Str.{bytes_eq}
use Rattle.std.proofs.lemmas.Bool.{cases_lt}
use Rattle.std.proofs.lemmas.Bool.Decides.{nat_tests}
use Rattle.std.proofs.lemmas.List.{get_or_append_left, get_or_at, length_push, take-append-le, take_at}
use Rattle.std.proofs.lemmas.List.Elements.{Contains-append_left, Contains-push}
use Rattle.std.proofs.lemmas.List.Quantifiers.{all_pairs_push, position-Some}
use Rattle.std.proofs.lemmas.List.Folds.{list_any_at}
use Rattle.std.proofs.lemmas.List.Sums.{fold-append}
use Rattle.std.proofs.lemmas.Slice.Eq.{bytes_eq-Decides}
use Rattle.base_words.proofs.Positions.{any_none}
use Rattle.base_words.proofs.FirstAnswers.{same_some}
use Rattle.line_core.specs.Names.{number_of}
use Rattle.smps_words.proofs.ToldLaws.{told_push}
use Rattle.smps_words.specs.Outcomes.{all_told}
use Rattle.smps_words.specs.TextLines.{TextLine, no_line}
use Rattle.core_lines.specs.ColumnLines.{grown}
use Rattle.smps_core.proofs.Accepted.{by_lines}
use Rattle.smps_core.specs.NameOrder.{AreInOrder, IsFirstOf}

-- what is asked of a line and those before it
abbrev pub Asks : Type 0 → Type 0
Asks R = List TextLine → TextLine → R

-- the answer at place n
abbrev pub at : {R : Type 0} → Asks R → List TextLine → ℕ → R
at asks lines n = asks (take n lines) (get_or lines n no_line)

-- one more line changes nothing at the places before it
pub at_old : {R : Type 0} (asks : Asks R) (lines : List TextLine) (line : TextLine) (n : ℕ) → n < length lines → at asks (lines ++ line ∷ []) n ≡ at asks lines n
at_old asks lines line n lt =
    ap (λ b. asks b (get_or (lines ++ line ∷ []) n no_line)) (take-append-le n lines (line ∷ []) (omega (arith, lt)))
    ∙ ap (λ l. asks (take n lines) l) (get_or_append_left lines (line ∷ []) no_line n lt)

pub at_new : {R : Type 0} (asks : Asks R) (lines : List TextLine) (line : TextLine) → at asks (lines ++ line ∷ []) (length lines) ≡ asks lines line
at_new asks lines line =
    ap (λ b. asks b (get_or (lines ++ line ∷ []) (length lines) no_line)) (take_at lines (line ∷ []) (length lines) refl)
    ∙ ap (λ l. asks lines l) (get_or_at lines line [] no_line (length lines) refl)

-- the names that lines give, each once
abbrev pub collected : Asks (Option (List ℕ)) → List TextLine → List (List ℕ)
collected gives lines = fold grown [] (all_told (λ before line. option_to_list (gives before line)) [] lines)

collected_more : (gives : Asks (Option (List ℕ))) (lines : List TextLine) (line : TextLine) → collected gives (lines ++ line ∷ []) ≡ fold grown (collected gives lines) (option_to_list (gives lines line))
collected_more gives lines line =
    ap (fold grown []) (told_push (λ before l. option_to_list (gives before l)) lines line)
    ∙ fold-append grown [] (all_told (λ before l. option_to_list (gives before l)) [] lines) (option_to_list (gives lines line))

-- the first line that gives a name stays the first
still_first : (gives : Asks (Option (List ℕ))) (lines : List TextLine) (line : TextLine) (name : List ℕ) (n : ℕ) → IsFirstOf gives lines name n → IsFirstOf gives (lines ++ line ∷ []) name n
still_first gives lines line name n first =
    let there = first.there in
    record {
      there = let more = length_push lines line in omega (arith, there, more);
      given = at_old gives lines line n there ∙ first.given;
      fresh = λ m lt is. first.fresh m lt (sym (at_old gives lines line m (omega (arith, lt, there))) ∙ is);
    }

-- a name that the last line gives is there if those of the other lines are
whole_more : (gives : Asks (Option (List ℕ))) (lines : List TextLine) (line : TextLine) (names more : List (List ℕ)) → ((n : ℕ) (name : List ℕ) → n < length lines → at gives lines n ≡ Some name → Contains names name) → ((name : List ℕ) → Contains names name → Contains more name) → ((name : List ℕ) → gives lines line ≡ Some name → Contains more name) → (n : ℕ) (name : List ℕ) → n < length (lines ++ line ∷ []) → at gives (lines ++ line ∷ []) n ≡ Some name → Contains more name
whole_more gives lines line names more old keeps new n name lt is =
    elim (cases_lt n (length lines)) [
      | inl less ↦ keeps name (old n name less (sym (at_old gives lines line n less) ∙ is))
      | inr past ↦
          let long = length_push lines line in
          let last : n ≡ length lines = omega (arith, past, lt, long) in
          new name (sym (at_new gives lines line) ∙ sym (ap (at gives (lines ++ line ∷ [])) last) ∙ is)
    ]

-- a line that gives no new name
same_names : (gives : Asks (Option (List ℕ))) (lines : List TextLine) (line : TextLine) (names : List (List ℕ)) → AreInOrder gives lines names → ((name : List ℕ) → gives lines line ≡ Some name → Contains names name) → AreInOrder gives (lines ++ line ∷ []) names
same_names gives lines line names old new = record {
  distinct = old.distinct;
  place = old.place;
  first = λ j lt. still_first gives lines line (get_or names j []) (old.place j) (old.first j lt);
  rising = old.rising;
  whole = whole_more gives lines line names names old.whole (λ name there. there) new;
}

-- none of the names is this one
pub other_names : (name : List ℕ) (names : List (List ℕ)) → number_of name names ≡ None → (k : ℕ) (d : List ℕ) → k < length names → get_or names k d ≢ name
other_names name names none k d lt is =
    let found : list_any (bytes_eq name) names ≡ true = list_any_at (bytes_eq name) names k d lt ((bytes_eq-Decides name (get_or names k d)).1 (sym is)) in
    let absent : list_any (bytes_eq name) names ≡ false = any_none (bytes_eq name) names none in
    cc

not_there : (name : List ℕ) (names : List (List ℕ)) → number_of name names ≡ None → Contains names name → ⊥
not_there name names none (k, lt, is) = other_names name names none k name lt is

-- a name that has a number is there
there_by : (name : List ℕ) (names : List (List ℕ)) (i : ℕ) → number_of name names ≡ Some i → Contains names name
there_by name names i is =
    let at = position-Some (bytes_eq name) names i name is in
    (i, at.0, sym ((bytes_eq-Decides name (get_or names i name)).0 at.1))

-- the places of the first lines, with one more name's
abbrev placed : ℕ → ℕ → (ℕ → ℕ) → ℕ → ℕ
placed count last place j = if j == count then last else place j

placed_last : (count last : ℕ) (place : ℕ → ℕ) → placed count last place count ≡ last
placed_last count last place = grind (arith, nat_tests)

placed_old : (count last : ℕ) (place : ℕ → ℕ) (j : ℕ) → j < count → placed count last place j ≡ place j
placed_old count last place j lt = grind (arith, nat_tests)

-- the line that gives a new name is the first to give it
new_first : (gives : Asks (Option (List ℕ))) (lines : List TextLine) (line : TextLine) (names : List (List ℕ)) (name : List ℕ) → gives lines line ≡ Some name → number_of name names ≡ None → AreInOrder gives lines names → IsFirstOf gives (lines ++ line ∷ []) name (length lines)
new_first gives lines line names name given none old = record {
  there = let long = length_push lines line in omega (arith, long);
  given = at_new gives lines line ∙ given;
  fresh = λ m lt is. not_there name names none (old.whole m name lt (sym (at_old gives lines line m lt) ∙ is));
}

firsts : (gives : Asks (Option (List ℕ))) (lines : List TextLine) (line : TextLine) (names : List (List ℕ)) (name : List ℕ) → gives lines line ≡ Some name → number_of name names ≡ None → (old : AreInOrder gives lines names) → (j : ℕ) → j < length (names ++ name ∷ []) → IsFirstOf gives (lines ++ line ∷ []) (get_or (names ++ name ∷ []) j []) (placed (length names) (length lines) old.place j)
firsts gives lines line names name given none old j lt =
    let count = length_push names name in
    elim (cases_lt j (length names)) [
      | inl less ↦
          subst (λ n. IsFirstOf gives (lines ++ line ∷ []) (get_or (names ++ name ∷ []) j []) n) (sym (placed_old (length names) (length lines) old.place j less))
          (subst (λ (n : List ℕ). IsFirstOf gives (lines ++ line ∷ []) n (old.place j)) (sym (get_or_append_left names (name ∷ []) [] j less))
          (still_first gives lines line (get_or names j []) (old.place j) (old.first j less)))
      | inr past ↦
          let last : length names ≡ j = omega (arith, past, lt, count) in
          subst (λ k. IsFirstOf gives (lines ++ line ∷ []) (get_or (names ++ name ∷ []) k []) (placed (length names) (length lines) old.place k)) last
          (subst (λ n. IsFirstOf gives (lines ++ line ∷ []) (get_or (names ++ name ∷ []) (length names) []) n) (sym (placed_last (length names) (length lines) old.place))
          (subst (λ (n : List ℕ). IsFirstOf gives (lines ++ line ∷ []) n (length lines)) (sym (get_or_at names name [] [] (length names) refl))
          (new_first gives lines line names name given none old)))
    ]

rise : (gives : Asks (Option (List ℕ))) (lines : List TextLine) (names : List (List ℕ)) (name : List ℕ) → (old : AreInOrder gives lines names) → (j k : ℕ) → j < k → k < length (names ++ name ∷ []) → placed (length names) (length lines) old.place j < placed (length names) (length lines) old.place k
rise gives lines names name old j k less lt =
    let count = length_push names name in
    let low : j < length names = omega (arith, less, lt, count) in
    let first = placed_old (length names) (length lines) old.place j low in
    elim (cases_lt k (length names)) [
      | inl inside ↦
          let second = placed_old (length names) (length lines) old.place k inside in
          let rising = old.rising j k less inside in
          omega (arith, first, second, rising)
      | inr past ↦
          let last : length names ≡ k = omega (arith, past, lt, count) in
          let second : placed (length names) (length lines) old.place k ≡ length lines = sym (ap (placed (length names) (length lines) old.place) last) ∙ placed_last (length names) (length lines) old.place in
          let there = (old.first j low).there in
          omega (arith, first, second, there)
    ]

-- a line that gives a new name
new_name : (gives : Asks (Option (List ℕ))) (lines : List TextLine) (line : TextLine) (names : List (List ℕ)) (name : List ℕ) → gives lines line ≡ Some name → number_of name names ≡ None → AreInOrder gives lines names → AreInOrder gives (lines ++ line ∷ []) (names ++ name ∷ [])
new_name gives lines line names name given none old = record {
  distinct = all_pairs_push (λ one other. one ≢ other) names name old.distinct (other_names name names none);
  place = placed (length names) (length lines) old.place;
  first = firsts gives lines line names name given none old;
  rising = rise gives lines names name old;
  whole = whole_more gives lines line names (names ++ name ∷ []) old.whole (λ other there. Contains-append_left names (name ∷ []) other there) (λ other is. subst (λ (n : List ℕ). Contains (names ++ name ∷ []) n) (same_some (sym given ∙ is)) (Contains-push names name));
}

-- a line that gives a name, new or not
by_number : (gives : Asks (Option (List ℕ))) (lines : List TextLine) (line : TextLine) (names : List (List ℕ)) (name : List ℕ) (number : Option ℕ) → gives lines line ≡ Some name → number_of name names ≡ number → AreInOrder gives lines names → AreInOrder gives (lines ++ line ∷ []) (if is_none number then names ++ name ∷ [] else names)
by_number gives lines line names name None given none old = new_name gives lines line names name given none old
by_number gives lines line names name (Some i) given is old = same_names gives lines line names old (λ other same. subst (λ (n : List ℕ). Contains names n) (same_some (sym given ∙ same)) (there_by name names i is))

by_given : (gives : Asks (Option (List ℕ))) (lines : List TextLine) (line : TextLine) (names : List (List ℕ)) (given : Option (List ℕ)) → gives lines line ≡ given → AreInOrder gives lines names → AreInOrder gives (lines ++ line ∷ []) (fold grown names (option_to_list given))
by_given gives lines line names None is old = same_names gives lines line names old (λ other same. absurd (cc (sym is ∙ same)))
by_given gives lines line names (Some name) is old = by_number gives lines line names name (number_of name names) is refl old

one_more : (gives : Asks (Option (List ℕ))) (lines : List TextLine) (line : TextLine) → AreInOrder gives lines (collected gives lines) → AreInOrder gives (lines ++ line ∷ []) (collected gives (lines ++ line ∷ []))
one_more gives lines line old =
    subst (λ (names : List (List ℕ)). AreInOrder gives (lines ++ line ∷ []) names) (sym (collected_more gives lines line))
    (by_given gives lines line (collected gives lines) (gives lines line) refl old)

none_yet : (gives : Asks (Option (List ℕ))) → AreInOrder gives [] []
none_yet gives = record {
  distinct = λ i j d less lt. absurd (omega (arith, lt));
  place = λ j. j;
  first = λ j lt. absurd (omega (arith, lt));
  rising = λ j k less lt. absurd (omega (arith, lt));
  whole = λ n name lt is. absurd (omega (arith, lt));
}

-- the names that lines give, each once, are in order
pub are_in_order : (gives : Asks (Option (List ℕ))) (lines : List TextLine) → AreInOrder gives lines (collected gives lines)
are_in_order gives lines = by_lines (λ xs. AreInOrder gives xs (collected gives xs)) (one_more gives) [] lines (none_yet gives)
