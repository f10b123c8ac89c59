-- The value of a place in a scenario is that of the first of its entries, its parent's or its chosen realisation's.
use Rattle.std.proofs.Common.{arith, refl, sym, subst, ap, ◌∙◌, ◌≡◌, ◌<◌, ◌+◌, ◌||◌, ℕ, zero, suc, Bool, true, false, cond, if◌then◌else◌, get_or, length, List, [], ◌∷◌, ◌++◌, Option, Some, None, find}
use Rattle.std.specs.List.{fold, list_any, range_with_len}
use Rattle.std.specs.Option.{option_map, option_or}
use Rattle.std.proofs.lemmas.List.{get_or_append_left, length_push}
use Rattle.std.proofs.lemmas.List.Folds.{find-append}
use Rattle.std.proofs.Math.Seq.{get_or-append_seam}
use Rattle.dec_core.specs.declared.decimal.Decimal.{Decimal}
use Rattle.base_words.specs.FirstAnswers.{first_some}
use Rattle.base_words.specs.Gathered.{gathered}
use Rattle.base_words.proofs.FirstAnswers.{first_some-append}
use Rattle.base_words.proofs.ListSumsByNumber.{range_more}
use Rattle.stoch_lines.specs.declared.places.StochEntry.{StochEntry}
use Rattle.stoch_lines.specs.declared.places.StochPlace.{StochPlace}
use Rattle.smps_stoch.specs.LawWords.{value_at_place}
use Rattle.smps_stoch.specs.StochFacts.{IsEarlier, no_branch}
use Rattle.smps_stoch.specs.declared.stoch.Branch.{Branch}
use Rattle.smps_stoch.specs.declared.stoch.Element.{Element}
use Rattle.smps_stoch.specs.StochData.{no_realisation}
use Rattle.smps_stoch.proofs.LastEntries.{same_is}
use Rattle.scenario_lists.specs.Combinations.{chosen_at, entries_at, entries_in, realisations_at}
use Rattle.scenario_lists.specs.Distinct.{first_of_each, has_place, is_of, with_entry}
use Rattle.scenario_lists.specs.ScenarioList.{HaveParents, branch_scenarios, inherited, no_scenario, scenario_beside, scenario_in, with_branch}
use Rattle.scenario_lists.specs.Values.{chosen_value, listed_value, parent_value}
use Rattle.scenario_lists.specs.declared.data.ScenarioData.{ScenarioData}

-- where one passes, the first that passes comes before any other answer
found_first : (p : StochEntry → Bool) (xs : List StochEntry) (one other : Option StochEntry) → list_any p xs ≡ true → option_or (find p xs) one ≡ option_or (find p xs) other
found_first p [] one other h = cc
found_first p (x ∷ xs) one other h = by (p x) h (found_first p xs one other)
  where
    by : (b : Bool) → (b || list_any p xs) ≡ true → (list_any p xs ≡ true → option_or (find p xs) one ≡ option_or (find p xs) other) → option_or (cond b (Some x) (find p xs)) one ≡ option_or (cond b (Some x) (find p xs)) other
    by true h rest = refl
    by false h rest = rest h

-- one more entry that is kept, before others
kept_then : (found : Option StochEntry) (b : Bool) (e : StochEntry) (later : Option StochEntry) → option_or (option_or found (cond b (Some e) None)) later ≡ option_or found (cond b (Some e) later)
kept_then None true e later = refl
kept_then None false e later = refl
kept_then (Some f) b e later = refl

-- the first entry of a place, where one more entry is kept unless its place has one
one_more : (place : StochPlace) (kept : List StochEntry) (e : StochEntry) (later : Option StochEntry) (there : Bool) → has_place kept e.place ≡ there → option_or (find (is_of place) (if there then kept else kept ++ e ∷ [])) later ≡ option_or (find (is_of place) kept) (cond (is_of place e) (Some e) later)
one_more place kept e later false said =
    ap (λ o. option_or o later) (find-append (is_of place) kept (e ∷ []))
    ∙ kept_then (find (is_of place) kept) (is_of place e) e later
one_more place kept e later true said = by (is_of place e) refl
  where
    by : (b : Bool) → is_of place e ≡ b → option_or (find (is_of place) kept) later ≡ option_or (find (is_of place) kept) (cond b (Some e) later)
    by false h = refl
    by true h =
        let there : has_place kept place ≡ true = subst (λ (p : StochPlace). has_place kept p ≡ true) (same_is e.place place h) said in
        found_first (is_of place) kept later (Some e) there

first_folded : (place : StochPlace) (kept entries : List StochEntry) → find (is_of place) (fold with_entry kept entries) ≡ option_or (find (is_of place) kept) (find (is_of place) entries)
first_folded place kept [] = none (find (is_of place) kept)
  where
    none : (o : Option StochEntry) → o ≡ option_or o None
    none None = refl
    none (Some e) = refl
first_folded place kept (e ∷ entries) =
    first_folded place (with_entry kept e) entries
    ∙ one_more place kept e (find (is_of place) entries) (has_place kept e.place) refl

-- the entries that are first of their places give the same values
pub first_value : (place : StochPlace) (entries : List StochEntry) → value_at_place place (first_of_each entries) ≡ value_at_place place entries
unfolding first_of_each
first_value place entries = ap (option_map (λ e. e.value)) (first_folded place [] entries)

-- a value in entries behind others
value_behind : (one other : Option StochEntry) → option_map (λ e. e.value) (option_or one other) ≡ option_or (option_map (λ e. e.value) one) (option_map (λ e. e.value) other)
value_behind None other = refl
value_behind (Some e) other = refl

value-append : (place : StochPlace) (xs ys : List StochEntry) → value_at_place place (xs ++ ys) ≡ option_or (value_at_place place xs) (value_at_place place ys)
value-append place xs ys =
    ap (option_map (λ e. e.value)) (find-append (is_of place) xs ys)
    ∙ value_behind (find (is_of place) xs) (find (is_of place) ys)

-- combinations

last_answer : {B : Type 0} (a b : Option B) → option_or a b ≡ option_or a (option_or b None)
last_answer (Some v) b = refl
last_answer None (Some w) = refl
last_answer None None = refl

gathered_value : (place : StochPlace) (f : ℕ → List StochEntry) (n : ℕ) → value_at_place place (gathered n f) ≡ first_some (λ k. value_at_place place (f k)) (range_with_len 0 n)
gathered_value place f zero = refl
gathered_value place f (suc n) =
    let F : ℕ → Option Decimal = λ k. value_at_place place (f k) in
    let z : 0 + n ≡ n = omega arith in
    value-append place (gathered n f) (f n)
    ∙ (ap (λ o. option_or o (F n)) (gathered_value place f n)
    ∙ (last_answer (first_some F (range_with_len 0 n)) (F n)
    ∙ (sym (first_some-append F (range_with_len 0 n) (n ∷ []))
    ∙ ap (first_some F) (ap (λ k. range_with_len 0 n ++ k ∷ []) (sym z) ∙ sym (range_more 0 n)))))

first_some_same : (f g : ℕ → Option Decimal) → ((k : ℕ) → f k ≡ g k) → (ks : List ℕ) → first_some f ks ≡ first_some g ks
first_some_same f g same [] = refl
first_some_same f g same (k ∷ ks) = ap (λ o. option_or o (first_some f ks)) (same k) ∙ ap (option_or (g k)) (first_some_same f g same ks)

pub chosen_or_first : (es : List Element) (choices : List ℕ) (place : StochPlace) → value_at_place place (scenario_in es choices).entries ≡ first_some (chosen_value es choices place) (range_with_len 0 (length es))
chosen_or_first es choices place =
    first_value place (entries_in es choices)
    ∙ (gathered_value place (entries_at es choices) (length es)
    ∙ first_some_same (λ k. value_at_place place (entries_at es choices k)) (chosen_value es choices place) (λ k. value-append place (chosen_at es choices k).entries (get_or (realisations_at es k) 0 no_realisation).entries) (range_with_len 0 (length es)))

-- listed scenarios

-- later scenarios leave those before them as they are
at_later : (made : List ScenarioData) (bs : List Branch) (i : ℕ) → i < length made → get_or (fold with_branch made bs) i no_scenario ≡ get_or made i no_scenario
at_later made [] i lt = refl
at_later made (b ∷ bs) i lt =
    at_later (with_branch made b) bs i (omega (arith, lt, length_push made (scenario_beside made b)))
    ∙ get_or_append_left made (scenario_beside made b ∷ []) no_scenario i lt

-- what a scenario takes over is the same in the whole list
inherited_later : (made : List ScenarioData) (bs : List Branch) (parent : Option ℕ) → IsEarlier parent (length made) → inherited made parent ≡ inherited (fold with_branch made bs) parent
inherited_later made bs None earlier = refl
inherited_later made bs (Some parent) earlier = ap (λ (s : ScenarioData). s.entries) (sym (at_later made bs parent earlier))

abbrev Beside : List ScenarioData → List ScenarioData → Branch → ℕ → Type 0
Beside made whole b i = (get_or whole i no_scenario).entries ≡ first_of_each (b.entries ++ inherited whole b.parent)

made_at : (made : List ScenarioData) (bs : List Branch) (k i : ℕ) → i ≡ length made + k → k < length bs → IsEarlier (get_or bs k no_branch).parent i → Beside made (fold with_branch made bs) (get_or bs k no_branch) i
made_at made [] k i at lt earlier = absurd (omega arith)
made_at made (b ∷ bs) zero i at lt earlier =
    let whole = fold with_branch made (b ∷ bs) in
    let here : i ≡ length made = omega (arith, at) in
    let long = length_push made (scenario_beside made b) in
    let before : IsEarlier b.parent (length made) = subst (IsEarlier b.parent) here earlier in
    ap (λ (s : ScenarioData). s.entries) (at_later (with_branch made b) bs i (omega (arith, here, long)) ∙ (ap (λ n. get_or (with_branch made b) n no_scenario) here ∙ get_or-append_seam made (scenario_beside made b) [] no_scenario))
    ∙ ap (λ xs. first_of_each (b.entries ++ xs)) (inherited_later made (b ∷ bs) b.parent before)
made_at made (b ∷ bs) (suc k) i at lt earlier =
    made_at (with_branch made b) bs k i (omega (arith, at, length_push made (scenario_beside made b))) (omega (arith, lt)) earlier

value_taken_over : (branches : List Branch) (place : StochPlace) (parent : Option ℕ) → value_at_place place (inherited (branch_scenarios branches) parent) ≡ parent_value branches place parent
value_taken_over branches place None = refl
value_taken_over branches place (Some parent) = refl

pub own_or_parents : (branches : List Branch) (k : ℕ) (place : StochPlace) → HaveParents branches → k < length branches → listed_value branches place k ≡ option_or (value_at_place place (get_or branches k no_branch).entries) (parent_value branches place (get_or branches k no_branch).parent)
unfolding branch_scenarios
own_or_parents branches k place parents lt =
    let b = get_or branches k no_branch in
    let whole = fold with_branch [] branches in
    ap (value_at_place place) (made_at [] branches k k (omega arith) lt (parents k lt))
    ∙ (first_value place (b.entries ++ inherited whole b.parent)
    ∙ (value-append place b.entries (inherited whole b.parent)
    ∙ ap (option_or (value_at_place place b.entries)) (value_taken_over branches place b.parent)))
