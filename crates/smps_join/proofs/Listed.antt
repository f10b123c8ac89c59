-- The listed scenarios: what holds of all entries of a stoch file holds of theirs, no place stands twice, and each weight is at least 1.
use Rattle.std.proofs.Common.{arith, refl, sym, subst, ◌∙◌, ◌≡◌, ℕ, zero, suc, ◌+◌, ◌<◌, ◌≤◌, nat_lt, Bool, true, false, List, [], ◌∷◌, ◌++◌, length, get_or, unsigned_abs, Option, Some, None, if◌then◌else◌, slice_index}
use Rattle.std.specs.List.{All, AllByRecursion, AllPairs, flat_map, fold, range_with_len}
use Rattle.std.proofs.lemmas.List.FromFn.{length-map-range_with_len, get_or-range_with_len, length-range_with_len}
use Rattle.std.proofs.lemmas.List.{length_push}
use Rattle.std.proofs.lemmas.List.Elements.{All-append, All-map, All-push, recursion_from_All}
use Rattle.std.proofs.Math.ListN.{get_or-eq_default}
use Rattle.std.proofs.Math.Nat.{mul-le-mul}
use Rattle.base_words.specs.Gathered.{gathered}
use Rattle.capped_num.specs.Capped.{capped}
use Rattle.smps_stoch.specs.StochFacts.{AreOfTwoPlaces, IsWeight}
use Rattle.smps_stoch.specs.declared.stoch.Branch.{Branch}
use Rattle.smps_stoch.specs.declared.stoch.Element.{Element}
use Rattle.smps_stoch.specs.declared.stoch.Realisation.{Realisation}
use Rattle.smps_stoch.specs.declared.stoch.Stoch.{Stoch}
use Rattle.smps_stoch.specs.declared.stoch.Stoch.TheVariants.{Product, Scenarios}
use Rattle.stoch_lines.specs.declared.places.StochEntry.{StochEntry}
use Rattle.smps_stoch.specs.StochData.{no_realisation}
use Rattle.scenario_lists.specs.Combinations.{AreChoices, choices_of, chosen_at, combinations, entries_at, entries_in, no_element, realisations_at, weight_below}
use Rattle.scenario_lists.specs.Distinct.{first_of_each, has_place, with_entry}
use Rattle.scenario_lists.specs.ScenarioList.{branch_scenarios, count_of, inherited, no_scenario, product_scenario_at, product_scenarios, scenario_beside, scenarios_of, with_branch}
use Rattle.scenario_lists.specs.declared.data.ScenarioData.{ScenarioData}
use Rattle.scenario_lists.proofs.Apart.{apart}
use Rattle.scenario_lists.proofs.Digits.{are_choices}
use Rattle.sp_model.proofs.Bounds.{abs_some}
use Rattle.join_words.specs.Parts.{all_entries}

-- an item of a list, or what stands past its end
all_or : {X : Type 0} (Q : X → Type 0) (xs : List X) (i : ℕ) (d : X) → Q d → All Q xs → Q (get_or xs i d)
all_or Q xs i d base all = by_test (nat_lt i (length xs)) refl
  where
    by_test : (t : Bool) → nat_lt i (length xs) ≡ t → Q (get_or xs i d)
    by_test true e = all i d (grind arith)
    by_test false e = subst Q (sym (get_or-eq_default xs d (let h : length xs ≤ i = grind arith in h))) base

no_items : {X : Type 0} (Q : X → Type 0) → All Q []
no_items Q k d lt = absurd (omega (arith, lt))

-- lists behind one another
all_flat : {X Y : Type 0} (P : Y → Type 0) (f : X → List Y) (xs : List X) → All (λ x. All P (f x)) xs → All P (flat_map f xs)
all_flat P f [] h = no_items P
all_flat P f (x ∷ xs) h = All-append P (f x) (flat_map f xs) (h 0 x (omega arith)) (all_flat P f xs (λ k d lt. h (suc k) d (omega (arith, lt))))

all_gathered : {X : Type 0} (P : X → Type 0) (n : ℕ) (f : ℕ → List X) → ((k : ℕ) → All P (f k)) → All P (gathered n f)
all_gathered P zero f h = no_items P
all_gathered P (suc n) f h = All-append P (gathered n f) (f n) (all_gathered P n f h) (h n)

-- the first entry of each place is one of the entries
pushed_all : (P : StochEntry → Type 0) (kept : List StochEntry) (e : StochEntry) (b : Bool) → All P kept → P e → All P (if b then kept else kept ++ e ∷ [])
pushed_all P kept e true all h = all
pushed_all P kept e false all h = All-push P kept e all h

folded_all : (P : StochEntry → Type 0) (kept es : List StochEntry) → All P kept → AllByRecursion P es → All P (fold with_entry kept es)
folded_all P kept [] all h = all
folded_all P kept (e ∷ es) all h = folded_all P (with_entry kept e) es (pushed_all P kept e (has_place kept e.place) all h.0) h.1

firsts_all : (P : StochEntry → Type 0) (es : List StochEntry) → All P es → All P (first_of_each es)
unfolding first_of_each
firsts_all P es h = folded_all P [] es (no_items P) (recursion_from_All P es h)

-- what holds of the entries of all realisations, or of all listed scenarios
abbrev pub EachEntry : (StochEntry → Type 0) → Stoch → Type 0
EachEntry P (Product es) = All (λ (e : Element). All (λ (r : Realisation). All P r.entries) e.realisations) es
EachEntry P (Scenarios bs) = All (λ (b : Branch). All P b.entries) bs

pub each_of_all : (P : StochEntry → Type 0) (stoch : Stoch) → EachEntry P stoch → All P (all_entries stoch)
each_of_all P (Product es) h = all_flat P (λ (e : Element). flat_map (λ (r : Realisation). r.entries) e.realisations) es (λ k d lt. all_flat P (λ (r : Realisation). r.entries) (get_or es k d).realisations (h k d lt))
each_of_all P (Scenarios bs) h = all_flat P (λ (b : Branch). b.entries) bs h

module _ (P : StochEntry → Type 0) where
  chosen_all : (es : List Element) → EachEntry P (Product es) → (cs : List ℕ) (k : ℕ) → All P (entries_at es cs k)
  chosen_all es h cs k =
      let own : All (λ (r : Realisation). All P r.entries) (realisations_at es k) = all_or (λ (e : Element). All (λ (r : Realisation). All P r.entries) e.realisations) es k no_element (no_items (λ (r : Realisation). All P r.entries)) h in
      let at : (i : ℕ) → All P (get_or (realisations_at es k) i no_realisation).entries = λ i. all_or (λ (r : Realisation). All P r.entries) (realisations_at es k) i no_realisation (no_items P) own in
      All-append P (chosen_at es cs k).entries (get_or (realisations_at es k) 0 no_realisation).entries (at (slice_index cs k)) (at 0)

  product_all : (es : List Element) → EachEntry P (Product es) → All (λ (s : ScenarioData). All P s.entries) (product_scenarios es)
  product_all es h = All-map (λ (s : ScenarioData). All P s.entries) (product_scenario_at es) (range_with_len 0 (combinations es)) (λ k d lt.
      let cs = choices_of es (get_or (range_with_len 0 (combinations es)) k d) in
      firsts_all P (entries_in es cs) (all_gathered P (length es) (entries_at es cs) (chosen_all es h cs)))

  inherited_all : (made : List ScenarioData) (parent : Option ℕ) → All (λ (s : ScenarioData). All P s.entries) made → All P (inherited made parent)
  inherited_all made None h = no_items P
  inherited_all made (Some p) h = all_or (λ (s : ScenarioData). All P s.entries) made p no_scenario (no_items P) h

  branch_all : (made : List ScenarioData) (bs : List Branch) → All (λ (s : ScenarioData). All P s.entries) made → AllByRecursion (λ (b : Branch). All P b.entries) bs → All (λ (s : ScenarioData). All P s.entries) (fold with_branch made bs)
  branch_all made [] h own = h
  branch_all made (b ∷ bs) h own =
      branch_all (with_branch made b) bs
      (All-push (λ (s : ScenarioData). All P s.entries) made (scenario_beside made b) h (firsts_all P (b.entries ++ inherited made b.parent) (All-append P b.entries (inherited made b.parent) own.0 (inherited_all made b.parent h))))
      own.1

  pub listed_all : (stoch : Stoch) → EachEntry P stoch → All (λ (s : ScenarioData). All P s.entries) (scenarios_of stoch)
  unfolding branch_scenarios
  listed_all (Product es) h = product_all es h
  listed_all (Scenarios bs) h = branch_all [] bs (no_items (λ (s : ScenarioData). All P s.entries)) (recursion_from_All (λ (b : Branch). All P b.entries) bs h)

branch_apart : (made : List ScenarioData) (bs : List Branch) → All (λ (s : ScenarioData). AllPairs AreOfTwoPlaces s.entries) made → All (λ (s : ScenarioData). AllPairs AreOfTwoPlaces s.entries) (fold with_branch made bs)
branch_apart made [] h = h
branch_apart made (b ∷ bs) h = branch_apart (with_branch made b) bs (All-push (λ (s : ScenarioData). AllPairs AreOfTwoPlaces s.entries) made (scenario_beside made b) h (apart (b.entries ++ inherited made b.parent)))

pub listed_apart : (stoch : Stoch) → All (λ (s : ScenarioData). AllPairs AreOfTwoPlaces s.entries) (scenarios_of stoch)
unfolding branch_scenarios
listed_apart (Product es) = All-map (λ (s : ScenarioData). AllPairs AreOfTwoPlaces s.entries) (product_scenario_at es) (range_with_len 0 (combinations es)) (λ k d lt. apart (entries_in es (choices_of es (get_or (range_with_len 0 (combinations es)) k d))))
listed_apart (Scenarios bs) = branch_apart [] bs (no_items (λ (s : ScenarioData). AllPairs AreOfTwoPlaces s.entries))

-- as many as are counted
branch_long : (made : List ScenarioData) (bs : List Branch) → length (fold with_branch made bs) ≡ length made + length bs
branch_long made [] = omega arith
branch_long made (b ∷ bs) = branch_long (with_branch made b) bs ∙ omega (arith, length_push made (scenario_beside made b))

pub listed_long : (stoch : Stoch) → length (scenarios_of stoch) ≡ count_of stoch
unfolding branch_scenarios
listed_long (Product es) = length-map-range_with_len (product_scenario_at es) 0 (combinations es)
listed_long (Scenarios bs) = branch_long [] bs ∙ omega arith

-- weights
abbrev pub EachWeight : Stoch → Type 0
EachWeight (Product es) = All (λ (e : Element). All (λ (r : Realisation). IsWeight r.weight) e.realisations) es
EachWeight (Scenarios bs) = All (λ (b : Branch). IsWeight b.weight) bs

product_weight : (es : List Element) (cs : List ℕ) (n : ℕ) → EachWeight (Product es) → AreChoices es cs → n ≤ length es → 1 ≤ weight_below es cs n
product_weight es cs zero h choices le = omega arith
product_weight es cs (suc n) h choices le =
    let there : n < length es = omega (arith, le) in
    let own = h n no_element there (slice_index cs n) no_realisation (choices.there n there) in
    mul-le-mul (product_weight es cs n h choices (omega (arith, le))) (abs_some (chosen_at es cs n).weight own.0)

capped_some : (n : ℕ) → 1 ≤ n → 1 ≤ capped n
capped_some n h = omega (arith, h)

branch_weights : (made : List ScenarioData) (bs : List Branch) → All (λ (s : ScenarioData). 1 ≤ s.weight) made → AllByRecursion (λ (b : Branch). IsWeight b.weight) bs → All (λ (s : ScenarioData). 1 ≤ s.weight) (fold with_branch made bs)
branch_weights made [] h own = h
branch_weights made (b ∷ bs) h own = branch_weights (with_branch made b) bs (All-push (λ (s : ScenarioData). 1 ≤ s.weight) made (scenario_beside made b) h (capped_some (unsigned_abs b.weight) (abs_some b.weight own.0.0))) own.1

pub listed_weights : (stoch : Stoch) → EachWeight stoch → All (λ (s : ScenarioData). 1 ≤ s.weight) (scenarios_of stoch)
unfolding branch_scenarios
listed_weights (Product es) h = All-map (λ (s : ScenarioData). 1 ≤ s.weight) (product_scenario_at es) (range_with_len 0 (combinations es)) (λ k d lt.
    let below : k < combinations es = omega (arith, length-range_with_len 0 (combinations es), lt) in
    let at : get_or (range_with_len 0 (combinations es)) k d ≡ k = get_or-range_with_len 0 (combinations es) k d below ∙ omega arith in
    let Q : ℕ → Type 0 = λ s. 1 ≤ (product_scenario_at es s).weight in
    let same : length es ≤ length es = omega arith in
    subst Q (sym at) (capped_some (weight_below es (choices_of es k) (length es)) (product_weight es (choices_of es k) (length es) h (are_choices es k below) same)))
listed_weights (Scenarios bs) h = branch_weights [] bs (no_items (λ (s : ScenarioData). 1 ≤ s.weight)) (recursion_from_All (λ (b : Branch). IsWeight b.weight) bs h)
