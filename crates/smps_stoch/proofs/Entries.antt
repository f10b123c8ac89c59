-- Realisations, scenarios and elements while entries and realisations are appended.
use Rattle.std.proofs.Common.{◌≡◌, refl, sym, ap, ◌∙◌, ℕ, ◌+◌, ◌<◌, ◌≤◌, ◌==◌, max, List, [], ◌∷◌, ◌++◌, length, map, set, get_or, replicate, subst, ℤ, eq-eqb}
use Rattle.std.specs.Prelude.{filter, slice_index}
use Rattle.std.specs.List.{All, range_with_len}
use Rattle.std.proofs.lemmas.List.{map-append, get_or_default, get_or-replicate, length-replicate, same_lists}
use Rattle.std.proofs.lemmas.List.Elements.{All-filter}
use Rattle.std.proofs.lemmas.List.FromFn.{length-map-range_with_len}
use Rattle.std.proofs.lemmas.List.Sums.{fold-append}
use Rattle.base_words.proofs.Made.{made_at, same_made}
use Rattle.dec_core.specs.declared.decimal.Decimal.{Decimal}
use Rattle.dec_core.specs.DecimalValue.{max_places}
use Rattle.dec_core.specs.Scale.{common_places, scaled_to}
use Rattle.stoch_lines.specs.declared.places.StochEntry.{StochEntry}
use Rattle.stoch_lines.specs.declared.entries.Owned.{Owned}
use Rattle.stoch_lines.specs.declared.state.Chosen.{Chosen}
use Rattle.stoch_lines.specs.declared.state.ScenarioHead.{ScenarioHead}
use Rattle.smps_stoch.specs.declared.stoch.Branch.{Branch}
use Rattle.smps_stoch.specs.declared.stoch.Element.{Element}
use Rattle.smps_stoch.specs.declared.stoch.Realisation.{Realisation}
use Rattle.smps_stoch.specs.declared.drafts.Draft.{Draft}
use Rattle.smps_stoch.specs.StochData.{branch_at, draft_at, drafts_at, element_at, elements_of, entries_at, no_choice, no_scenario, probability_places, weighed_at}
use Rattle.smps_stoch.specs.ElementSteps.{branches_with, drafts_with, element_so_far, elements_so_far, places_by, AreEnough, AreFew, GrowsBranches, GrowsDrafts, GrowsElements, GrowsPlaces}
use Rattle.smps_stoch.specs.SaidFacts.{IsProbable}
use Rattle.smps_stoch.proofs.Weighing.{passing_above, places_small}
use Rattle.smps_stoch.proofs.Filling.{grown, kept, keyed_same, keyed_other, one_more_made}

entries_same : (entries : List Owned) (owned : Owned) → entries_at (entries ++ owned ∷ []) owned.choice ≡ entries_at entries owned.choice ++ owned.entry ∷ []
entries_same entries owned =
    ap (map (λ (o : Owned). o.entry)) (keyed_same (λ (o : Owned). o.choice) entries owned owned.choice refl)
    ∙ map-append (λ (o : Owned). o.entry) (filter (λ (o : Owned). o.choice == owned.choice) entries) (owned ∷ [])

entries_other : (entries : List Owned) (owned : Owned) (k : ℕ) → (k ≡ owned.choice → ⊥) → entries_at (entries ++ owned ∷ []) k ≡ entries_at entries k
entries_other entries owned k other = ap (map (λ (o : Owned). o.entry)) (keyed_other (λ (o : Owned). o.choice) entries owned k other)

-- a realisation with more entries, and a scenario
abbrev pub with_entry : Draft → StochEntry → Draft
with_entry draft entry = record { element = draft.element; probability = draft.probability; entries = draft.entries ++ entry ∷ [] }

abbrev pub with_branch_entry : Branch → StochEntry → Branch
with_branch_entry branch entry = record { parent = branch.parent; weight = branch.weight; period = branch.period; entries = branch.entries ++ entry ∷ [] }

-- the same with these entries
abbrev draft_with : Chosen → List StochEntry → Draft
draft_with chosen entries = record { element = chosen.element; probability = chosen.probability; entries = entries }

abbrev branch_with : Branch → List StochEntry → Branch
branch_with branch entries = record { parent = branch.parent; weight = branch.weight; period = branch.period; entries = entries }

draft_other : (rs : List Chosen) (entries : List Owned) (owned : Owned) (j : ℕ) → (j ≡ owned.choice → ⊥) → draft_at rs (entries ++ owned ∷ []) j ≡ draft_at rs entries j
draft_other rs entries owned j other = ap (draft_with (get_or rs j no_choice)) (entries_other entries owned j other)

branch_other : (places : ℕ) (scenarios : List ScenarioHead) (entries : List Owned) (owned : Owned) (j : ℕ) → (j ≡ owned.choice → ⊥) → branch_at places scenarios (entries ++ owned ∷ []) j ≡ branch_at places scenarios entries j
branch_other places scenarios entries owned j other = ap (branch_with (branch_at places scenarios entries j)) (entries_other entries owned j other)

-- one more entry goes to its realisation
drafts_grow : (before after : List Draft) (owned : Owned) (draft : Draft) → owned.choice < length before → draft ≡ get_or before owned.choice draft → after ≡ set before owned.choice (with_entry draft owned.entry) → GrowsDrafts before owned after
drafts_grow before after owned draft within at made rs entries n is =
    grown (draft_at rs entries) (draft_at rs (entries ++ owned ∷ [])) n owned.choice before after draft (with_entry draft owned.entry) is within at made
    (λ same. ap (draft_with (get_or rs owned.choice no_choice)) (entries_same entries owned) ∙ ap (λ (d : Draft). with_entry d owned.entry) same)
    (draft_other rs entries owned)

pub drafts_stay : (before : List Draft) (owned : Owned) → length before ≤ owned.choice → GrowsDrafts before owned before
drafts_stay before owned past rs entries n is =
    kept (draft_at rs entries) (draft_at rs (entries ++ owned ∷ [])) n owned.choice before is past (draft_other rs entries owned)

-- one more entry goes to its scenario
branches_grow : (before after : List Branch) (owned : Owned) (branch : Branch) → owned.choice < length before → branch ≡ get_or before owned.choice branch → after ≡ set before owned.choice (with_branch_entry branch owned.entry) → GrowsBranches before owned after
branches_grow before after owned branch within at made places scenarios entries n is =
    grown (branch_at places scenarios entries) (branch_at places scenarios (entries ++ owned ∷ [])) n owned.choice before after branch (with_branch_entry branch owned.entry) is within at made
    (λ same. ap (branch_with (branch_at places scenarios entries owned.choice)) (entries_same entries owned) ∙ ap (λ (b : Branch). with_branch_entry b owned.entry) same)
    (branch_other places scenarios entries owned)

pub branches_stay : (before : List Branch) (owned : Owned) → length before ≤ owned.choice → GrowsBranches before owned before
branches_stay before owned past places scenarios entries n is =
    kept (branch_at places scenarios entries) (branch_at places scenarios (entries ++ owned ∷ [])) n owned.choice before is past (branch_other places scenarios entries owned)

-- the greatest number of places with one more realisation
places_more : (drafts : List Draft) (draft : Draft) → probability_places (drafts ++ draft ∷ []) ≡ max (probability_places drafts) draft.probability.places
places_more drafts draft =
    ap common_places (map-append (λ (d : Draft). d.probability) drafts (draft ∷ []))
    ∙ fold-append (λ (most : ℕ) (item : Decimal). max most item.places) 0 (map (λ (d : Draft). d.probability) drafts) (draft.probability ∷ [])

places_other : (drafts : List Draft) (draft : Draft) (j : ℕ) → (j ≡ draft.element → ⊥) → probability_places (drafts_at (drafts ++ draft ∷ []) j) ≡ probability_places (drafts_at drafts j)
places_other drafts draft j other = ap probability_places (keyed_other (λ (x : Draft). x.element) drafts draft j other)

-- one more realisation counts for its element
pub places_grow : (before after : List ℕ) (draft : Draft) (x : ℕ) → draft.element < length before → x ≡ get_or before draft.element x → after ≡ set before draft.element (max x draft.probability.places) → GrowsPlaces before draft after
places_grow before after draft x within at made drafts n is =
    grown (λ k. probability_places (drafts_at drafts k)) (λ k. probability_places (drafts_at (drafts ++ draft ∷ []) k)) n draft.element before after x (max x draft.probability.places) is within at made
    (λ same.
    ap probability_places (keyed_same (λ (d : Draft). d.element) drafts draft draft.element refl)
    ∙ places_more (drafts_at drafts draft.element) draft
    ∙ ap (λ (p : ℕ). max p draft.probability.places) same)
    (places_other drafts draft)

pub places_stay : (before : List ℕ) (draft : Draft) → length before ≤ draft.element → GrowsPlaces before draft before
places_stay before draft past drafts n is =
    kept (λ k. probability_places (drafts_at drafts k)) (λ k. probability_places (drafts_at (drafts ++ draft ∷ []) k)) n draft.element before is past (places_other drafts draft)

-- an element with one more realisation
abbrev pub with_realisation : Element → Realisation → Element
with_realisation element realisation = record { period = element.period; realisations = element.realisations ++ realisation ∷ [] }

abbrev element_with : ℕ → List Realisation → Element
element_with period realisations = record { period = period; realisations = realisations }

element_other : (periods places : List ℕ) (drafts : List Draft) (draft : Draft) (j : ℕ) → (j ≡ draft.element → ⊥) → element_so_far periods places (drafts ++ draft ∷ []) j ≡ element_so_far periods places drafts j
element_other periods places drafts draft j other =
    ap (element_with (slice_index periods j)) (ap (map (weighed_at (slice_index places j))) (keyed_other (λ (d : Draft). d.element) drafts draft j other))

-- one more realisation goes to its element
elements_grow : (places : List ℕ) (before after : List Element) (draft : Draft) (element : Element) → draft.element < length before → element ≡ get_or before draft.element element → after ≡ set before draft.element (with_realisation element (weighed_at (slice_index places draft.element) draft)) → GrowsElements places before draft after
elements_grow places before after draft element within at made periods drafts n is =
    let weigh = weighed_at (slice_index places draft.element) in
    grown (element_so_far periods places drafts) (element_so_far periods places (drafts ++ draft ∷ [])) n draft.element before after element (with_realisation element (weigh draft)) is within at made
    (λ same.
    ap (element_with (slice_index periods draft.element))
    (ap (map weigh) (keyed_same (λ (d : Draft). d.element) drafts draft draft.element refl) ∙ map-append weigh (drafts_at drafts draft.element) (draft ∷ []))
    ∙ ap (λ (e : Element). with_realisation e (weigh draft)) same)
    (element_other periods places drafts draft)

pub elements_stay : (places : List ℕ) (before : List Element) (draft : Draft) → length before ≤ draft.element → GrowsElements places before draft before
elements_stay places before draft past periods drafts n is =
    kept (element_so_far periods places drafts) (element_so_far periods places (drafts ++ draft ∷ [])) n draft.element before is past (element_other periods places drafts draft)

-- with all realisations and the places of all, the elements are those of the file
pub elements_made : (periods places : List ℕ) (drafts : List Draft) → places ≡ places_by drafts (length periods) → elements_so_far periods places drafts (length periods) ≡ elements_of periods drafts
elements_made periods places drafts same =
    let f = λ (k : ℕ). probability_places (drafts_at drafts k) in
    same_made (element_so_far periods places drafts) (element_at periods drafts) (length periods) (λ j lt.
    let at : slice_index places j ≡ f j = ap (λ (ps : List ℕ). slice_index ps j) same ∙ made_at f (length periods) j 0 lt in
    ap (λ (p : ℕ). element_with (slice_index periods j) (map (weighed_at p) (drafts_at drafts j))) at)

-- one more realisation without entries
pub drafts_more : (rs : List Chosen) (before after : List Draft) (i : ℕ) (d : Chosen) (es : List StochEntry) → i < length rs → es ≡ [] → before ≡ drafts_with rs [] i → after ≡ before ++ draft_with (get_or rs i d) es ∷ [] → after ≡ drafts_with rs [] (i + 1)
drafts_more rs before after i d es lt none is made =
    let same : draft_at rs [] i ≡ draft_with (get_or rs i d) es =
    ap (λ (c : Chosen). draft_with c []) (get_or_default rs i no_choice d lt) ∙ ap (draft_with (get_or rs i d)) (sym none) in
    made ∙ ap (λ (xs : List Draft). xs ++ draft_with (get_or rs i d) es ∷ []) is ∙ sym (one_more_made (draft_at rs []) i (draft_with (get_or rs i d) es) same)

-- one more scenario
abbrev head_with : ScenarioHead → ℤ → List StochEntry → Branch
head_with scenario weight entries = record { parent = scenario.parent; weight = weight; period = scenario.period; entries = entries }

pub branches_more : (places : ℕ) (scenarios : List ScenarioHead) (before after : List Branch) (i : ℕ) (d : ScenarioHead) (weight : ℤ) (es : List StochEntry) → i < length scenarios → es ≡ [] → weight ≡ scaled_to (get_or scenarios i d).probability places → before ≡ branches_with places scenarios [] i → after ≡ before ++ head_with (get_or scenarios i d) weight es ∷ [] → after ≡ branches_with places scenarios [] (i + 1)
branches_more places scenarios before after i d weight es lt none weighed is made =
    let head = get_or scenarios i d in
    let same : branch_at places scenarios [] i ≡ head_with head weight es =
    ap (λ (s : ScenarioHead). head_with s (scaled_to s.probability places) []) (get_or_default scenarios i no_scenario d lt)
    ∙ ap (λ (w : ℤ). head_with head w []) (sym weighed) ∙ ap (head_with head weight) (sym none) in
    made ∙ ap (λ (xs : List Branch). xs ++ head_with head weight es ∷ []) is ∙ sym (one_more_made (branch_at places scenarios []) i (head_with head weight es) same)

-- one more element
pub elements_more : (periods places : List ℕ) (before after : List Element) (i d : ℕ) (rs : List Realisation) → i < length periods → rs ≡ [] → before ≡ elements_so_far periods places [] i → after ≡ before ++ element_with (get_or periods i d) rs ∷ [] → after ≡ elements_so_far periods places [] (i + 1)
elements_more periods places before after i d rs lt none is made =
    let period = get_or periods i d in
    let same : element_so_far periods places [] i ≡ element_with period rs =
    ap (λ (p : ℕ). element_with p []) (get_or_default periods i 0 d lt) ∙ ap (element_with period) (sym none) in
    made ∙ ap (λ (xs : List Element). xs ++ element_with period rs ∷ []) is ∙ sym (one_more_made (element_so_far periods places []) i (element_with period rs) same)

-- no realisation has places
pub places_none : (n : ℕ) → replicate n 0 ≡ places_by [] n
places_none n =
    let f = λ (k : ℕ). probability_places (drafts_at [] k) in
    same_lists (replicate n 0) (map f (range_with_len 0 n)) (length-replicate n 0 ∙ sym (length-map-range_with_len f 0 n)) (λ j d lt.
    let below : j < n = subst (λ (m : ℕ). j < m) (length-replicate n 0) lt in
    get_or-replicate n j 0 d below ∙ sym (made_at f n j d below))

-- the places of each element are enough for its realisations, and few
pub enough_places : (drafts : List Draft) (places : List ℕ) (n : ℕ) → places ≡ places_by drafts n → All (AreEnough places) drafts
enough_places drafts places n is k d lt within =
    let draft = get_or drafts k d in
    let f = λ (j : ℕ). probability_places (drafts_at drafts j) in
    let below : draft.element < n = subst (λ (m : ℕ). draft.element < m) (ap (λ (xs : List ℕ). length xs) is ∙ length-map-range_with_len f 0 n) within in
    let at : slice_index places draft.element ≡ f draft.element = ap (λ (xs : List ℕ). slice_index xs draft.element) is ∙ made_at f n draft.element 0 below in
    subst (λ (p : ℕ). draft.probability.places ≤ p) (sym at)
    (passing_above (λ (x : Draft). x.probability) (λ (x : Draft). x.element == draft.element) drafts k d lt (eq-eqb draft.element draft.element refl) 0)

pub few_places : (drafts : List Draft) (places : List ℕ) (n : ℕ) → places ≡ places_by drafts n → All (λ draft. IsProbable draft.probability) drafts → All (AreFew places) drafts
few_places drafts places n is probable k d lt within =
    let draft = get_or drafts k d in
    let f = λ (j : ℕ). probability_places (drafts_at drafts j) in
    let below : draft.element < n = subst (λ (m : ℕ). draft.element < m) (ap (λ (xs : List ℕ). length xs) is ∙ length-map-range_with_len f 0 n) within in
    let at : slice_index places draft.element ≡ f draft.element = ap (λ (xs : List ℕ). slice_index xs draft.element) is ∙ made_at f n draft.element 0 below in
    subst (λ (p : ℕ). p ≤ max_places) (sym at)
    (places_small (λ (x : Draft). x.probability) (drafts_at drafts draft.element) (All-filter (λ (x : Draft). x.element == draft.element) (λ (x : Draft). IsProbable x.probability) drafts probable))

pub each_place : (drafts : List Draft) (places : List ℕ) (n : ℕ) → places ≡ places_by drafts n → length places ≡ n
each_place drafts places n is = ap (λ (xs : List ℕ). length xs) is ∙ length-map-range_with_len (λ (j : ℕ). probability_places (drafts_at drafts j)) 0 n

-- an entry that is pushed where its realisation or scenario stands
pub draft_pushed : (drafts : List Draft) (owned : Owned) (draft : Draft) (es : List StochEntry) → owned.choice < length drafts → draft ≡ get_or drafts owned.choice draft → es ≡ draft.entries ++ owned.entry ∷ [] → GrowsDrafts drafts owned (set drafts owned.choice (record { element = draft.element; probability = draft.probability; entries = es }))
draft_pushed drafts owned draft es within at is =
    drafts_grow drafts _ owned draft within at
    (ap (λ (xs : List StochEntry). let made : Draft = record { element = draft.element; probability = draft.probability; entries = xs } in set drafts owned.choice made) is)

pub branch_pushed : (branches : List Branch) (owned : Owned) (branch : Branch) (es : List StochEntry) → owned.choice < length branches → branch ≡ get_or branches owned.choice branch → es ≡ branch.entries ++ owned.entry ∷ [] → GrowsBranches branches owned (set branches owned.choice (branch_with branch es))
branch_pushed branches owned branch es within at is =
    branches_grow branches _ owned branch within at (ap (λ (xs : List StochEntry). set branches owned.choice (branch_with branch xs)) is)

pub element_pushed : (places : List ℕ) (elements : List Element) (draft : Draft) (element : Element) (weight : ℤ) (rs : List Realisation) → draft.element < length elements → element ≡ get_or elements draft.element element → weight ≡ scaled_to draft.probability (slice_index places draft.element) → rs ≡ element.realisations ++ record { weight = weight; entries = draft.entries } ∷ [] → GrowsElements places elements draft (set elements draft.element (element_with element.period rs))
element_pushed places elements draft element weight rs within at weighed is =
    elements_grow places elements _ draft element within at
    (ap (λ (xs : List Realisation). set elements draft.element (element_with element.period xs))
    (is ∙ ap (λ (w : ℤ). let made : Realisation = record { weight = w; entries = draft.entries } in element.realisations ++ made ∷ []) weighed))

-- there are as many elements as asked for
pub so_far_long : (elements : List Element) (periods places : List ℕ) (drafts : List Draft) (n : ℕ) → elements ≡ elements_so_far periods places drafts n → length elements ≡ n
so_far_long elements periods places drafts n is = ap (λ (xs : List Element). length xs) is ∙ length-map-range_with_len (element_so_far periods places drafts) 0 n
