-- Leaving out the entries of columns that don't stay first or last comes to the same, and how many entries a part of the scenarios has at most.
use Rattle.std.proofs.Common.{arith, refl, sym, ap, ◌∙◌, ◌≡◌, ℕ, zero, suc, ◌+◌, ◌<◌, ◌≤◌, ◌==◌, ◌||◌, Bool, true, false, cond, List, [], ◌∷◌, ◌++◌, length, map, get_or, take, drop, Option, Some, None, if◌then◌else◌}
use Rattle.std.specs.List.{fold, range_with_len}
use Rattle.std.proofs.lemmas.List.{append-nil, append_assoc, map-append, take-append-drop}
use Rattle.std.proofs.lemmas.List.Elements.{filter-append, filter_more}
use Rattle.std.proofs.lemmas.List.FromFn.{take-map-range_with_len}
use Rattle.std.proofs.lemmas.List.Sums.{fold-append, sum_by-take-le, sum_by_push}
use Rattle.base_words.proofs.Comparisons.{both_right}
use Rattle.base_words.proofs.Booleans.{not_both}
use Rattle.base_words.proofs.Made.{next_made}
use Rattle.stoch_lines.specs.Places.{same_place}
use Rattle.stoch_lines.specs.declared.places.StochEntry.{StochEntry}
use Rattle.stoch_lines.specs.declared.places.StochPlace.{StochPlace}
use Rattle.stoch_lines.specs.declared.places.StochPlace.TheVariants.{Cost, Cell, Right}
use Rattle.smps_stoch.specs.declared.stoch.Branch.{Branch}
use Rattle.smps_stoch.specs.declared.stoch.Element.{Element}
use Rattle.scenario_lists.specs.Combinations.{combinations}
use Rattle.scenario_lists.specs.Distinct.{first_of_each, has_place, with_entry}
use Rattle.scenario_lists.specs.Live.{entry_count, live_beside, live_branches, live_entries, live_products, live_scenario, stays_in, with_live}
use Rattle.scenario_lists.specs.ScenarioList.{branch_scenarios, inherited, no_scenario, product_scenario_at, scenario_beside, with_branch}
use Rattle.scenario_lists.specs.declared.data.ScenarioData.{ScenarioData}
use Rattle.scenario_lists.proofs.Rows.{map_twice, next_folded}

live_append : (live : List Bool) (xs ys : List StochEntry) → live_entries live (xs ++ ys) ≡ live_entries live xs ++ live_entries live ys
live_append live xs ys = filter-append (λ (e : StochEntry). stays_in live e.place) xs ys

-- whether a place stays is asked of the place alone
same_stays : (live : List Bool) (p q : StochPlace) → same_place p q ≡ true → stays_in live p ≡ stays_in live q
same_stays live (Cost c) (Cost d) h = let e : c ≡ d = grind arith in ap (λ j. get_or live j false) e
same_stays live (Cost c) (Cell i d) h = absurd (let z = h in cc)
same_stays live (Cost c) (Right i) h = absurd (let z = h in cc)
same_stays live (Cell i c) (Cost d) h = absurd (let z = h in cc)
same_stays live (Cell i c) (Cell k d) h = let both = both_right (i == k) (c == d) h in let e : c ≡ d = grind arith in ap (λ j. get_or live j false) e
same_stays live (Cell i c) (Right k) h = absurd (let z = h in cc)
same_stays live (Right i) (Cost d) h = absurd (let z = h in cc)
same_stays live (Right i) (Cell k d) h = absurd (let z = h in cc)
same_stays live (Right i) (Right k) h = refl

-- a place that stays is among those that stay exactly where it is among all
live_has : (live : List Bool) (p : StochPlace) (kept : List StochEntry) → stays_in live p ≡ true → has_place (live_entries live kept) p ≡ has_place kept p
live_has live p [] h = refl
live_has live p (e ∷ kept) h = by_test (stays_in live e.place) refl (same_place e.place p) refl (live_has live p kept h)
  where
    by_test : (t : Bool) → stays_in live e.place ≡ t → (u : Bool) → same_place e.place p ≡ u → has_place (live_entries live kept) p ≡ has_place kept p → has_place (cond t (e ∷ live_entries live kept) (live_entries live kept)) p ≡ (same_place e.place p || has_place kept p)
    by_test true s u is r = ap (λ b. same_place e.place p || b) r
    by_test false s true is r = absurd (not_both (stays_in live e.place) (same_stays live e.place p is ∙ h) s)
    by_test false s false is r = r ∙ sym (ap (λ b. b || has_place kept p) is)

-- one more entry, left out first or last
live_step : (live : List Bool) (kept : List StochEntry) (e : StochEntry) (t : Bool) → stays_in live e.place ≡ t → fold with_entry (live_entries live kept) (cond t (e ∷ []) []) ≡ live_entries live (with_entry kept e)
live_step live kept e true s = by_test (has_place kept e.place) refl
  where
    by_test : (u : Bool) → has_place kept e.place ≡ u → with_entry (live_entries live kept) e ≡ live_entries live (if u then kept else kept ++ e ∷ [])
    by_test u is =
        ap (λ b. if b then live_entries live kept else live_entries live kept ++ e ∷ []) (live_has live e.place kept s ∙ is)
        ∙ by_known u
      where
        by_known : (u : Bool) → (if u then live_entries live kept else live_entries live kept ++ e ∷ []) ≡ live_entries live (if u then kept else kept ++ e ∷ [])
        by_known true = refl
        by_known false = ap (λ l. live_entries live kept ++ l) (sym (ap (λ b. cond b (e ∷ []) []) s)) ∙ sym (live_append live kept (e ∷ []))
live_step live kept e false s = by_test (has_place kept e.place)
  where
    by_test : (u : Bool) → live_entries live kept ≡ live_entries live (if u then kept else kept ++ e ∷ [])
    by_test true = refl
    by_test false = sym (live_append live kept (e ∷ []) ∙ ap (λ b. live_entries live kept ++ cond b (e ∷ []) []) s ∙ append-nil (live_entries live kept))

fold_live : (live : List Bool) (kept es : List StochEntry) → fold with_entry (live_entries live kept) (live_entries live es) ≡ live_entries live (fold with_entry kept es)
fold_live live kept [] = refl
fold_live live kept (e ∷ es) =
    by_test (stays_in live e.place) refl
    ∙ fold_live live (with_entry kept e) es
  where
    by_test : (t : Bool) → stays_in live e.place ≡ t → fold with_entry (live_entries live kept) (cond t (e ∷ live_entries live es) (live_entries live es)) ≡ fold with_entry (live_entries live (with_entry kept e)) (live_entries live es)
    by_test true s = ap (λ l. fold with_entry l (live_entries live es)) (live_step live kept e true s)
    by_test false s = ap (λ l. fold with_entry l (live_entries live es)) (live_step live kept e false s)

-- the first entries of the places that stay
pub live_firsts : (live : List Bool) (es : List StochEntry) → first_of_each (live_entries live es) ≡ live_entries live (first_of_each es)
unfolding first_of_each
live_firsts live es = fold_live live [] es

-- what is taken over
live_at : (live : List Bool) (made : List ScenarioData) (i : ℕ) → get_or (map (live_scenario live) made) i no_scenario ≡ live_scenario live (get_or made i no_scenario)
live_at live [] i = refl
live_at live (s ∷ made) zero = refl
live_at live (s ∷ made) (suc i) = live_at live made i

live_inherited : (live : List Bool) (made : List ScenarioData) (parent : Option ℕ) → inherited (map (live_scenario live) made) parent ≡ live_entries live (inherited made parent)
live_inherited live made None = refl
live_inherited live made (Some p) = ap (λ (s : ScenarioData). s.entries) (live_at live made p)

beside_is : (live : List Bool) (made : List ScenarioData) (b : Branch) → live_beside live (map (live_scenario live) made) b ≡ live_scenario live (scenario_beside made b)
beside_is live made b =
    let parts = ap (λ l. live_entries live b.entries ++ l) (live_inherited live made b.parent) ∙ sym (live_append live b.entries (inherited made b.parent)) in
    let entries = ap first_of_each parts ∙ live_firsts live (b.entries ++ inherited made b.parent) in
    ap (λ es. record { weight = (scenario_beside made b).weight; entries = es }) entries

branches_fold : (live : List Bool) (made : List ScenarioData) (bs : List Branch) → fold (with_live live) (map (live_scenario live) made) bs ≡ map (live_scenario live) (fold with_branch made bs)
branches_fold live made [] = refl
branches_fold live made (b ∷ bs) =
    ap (λ l. fold (with_live live) l bs) (ap (λ s. map (live_scenario live) made ++ s ∷ []) (beside_is live made b) ∙ sym (map-append (live_scenario live) made (scenario_beside made b ∷ [])))
    ∙ branches_fold live (with_branch made b) bs

-- listed scenarios
pub branches_live : (live : List Bool) (bs : List Branch) → live_branches live bs ≡ map (live_scenario live) (branch_scenarios bs)
unfolding branch_scenarios
branches_live live bs = branches_fold live [] bs

-- combinations
pub products_live : (live : List Bool) (es : List Element) → live_products live es ≡ map (live_scenario live) (map (product_scenario_at es) (range_with_len 0 (combinations es)))
products_live live es = sym (map_twice (live_scenario live) (product_scenario_at es) (range_with_len 0 (combinations es)))

-- more scenarios have no fewer entries
pub count_push : (made : List ScenarioData) (s : ScenarioData) → entry_count (made ++ s ∷ []) ≡ entry_count made + length s.entries
count_push made s = sum_by_push (λ (x : ScenarioData). length x.entries) made s

count_grows : (live : List Bool) (made : List ScenarioData) (bs : List Branch) → entry_count made ≤ entry_count (fold (with_live live) made bs)
count_grows live made [] = omega arith
count_grows live made (b ∷ bs) = let next = count_grows live (with_live live made b) bs in omega (arith, next, count_push made (live_beside live made b))

-- one more scenario of those that are listed
pub branch_more : (live : List Bool) (bs : List Branch) (k left limit : ℕ) (made : List ScenarioData) (b : Branch) (next : ScenarioData) → k < length bs → b ≡ get_or bs k b → made ≡ fold (with_live live) [] (take k bs) → next ≡ live_beside live made b → left + entry_count made ≡ limit → left < length next.entries → limit < entry_count (live_branches live bs)
branch_more live bs k left limit made b next lt is so step room less =
    let f = with_live live in
    let more : made ++ next ∷ [] ≡ fold f [] (take (k + 1) bs) = ap (λ s. made ++ s ∷ []) step ∙ next_folded f [] bs k made (f made b) b lt is refl so in
    let grows = count_grows live (fold f [] (take (k + 1) bs)) (drop (k + 1) bs) in
    let whole : fold f (fold f [] (take (k + 1) bs)) (drop (k + 1) bs) ≡ live_branches live bs = sym (fold-append f [] (take (k + 1) bs) (drop (k + 1) bs)) ∙ ap (fold f []) (take-append-drop (k + 1) bs) in
    omega (arith, room, less, count_push made next, ap entry_count more, grows, ap entry_count whole)

-- one more scenario of the combinations
pub product_more : (live : List Bool) (es : List Element) (k left limit : ℕ) (made : List ScenarioData) (next : ScenarioData) → k < combinations es → made ≡ map (λ s. live_scenario live (product_scenario_at es s)) (range_with_len 0 k) → next ≡ live_scenario live (product_scenario_at es k) → left + entry_count made ≡ limit → left < length next.entries → limit < entry_count (live_products live es)
product_more live es k left limit made next lt so step room less =
    let f : ℕ → ScenarioData = λ s. live_scenario live (product_scenario_at es s) in
    let more : made ++ next ∷ [] ≡ map f (range_with_len 0 (k + 1)) = next_made f 0 k k made (made ++ next ∷ []) next (omega arith) refl step so in
    let all = map f (range_with_len 0 (combinations es)) in
    let front = take-map-range_with_len f 0 (combinations es) (k + 1) (omega (arith, lt)) in
    let part = sum_by-take-le (λ (s : ScenarioData). length s.entries) all (k + 1) in
    omega (arith, room, less, count_push made next, ap entry_count more, ap entry_count front, part)

-- one more entry that stays, and one that doesn't
live_more : (live : List Bool) (xs old now : List StochEntry) (k : ℕ) (d : StochEntry) → k < length xs → stays_in live (get_or xs k d).place ≡ true → now ≡ old ++ live_entries live (take k xs) → now ++ get_or xs k d ∷ [] ≡ old ++ live_entries live (take (k + 1) xs)
live_more live xs old now k d lt s so =
    let e = get_or xs k d in
    ap (λ l. l ++ e ∷ []) so
    ∙ append_assoc old (live_entries live (take k xs)) (e ∷ [])
    ∙ ap (λ b. old ++ (live_entries live (take k xs) ++ cond b (e ∷ []) [])) (sym s)
    ∙ ap (λ l. old ++ l) (sym (filter_more (λ (x : StochEntry). stays_in live x.place) xs k d lt))

live_same : (live : List Bool) (xs old now : List StochEntry) (k : ℕ) (d : StochEntry) → k < length xs → stays_in live (get_or xs k d).place ≡ false → now ≡ old ++ live_entries live (take k xs) → now ≡ old ++ live_entries live (take (k + 1) xs)
live_same live xs old now k d lt s so =
    let e = get_or xs k d in
    so
    ∙ ap (λ l. old ++ l) (sym (append-nil (live_entries live (take k xs))))
    ∙ ap (λ b. old ++ (live_entries live (take k xs) ++ cond b (e ∷ []) [])) (sym s)
    ∙ ap (λ l. old ++ l) (sym (filter_more (λ (x : StochEntry). stays_in live x.place) xs k d lt))

-- the entries of one more element: those of what is chosen and of the first realisation, or of all elements before it
live_joined : (live : List Bool) (old mid new xs ys : List StochEntry) → mid ≡ old ++ live_entries live xs → new ≡ mid ++ live_entries live ys → new ≡ old ++ live_entries live (xs ++ ys)
live_joined live old mid new xs ys first second =
    second
    ∙ ap (λ l. l ++ live_entries live ys) first
    ∙ append_assoc old (live_entries live xs) (live_entries live ys)
    ∙ ap (λ l. old ++ l) (sym (live_append live xs ys))
