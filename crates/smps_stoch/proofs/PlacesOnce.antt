-- No place stands twice in a realisation or a scenario, nor in two elements.
use Rattle.std.proofs.Common.{◌≡◌, refl, sym, ap, ◌∙◌, subst, ℕ, ◌<◌, ◌==◌, Bool, true, false, zero, suc, inl, inr, List, [], ◌∷◌, length, map, get_or, arith}
use Rattle.std.specs.Prelude.{filter}
use Rattle.std.specs.List.{All, AllPairs, Contains}
use Rattle.std.proofs.lemmas.Bool.{cases_eq, cases_lt}
use Rattle.std.proofs.lemmas.List.{get_or-map, length-map}
use Rattle.std.proofs.lemmas.List.Elements.{All-contains_itself, All-filter, All-map, filter_passes}
use Rattle.std.proofs.lemmas.List.Kept.{AllPairs-filter}
use Rattle.smps_words.specs.declared.core_file.Core.{Core}
use Rattle.stoch_lines.specs.Places.{same_place}
use Rattle.stoch_lines.specs.declared.entries.Owned.{Owned}
use Rattle.stoch_lines.specs.declared.places.StochEntry.{StochEntry}
use Rattle.stoch_lines.specs.declared.places.StochPlace.{StochPlace}
use Rattle.stoch_lines.specs.declared.state.Chosen.{Chosen}
use Rattle.stoch_lines.specs.declared.state.ScenarioHead.{ScenarioHead}
use Rattle.smps_stoch.specs.declared.drafts.Draft.{Draft}
use Rattle.smps_stoch.specs.declared.stoch.Realisation.{Realisation}
use Rattle.smps_stoch.specs.SaidFacts.{chosen_element, AreOwned, Follows}
use Rattle.smps_stoch.specs.StochData.{draft_at, drafts_at, drafts_of, element_at, entries_at, probability_places, weighed_at}
use Rattle.smps_stoch.specs.StochFacts.{AreApart, AreOfTwoPlaces, EntryFacts, IsEntry, ShareNoPlace}
use Rattle.smps_stoch.proofs.Filling.{all_made}
use Rattle.smps_stoch.proofs.LastEntries.{same_is, same_self}

same_true : (p q : StochPlace) → same_place p q ≡ true → same_place q p ≡ true
same_true p q e = subst (λ (x : StochPlace). same_place x p ≡ true) (same_is p q e) (same_self p)

by_absurd : (b : Bool) → (b ≡ true → ⊥) → b ≡ false
by_absurd false not = refl
by_absurd true not = absurd (not refl)

same_default : {X : Type 0} (xs : List X) (i : ℕ) (d e : X) → i < length xs → get_or xs i d ≡ get_or xs i e
same_default [] i d e lt = absurd (omega (arith, lt))
same_default (x ∷ xs) zero d e lt = refl
same_default (x ∷ xs) (suc i) d e lt = same_default xs i d e (omega (arith, lt))

-- two entries of one place are of one element
same_element : (entries : List Owned) → AllPairs Follows entries → (a b : ℕ) (d : Owned) → a < length entries → b < length entries → same_place (get_or entries a d).entry.place (get_or entries b d).entry.place ≡ true → (get_or entries a d).element ≡ (get_or entries b d).element
same_element entries pairs a b d la lb same =
    elim (cases_lt a b) as (λ _. (get_or entries a d).element ≡ (get_or entries b d).element) [
      | inl less ↦ (pairs a b d less lb same).0
      | inr most ↦ elim (cases_eq a b) as (λ _. (get_or entries a d).element ≡ (get_or entries b d).element) [
        | inl equal ↦ ap (λ (n : ℕ). (get_or entries n d).element) equal
        | inr other ↦ sym (pairs b a d (grind (arith, most, other)) la (same_true (get_or entries a d).entry.place (get_or entries b d).entry.place same)).0
      ]
    ]

module _ (core : Core) (realisations : List Chosen) (scenarios : List ScenarioHead) (entries : List Owned) (facts : AreOwned core realisations scenarios entries) where
  abbrev own : ℕ → List Owned
  own k = filter (λ (o : Owned). o.choice == k) entries

  own_choice : (k i : ℕ) (d : Owned) → i < length (own k) → (get_or (own k) i d).choice ≡ k
  own_choice k i d lt = grind (arith, filter_passes (λ (o : Owned). o.choice == k) entries i d lt)

  element_of_own : (k i : ℕ) (d : Owned) → i < length (own k) → (get_or (own k) i d).element ≡ chosen_element realisations k
  element_of_own k i d lt =
      All-filter (λ (o : Owned). o.choice == k) (λ (o : Owned). o.element ≡ chosen_element realisations o.choice) entries facts.elements i d lt
      ∙ ap (chosen_element realisations) (own_choice k i d lt)

  once_own : (k : ℕ) → AllPairs AreOfTwoPlaces (entries_at entries k)
  once_own k i j d less lt =
      let f = λ (o : Owned). o.entry in
      let none : Owned = record { element = 0; choice = 0; entry = d } in
      let within : j < length (own k) = subst (λ (n : ℕ). j < n) (length-map (own k) f) lt in
      let below : i < length (own k) = omega (arith, less, within) in
      let follows = AllPairs-filter Follows (λ (o : Owned). o.choice == k) entries facts.apart i j none less within in
      let first = own_choice k i none below in
      let second = own_choice k j none within in
      let two : same_place (get_or (own k) i none).entry.place (get_or (own k) j none).entry.place ≡ false =
      by_absurd _ (λ same. omega (arith, (follows same).1, first, second)) in
      subst (λ (x : StochEntry). AreOfTwoPlaces x (get_or (entries_at entries k) j d)) (sym (get_or-map f (own k) i none d below))
      (subst (λ (x : StochEntry). AreOfTwoPlaces (get_or (own k) i none).entry x) (sym (get_or-map f (own k) j none d within)) two)

  -- the entries of a realisation or a scenario have their facts
  pub entries_well : (k : ℕ) → EntryFacts core (entries_at entries k)
  entries_well k = record {
    each = All-map (IsEntry core) (λ (o : Owned). o.entry) (own k) (All-filter (λ (o : Owned). o.choice == k) (λ (o : Owned). IsEntry core o.entry) entries facts.each);
    once = once_own k;
  }

  pub drafts_well : All (λ d. EntryFacts core d.entries) (drafts_of realisations entries)
  drafts_well = all_made (λ (d : Draft). EntryFacts core d.entries) (draft_at realisations entries) (length realisations) (λ k lt. entries_well k)

  -- entries of realisations of two elements
  two_places : (a b : Owned) → Contains entries a → Contains entries b → (a.element ≡ b.element → ⊥) → same_place a.entry.place b.entry.place ≡ false
  two_places a b (i, li, ia) (j, lj, jb) other =
      by_absurd _ (λ same.
      let at : get_or entries j a ≡ b = same_default entries j a b lj ∙ jb in
      let together : same_place (get_or entries i a).entry.place (get_or entries j a).entry.place ≡ true =
      subst (λ (x : Owned). same_place x.entry.place (get_or entries j a).entry.place ≡ true) (sym ia)
      (subst (λ (x : Owned). same_place a.entry.place x.entry.place ≡ true) (sym at) same) in
      other (sym (ap (λ (x : Owned). x.element) ia) ∙ same_element entries facts.apart i j a li lj together ∙ ap (λ (x : Owned). x.element) at))

  share_none : (one second : ℕ) → (chosen_element realisations one ≡ chosen_element realisations second → ⊥) → ShareNoPlace (entries_at entries one) (entries_at entries second)
  share_none one second other =
      All-map (λ (e : StochEntry). All (AreOfTwoPlaces e) (entries_at entries second)) (λ (o : Owned). o.entry) (own one)
      (λ i d lt. All-map (AreOfTwoPlaces (get_or (own one) i d).entry) (λ (o : Owned). o.entry) (own second)
      (λ j e below.
      let a = get_or (own one) i d in
      let b = get_or (own second) j e in
      let has = All-filter (λ (o : Owned). o.choice == one) (Contains entries) entries (All-contains_itself entries) i d lt in
      let has_second = All-filter (λ (o : Owned). o.choice == second) (Contains entries) entries (All-contains_itself entries) j e below in
      let first_element : a.element ≡ chosen_element realisations one = element_of_own one i d lt in
      let second_element : b.element ≡ chosen_element realisations second = element_of_own second j e below in
      two_places a b has has_second (λ same. other (sym first_element ∙ same ∙ second_element))))

  -- a realisation of the list of them
  abbrev IsRealisation : Draft → Type 0
  IsRealisation draft = (c : ℕ) × (draft ≡ draft_at realisations entries c)

  all_realisations : All IsRealisation (drafts_of realisations entries)
  all_realisations = all_made IsRealisation (draft_at realisations entries) (length realisations) (λ k lt. (k, refl))

  two_drafts : (one second : Draft) → IsRealisation one → IsRealisation second → (one.element ≡ second.element → ⊥) → ShareNoPlace one.entries second.entries
  two_drafts one second (c, is) (c2, is2) other =
      subst (λ (x : Draft). ShareNoPlace x.entries second.entries) (sym is)
      (subst (λ (x : Draft). ShareNoPlace (draft_at realisations entries c).entries x.entries) (sym is2)
      (share_none c c2 (λ same. other (ap (λ (x : Draft). x.element) is ∙ same ∙ sym (ap (λ (x : Draft). x.element) is2)))))

  pub elements_apart : (periods : List ℕ) (k l : ℕ) → k < l → AreApart (element_at periods (drafts_of realisations entries) k) (element_at periods (drafts_of realisations entries) l)
  elements_apart periods k l less =
      let drafts = drafts_of realisations entries in
      let ones = drafts_at drafts k in
      let seconds = drafts_at drafts l in
      All-map (λ (one : Realisation). All (λ (second : Realisation). ShareNoPlace one.entries second.entries) (map (weighed_at (probability_places seconds)) seconds)) (weighed_at (probability_places ones)) ones
      (λ i d lt. All-map (λ (second : Realisation). ShareNoPlace (get_or ones i d).entries second.entries) (weighed_at (probability_places seconds)) seconds
      (λ j e below.
      let one = get_or ones i d in
      let second = get_or seconds j e in
      let first_is : one.element ≡ k = grind (arith, filter_passes (λ (x : Draft). x.element == k) drafts i d lt) in
      let second_is : second.element ≡ l = grind (arith, filter_passes (λ (x : Draft). x.element == l) drafts j e below) in
      two_drafts one second
      (All-filter (λ (x : Draft). x.element == k) IsRealisation drafts all_realisations i d lt)
      (All-filter (λ (x : Draft). x.element == l) IsRealisation drafts all_realisations j e below)
      (λ same. omega (arith, less, first_is, second_is, same))))
