-- More entries, realisations or scenarios keep what holds of the entries.
use Rattle.std.proofs.Common.{◌≡◌, refl, sym, ap, ◌∙◌, subst, ℕ, ◌+◌, ◌<◌, ◌≤◌, true, false, ◌||◌, List, [], ◌∷◌, ◌++◌, length, map, get_or, arith, length-append}
use Rattle.std.proofs.lemmas.Bool.{or_parts}
use Rattle.std.specs.List.{All, AllPairs, list_any}
use Rattle.std.proofs.lemmas.List.{append-nil, append_assoc, get_or_append_left}
use Rattle.std.proofs.lemmas.List.Elements.{All-nil, All-cons, All-head, All-tail, All-push}
use Rattle.std.proofs.lemmas.List.Kept.{AllPairs-cons}
use Rattle.std.proofs.lemmas.List.Quantifiers.{all_pairs_push}
use Rattle.base_words.proofs.Pairs.{pairs_head, pairs_tail}
use Rattle.smps_words.specs.declared.core_file.Core.{Core}
use Rattle.stoch_lines.specs.Faults.{is_given, is_repeated, is_taken}
use Rattle.stoch_lines.specs.Places.{same_place}
use Rattle.stoch_lines.specs.Sayings.{owned_by}
use Rattle.stoch_lines.specs.declared.entries.Owned.{Owned}
use Rattle.stoch_lines.specs.declared.places.StochEntry.{StochEntry}
use Rattle.stoch_lines.specs.declared.places.StochPlace.{StochPlace}
use Rattle.stoch_lines.specs.declared.state.Chosen.{Chosen}
use Rattle.stoch_lines.specs.declared.state.ScenarioHead.{ScenarioHead}
use Rattle.smps_stoch.specs.SaidFacts.{chosen_element, AreOwned, Follows}
use Rattle.smps_stoch.specs.StochData.{no_choice}
use Rattle.smps_stoch.specs.StochFacts.{AreOfTwoPlaces, IsEntry}
use Rattle.smps_stoch.proofs.LastEntries.{before, kept, IsBefore, IsKept}

-- new entries of an element's realisation: each place has entries of this element and of earlier realisations alone, and none stands twice
pub record AreNew (entries : List Owned) (element choice : ℕ) (news : List StochEntry) : Type 0 where
  pub kept : All (λ entry. All (IsKept entry.place element) entries) news
  pub before : All (λ entry. All (IsBefore entry.place choice) entries) news
  pub once : AllPairs AreOfTwoPlaces news

module _ (entries : List Owned) (pairs : AllPairs Follows entries) where
  -- by the tests of a line
  pub kept_all : (element : ℕ) (news : List StochEntry) → list_any (is_taken entries element) (map (λ e. e.place) news) ≡ false → All (λ entry. All (IsKept entry.place element) entries) news
  kept_all element [] test = All-nil (λ (entry : StochEntry). All (IsKept entry.place element) entries)
  kept_all element (entry ∷ news) test =
      let parts = or_parts (is_taken entries element entry.place) (list_any (is_taken entries element) (map (λ e. e.place) news)) test in
      All-cons (λ (entry : StochEntry). All (IsKept entry.place element) entries) entry news (kept entry.place element entries pairs parts.0) (kept_all element news parts.1)

  others : (place : StochPlace) (news : List StochEntry) → list_any (same_place place) (map (λ e. e.place) news) ≡ false → All (λ e. same_place place e.place ≡ false) news
  others place [] test = All-nil (λ (e : StochEntry). same_place place e.place ≡ false)
  others place (entry ∷ news) test =
      let parts = or_parts (same_place place entry.place) (list_any (same_place place) (map (λ e. e.place) news)) test in
      All-cons (λ (e : StochEntry). same_place place e.place ≡ false) entry news parts.0 (others place news parts.1)

  pub repeated_not : (choice : ℕ) → All (λ owned. owned.choice ≤ choice) entries → (news : List StochEntry) → is_repeated entries choice (map (λ e. e.place) news) ≡ false → All (λ entry. All (IsBefore entry.place choice) entries) news × AllPairs AreOfTwoPlaces news
  repeated_not choice most [] test = (All-nil (λ (entry : StochEntry). All (IsBefore entry.place choice) entries), λ i j d less lt. absurd (omega (arith, lt)))
  repeated_not choice most (entry ∷ news) test =
      let places = map (λ (e : StochEntry). e.place) news in
      let parts = or_parts (is_given entries choice entry.place) (list_any (same_place entry.place) places || is_repeated entries choice places) test in
      let rest = or_parts (list_any (same_place entry.place) places) (is_repeated entries choice places) parts.1 in
      let later = repeated_not choice most news rest.1 in (
        All-cons (λ (entry : StochEntry). All (IsBefore entry.place choice) entries) entry news (before entry.place choice entries pairs most parts.0) later.0,
        AllPairs-cons AreOfTwoPlaces entry news (others entry.place news rest.0) later.1,
      )

module _ (core : Core) (realisations : List Chosen) (scenarios : List ScenarioHead) where
  -- one more entry
  owned_push : (entries : List Owned) (owned : Owned) → AreOwned core realisations scenarios entries → IsEntry core owned.entry → All (IsKept owned.entry.place owned.element) entries → All (IsBefore owned.entry.place owned.choice) entries → owned.choice < length realisations + length scenarios → owned.element ≡ chosen_element realisations owned.choice → AreOwned core realisations scenarios (entries ++ owned ∷ [])
  owned_push entries owned facts entry same earlier there element = record {
    each = All-push (λ (o : Owned). IsEntry core o.entry) entries owned facts.each entry;
    apart = all_pairs_push Follows entries owned facts.apart (λ k d lt is. (same k d lt is, earlier k d lt is));
    there = All-push (λ (o : Owned). o.choice < length realisations + length scenarios) entries owned facts.there there;
    elements = All-push (λ (o : Owned). o.element ≡ chosen_element realisations o.choice) entries owned facts.elements element;
  }

  -- the entries of a line
  pub owned_more : (entries : List Owned) (element choice : ℕ) (news : List StochEntry) → AreOwned core realisations scenarios entries → All (IsEntry core) news → AreNew entries element choice news → choice < length realisations + length scenarios → element ≡ chosen_element realisations choice → AreOwned core realisations scenarios (entries ++ map (owned_by element choice) news)
  owned_more entries element choice [] facts each new there is = subst (AreOwned core realisations scenarios) (sym (append-nil entries)) facts
  owned_more entries element choice (entry ∷ news) facts each new there is =
      let owned = owned_by element choice entry in
      let all = entries ++ owned ∷ [] in
      let one = owned_push entries owned facts (All-head (IsEntry core) entry news each) (All-head (λ (e : StochEntry). All (IsKept e.place element) entries) entry news new.kept) (All-head (λ (e : StochEntry). All (IsBefore e.place choice) entries) entry news new.before) there is in
      let two = pairs_head AreOfTwoPlaces entry news new.once in
      let rest : AreNew all element choice news = record {
        kept = λ k d lt. All-push (IsKept (get_or news k d).place element) entries owned (All-tail (λ (e : StochEntry). All (IsKept e.place element) entries) entry news new.kept k d lt) (λ same. refl);
        before = λ k d lt. All-push (IsBefore (get_or news k d).place choice) entries owned (All-tail (λ (e : StochEntry). All (IsBefore e.place choice) entries) entry news new.before k d lt) (λ same. absurd (let e : true ≡ false = sym same ∙ two k d lt in cc e));
        once = pairs_tail AreOfTwoPlaces entry news new.once;
      } in
      subst (AreOwned core realisations scenarios) (append_assoc entries (owned ∷ []) (map (owned_by element choice) news)) (owned_more all element choice news one (All-tail (IsEntry core) entry news each) rest there is)

  -- one more realisation, where there are no scenarios
  pub realisation_more : (entries : List Owned) (chosen : Chosen) → length scenarios ≡ 0 → AreOwned core realisations scenarios entries → AreOwned core (realisations ++ chosen ∷ []) scenarios entries
  realisation_more entries chosen none facts = record {
    each = facts.each;
    apart = facts.apart;
    there = λ k d lt. let old = facts.there k d lt in rw length-append (omega (arith, old));
    elements = λ k d lt.
        let old = facts.there k d lt in
        let within : (get_or entries k d).choice < length realisations = omega (arith, old, none) in
        facts.elements k d lt ∙ sym (ap (λ (c : Chosen). c.element) (get_or_append_left realisations (chosen ∷ []) no_choice (get_or entries k d).choice within));
  }

  -- one more scenario
  pub scenario_more : (entries : List Owned) (scenario : ScenarioHead) → AreOwned core realisations scenarios entries → AreOwned core realisations (scenarios ++ scenario ∷ []) entries
  scenario_more entries scenario facts = record {
    each = facts.each;
    apart = facts.apart;
    there = λ k d lt. let old = facts.there k d lt in rw length-append (omega (arith, old));
    elements = facts.elements;
  }
