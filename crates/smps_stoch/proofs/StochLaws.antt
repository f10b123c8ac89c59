-- The data of all that a stoch file says have their facts.
use Rattle.std.proofs.Common.{◌≡◌, refl, sym, ap, ◌∙◌, subst, ℕ, ◌<◌, ◌≤◌, ◌==◌, Bool, true, false, List, length, map, get_or, arith, eq-eqb}
use Rattle.std.specs.Prelude.{if◌then◌else◌}
use Rattle.std.specs.List.{All, range_with_len}
use Rattle.std.proofs.lemmas.List.{length-map}
use Rattle.std.proofs.lemmas.List.Elements.{All-filter, All-map, All-weaker}
use Rattle.std.proofs.lemmas.List.FromFn.{length-map-range_with_len}
use Rattle.base_words.proofs.Made.{made_at}
use Rattle.smps_words.specs.declared.core_file.Core.{Core}
use Rattle.smps_words.specs.declared.periods.Periods.{Periods}
use Rattle.stoch_lines.specs.Before.{Before}
use Rattle.stoch_lines.specs.Faults.{max_scenarios}
use Rattle.stoch_lines.specs.declared.entries.Owned.{Owned}
use Rattle.stoch_lines.specs.declared.state.Chosen.{Chosen}
use Rattle.stoch_lines.specs.declared.state.ScenarioHead.{ScenarioHead}
use Rattle.smps_stoch.specs.declared.drafts.Draft.{Draft}
use Rattle.smps_stoch.specs.declared.stoch.Branch.{Branch}
use Rattle.smps_stoch.specs.declared.stoch.Element.{Element}
use Rattle.smps_stoch.specs.declared.stoch.Realisation.{Realisation}
use Rattle.smps_stoch.specs.declared.stoch.Stoch.TheVariants.{Product, Scenarios}
use Rattle.smps_stoch.specs.SaidFacts.{AreElements, AreHeads, AreOwned, IsHead, IsProbable, SaidFacts}
use Rattle.smps_stoch.specs.StochData.{branch_at, branches_of, draft_at, drafts_at, drafts_of, element_at, elements_of, no_choice, no_scenario, probability_places, scenario_places, stoch_of, weighed_at}
use Rattle.smps_stoch.specs.StochFacts.{no_branch, AreApart, BranchFacts, ElementFacts, EntryFacts, IsEarlier, IsPeriod, IsWeight, ProductFacts, StochFacts}
use Rattle.smps_stoch.proofs.Filling.{all_made, passing_left}
use Rattle.smps_stoch.proofs.PlacesOnce.{drafts_well, elements_apart, entries_well}
use Rattle.smps_stoch.proofs.Weighing.{weights_are}

-- each realisation's probability is that of its line
pub drafts_probable : (realisations : List Chosen) (entries : List Owned) → All (λ c. IsProbable c.probability) realisations → All (λ d. IsProbable d.probability) (drafts_of realisations entries)
drafts_probable realisations entries all =
    all_made (λ (d : Draft). IsProbable d.probability) (draft_at realisations entries) (length realisations) (λ k lt. all k no_choice lt)

pub heads_probable : (periods : Periods) (scenarios : List ScenarioHead) → All (IsHead periods) scenarios → All (λ s. IsProbable s.probability) scenarios
heads_probable periods scenarios all = All-weaker (IsHead periods) (λ (s : ScenarioHead). IsProbable s.probability) (λ s head. head.probable) scenarios all

module _ (core : Core) (periods : Periods) (b : Before) where
  element_well : AreElements periods b.realisations b.periods b.sources → AreOwned core b.realisations b.scenarios b.entries → (k : ℕ) → k < length b.periods → ElementFacts core periods (element_at b.periods (drafts_of b.realisations b.entries) k)
  element_well facts owned k lt =
      let drafts = drafts_of b.realisations b.entries in
      let own = drafts_at drafts k in
      let n = length b.realisations in
      let used = facts.used k lt in
      let last = draft_at b.realisations b.entries used.0 in
      let long : length drafts ≡ n = length-map-range_with_len (draft_at b.realisations b.entries) 0 n in
      let at : get_or drafts used.0 last ≡ last = made_at (draft_at b.realisations b.entries) n used.0 last used.1 in
      let pass : ((get_or drafts used.0 last).element == k) ≡ true = eq-eqb _ _ (ap (λ (d : Draft). d.element) at ∙ used.2) in
      let some = passing_left (λ (d : Draft). d.element == k) drafts used.0 last (subst (λ (m : ℕ). used.0 < m) (sym long) used.1) pass in
      let probable = All-filter (λ (d : Draft). d.element == k) (λ (d : Draft). IsProbable d.probability) drafts (drafts_probable b.realisations b.entries facts.probable) in
      record {
        period = facts.later k 0 lt;
        some = subst (λ (m : ℕ). 0 < m) (sym (length-map own (weighed_at (probability_places own)))) some;
        weights = All-map (λ (r : Realisation). IsWeight r.weight) (weighed_at (probability_places own)) own (weights_are (λ (d : Draft). d.probability) own probable);
        entries = All-map (λ (r : Realisation). EntryFacts core r.entries) (weighed_at (probability_places own)) own (All-filter (λ (d : Draft). d.element == k) (λ (d : Draft). EntryFacts core d.entries) drafts (drafts_well core b.realisations b.scenarios b.entries owned));
      }

  product_well : AreElements periods b.realisations b.periods b.sources → AreOwned core b.realisations b.scenarios b.entries → ProductFacts core periods (elements_of b.periods (drafts_of b.realisations b.entries))
  product_well facts owned =
      let n = length b.periods in
      let f = element_at b.periods (drafts_of b.realisations b.entries) in
      let long : length (map f (range_with_len 0 n)) ≡ n = length-map-range_with_len f 0 n in
      record {
        each = all_made (ElementFacts core periods) f n (element_well facts owned);
        apart = λ k l d less lt.
            let below : l < n = subst (λ (m : ℕ). l < m) long lt in
            subst (λ (x : Element). AreApart x (get_or (map f (range_with_len 0 n)) l d)) (sym (made_at f n k d (omega (arith, less, below))))
            (subst (AreApart (f k)) (sym (made_at f n l d below)) (elements_apart core b.realisations b.scenarios b.entries owned b.periods k l less));
      }

  branches_well : 0 < length b.scenarios → AreHeads periods b.scenarios b.names → AreOwned core b.realisations b.scenarios b.entries → BranchFacts core periods (branches_of b.scenarios b.entries)
  branches_well some facts owned =
      let places = scenario_places b.scenarios in
      let f = branch_at places b.scenarios b.entries in
      let n = length b.scenarios in
      let long : length (map f (range_with_len 0 n)) ≡ n = length-map-range_with_len f 0 n in
      let weights = weights_are (λ (s : ScenarioHead). s.probability) b.scenarios (heads_probable periods b.scenarios facts.heads) in
      record {
        some = subst (λ (m : ℕ). 0 < m) (sym long) some;
        few = subst (λ (m : ℕ). m ≤ max_scenarios) (sym long) facts.few;
        period = all_made (λ (x : Branch). IsPeriod periods x.period) f n (λ k lt. (facts.heads k no_scenario lt).period);
        weights = all_made (λ (x : Branch). IsWeight x.weight) f n (λ k lt. weights k no_scenario lt);
        parents = λ k lt.
            let below : k < n = subst (λ (m : ℕ). k < m) long lt in
            subst (λ (x : Branch). IsEarlier x.parent k) (sym (made_at f n k no_branch below)) (facts.parents k below);
        entries = all_made (λ (x : Branch). EntryFacts core x.entries) f n (λ k lt. entries_well core b.realisations b.scenarios b.entries owned k);
      }

  by_kind : (product : Bool) → (length b.scenarios == 0) ≡ product → SaidFacts core periods b → StochFacts core periods (if product then Product (elements_of b.periods (drafts_of b.realisations b.entries)) else Scenarios (branches_of b.scenarios b.entries))
  by_kind true is facts = product_well facts.elements facts.entries
  by_kind false is facts = branches_well (grind (arith, is)) facts.heads facts.entries

  pub stoch_well : SaidFacts core periods b → StochFacts core periods (stoch_of b)
  stoch_well facts = by_kind (length b.scenarios == 0) refl facts
