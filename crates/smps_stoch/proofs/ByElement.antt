-- A realisation is of the element of its line's place or block, whatever lines come later.
use Rattle.std.proofs.Common.{◌≡◌, refl, sym, ap, ◌∙◌, subst, ℕ, ◌+◌, ◌<◌, Bool, true, false, List, [], ◌∷◌, ◌++◌, length, map, get_or, arith, below_more, length-append}
use Rattle.std.specs.Prelude.{fold, if◌then◌else◌, Option, Some, None}
use Rattle.std.specs.List.{All, list_any}
use Rattle.std.proofs.lemmas.List.{append-nil, append_assoc, get_or-map, get_or_append_left, get_or_at, length-map, map-append}
use Rattle.std.proofs.lemmas.List.Elements.{All-head, All-nil, All-push, All-tail}
use Rattle.std.proofs.lemmas.List.Sums.{passes_at_first}
use Rattle.base_words.proofs.Positions.{place_there}
use Rattle.smps_words.proofs.ToldLaws.{told_push}
use Rattle.smps_words.specs.TextLines.{TextLine}
use Rattle.smps_words.specs.declared.core_file.Core.{Core}
use Rattle.smps_words.specs.declared.periods.Periods.{Periods}
use Rattle.stoch_lines.proofs.Adding.{one_more}
use Rattle.stoch_lines.proofs.Positions.{none_passes}
use Rattle.stoch_lines.specs.Before.{blocks_of, realisations_of, sayings_of, section_of, sources_of, Before}
use Rattle.stoch_lines.specs.Places.{same_source}
use Rattle.stoch_lines.specs.Sayings.{begins_block, block_saying, chosen_by, element_of, indep_saying, saying_in, sayings, with_source}
use Rattle.stoch_lines.specs.declared.heading.Heading.{Heading}
use Rattle.stoch_lines.specs.declared.heading.Heading.TheVariants.{Indep, Blocks, Scenarios}
use Rattle.stoch_lines.specs.declared.places.Source.{Source}
use Rattle.stoch_lines.specs.declared.places.Source.TheVariants.{Place, Block}
use Rattle.stoch_lines.specs.declared.state.Chosen.{Chosen}
use Rattle.stoch_lines.specs.declared.state.Saying.{Saying}
use Rattle.smps_stoch.specs.LawWords.{AreByElement, AreInOrder}
use Rattle.smps_stoch.specs.SaidFacts.{chosen_element, IsUsed}
use Rattle.smps_stoch.specs.StochData.{no_choice}
use Rattle.smps_stoch.proofs.LastEntries.{same_is, same_self}
use Rattle.smps_stoch.proofs.Numbering.{known_more, known_now, new_number, old_number}
use Rattle.smps_stoch.proofs.SaidLaws.{now_used, still_used}

source_is : (a b : Source) → same_source a b ≡ true → a ≡ b
source_is (Place p) (Place q) e = ap (λ x. Place x) (same_is p q e)
source_is (Place p) (Block b) e = absurd (cc e)
source_is (Block a) (Place q) e = absurd (cc e)
source_is (Block a) (Block b) e = ap (λ n. Block n) (grind (arith, e))

source_self : (a : Source) → same_source a a ≡ true
source_self (Place p) = same_self p
source_self (Block b) = grind arith

map_same : {X Y : Type 0} (f g : X → Y) (xs : List X) → All (λ x. f x ≡ g x) xs → map f xs ≡ map g xs
map_same f g [] same = refl
map_same f g (x ∷ xs) same =
    let head = All-head (λ x. f x ≡ g x) x xs same in
    let tail = map_same f g xs (All-tail (λ x. f x ≡ g x) x xs same) in
    cc

-- realisations are those of the sayings by the elements that are there, which have all their sources
pub record AreNumbered (said : List Saying) (sources : List Source) (realisations : List Chosen) : Type 0 where
  pub chosen : realisations ≡ map (chosen_by sources) said
  pub known : All (λ s. list_any (same_source s.source) sources ≡ true) said
  pub used : (k : ℕ) → k < length sources → IsUsed realisations k
  pub ordered : AreInOrder realisations

-- one more realisation keeps the order, where each element with a smaller number is used
order_more : (realisations : List Chosen) (chosen : Chosen) → AreInOrder realisations → ((k : ℕ) → k < chosen.element → IsUsed realisations k) → AreInOrder (realisations ++ chosen ∷ [])
order_more realisations chosen ordered used i k lt less =
    let all = realisations ++ chosen ∷ [] in
    let n = length realisations in
    let long : length all ≡ n + 1 = length-append realisations (chosen ∷ []) in
    let kept : (j : ℕ) → j < n → chosen_element all j ≡ chosen_element realisations j = λ j below. ap (λ (c : Chosen). c.element) (get_or_append_left realisations (chosen ∷ []) no_choice j below) in
    let now : chosen_element all n ≡ chosen.element = ap (λ (c : Chosen). c.element) (get_or_at realisations chosen [] no_choice n refl) in
    let P : ℕ → Type 0 = λ i. k < chosen_element all i → (j : ℕ) × (j < i) × (chosen_element all j ≡ k) in
    let old : (j : ℕ) → j < n → P j = λ j below smaller.
    let found = ordered j k below (omega (arith, smaller, kept j below)) in
    (found.0, found.1, kept found.0 (omega (arith, found.1, below)) ∙ found.2) in
    let last : P n = λ smaller.
    let found = used k (omega (arith, smaller, now)) in
    (found.0, found.1, kept found.0 found.1 ∙ found.2) in
    below_more P n old last i (subst (λ (m : ℕ). i < m) long lt) less

one_more_by : (said : List Saying) (sources : List Source) (realisations : List Chosen) (saying : Saying) (known : Bool) → list_any (same_source saying.source) sources ≡ known → AreNumbered said sources realisations → AreNumbered (said ++ saying ∷ []) (if known then sources else (sources ++ saying.source ∷ [])) (realisations ++ chosen_by sources saying ∷ [])
one_more_by said sources realisations saying true is facts = record {
  chosen = ap (λ (rs : List Chosen). rs ++ chosen_by sources saying ∷ []) facts.chosen ∙ sym (map-append (chosen_by sources) said (saying ∷ []));
  known = All-push (λ (s : Saying). list_any (same_source s.source) sources ≡ true) said saying facts.known is;
  used = λ k lt. still_used realisations (chosen_by sources saying) k (facts.used k lt);
  ordered = order_more realisations (chosen_by sources saying) facts.ordered (λ k less. facts.used k (omega (arith, less, place_there (same_source saying.source) sources is)));
}
one_more_by said sources realisations saying false is facts =
    let all = sources ++ saying.source ∷ [] in
    let chosen = chosen_by sources saying in
    let past : chosen.element ≡ length sources = none_passes (same_source saying.source) sources is in
    let old : map (chosen_by all) said ≡ map (chosen_by sources) said =
    map_same (chosen_by all) (chosen_by sources) said (λ k d lt.
    let s = get_or said k d in
    ap (λ (n : ℕ). record { element = n; probability = s.probability }) (old_number same_source sources saying.source s.source (facts.known k d lt))) in
    let new : chosen_by all saying ≡ chosen_by sources saying =
    ap (λ (n : ℕ). record { element = n; probability = saying.probability }) (new_number same_source sources saying.source (source_self saying.source) is) in
    record {
      chosen = ap (λ (rs : List Chosen). rs ++ chosen_by sources saying ∷ []) (facts.chosen ∙ sym old)
          ∙ ap (λ (c : Chosen). map (chosen_by all) said ++ c ∷ []) (sym new)
          ∙ sym (map-append (chosen_by all) said (saying ∷ []));
      known = All-push (λ (s : Saying). list_any (same_source s.source) all ≡ true) said saying
          (λ k d lt. known_more same_source sources saying.source (get_or said k d).source (facts.known k d lt))
          (known_now same_source sources saying.source (source_self saying.source));
      used = λ k lt. below_more (IsUsed (realisations ++ chosen ∷ [])) (length sources) (λ j below. still_used realisations chosen j (facts.used j below)) (subst (IsUsed (realisations ++ chosen ∷ [])) past (now_used realisations chosen)) k (subst (λ (m : ℕ). k < m) (length-append sources (saying.source ∷ [])) lt);
      ordered = order_more realisations chosen facts.ordered (λ k less. facts.used k (omega (arith, less, past)));
    }

module _ (core : Core) (periods : Periods) where
  -- a line says something of one element, or of none
  module _ (P : List Saying → Type 0) (none : P []) (one : (saying : Saying) → P (saying ∷ [])) (blocks : List (List ℕ)) (line : TextLine) where
    by_begins : (begins : Bool) → P (if begins then block_saying periods blocks line ∷ [] else [])
    by_begins true = one (block_saying periods blocks line)
    by_begins false = none

    by_section : (section : Option Heading) → P (saying_in core periods section blocks line)
    by_section None = none
    by_section (Some Indep) = one (indep_saying core periods line)
    by_section (Some Blocks) = by_begins (begins_block line)
    by_section (Some Scenarios) = none

    by_header : (section : Option Heading) (header : Bool) → P (if header then [] else saying_in core periods section blocks line)
    by_header section true = none
    by_header section false = by_section section

    few : (section : Option Heading) → P (sayings core periods section blocks line)
    few section = by_header section line.header

  abbrev IsNumbered : List TextLine → Type 0
  IsNumbered lines = AreNumbered (sayings_of core periods lines) (sources_of core periods lines) (realisations_of core periods lines)

  step : (before : List TextLine) (line : TextLine) → IsNumbered before → IsNumbered (before ++ line ∷ [])
  step before line facts =
      let said = sayings_of core periods before in
      let sources = sources_of core periods before in
      let realisations = realisations_of core periods before in
      let section = section_of before in
      let blocks = blocks_of before in
      let tells = λ (b : List TextLine) (l : TextLine). sayings core periods (section_of b) (blocks_of b) l in
      let more_said : sayings_of core periods (before ++ line ∷ []) ≡ said ++ sayings core periods section blocks line = told_push tells before line in
      let more = one_more core periods before line in
      let more_sources : sources_of core periods (before ++ line ∷ []) ≡ fold with_source sources (sayings core periods section blocks line) = ap (λ (b : Before). b.sources) more in
      let more_chosen : realisations_of core periods (before ++ line ∷ []) ≡ realisations ++ map (chosen_by sources) (sayings core periods section blocks line) = ap (λ (b : Before). b.realisations) more in
      let P : List Saying → Type 0 = λ new. AreNumbered (said ++ new) (fold with_source sources new) (realisations ++ map (chosen_by sources) new) in
      let now : P (sayings core periods section blocks line) =
      few P
      (subst (λ (xs : List Saying). AreNumbered xs sources (realisations ++ [])) (sym (append-nil said)) (subst (AreNumbered said sources) (sym (append-nil realisations)) facts))
      (λ saying. one_more_by said sources realisations saying (list_any (same_source saying.source) sources) refl facts)
      blocks line section in
      subst (λ (xs : List Saying). AreNumbered xs (sources_of core periods (before ++ line ∷ [])) (realisations_of core periods (before ++ line ∷ []))) (sym more_said)
      (subst (λ (xs : List Source). AreNumbered (said ++ sayings core periods section blocks line) xs (realisations_of core periods (before ++ line ∷ []))) (sym more_sources)
      (subst (AreNumbered (said ++ sayings core periods section blocks line) (fold with_source sources (sayings core periods section blocks line))) (sym more_chosen) now))

  from_here : (before rest : List TextLine) → IsNumbered before → IsNumbered (before ++ rest)
  from_here before [] facts = subst IsNumbered (sym (append-nil before)) facts
  from_here before (line ∷ rest) facts =
      subst IsNumbered (append_assoc before (line ∷ []) rest) (from_here (before ++ line ∷ []) rest (step before line facts))

  numbered : (lines : List TextLine) → IsNumbered lines
  numbered lines = from_here [] lines (record { chosen = refl; known = All-nil (λ (s : Saying). list_any (same_source s.source) [] ≡ true); used = λ k lt. absurd (omega (arith, lt)); ordered = λ i k lt less. absurd (omega (arith, lt)) })

  -- two sources that are there have one number exactly where they are the same
  one_number : (sources : List Source) (a b : Source) → list_any (same_source a) sources ≡ true → list_any (same_source b) sources ≡ true → element_of sources a ≡ element_of sources b → same_source a b ≡ true
  one_number sources a b has_a has_b same =
      let at_a = source_is a _ (passes_at_first (same_source a) sources a (place_there (same_source a) sources has_a)) in
      let at_b = source_is b _ (passes_at_first (same_source b) sources a (place_there (same_source b) sources has_b)) in
      let equal : a ≡ b = at_a ∙ ap (λ (n : ℕ). get_or sources n a) same ∙ sym at_b in
      subst (λ (x : Source). same_source a x ≡ true) equal (source_self a)

  pub by_element : (lines : List TextLine) → AreByElement (sayings_of core periods lines) (realisations_of core periods lines)
  by_element lines =
      let facts = numbered lines in
      let said = sayings_of core periods lines in
      let sources = sources_of core periods lines in
      let chosen = realisations_of core periods lines in
      let number : (i : ℕ) (s : Saying) (c : Chosen) → i < length said → (get_or chosen i c).element ≡ element_of sources (get_or said i s).source = λ i s c lt.
      ap (λ (cs : List Chosen). (get_or cs i c).element) facts.chosen ∙ ap (λ (x : Chosen). x.element) (get_or-map (chosen_by sources) said i s c lt) in
      record {
        each = ap (λ (cs : List Chosen). length cs) facts.chosen ∙ length-map said (chosen_by sources);
        ordered = facts.ordered;
        one = λ i j li lj s c. (
          (λ same. one_number sources (get_or said i s).source (get_or said j s).source (facts.known i s li) (facts.known j s lj) (sym (number i s c li) ∙ same ∙ number j s c lj)),
          (λ same. number i s c li ∙ ap (element_of sources) (source_is (get_or said i s).source (get_or said j s).source same) ∙ sym (number j s c lj)),
        );
      }
