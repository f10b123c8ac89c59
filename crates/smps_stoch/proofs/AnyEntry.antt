-- The tests of a place's last entry hold of all its entries, and each place of a realisation has one value.
use Rattle.std.proofs.Common.{◌≡◌, refl, sym, ap, ◌∙◌, subst, ℕ, zero, suc, ◌+◌, ◌<◌, ◌≤◌, ◌==◌, Bool, true, false, not, ◌&&◌, List, [], ◌∷◌, ◌++◌, length, take, get_or, Option, Some, None, arith}
use Rattle.std.proofs.lemmas.Bool.{and_from, and_left}
use Rattle.std.specs.Prelude.{find, if◌then◌else◌, slice_get}
use Rattle.std.specs.List.{All, AllPairs, Contains, list_any, position_or_len}
use Rattle.std.specs.Option.{option_map, option_map_or}
use Rattle.std.proofs.Math.Seq.{take-length}
use Rattle.std.proofs.lemmas.Bool.Decides.{nat_tests}
use Rattle.std.proofs.lemmas.List.{take_more}
use Rattle.std.proofs.lemmas.List.Elements.{All-head, All-tail}
use Rattle.std.proofs.lemmas.List.Folds.{find_at, list_any_at, list_any_none}
use Rattle.std.proofs.lemmas.List.Sums.{position_or_len_is}
use Rattle.std.proofs.lemmas.Option.{slice_get-get_or}
use Rattle.smps_words.specs.TextLines.{TextLine, no_line}
use Rattle.smps_words.specs.declared.core_file.Core.{Core}
use Rattle.smps_words.specs.declared.periods.Periods.{Periods}
use Rattle.stoch_lines.proofs.Adding.{one_more}
use Rattle.stoch_lines.specs.Before.{before_of, next, Before}
use Rattle.stoch_lines.specs.Faults.{is_given, is_taken, last_at}
use Rattle.stoch_lines.specs.Places.{same_place}
use Rattle.stoch_lines.specs.declared.entries.Owned.{Owned}
use Rattle.stoch_lines.specs.declared.places.StochEntry.{StochEntry}
use Rattle.stoch_lines.specs.declared.places.StochPlace.{StochPlace}
use Rattle.smps_stoch.specs.LawWords.{some_of, some_other, value_at_place, AreClean, LastTellsAll}
use Rattle.smps_stoch.specs.SaidFacts.{GoesOnWell, SaidFacts}
use Rattle.smps_stoch.specs.StochFacts.{AreOfTwoPlaces}
use Rattle.smps_stoch.proofs.EntryLines.{goes_on_after}
use Rattle.smps_stoch.proofs.LastEntries.{last_is, same_self, IsLast}
use Rattle.smps_stoch.proofs.SaidLaws.{after, nothing_goes, nothing_well}

-- where a test of the last entry's kind passes, and where it fails for all entries of the place
module _ (entries : List Owned) (place : StochPlace) (test : Owned → Bool) where
  abbrev Passes : Owned → Bool
  Passes owned = same_place owned.entry.place place && test owned

  none_of_place : All (λ owned. same_place owned.entry.place place ≡ false) entries → list_any Passes entries ≡ false
  none_of_place none = list_any_none Passes entries (λ k d lt. and_left _ _ (none k d lt))

  last_passes : (last : Owned) → Contains entries last → same_place last.entry.place place ≡ true → test last ≡ true → list_any Passes entries ≡ true
  last_passes last (k, lt, at) same on =
      list_any_at Passes entries k last lt (subst (λ (o : Owned). Passes o ≡ true) (sym at) (and_from _ _ same on))

  one_fails : (owned : Owned) (same : Bool) → same_place owned.entry.place place ≡ same → (same ≡ true → test owned ≡ false) → Passes owned ≡ false
  one_fails owned true is fails = ap (λ (x : Bool). x && test owned) is ∙ fails refl
  one_fails owned false is fails = and_left _ _ is

  all_fail : All (λ owned. same_place owned.entry.place place ≡ true → test owned ≡ false) entries → list_any Passes entries ≡ false
  all_fail fail = list_any_none Passes entries (λ k d lt. one_fails (get_or entries k d) (same_place (get_or entries k d).entry.place place) refl (λ same. fail k d lt same))

module _ (entries : List Owned) (place : StochPlace) where
  taken_by : (element : ℕ) (last : Option Owned) → IsLast place entries last → (taken : Bool) → option_map_or (λ owned. not (owned.element == element)) last false ≡ taken → some_other entries element place ≡ taken
  taken_by element None none taken is = none_of_place entries place (λ owned. not (owned.element == element)) none ∙ is
  taken_by element (Some last) found true is = last_passes entries place (λ owned. not (owned.element == element)) last found.1 found.0 is
  taken_by element (Some last) found false is =
      all_fail entries place (λ owned. not (owned.element == element)) (λ k d lt same.
      ap (λ (n : ℕ). not (n == element)) (found.2 k d lt same).0 ∙ is)

  given_by : (choice : ℕ) (last : Option Owned) → IsLast place entries last → All (λ owned. owned.choice ≤ choice) entries → (given : Bool) → option_map_or (λ owned. owned.choice == choice) last false ≡ given → some_of entries choice place ≡ given
  given_by choice None none most given is = none_of_place entries place (λ owned. owned.choice == choice) none ∙ is
  given_by choice (Some last) found most true is = last_passes entries place (λ owned. owned.choice == choice) last found.1 found.0 is
  given_by choice (Some last) found most false is =
      let small : last.choice ≤ choice = subst (λ (o : Owned). o.choice ≤ choice) found.1.2 (most found.1.0 last found.1.1) in
      all_fail entries place (λ owned. owned.choice == choice) (λ k d lt same.
      let under = (found.2 k d lt same).1 in
      grind (arith, nat_tests, is, small, under))

-- the facts hold before each line
module _ (core : Core) (periods : Periods) (lines : List TextLine) (clean : AreClean core periods lines) where
  abbrev pub HasFacts : List TextLine → Type 0
  HasFacts before = SaidFacts core periods (before_of core periods before) × GoesOnWell (before_of core periods before)

  pub facts_to : (n : ℕ) → n ≤ length lines → HasFacts (take n lines)
  facts_to zero most = (nothing_well core periods, nothing_goes core periods)
  facts_to (suc n) most =
      let below : n < length lines = omega (arith, most) in
      let facts = facts_to n (omega (arith, most)) in
      let before = take n lines in
      let line = get_or lines n no_line in
      let fine = clean n below no_line in
      let one : suc n ≡ n + 1 = omega arith in
      let more : take (suc n) lines ≡ before ++ line ∷ [] = ap (λ (m : ℕ). take m lines) one ∙ take_more lines n no_line below in
      let now = before_of core periods before in
      let step : SaidFacts core periods (next core periods now line) × GoesOnWell (next core periods now line) =
      (after core periods now line facts.0 facts.1 fine.0, goes_on_after core periods now line facts.1 fine.1 fine.0) in
      subst HasFacts (sym more) (subst (λ (b : Before). SaidFacts core periods b × GoesOnWell b) (sym (one_more core periods before line)) step)

  pub tells_all : LastTellsAll (before_of core periods lines)
  tells_all =
      let facts : HasFacts lines = subst HasFacts (take-length lines) (facts_to (length lines) (omega arith)) in
      let b = before_of core periods lines in
      let owned = facts.0.entries in
      record {
        taken = λ element place. sym (taken_by b.entries place element (last_at place b.entries) (last_is place b.entries owned.apart) (is_taken b.entries element place) refl);
        given = λ choice place last. sym (given_by b.entries place choice (last_at place b.entries) (last_is place b.entries owned.apart) (λ k d lt. let there = owned.there k d lt in omega (arith, there, last)) (is_given b.entries choice place) refl);
      }

-- the value of a place is that of its one entry
pub own_value : (entries : List StochEntry) (entry : StochEntry) → AllPairs AreOfTwoPlaces entries → Contains entries entry → value_at_place entry.place entries ≡ Some entry.value
own_value entries entry once (k, lt, at) =
    let p = λ (e : StochEntry). same_place e.place entry.place in
    let first : position_or_len p entries ≡ k =
    position_or_len_is p entries k entry (omega (arith, lt))
    (λ j less. subst (λ (e : StochEntry). same_place (get_or entries j entry).place e.place ≡ false) at (once j k entry less lt))
    (λ _. subst (λ (e : StochEntry). same_place e.place entry.place ≡ true) (sym at) (same_self entry.place)) in
    ap (option_map (λ (e : StochEntry). e.value))
    (find_at p entries ∙ ap (λ (n : ℕ). slice_get entries n) first ∙ slice_get-get_or entries k entry lt ∙ ap Some at)

-- a place of which there is no entry has none
pub no_value : (entries : List StochEntry) (place : StochPlace) → All (λ e. same_place e.place place ≡ false) entries → value_at_place place entries ≡ None
no_value [] place none = refl
no_value (e ∷ entries) place none =
    let P : StochEntry → Type 0 = λ x. same_place x.place place ≡ false in
    let rest = no_value entries place (All-tail P e entries none) in
    ap (λ (b : Bool). option_map (λ (x : StochEntry). x.value) (if b then Some e else find (λ (x : StochEntry). same_place x.place place) entries)) (All-head P e entries none) ∙ rest
