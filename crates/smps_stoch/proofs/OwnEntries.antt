-- The entries of a realisation or scenario are those of the lines up to which it is the last one begun.
use Rattle.std.proofs.Common.{◌≡◌, refl, sym, ap, ◌∙◌, subst, ℕ, zero, suc, ◌+◌, ◌<◌, ◌==◌, Bool, true, false, cond, List, [], ◌∷◌, ◌++◌, length, map, take, get_or, arith, eq-eqb}
use Rattle.std.specs.Prelude.{filter, if◌then◌else◌, ◌↔◌}
use Rattle.std.specs.List.{Contains}
use Rattle.std.proofs.lemmas.List.{get_or-map, length-map, take_more}
use Rattle.std.proofs.lemmas.List.Elements.{All-contains_itself, All-filter, filter_passes}
use Rattle.base_words.proofs.Positions.{contains_map}
use Rattle.smps_words.proofs.ToldLaws.{told_push}
use Rattle.smps_words.specs.TextLines.{TextLine, no_line}
use Rattle.smps_words.specs.declared.core_file.Core.{Core}
use Rattle.smps_words.specs.declared.periods.Periods.{Periods}
use Rattle.stoch_lines.specs.Before.{before_of, blocks_of, entries_of, names_of, realisations_of, sayings_of, scenarios_of, section_of, sources_of, Before}
use Rattle.stoch_lines.specs.Sayings.{is_scenarios, owned_entries, sayings, scenario_names}
use Rattle.stoch_lines.specs.declared.places.StochEntry.{StochEntry}
use Rattle.stoch_lines.specs.declared.entries.Owned.{Owned}
use Rattle.stoch_lines.specs.declared.state.Saying.{Saying}
use Rattle.smps_stoch.specs.LawWords.{begun_up_to, entries_on, line_at, section_at, AreClean, IsOnLine}
use Rattle.smps_stoch.specs.StochData.{entries_at}
use Rattle.smps_stoch.proofs.AnyEntry.{facts_to}
use Rattle.smps_stoch.proofs.ByElement.{by_element}
use Rattle.smps_stoch.proofs.LineEntries.{choice_in, last_one, owned_is, owner}
use Rattle.smps_words.proofs.ToldAt.{at_told, told_at}

module _ {X Y : Type 0} (p : X → Bool) (f : X → Y) where
  one_more : (b : Bool) (x : X) (xs : List X) (y : Y) → Contains (map f xs) y → Contains (map f (cond b (x ∷ xs) xs)) y
  one_more true x xs y (k, lt, at) = (suc k, omega (arith, lt), at)
  one_more false x xs y has = has

  kept : (xs : List X) (k : ℕ) (d : X) → k < length xs → p (get_or xs k d) ≡ true → Contains (map f (filter p xs)) (f (get_or xs k d))
  kept [] k d lt pass = absurd (omega (arith, lt))
  kept (x ∷ xs) zero d lt pass =
      let P : Bool → Type 0 = λ b. Contains (map f (cond b (x ∷ filter p xs) (filter p xs))) (f x) in
      subst P (sym pass) (0, omega arith, refl)
  kept (x ∷ xs) (suc k) d lt pass = one_more (p x) x (filter p xs) (f (get_or xs k d)) (kept xs k d (omega (arith, lt)) pass)

module _ (entries : List Owned) (k : ℕ) (entry : StochEntry) where
  abbrev IsOwn : Owned → Bool
  IsOwn owned = owned.choice == k

  abbrev Given : Type 0
  Given = (owned : Owned) × Contains entries owned × (owned.choice ≡ k) × (owned.entry ≡ entry)

  given : Contains (entries_at entries k) entry → Given
  given (i, lt, at) =
      let own = filter IsOwn entries in
      let none : Owned = record { element = 0; choice = 0; entry = entry } in
      let within : i < length own = subst (λ (n : ℕ). i < n) (length-map own (λ (o : Owned). o.entry)) lt in
      let owned = get_or own i none in
      let pass : IsOwn owned ≡ true = filter_passes IsOwn entries i none within in
      let same : owned.choice ≡ k = grind (arith, pass) in
      (owned, All-filter IsOwn (Contains entries) entries (All-contains_itself entries) i none within, same, sym (get_or-map (λ (o : Owned). o.entry) own i none entry within) ∙ at)

  has : Given → Contains (entries_at entries k) entry
  has (owned, (i, lt, at), same, is) =
      let pass : IsOwn (get_or entries i owned) ≡ true = eq-eqb _ _ (ap (λ (o : Owned). o.choice) at ∙ same) in
      subst (Contains (entries_at entries k)) (ap (λ (o : Owned). o.entry) at ∙ is) (kept IsOwn (λ (o : Owned). o.entry) entries i owned lt pass)

module _ {X Y : Type 0} (f : X → Y) (xs : List X) where
  has_map : (y : Y) (d : X) → Contains (map f xs) y → (x : X) × Contains xs x × (f x ≡ y)
  has_map y d (k, lt, at) =
      let within : k < length xs = subst (λ (n : ℕ). k < n) (length-map xs f) lt in
      (get_or xs k d, All-contains_itself xs k d within, sym (get_or-map f xs k d y within) ∙ at)

module _ (core : Core) (periods : Periods) (lines : List TextLine) where
  abbrev At : ℕ → Before
  At n = before_of core periods (take n lines)

  abbrev Owner : ℕ → StochEntry → Owned
  Owner n = owner core (At n) (line_at lines n) (section_at lines n)

  abbrev Choice : ℕ → ℕ
  Choice n = choice_in (section_at lines n) (At n).realisations (At n).scenarios

  abbrev Tells : List TextLine → TextLine → List Owned
  Tells before line =
      owned_entries core (section_of before) (sources_of core periods before) (realisations_of core periods before) (scenarios_of core periods before) line

  owned_at : (n : ℕ) → Tells (take n lines) (line_at lines n) ≡ map (Owner n) (entries_on core lines n)
  owned_at n = owned_is core (At n) (line_at lines n) (section_at lines n) (line_at lines n).header

  -- how many have begun up to a line, by those before it
  up_to : (n : ℕ) (entry : StochEntry) → AreClean core periods lines → n < length lines → Contains (entries_on core lines n) entry → Choice n + 1 ≡ begun_up_to core periods lines n
  up_to n entry clean lt has =
      let before = take n lines in
      let line = line_at lines n in
      let section = section_at lines n in
      let more : take (n + 1) lines ≡ before ++ line ∷ [] = take_more lines n no_line lt in
      let said : sayings_of core periods (take (n + 1) lines) ≡ sayings_of core periods before ++ sayings core periods section (blocks_of before) line =
      ap (sayings_of core periods) more ∙ told_push (λ (b : List TextLine) (l : TextLine). sayings core periods (section_of b) (blocks_of b) l) before line in
      let named : names_of (take (n + 1) lines) ≡ names_of before ++ scenario_names section line =
      ap names_of more ∙ told_push (λ (b : List TextLine) (l : TextLine). scenario_names (section_of b) l) before line in
      let facts = facts_to core periods lines clean n (omega (arith, lt)) in
      let each = (by_element core periods before).each in
      last_one core periods (At n) line entry (sayings_of core periods before) each (sym facts.0.heads.named) facts.1.begun section line.header facts.1.section (clean n lt no_line).0 has
      ∙ ap (λ (names : List (List ℕ)). if is_scenarios section then length names else length (sayings_of core periods before ++ sayings core periods section (blocks_of before) line)) (sym named)
      ∙ ap (λ (xs : List Saying). if is_scenarios section then length (names_of (take (n + 1) lines)) else length xs) (sym said)

  pub own_lines : (k : ℕ) (entry : StochEntry) → AreClean core periods lines → Contains (entries_at (entries_of core periods lines) k) entry ↔ IsOnLine core periods lines k entry
  own_lines k entry clean = (
    (λ has_one.
        let own = given (entries_of core periods lines) k entry has_one in
        let at = told_at Tells no_line own.0 [] lines own.1 in
        let n = at.0 in
        let one = has_map (Owner n) (entries_on core lines n) own.0 entry (subst (λ (xs : List Owned). Contains xs own.0) (owned_at n) at.2) in
        let same : Choice n ≡ k = ap (λ (o : Owned). o.choice) one.2 ∙ own.2 in
        let is : one.0 ≡ entry = ap (λ (o : Owned). o.entry) one.2 ∙ own.3 in
        (n, at.1, subst (Contains (entries_on core lines n)) is one.1, ap (λ (c : ℕ). c + 1) (sym same) ∙ up_to n one.0 clean at.1 one.1)),
    (λ line.
        let n = line.0 in
        let owned = Owner n entry in
        let there : Contains (Tells (take n lines) (line_at lines n)) owned = subst (λ (xs : List Owned). Contains xs owned) (sym (owned_at n)) (contains_map (Owner n) (entries_on core lines n) entry line.2) in
        let last = up_to n entry clean line.1 line.2 in
        let same : Choice n ≡ k = omega (arith, last, line.3) in
        has (entries_of core periods lines) k entry (owned, at_told Tells no_line owned [] lines n line.1 there, same, refl)),
  )
