-- One more line without a fault keeps the facts of what the lines say.
use Rattle.std.proofs.Common.{◌≡◌, refl, sym, ap, ◌∙◌, subst, ℕ, ◌+◌, ◌<◌, ◌≤◌, ◌==◌, Bool, true, false, List, [], ◌∷◌, ◌++◌, length, map, get_or, Option, Some, None, Result, Ok, Err, arith, below_more, length-append}
use Rattle.std.specs.Prelude.{fold, if◌then◌else◌, position}
use Rattle.std.specs.List.{list_any, position_or_len}
use Rattle.std.proofs.lemmas.List.{append-nil, get_or_append_left, get_or_at, get_or_past}
use Rattle.std.proofs.lemmas.List.Elements.{All-nil, All-push}
use Rattle.base_words.proofs.Positions.{any_some}
use Rattle.line_core.specs.SplitLines.{lines_of}
use Rattle.line_core.specs.declared.line_list.Line.{Line}
use Rattle.line_core.specs.declared.line_list.LineFault.{LineFault}
use Rattle.line_core.specs.declared.line_list.LineFault.TheVariants as line_faults
use Rattle.smps_words.specs.Outcomes.{Outcome, answer_of, judged}
use Rattle.smps_words.specs.Outcomes.Outcome.{Faulty, Ended, Endless}
use Rattle.smps_words.specs.TextLines.{TextLine, last_number, text_lines, is_end}
use Rattle.smps_words.specs.declared.core_file.Core.{Core}
use Rattle.smps_words.specs.declared.periods.Periods.{Periods}
use Rattle.stoch_lines.proofs.Adding.{stepped_is}
use Rattle.stoch_lines.proofs.Positions.{position_none}
use Rattle.stoch_lines.specs.Before.{Before, next, nothing_said}
use Rattle.stoch_lines.specs.Faults.{line_fault, max_scenarios, own_period}
use Rattle.stoch_lines.specs.Places.{same_source}
use Rattle.stoch_lines.specs.Sayings.{chosen_by, element_of, new_periods, with_source}
use Rattle.stoch_lines.specs.StochOutcome.{read_meaning, said_meaning, said_whole, stepped, stepped_from}
use Rattle.stoch_lines.specs.declared.kinds.StochKind.{StochKind}
use Rattle.stoch_lines.specs.declared.kinds.StochKind.TheVariants.{NoEnd}
use Rattle.stoch_lines.specs.declared.entries.Owned.{Owned}
use Rattle.stoch_lines.specs.declared.places.Source.{Source}
use Rattle.stoch_lines.specs.declared.state.Chosen.{Chosen}
use Rattle.stoch_lines.specs.declared.state.Saying.{Saying}
use Rattle.stoch_lines.specs.declared.state.ScenarioHead.{ScenarioHead}
use Rattle.smps_stoch.specs.SaidFacts.{AreElements, AreHeads, GoesOnWell, IsHead, IsProbable, IsUsed, SaidFacts}
use Rattle.smps_stoch.specs.StochData.{no_choice, no_scenario}
use Rattle.smps_stoch.specs.StochFacts.{IsEarlier, IsEntry, IsLaterPeriod}
use Rattle.smps_stoch.proofs.EntryLines.{entries_after, goes_on_after}
use Rattle.smps_stoch.proofs.Saying.{begins, said, BeginsWell, SaysWell}

-- a source that is new has the next number
new_number : (p : Source → Bool) (sources : List Source) (at : Option ℕ) → position p sources ≡ at → list_any p sources ≡ false → position_or_len p sources ≡ length sources
new_number p sources None is none = position_none p sources is
new_number p sources (Some k) is none =
    let e : false ≡ true = sym none ∙ any_some p sources k is in
    absurd (cc e)

-- an element that is used stays so, and a realisation uses its own
pub still_used : (realisations : List Chosen) (chosen : Chosen) (k : ℕ) → IsUsed realisations k → IsUsed (realisations ++ chosen ∷ []) k
still_used realisations chosen k used =
    (used.0, rw length-append (omega (arith, used.1)), ap (λ (c : Chosen). c.element) (get_or_append_left realisations (chosen ∷ []) no_choice used.0 used.1) ∙ used.2)

pub now_used : (realisations : List Chosen) (chosen : Chosen) → IsUsed (realisations ++ chosen ∷ []) chosen.element
now_used realisations chosen =
    (length realisations, rw length-append (omega arith), ap (λ (c : Chosen). c.element) (get_or_at realisations chosen [] no_choice (length realisations) refl))

module _ (periods : Periods) (b : Before) where
  -- a new element's period is a later one
  new_later : (saying : Saying) → AreElements periods b.realisations b.periods b.sources → SaysWell periods b saying → element_of b.sources saying.source ≡ length b.sources → IsLaterPeriod periods saying.period
  new_later saying facts well new =
      let past : own_period b saying ≡ saying.period = get_or_past b.periods (element_of b.sources saying.source) saying.period (omega (arith, new, facts.matched)) in
      let P : ℕ → Type 0 = λ p. (p == 1) ≡ false in
      let other : (saying.period == 1) ≡ false = subst P past well.later in
      let there = well.period in
      (grind (arith, other, there.0), there.1)

  one_by : (saying : Saying) (known : Bool) → list_any (same_source saying.source) b.sources ≡ known → AreElements periods b.realisations b.periods b.sources → SaysWell periods b saying → AreElements periods (b.realisations ++ chosen_by b.sources saying ∷ []) (b.periods ++ (if known then [] else (saying.period ∷ []))) (if known then b.sources else (b.sources ++ saying.source ∷ []))
  one_by saying true is facts well =
      let chosen = chosen_by b.sources saying in
      subst (λ (starts : List ℕ). AreElements periods (b.realisations ++ chosen ∷ []) starts b.sources) (sym (append-nil b.periods)) (record {
        probable = All-push (λ (c : Chosen). IsProbable c.probability) b.realisations chosen facts.probable well.probable;
        later = facts.later;
        used = λ k lt. still_used b.realisations chosen k (facts.used k lt);
        matched = facts.matched;
      })
  one_by saying false is facts well =
      let chosen = chosen_by b.sources saying in
      let new : chosen.element ≡ length b.sources = new_number (same_source saying.source) b.sources (position (same_source saying.source) b.sources) refl is in
      let long : length (b.periods ++ saying.period ∷ []) ≡ length b.periods + 1 = length-append b.periods (saying.period ∷ []) in
      let P : ℕ → Type 0 = λ k. IsUsed (b.realisations ++ chosen ∷ []) k in
      record {
        probable = All-push (λ (c : Chosen). IsProbable c.probability) b.realisations chosen facts.probable well.probable;
        later = All-push (IsLaterPeriod periods) b.periods saying.period facts.later (new_later saying facts well new);
        used = λ k lt. below_more P (length b.periods) (λ j below. still_used b.realisations chosen j (facts.used j below)) (subst P (new ∙ sym facts.matched) (now_used b.realisations chosen)) k (subst (λ (n : ℕ). k < n) long lt);
        matched = long ∙ ap (λ (n : ℕ). n + 1) facts.matched ∙ sym (length-append b.sources (saying.source ∷ []));
      }

  elements_after : AreElements periods b.realisations b.periods b.sources → (core : Core) (line : TextLine) → line_fault core periods b line ≡ None → AreElements periods (next core periods b line).realisations (next core periods b line).periods (next core periods b line).sources
  elements_after facts core line none =
      said core periods b line
      (λ (sayings : List Saying). AreElements periods (b.realisations ++ map (chosen_by b.sources) sayings) (b.periods ++ new_periods b.sources sayings) (fold with_source b.sources sayings))
      (subst (λ (rs : List Chosen). AreElements periods rs (b.periods ++ []) b.sources) (sym (append-nil b.realisations))
      (subst (λ (ps : List ℕ). AreElements periods b.realisations ps b.sources) (sym (append-nil b.periods)) facts))
      (λ saying well. one_by saying (list_any (same_source saying.source) b.sources) refl facts well)
      none

  head_added : (scenario : ScenarioHead) (name : List ℕ) → AreHeads periods b.scenarios b.names → BeginsWell periods b scenario → AreHeads periods (b.scenarios ++ scenario ∷ []) (b.names ++ name ∷ [])
  head_added scenario name facts well =
      let all = b.scenarios ++ scenario ∷ [] in
      let long : length all ≡ length b.scenarios + 1 = length-append b.scenarios (scenario ∷ []) in
      let P : ℕ → Type 0 = λ k. IsEarlier (get_or all k no_scenario).parent k in
      let old : (k : ℕ) → k < length b.scenarios → P k = λ k lt. subst (λ (s : ScenarioHead). IsEarlier s.parent k) (sym (get_or_append_left b.scenarios (scenario ∷ []) no_scenario k lt)) (facts.parents k lt) in
      let last : P (length b.scenarios) = subst (λ (s : ScenarioHead). IsEarlier s.parent (length b.scenarios)) (sym (get_or_at b.scenarios scenario [] no_scenario (length b.scenarios) refl)) (subst (IsEarlier scenario.parent) facts.named well.parent) in
      record {
        heads = All-push (IsHead periods) b.scenarios scenario facts.heads well.head;
        parents = λ k lt. below_more P (length b.scenarios) old last k (subst (λ (n : ℕ). k < n) long lt);
        named = length-append b.names (name ∷ []) ∙ ap (λ (n : ℕ). n + 1) facts.named ∙ sym long;
        few = subst (λ (n : ℕ). n ≤ max_scenarios) (sym long) (omega (arith, facts.named, well.few));
      }

  heads_after : AreHeads periods b.scenarios b.names → (core : Core) (line : TextLine) → line_fault core periods b line ≡ None → AreHeads periods (next core periods b line).scenarios (next core periods b line).names
  heads_after facts core line none =
      begins core periods b line
      (λ (heads : List ScenarioHead) (names : List (List ℕ)). AreHeads periods (b.scenarios ++ heads) (b.names ++ names))
      (subst (λ (ss : List ScenarioHead). AreHeads periods ss (b.names ++ [])) (sym (append-nil b.scenarios))
      (subst (λ (ns : List (List ℕ)). AreHeads periods b.scenarios ns) (sym (append-nil b.names)) facts))
      (λ scenario name well. head_added scenario name facts well)
      none

module _ (core : Core) (periods : Periods) where
  pub nothing_well : SaidFacts core periods nothing_said
  nothing_well = record {
    elements = record {
      probable = All-nil (λ (c : Chosen). IsProbable c.probability);
      later = All-nil (IsLaterPeriod periods);
      used = λ k lt. absurd (omega (arith, lt));
      matched = refl;
    };
    heads = record {
      heads = All-nil (IsHead periods);
      parents = λ k lt. absurd (omega (arith, lt));
      named = refl;
      few = omega arith;
    };
    entries = record {
      each = All-nil (λ (o : Owned). IsEntry core o.entry);
      apart = λ i j d less lt. absurd (omega (arith, lt));
      there = All-nil (λ (o : Owned). o.choice < 0);
      elements = All-nil (λ (o : Owned). o.element ≡ 0);
    };
  }

  pub nothing_goes : GoesOnWell nothing_said
  nothing_goes = record {
    nothing = λ _. (refl, refl);
    section = (refl, refl);
    begun = λ e. absurd (cc e);
  }

  pub after : (b : Before) (line : TextLine) → SaidFacts core periods b → GoesOnWell b → line_fault core periods b line ≡ None → SaidFacts core periods (next core periods b line)
  after b line facts goes none = record {
    elements = elements_after periods b facts.elements core line none;
    heads = heads_after periods b facts.heads core line none;
    entries = entries_after core periods b line facts.entries goes none;
  }

  -- what lines come to has the facts, where they end without a fault
  abbrev EndsWell : Outcome TextLine StochKind Before → Type 0
  EndsWell (Ended b) = SaidFacts core periods b
  EndsWell (Faulty line kind) = Unit {0}
  EndsWell Endless = Unit {0}

  judged_well : (fault : Option StochKind) (ends : Bool) (line : TextLine) (b : Before) (later : Outcome TextLine StochKind Before) → (fault ≡ None → SaidFacts core periods b) → (ends ≡ false → fault ≡ None → EndsWell later) → EndsWell (judged fault ends line b later)
  judged_well (Some kind) ends line b later well on = tt
  judged_well None true line b later well on = well refl
  judged_well None false line b later well on = on refl refl

  steps_well : (lines : List TextLine) (b : Before) → SaidFacts core periods b → GoesOnWell b → EndsWell (stepped_from core periods b lines)
  steps_well [] b facts goes = tt
  steps_well (line ∷ lines) b facts goes =
      judged_well (line_fault core periods b line) (is_end line) line (next core periods b line) (stepped_from core periods (next core periods b line) lines)
      (after b line facts goes)
      (λ going none. steps_well lines (next core periods b line) (after b line facts goes none) (goes_on_after core periods b line goes going none))

  answer_well : (last : ℕ) (come_to : Outcome TextLine StochKind Before) (b : Before) → EndsWell come_to → answer_of said_whole last NoEnd come_to ≡ Ok b → SaidFacts core periods b
  answer_well last (Faulty line kind) b well is = absurd (cc is)
  answer_well last Endless b well is = absurd (cc is)
  answer_well last (Ended whole) b well is =
      let same : whole ≡ b = cc is in
      subst (SaidFacts core periods) same well

  read_well : (bytes : List ℕ) (found : Result (List Line) LineFault) (b : Before) → read_meaning core periods bytes found ≡ Ok b → SaidFacts core periods b
  read_well bytes (Ok found) b is =
      let lines = text_lines bytes found in
      answer_well (last_number lines) (stepped core periods lines) b (steps_well lines nothing_said nothing_well nothing_goes)
      (ap (answer_of said_whole (last_number lines) NoEnd) (stepped_is core periods lines) ∙ is)
  read_well bytes (Err (line_faults.NotAscii line)) b is = absurd (cc is)
  read_well bytes (Err (line_faults.TooLong line)) b is = absurd (cc is)
  read_well bytes (Err line_faults.Memory) b is = absurd (cc is)

  -- all that a stoch file says has the facts
  pub said_well : (bytes : List ℕ) (b : Before) → said_meaning core periods bytes ≡ Ok b → SaidFacts core periods b
  said_well bytes b is = read_well bytes (lines_of bytes) b is
