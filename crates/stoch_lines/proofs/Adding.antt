-- One more line of a stoch file: what the lines say goes on step by step.
use Rattle.std.proofs.Common.{◌≡◌, ◌==◌, ap, ◌∙◌, Bool, false, not, if◌then◌else◌, List, [], ◌∷◌, ◌++◌, length, map, arith}
use Rattle.std.specs.Prelude.{fold, Option, None}
use Rattle.std.proofs.lemmas.Grind.{common_steps}
use Rattle.std.proofs.lemmas.List.Sums.{fold-append}
use Rattle.smps_words.proofs.FoldLaw.{fold_is}
use Rattle.smps_words.proofs.ToldLaws.{told_push}
use Rattle.smps_words.specs.Outcomes.{seen_by, all_told}
use Rattle.smps_words.specs.TextLines.{TextLine, field, is_end}
use Rattle.smps_words.specs.declared.core_file.Core.{Core}
use Rattle.smps_words.specs.declared.periods.Periods.{Periods}
use Rattle.stoch_lines.specs.declared.heading.Heading.{Heading}
use Rattle.stoch_lines.specs.Sayings.{heading_of, opens_or_ends, with_name, with_source, new_periods, chosen_by, sayings, owned_entries, scenario_heads, scenario_names}
use Rattle.stoch_lines.specs.Before.{before_of, next, section_of, begun_of, block_names_in, blocks_of, names_of, sources_of, realisations_of, scenarios_of}
use Rattle.stoch_lines.specs.Faults.{line_fault}
use Rattle.stoch_lines.specs.StochOutcome.{stepped, stoch_outcome}

not_nothing : (lines : List TextLine) (line : TextLine) → (length (lines ++ line ∷ []) == 0) ≡ false
not_nothing lines line = grind (arith, common_steps)

section_more : (lines : List TextLine) (line : TextLine) → section_of (lines ++ line ∷ []) ≡ (if line.header then heading_of (field 0 line) else section_of lines)
section_more lines line = fold-append (λ (last : Option Heading) (l : TextLine). if l.header then heading_of (field 0 l) else last) None lines (line ∷ [])

begun_more : (lines : List TextLine) (line : TextLine) → begun_of (lines ++ line ∷ []) ≡ (if opens_or_ends line then not line.header else begun_of lines)
begun_more lines line = fold-append (λ (last : Bool) (l : TextLine). if opens_or_ends l then not l.header else last) false lines (line ∷ [])

pub blocks_more : (lines : List TextLine) (line : TextLine) → blocks_of (lines ++ line ∷ []) ≡ fold with_name (blocks_of lines) (block_names_in (section_of lines) line)
blocks_more lines line =
    let tells = λ (before : List TextLine) (l : TextLine). block_names_in (section_of before) l in
    ap (fold with_name []) (told_push tells lines line)
    ∙ fold-append with_name [] (all_told tells [] lines) (block_names_in (section_of lines) line)

module _ (core : Core) (periods : Periods) where
  sources_more : (lines : List TextLine) (line : TextLine) → sources_of core periods (lines ++ line ∷ []) ≡ fold with_source (sources_of core periods lines) (sayings core periods (section_of lines) (blocks_of lines) line)
  sources_more lines line =
      let tells = λ (before : List TextLine) (l : TextLine). sayings core periods (section_of before) (blocks_of before) l in
      ap (fold with_source []) (told_push tells lines line)
      ∙ fold-append with_source [] (all_told tells [] lines) (tells lines line)

  pub one_more : (lines : List TextLine) (line : TextLine) → before_of core periods (lines ++ line ∷ []) ≡ next core periods (before_of core periods lines) line
  one_more lines line =
      let nothing = not_nothing lines line in
      let section = section_more lines line in
      let begun = begun_more lines line in
      let blocks = blocks_more lines line in
      let sources = sources_more lines line in
      let tells_names = λ (before : List TextLine) (l : TextLine). scenario_names (section_of before) l in
      let names = told_push tells_names lines line in
      let tells_periods = λ (before : List TextLine) (l : TextLine). new_periods (sources_of core periods before) (sayings core periods (section_of before) (blocks_of before) l) in
      let starts = told_push tells_periods lines line in
      let tells_chosen = λ (before : List TextLine) (l : TextLine). map (chosen_by (sources_of core periods before)) (sayings core periods (section_of before) (blocks_of before) l) in
      let realisations = told_push tells_chosen lines line in
      let tells_scenarios = λ (before : List TextLine) (l : TextLine). scenario_heads periods (section_of before) (names_of before) l in
      let scenarios = told_push tells_scenarios lines line in
      let tells_entries = λ (before : List TextLine) (l : TextLine). owned_entries core (section_of before) (sources_of core periods before) (realisations_of core periods before) (scenarios_of core periods before) l in
      let entries = told_push tells_entries lines line in
      λ i. record {
        nothing = nothing i;
        section = section i;
        begun = begun i;
        blocks = blocks i;
        sources = sources i;
        periods = starts i;
        realisations = realisations i;
        entries = entries i;
        scenarios = scenarios i;
        names = names i;
      }

  -- lines added one after another come to what is judged by the lines before
  pub stepped_is : (lines : List TextLine) → stepped core periods lines ≡ seen_by (before_of core periods) (stoch_outcome core periods lines)
  stepped_is lines = fold_is (before_of core periods) (line_fault core periods) is_end (next core periods) (record { more = one_more }) lines
