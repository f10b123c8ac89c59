-- The lines of a run: its puts, its takes with the pair of bounds behind each, its end, and what
-- each spoke answered.
use Rattle.std.specs.Prelude.{ℕ, ◌+◌, ℤ, List, [], ◌∷◌, ◌++◌, map, codes, decimal, Option}
use Rattle.std.specs.Fmt.{signed_decimal}
use Rattle.log_words.specs.declared.log.Answer.{Answer}
use Rattle.log_words.specs.declared.log.Answer.TheVariants.{Reply, Skip}
use Rattle.log_words.specs.declared.log.SpokeKind.{SpokeKind}
use Rattle.log_words.specs.declared.log.SpokeKind.TheVariants.{Lagrangian, Xhat}
use Rattle.log_words.specs.declared.log.SpokeLog.{SpokeLog}
use Rattle.run_log.specs.declared.log.End.{End}
use Rattle.run_log.specs.declared.log.End.TheVariants.{Agreed, Gap, Iterations, Spent}
use Rattle.run_log.specs.declared.log.Event.{Event}
use Rattle.run_log.specs.declared.log.Event.TheVariants.{Put, Take}
use Rattle.run_log.specs.declared.log.Source.{Source}
use Rattle.run_log.specs.declared.log.Source.TheVariants.{Hub, Spoke}
use Rattle.text_lines.specs.Lines.{limit_text, line_of}

-- whose reply was taken: the hub's, or that of a spoke, counted from 1
abbrev pub source_text : Source → List ℕ
source_text Hub = codes "hub"
source_text (Spoke i) = decimal (i + 1)

-- a pair of bounds, each behind a blank
abbrev pub pair_text : ℤ → Option ℤ → List ℕ
pair_text lower upper = codes " " ++ signed_decimal lower ++ codes " " ++ limit_text upper

-- a take: whose reply, to which put, its value, and the pair with it
abbrev pub take_text : Source → ℕ → Option ℤ → ℤ → Option ℤ → List ℕ
take_text source k value lower upper =
    codes "take " ++ source_text source ++ codes " " ++ decimal k ++ codes " " ++ limit_text value
    ++ pair_text lower upper

-- a put by its number, or a take
abbrev pub event_text : Event → List ℕ
event_text (Put k) = codes "put " ++ decimal k
event_text (Take source k value lower upper) = take_text source k value lower upper

-- why the run ended; a scenario whose search was spent is counted from 1
abbrev pub end_text : End → List ℕ
end_text Agreed = codes "end agreed"
end_text Gap = codes "end gap"
end_text Iterations = codes "end iterations"
end_text (Spent s) = codes "end spent " ++ decimal (s + 1)

abbrev pub kind_text : SpokeKind → List ℕ
kind_text Lagrangian = codes " lagrangian"
kind_text Xhat = codes " xhat"

-- spoke i, counted from 1
abbrev pub spoke_text : ℕ → SpokeKind → List ℕ
spoke_text i kind = codes "spoke " ++ decimal (i + 1) ++ kind_text kind

-- a reply to a put, or a put that was skipped with the scenario whose search was spent
abbrev pub answer_text : Answer → List ℕ
answer_text (Reply k value) = codes "reading " ++ decimal k ++ codes " " ++ limit_text value
answer_text (Skip k s opened) = codes "skip " ++ decimal k ++ codes " " ++ decimal (s + 1)

-- the lines of the events, in their order
abbrev pub event_lines_of : List Event → List (List ℕ)
event_lines_of events = map (λ event. line_of (event_text event)) events

-- the lines of a spoke, and behind it of its answers in their order
abbrev pub spoke_lines_of : ℕ → SpokeLog → List (List ℕ)
spoke_lines_of i spoke =
    line_of (spoke_text i spoke.kind) ∷ map (λ answer. line_of (answer_text answer)) spoke.answers

-- the same of all spokes, the first of which has this number
abbrev pub spokes_lines_from : ℕ → List SpokeLog → List (List ℕ)
spokes_lines_from i [] = []
spokes_lines_from i (spoke ∷ spokes) = spoke_lines_of i spoke ++ spokes_lines_from (i + 1) spokes
