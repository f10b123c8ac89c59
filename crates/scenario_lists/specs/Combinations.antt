-- All combinations of the realisations of some elements, in order: the last element varies fastest.
use Rattle.std.specs.Prelude.{◌≡◌, ℕ, zero, suc, ◌+◌, ◌*◌, ◌/◌, ◌%◌, ◌<◌, ◌≤◌, nat_le, if◌then◌else◌, List, [], ◌∷◌, ◌++◌, length, map, slice_index, slice_index_or, unsigned_abs}
use Rattle.std.specs.List.{flat_map, range_with_len}
use Rattle.base_words.specs.Gathered.{gathered}
use Rattle.stoch_lines.specs.declared.places.StochEntry.{StochEntry}
use Rattle.smps_stoch.specs.declared.stoch.Element.{Element}
use Rattle.smps_stoch.specs.declared.stoch.Realisation.{Realisation}
use Rattle.smps_stoch.specs.StochData.{no_realisation}

-- how many combinations there are: the product of the numbers of realisations
abbrev pub combinations : List Element → ℕ
combinations [] = 1
combinations (e ∷ es) = length e.realisations * combinations es

-- the choices of combination s, counted from 0: the later elements run through all of theirs before
-- an element goes on
abbrev pub choices_of : List Element → ℕ → List ℕ
choices_of [] s = []
choices_of (e ∷ es) s = s / combinations es ∷ choices_of es (s % combinations es)

-- the choices of all combinations: those that begin with the first realisation of the first
-- element, then those with its second, and so on
abbrev pub all_choices : List Element → List (List ℕ)
all_choices [] = [] ∷ []
all_choices (e ∷ es) = flat_map (λ choice. map (λ rest. choice ∷ rest) (all_choices es))
    (range_with_len 0 (length e.realisations))

-- what stands past the end of the elements, and of the realisations
abbrev pub no_element : Element
no_element = record { period = 0; realisations = [] }

-- the realisations of element k
abbrev pub realisations_at : List Element → ℕ → List Realisation
realisations_at es k = (slice_index_or es k no_element).realisations

-- the period of element k
abbrev pub period_at : List Element → ℕ → ℕ
period_at es k = (slice_index_or es k no_element).period

-- the realisation that some choices choose of element k
abbrev pub chosen_at : List Element → List ℕ → ℕ → Realisation
chosen_at es choices k =
    slice_index_or (realisations_at es k) (slice_index choices k) no_realisation

-- a choice for each element, of a realisation that is there
pub record AreChoices (es : List Element) (choices : List ℕ) : Type 0 where
  pub whole : length choices ≡ length es
  pub there : (k : ℕ) → k < length es → slice_index choices k < length (realisations_at es k)

-- the product of the weights that the first n choices choose
abbrev pub weight_below : List Element → List ℕ → ℕ → ℕ
weight_below es choices zero = 1
weight_below es choices (suc n) =
    weight_below es choices n * unsigned_abs (chosen_at es choices n).weight

-- the entries of element k: those of the realisation, and those of the first one for places that it
-- leaves out
abbrev pub entries_at : List Element → List ℕ → ℕ → List StochEntry
entries_at es choices k = (chosen_at es choices k).entries
    ++ (slice_index_or (realisations_at es k) 0 no_realisation).entries

-- the entries of all elements
abbrev pub entries_in : List Element → List ℕ → List StochEntry
entries_in es choices = gathered (length es) (entries_at es choices)

-- the choice at element k where its period is at most t, else 0
abbrev pub choice_until : List Element → List ℕ → ℕ → ℕ → ℕ
choice_until es choices t k = if nat_le (period_at es k) t then slice_index choices k else 0

-- the choices of the first n elements of a period at most t as the digits of one number, with 0 for
-- the other elements
abbrev pub mark_below : List Element → List ℕ → ℕ → ℕ → ℕ
mark_below es choices t zero = 0
mark_below es choices t (suc n) =
    mark_below es choices t n * length (realisations_at es n) + choice_until es choices t n

-- the mark of some choices at stage t
abbrev pub mark_in : List Element → List ℕ → ℕ → ℕ
mark_in es choices t = mark_below es choices t (length es)

-- two combinations choose the same realisation in every element of a period at most t
abbrev pub Agree : List Element → List ℕ → List ℕ → ℕ → Type 0
Agree es choices others t =
    (k : ℕ) → k < length es → period_at es k ≤ t → slice_index choices k ≡ slice_index others k
