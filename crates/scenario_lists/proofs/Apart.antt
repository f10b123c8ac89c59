-- No two of the entries that are first of their places are of one place.
use Rattle.std.proofs.Common.{arith, ◌≡◌, Bool, true, false, if◌then◌else◌, List, [], ◌∷◌, ◌++◌, refl}
use Rattle.std.specs.List.{AllPairs, fold}
use Rattle.std.proofs.lemmas.List.Quantifiers.{all_pairs_push}
use Rattle.base_words.proofs.Positions.{none_at}
use Rattle.smps_stoch.specs.StochFacts.{AreOfTwoPlaces}
use Rattle.stoch_lines.specs.declared.places.StochEntry.{StochEntry}
use Rattle.scenario_lists.specs.Distinct.{first_of_each, has_place, is_of, with_entry}

-- one more entry
push_apart : (kept : List StochEntry) (e : StochEntry) (b : Bool) → has_place kept e.place ≡ b → AllPairs AreOfTwoPlaces kept → AllPairs AreOfTwoPlaces (if b then kept else kept ++ e ∷ [])
push_apart kept e true said h = h
push_apart kept e false said h = all_pairs_push AreOfTwoPlaces kept e h (none_at (is_of e.place) kept said)

fold_apart : (kept entries : List StochEntry) → AllPairs AreOfTwoPlaces kept → AllPairs AreOfTwoPlaces (fold with_entry kept entries)
fold_apart kept [] h = h
fold_apart kept (e ∷ entries) h = fold_apart (with_entry kept e) entries (push_apart kept e (has_place kept e.place) refl h)

pub apart : (entries : List StochEntry) → AllPairs AreOfTwoPlaces (first_of_each entries)
unfolding first_of_each
apart entries = fold_apart [] entries (λ i j d before lt. absurd (omega arith))
