-- One more entry, and its place at hand.
use Rattle.std.proofs.Common.{refl, sym, ap, ◌∙◌, ◌≡◌, Bool, true, false, cond, ◌||◌, List, [], ◌∷◌, ◌++◌, Option, Some}
use Rattle.std.specs.List.{list_any}
use Rattle.std.specs.Option.{is_some}
use Rattle.indexmap.specs.IndexMap.{IndexMap, get, Updates}
use Rattle.base_words.proofs.Booleans.{or_true, or_false}
use Rattle.stoch_lines.specs.Places.{same_place}
use Rattle.stoch_lines.specs.declared.places.StochEntry.{StochEntry}
use Rattle.stoch_lines.specs.declared.places.StochPlace.{StochPlace}
use Rattle.scenario_lists.specs.Distinct.{has_place, is_of}
use Rattle.scenario_lists.specs.Kept.{ArePlaces}

any_push : (p : StochEntry → Bool) (xs : List StochEntry) (x : StochEntry) → list_any p (xs ++ x ∷ []) ≡ (list_any p xs || p x)
any_push p [] x = or_false (p x)
any_push p (y ∷ xs) x = by_head (p y) (any_push p xs x)
  where
    by_head : (b : Bool) → list_any p (xs ++ x ∷ []) ≡ (list_any p xs || p x) → (b || list_any p (xs ++ x ∷ [])) ≡ ((b || list_any p xs) || p x)
    by_head true r = refl
    by_head false r = r

place_pushed : {V : Type 0} (b : Bool) (v : V) (o : Option V) (old : Bool) → is_some o ≡ old → is_some (cond b (Some v) o) ≡ (old || b)
place_pushed true v o old h = sym (or_true old)
place_pushed false v o old h = h ∙ sym (or_false old)

pub places_push : {V S : Type 0} (places after : IndexMap StochPlace V S) (items : List StochEntry) (entry : StochEntry) (v : V) → ArePlaces places items → Updates same_place places after entry.place (Some v) → ArePlaces after (items ++ entry ∷ [])
places_push places after items entry v before updates place =
    ap is_some (updates.0 place)
    ∙ (place_pushed (same_place entry.place place) v (get same_place places place) (has_place items place) (before place)
    ∙ sym (any_push (is_of place) items entry))
