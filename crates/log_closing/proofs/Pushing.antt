-- What events say with one event more.

use Rattle.std.proofs.Common.{arith, refl, sym, ap, subst, ◌∙◌, ◌≡◌, ℕ, ◌+◌, ◌<◌, nat_lt, Bool, true, false, ◌||◌, List, [], ◌∷◌, ◌++◌, length, take, get_or, slice_get, ℤ, Option, Some, append-nil}
use Rattle.std.proofs.lemmas.List.{get_or_append_left, length-append, take-append-le}
use Rattle.std.proofs.lemmas.List.Elements.{filter_map-append}
use Rattle.std.proofs.lemmas.List.Folds.{list_any-append}
use Rattle.std.proofs.lemmas.List.Sums.{fold-append}
use Rattle.std.proofs.lemmas.Option.{get_or_from_slice_get, slice_get-get_or, slice_get_within}
use Rattle.std.proofs.Math.Seq.{get_or-append_seam, take-append_seam}
use Rattle.base_words.proofs.NumberTests.{less_from_test, not_less_from_test}
use Rattle.run_log.specs.Events.{EachBehind, bound_from, bound_in, bounds_of, is_taken, last_taken, last_with, next_spoke, next_with, present, present_with, takes}
use Rattle.run_log.specs.declared.log.Event.{Event}
use Rattle.run_log.specs.declared.log.Event.TheVariants.{Put, Take}
use Rattle.run_log.specs.declared.log.Source.{Source}

-- each event stands in its relation, with one more that does
pub behind_more : (R : List Event → Event → Type 0) (events : List Event) (event : Event) → EachBehind R events → R events event → EachBehind R (events ++ event ∷ [])
behind_more R events event old own n e at =
    let within : n < length events + 1 = omega (arith, slice_get_within (events ++ event ∷ []) n e at, length-append events (event ∷ [])) in
    by_place (nat_lt n (length events)) refl within (get_or_from_slice_get (events ++ event ∷ []) n e e at)
  where
    by_place : (b : Bool) → nat_lt n (length events) ≡ b → n < length events + 1 → get_or (events ++ event ∷ []) n e ≡ e → R (take n (events ++ event ∷ [])) e
    by_place true p w g =
        let l = less_from_test n (length events) p in
        let here : slice_get events n ≡ Some e = slice_get-get_or events n e l ∙ ap Some (sym (get_or_append_left events (event ∷ []) e n l) ∙ g) in
        subst (λ xs. R xs e) (sym (take-append-le n events (event ∷ []) (omega arith))) (old n e here)
    by_place false p w g =
        let same : n ≡ length events = omega (arith, not_less_from_test n (length events) p) in
        let is : event ≡ e = sym (get_or-append_seam events event [] e) ∙ (ap (λ k. get_or (events ++ event ∷ []) k e) (sym same) ∙ g) in
        subst (λ xs. R xs e) (sym (ap (λ k. take k (events ++ event ∷ [])) same ∙ take-append_seam events (event ∷ []))) (subst (λ x. R events x) is own)

-- no event yet
pub behind_none : (R : List Event → Event → Type 0) → EachBehind R []
behind_none R n e at = absurd (let l = slice_get_within [] n e at in omega arith)

module _ (events : List Event) (event : Event) where
  pub present_more : present (events ++ event ∷ []) ≡ present_with (present events) event
  present_more = fold-append present_with 0 events (event ∷ [])

  pub next_more : next_spoke (events ++ event ∷ []) ≡ next_with (next_spoke events) event
  next_more = fold-append next_with 0 events (event ∷ [])

  pub last_more : (i : ℕ) → last_taken i (events ++ event ∷ []) ≡ last_with i (last_taken i events) event
  last_more i = fold-append (last_with i) 0 events (event ∷ [])

  pub length_more : length (events ++ event ∷ []) ≡ length events + 1
  length_more = length-append events (event ∷ [])

  pub taken_more : (i k : ℕ) → is_taken (events ++ event ∷ []) i k ≡ (is_taken events i k || (takes i k event || false))
  taken_more i k = list_any-append (takes i k) events (event ∷ [])

pub bounds_put : (events : List Event) (k : ℕ) → bounds_of (events ++ Put k ∷ []) ≡ bounds_of events
bounds_put events k = filter_map-append bound_in events (Put k ∷ []) ∙ append-nil (bounds_of events)

pub bounds_take : (events : List Event) (source : Source) (k : ℕ) (value : Option ℤ) (lower : ℤ) (upper : Option ℤ) → bounds_of (events ++ Take source k value lower upper ∷ []) ≡ bounds_of events ++ bound_from source value ∷ []
bounds_take events source k value lower upper = filter_map-append bound_in events (Take source k value lower upper ∷ [])
