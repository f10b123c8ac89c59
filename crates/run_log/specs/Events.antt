-- What the events of a run say so far: the puts, the takes and the pair of bounds.

use Rattle.std.specs.Prelude.{◌≡◌, ℕ, ◌+◌, ◌<◌, ◌≤◌, nat_eq, Bool, false, ◌&&◌, List, [], ◌∷◌, ◌++◌, take, slice_get, ℤ, Option, Some, None, if◌then◌else◌}
use Rattle.std.specs.List.{filter_map, fold, list_any}
use Rattle.bound_ledger.specs.Pairs.{pair_after}
use Rattle.bound_ledger.specs.declared.ledger.Bound.{Bound}
use Rattle.bound_ledger.specs.declared.ledger.Bound.TheVariants.{Lower, Upper, Nothing}
use Rattle.bound_ledger.specs.declared.ledger.Pair.{Pair}
use Rattle.run_log.specs.declared.log.Event.{Event}
use Rattle.run_log.specs.declared.log.Event.TheVariants.{Put, Take}
use Rattle.run_log.specs.declared.log.Source.{Source}
use Rattle.run_log.specs.declared.log.Source.TheVariants.{Hub, Spoke}

-- each event stands in a relation to those before it
abbrev pub EachBehind : (List Event → Event → Type 0) → List Event → Type 0
EachBehind R events =
    (n : ℕ) (event : Event) → slice_get events n ≡ Some event → R (take n events) event

-- the number of the present put, and 0 before any
abbrev pub present_with : ℕ → Event → ℕ
present_with n (Put k) = k
present_with n (Take source k value lower upper) = n

abbrev pub present : List Event → ℕ
present events = fold present_with 0 events

-- the first spoke that may be asked behind a reply
abbrev pub behind : ℕ → Source → ℕ
behind n Hub = n
behind n (Spoke i) = i + 1

-- the first spoke that may still be asked in a polling: all of them behind a put, and then those
-- behind the last whose reply was taken
abbrev pub next_with : ℕ → Event → ℕ
next_with n (Put k) = 0
next_with n (Take source k value lower upper) = behind n source

abbrev pub next_spoke : List Event → ℕ
next_spoke events = fold next_with 0 events

-- whether a reply is one of spoke i
abbrev pub is_from : ℕ → Source → Bool
is_from i Hub = false
is_from i (Spoke j) = nat_eq j i

-- the put of the last reply of spoke i that was taken, and 0 before any
abbrev pub last_with : ℕ → ℕ → Event → ℕ
last_with i n (Put k) = n
last_with i n (Take source k value lower upper) = if is_from i source then k else n

abbrev pub last_taken : ℕ → List Event → ℕ
last_taken i events = fold (last_with i) 0 events

-- what a reply bounds: a spoke's, which is Lagrangian, the optimum from below, and the hub's own
-- from above
abbrev pub bound_from : Source → Option ℤ → Bound
bound_from source None = Nothing
bound_from Hub (Some value) = Upper value
bound_from (Spoke i) (Some value) = Lower value

-- the bound of a take; none of a put
abbrev pub bound_in : Event → Option Bound
bound_in (Put k) = None
bound_in (Take source k value lower upper) = Some (bound_from source value)

-- the bounds of the takes, in order
abbrev pub bounds_of : List Event → List Bound
bounds_of events = filter_map bound_in events

-- the pair that some events reach behind a first lower bound
abbrev pub pair_in : ℤ → List Event → Pair
pair_in first events = pair_after first (bounds_of events)

-- a take tells the pair that the takes up to it reach
abbrev pub HasPair : ℤ → List Event → Event → Type 0
HasPair first before (Put k) = Unit {0}
HasPair first before (Take source k value lower upper) =
    (record { lower = lower; upper = upper })
    ≡ pair_after first (bounds_of before ++ bound_from source value ∷ [])

-- a reply of spoke i to put k may be the next take of a polling: the put was made, each spoke is
-- asked once and in order, and no reply is taken twice or behind a newer one
pub record MayTake (before : List Event) (i k : ℕ) : Type 0 where
  pub made : k ≤ present before
  pub order : next_spoke before ≤ i
  pub newer : last_taken i before < k

-- whether an event is the take of spoke i's reply to put k
abbrev pub takes : ℕ → ℕ → Event → Bool
takes i k (Put m) = false
takes i k (Take source m value lower upper) = is_from i source && nat_eq m k

-- whether spoke i's reply to put k was taken
abbrev pub is_taken : List Event → ℕ → ℕ → Bool
is_taken events i k = list_any (takes i k) events
