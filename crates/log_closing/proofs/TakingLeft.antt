-- What is left of one spoke more, and that there is room for it.

use Rattle.std.proofs.Common.{arith, ap, ◌≡◌, ℕ, suc, ◌+◌, ◌*◌, ◌<◌, ◌≤◌, Bool, List, ◌++◌, length, take, get_or, All, subst}
use Rattle.std.proofs.lemmas.List.{get_or-map, length-map, length-take, take_all}
use Rattle.std.proofs.lemmas.List.Elements.{All-take, recursion_from_All}
use Rattle.std.proofs.Math.Nat.{mul-le-mul_right, suc-mul}
use Rattle.std.specs.List.{filter_map}
use Rattle.log_words.specs.declared.log.SpokeEnd.{SpokeEnd}
use Rattle.log_words.specs.declared.log.SpokeLog.{SpokeLog}
use Rattle.log_closing.specs.Closings.{HasPlaces, answers_at, left_behind, left_by, logs_of, no_end}
use Rattle.log_closing.proofs.Leaving.{left_few, left_more}
use Rattle.log_closing.proofs.Marking.{mark_there}

logs_many : (ends : List SpokeEnd) → length (logs_of ends) ≡ length ends
logs_many ends = length-map ends (λ (e : SpokeEnd). e.log)

module _ (most : ℕ) (marks : List Bool) (ends : List SpokeEnd) (n : ℕ) (l : n < length ends) where
  abbrev log : SpokeLog
  log = (get_or ends n no_end).log

  within : n < length (logs_of ends)
  within = omega (arith, l, logs_many ends)

  here : get_or (logs_of ends) n log ≡ log
  here = get_or-map (λ (e : SpokeEnd). e.log) ends n no_end log l

  pub places_here : All (HasPlaces most) (logs_of ends) → HasPlaces most log
  places_here places = subst (λ (x : SpokeLog). HasPlaces most x) here (places n log within)

  pub left_next : left_behind most marks 0 (take (n + 1) (logs_of ends)) ≡ left_behind most marks 0 (take n (logs_of ends)) ++ filter_map (left_by most marks n) (answers_at ends n)
  left_next = left_more most marks (logs_of ends) n log within here

  pub row_there : length marks ≡ length ends * (most + 1) → n * (most + 1) + most < length marks
  row_there long =
      let m : n * (most + 1) + most < length ends * (most + 1) = mark_there (length ends) (most + 1) n most l (omega arith) in
      omega (arith, long, m)

  pub room_here : (spare spare' : ℕ) → All (HasPlaces most) (logs_of ends) → spare' + length (left_behind most marks 0 (take n (logs_of ends))) ≡ spare → length ends * most ≤ spare → length (answers_at ends n) ≤ spare'
  room_here spare spare' places is room =
      let front = take n (logs_of ends) in
      let short : length front ≡ n = omega (arith, length-take n (logs_of ends), within) in
      let few : length (left_behind most marks 0 front) ≤ length front * most = left_few most marks 0 front (recursion_from_All (HasPlaces most) front (All-take (HasPlaces most) n (logs_of ends) places)) in
      let same : length front * most ≡ n * most = ap (λ (k : ℕ). k * most) short in
      let above : suc n ≤ length ends = omega (arith, l) in
      let rows : suc n * most ≤ length ends * most = mul-le-mul_right most above in
      let own : length (answers_at ends n) ≤ most = (places_here places).few in
      omega (arith, is, room, few, same, rows, own, suc-mul n most)

-- those of all spokes
pub left_all : (most : ℕ) (marks : List Bool) (ends : List SpokeEnd) (n : ℕ) → length ends ≤ n → left_behind most marks 0 (take n (logs_of ends)) ≡ left_behind most marks 0 (logs_of ends)
left_all most marks ends n l = ap (left_behind most marks 0) (take_all n (logs_of ends) (omega (arith, l, logs_many ends)))
