-- The turns of an accepted file are those of a crew, and have few enough steps together.
use Rattle.std.proofs.Common.{◌≡◌, refl, ap, ◌∙◌, subst, ℕ, ◌+◌, ◌-◌, ◌<◌, ◌≤◌, Bool, true, false, ◌&&◌, List, [], ◌∷◌, ◌++◌, length, ◌==◌, arith, if◌then◌else◌}
use Rattle.std.specs.Prelude.{nat_lt, Option, Some, None, Result, Ok, Err}
use Rattle.std.specs.Option.{option_and_then, option_map_or, option_to_list}
use Rattle.std.specs.Result.{result_map_both, result_ok}
use Rattle.std.proofs.lemmas.List.Elements.{All-push}
use Rattle.std.proofs.lemmas.List.Sums.{fold_push}
use Rattle.std.proofs.lemmas.Bool.Decides.{nat_tests}
use Rattle.schedule_lines.specs.TurnWords.{actor_of, count_of, count_text, head_of, is_within, max_count, numeral_of, place_of, turn_of, turn_with}
use Rattle.schedule_lines.specs.Schedules.{IsScheduleOf, IsThere, IsTurnOf, LineWord, limited, max_sum, steps_in, turn_behind}
use Rattle.schedule_lines.specs.ReadingSteps.{IsCounted, said_behind, unless_fault}
use Rattle.schedule_lines.specs.declared.schedule.Actor.{Actor}
use Rattle.schedule_lines.specs.declared.schedule.Actor.TheVariants.{Hub, Rank, Spoke}
use Rattle.schedule_lines.specs.declared.schedule.Crew.{Crew}
use Rattle.schedule_lines.specs.declared.schedule.Turn.{Turn}
use Rattle.schedule_lines.specs.declared.schedule_fault.ScheduleKind.{ScheduleKind}
use Rattle.schedule_lines.specs.declared.schedule_fault.ScheduleKind.TheVariants as kinds
use Rattle.schedule_lines.proofs.Telling.{unlimited}

-- a number from 1 up to a greatest one, less one
less_one : (most number x : ℕ) → is_within most number ≡ true → x ≡ number - 1 → x < most
less_one most number x within is = grind (arith, nat_tests)

place_in : (within : Bool) (most number x : ℕ) → is_within most number ≡ within → (if within then Ok (number - 1) else Err kinds.Actor) ≡ Ok x → x < most
place_in true most number x is place = less_one most number x is cc
place_in false most number x is place = absurd cc

place_by : (o : Option ℕ) (most x : ℕ) → option_map_or (λ number. if is_within most number then Ok (number - 1) else Err kinds.Actor) o (Err kinds.Word) ≡ Ok x → x < most
place_by None most x place = absurd cc
place_by (Some number) most x place = place_in (is_within most number) most number x refl place

rank_there : (crew : Crew) (r : Result ℕ ScheduleKind) (actor : Actor) → ((x : ℕ) → r ≡ Ok x → x < crew.ranks) → result_map_both Rank (λ fault. fault) r ≡ Ok actor → IsThere crew actor
rank_there crew (Ok x) actor low is =
    let same : Rank x ≡ actor = cc in
    subst (λ (a : Actor). IsThere crew a) same (low x refl)
rank_there crew (Err kind) actor low is = absurd cc

spoke_there : (crew : Crew) (r : Result ℕ ScheduleKind) (actor : Actor) → ((x : ℕ) → r ≡ Ok x → x < crew.spokes) → result_map_both Spoke (λ fault. fault) r ≡ Ok actor → IsThere crew actor
spoke_there crew (Ok x) actor low is =
    let same : Spoke x ≡ actor = cc in
    subst (λ (a : Actor). IsThere crew a) same (low x refl)
spoke_there crew (Err kind) actor low is = absurd cc

-- by the letter of the head
actor_by : (crew : Crew) (number : List ℕ) (hub rank spoke : Bool) (actor : Actor) → (if hub then Ok Hub else (if rank then result_map_both Rank (λ fault. fault) (place_of crew.ranks number) else (if spoke then result_map_both Spoke (λ fault. fault) (place_of crew.spokes number) else Err kinds.Word))) ≡ Ok actor → IsThere crew actor
actor_by crew number true rank spoke actor is =
    let same : Hub ≡ actor = cc in
    subst (λ (a : Actor). IsThere crew a) same tt
actor_by crew number false true spoke actor is = rank_there crew (place_of crew.ranks number) actor (λ x place. place_by (numeral_of number) crew.ranks x place) is
actor_by crew number false false true actor is = spoke_there crew (place_of crew.spokes number) actor (λ x place. place_by (numeral_of number) crew.spokes x place) is
actor_by crew number false false false actor is = absurd cc

actor_there : (crew : Crew) (head : List ℕ) (actor : Actor) → actor_of crew head ≡ Ok actor → IsThere crew actor
actor_there crew [] actor is = absurd cc
actor_there crew (letter ∷ number) actor is = actor_by crew number ((letter == 104) && (length number == 0)) (letter == 114) (letter == 115) actor is

count_within : (within : Bool) (number x : ℕ) → is_within max_count number ≡ within → (if within then Some number else None) ≡ Some x → (1 ≤ x) × (x ≤ max_count)
count_within true number x is count =
    let same : number ≡ x = cc in
    (grind (arith, nat_tests), grind (arith, nat_tests))
count_within false number x is count = absurd cc

count_by : (o : Option ℕ) (x : ℕ) → option_and_then (λ number. if is_within max_count number then Some number else None) o ≡ Some x → (1 ≤ x) × (x ≤ max_count)
count_by None x count = absurd cc
count_by (Some number) x count = count_within (is_within max_count number) number x refl count

count_there : (o : Option (List ℕ)) (x : ℕ) → count_of o ≡ Some x → (1 ≤ x) × (x ≤ max_count)
count_there None x count =
    let same : 1 ≡ x = cc in
    (omega arith, omega arith)
count_there (Some text) x count = count_by (numeral_of text) x count

turn_by : (crew : Crew) (a : Result Actor ScheduleKind) (c : Option ℕ) (turn : Turn) → ((actor : Actor) → a ≡ Ok actor → IsThere crew actor) → ((x : ℕ) → c ≡ Some x → (1 ≤ x) × (x ≤ max_count)) → turn_with a c ≡ Ok turn → IsTurnOf crew turn
turn_by crew (Ok actor) (Some count) turn there small is =
    let same : (record { actor = actor; count = count }) ≡ turn = cc in
    let range = small count refl in
    subst (λ (t : Turn). IsTurnOf crew t) same (record { there = there actor refl; some = range.0; few = range.1 })
turn_by crew (Err kind) (Some count) turn there small is = absurd cc
turn_by crew a None turn there small is = absurd cc

-- the turn of a word
turn_there : (crew : Crew) (word : List ℕ) (turn : Turn) → turn_of crew word ≡ Ok turn → IsTurnOf crew turn
turn_there crew word turn is = turn_by crew (actor_of crew (head_of word)) (count_of (count_text word)) turn (actor_there crew (head_of word)) (count_there (count_text word)) is

few_by : (over : Bool) (sum : ℕ) (turn new : Turn) → nat_lt max_sum sum ≡ over → (if over then Err kinds.Limit else Ok turn) ≡ Ok new → sum ≤ max_sum
few_by true sum turn new is answer = absurd cc
few_by false sum turn new is answer = grind (arith, nat_tests)

few_more : (before : ℕ) (r : Result Turn ScheduleKind) (turn : Turn) → limited before r ≡ Ok turn → before + turn.count ≤ max_sum
few_more before (Err kind) turn is = absurd cc
few_more before (Ok one) turn is =
    let same_turn : Ok one ≡ Ok turn = unlimited before (Ok one) turn is in
    let same : one ≡ turn = cc in
    subst (λ (t : Turn). before + t.count ≤ max_sum) same (few_by (nat_lt max_sum (before + one.count)) (before + one.count) one turn refl is)

-- turns with one more
schedule_more : (crew : Crew) (turns : List Turn) (word : List ℕ) (turn : Turn) → IsScheduleOf crew turns → turn_behind crew turns word ≡ Ok turn → IsScheduleOf crew (turns ++ turn ∷ [])
schedule_more crew turns word turn schedule is =
    let sum : steps_in (turns ++ turn ∷ []) ≡ steps_in turns + turn.count = fold_push (λ (a : ℕ) (t : Turn). a + t.count) 0 turns turn in
    record {
      each = All-push (IsTurnOf crew) turns turn schedule.each (turn_there crew word turn (unlimited (steps_in turns) (turn_of crew word) turn is));
      few = omega (arith, sum, few_more (steps_in turns) (turn_of crew word) turn is);
    }

-- the total with that of one more turn
pub counted_more : (crew : Crew) (turns new : List Turn) (total added : ℕ) (word : List ℕ) (turn : Turn) → total ≡ steps_in turns → turn_behind crew turns word ≡ Ok turn → new ≡ turns ++ turn ∷ [] → added ≡ turn.count → IsCounted (record { turns = new; total = total + added })
counted_more crew turns new total added word turn counted is pushed by =
    let sum : steps_in new ≡ steps_in turns + turn.count = ap steps_in pushed ∙ fold_push (λ (a : ℕ) (t : Turn). a + t.count) 0 turns turn in
    let few = few_more (steps_in turns) (turn_of crew word) turn is in
    record { total = omega (arith, sum, counted, by); few = omega (arith, counted, by, few) }

each_word : (crew : Crew) (turns : List Turn) (word : LineWord) (r : Result Turn ScheduleKind) (later : Result (List Turn) (ℕ × ScheduleKind)) (all : List Turn) → IsScheduleOf crew turns → turn_behind crew turns word.text ≡ r → (IsScheduleOf crew (turns ++ option_to_list (result_ok r)) → later ≡ Ok all → IsScheduleOf crew all) → unless_fault word.line r later ≡ Ok all → IsScheduleOf crew all
each_word crew turns word (Ok turn) later all schedule is step said = step (schedule_more crew turns word.text turn schedule is) said
each_word crew turns word (Err kind) later all schedule is step said = absurd cc

within_behind : (crew : Crew) (turns : List Turn) (words : List LineWord) (all : List Turn) → IsScheduleOf crew turns → said_behind crew turns words ≡ Ok all → IsScheduleOf crew all
within_behind crew turns [] all schedule said =
    let same : turns ≡ all = cc in
    subst (λ (t : List Turn). IsScheduleOf crew t) same schedule
within_behind crew turns (word ∷ words) all schedule said =
    let r = turn_behind crew turns word.text in
    each_word crew turns word r (said_behind crew (turns ++ option_to_list (result_ok r)) words) all schedule refl (λ more later. within_behind crew (turns ++ option_to_list (result_ok r)) words all more later) said

-- the turns that words say from the first one on
pub within : (crew : Crew) (words : List LineWord) (all : List Turn) → said_behind crew [] words ≡ Ok all → IsScheduleOf crew all
within crew words all said = within_behind crew [] words all (record { each = λ k d lt. absurd (omega (arith, lt)); few = omega arith }) said
