-- The answers of a spoke are no more than the puts, and those that aren't marked are those that weren't taken.

use Rattle.std.proofs.Common.{arith, refl, sym, ap, ◌∙◌, ◌≡◌, ℕ, zero, suc, ◌+◌, ◌*◌, ◌<◌, ◌≤◌, Bool, true, false, List, [], ◌∷◌, ◌++◌, length, take, get_or, ℤ, Option, Some, None, if◌then◌else◌, append-nil}
use Rattle.std.proofs.lemmas.List.{append_assoc, length-append, length-take, take_more}
use Rattle.std.proofs.Math.Nat.{suc-mul}
use Rattle.std.proofs.lemmas.List.Elements.{recursion_from_All}
use Rattle.std.specs.List.{AllByRecursion, cons_option, filter_map}
use Rattle.sp_model.specs.declared.run.Run.{Run}
use Rattle.log_words.specs.declared.log.Answer.{Answer}
use Rattle.log_words.specs.declared.log.Answer.TheVariants.{Reply, Skip}
use Rattle.log_words.specs.declared.log.SpokeLog.{SpokeLog}
use Rattle.lagrangian_spoke.specs.Answering.{AreAnswers, IsAnswer, IsPut, put_in}
use Rattle.run_log.specs.Runs.{left_from, left_in}
use Rattle.run_log.specs.declared.log.Event.{Event}
use Rattle.run_log.specs.declared.log.Source.TheVariants.{Spoke}
use Rattle.log_closing.specs.Closings.{HasPlace, HasPlaces, left_behind, left_by}
use Rattle.log_closing.specs.Marks.{AreMarked, mark_of, puts_of, spokes_of}
use Rattle.log_closing.proofs.Advancing.{given_few}

-- a reply that is marked isn't left, and one that isn't is
pub left_marked : (most : ℕ) (marks : List Bool) (i k : ℕ) (value : Option ℤ) → mark_of most marks i k ≡ true → left_by most marks i (Reply k value) ≡ None
left_marked most marks i k value e = ap (λ b. if b then None else Some record { source = Spoke i; put = k; value = value }) e

pub left_unmarked : (most : ℕ) (marks : List Bool) (i k : ℕ) (value : Option ℤ) → mark_of most marks i k ≡ false → left_by most marks i (Reply k value) ≡ Some record { source = Spoke i; put = k; value = value }
left_unmarked most marks i k value e = ap (λ b. if b then None else Some record { source = Spoke i; put = k; value = value }) e

-- the put of an answer is one that the run may make
pub answer_put : (run : Run) (i : ℕ) (a : Answer) → IsAnswer run i a → IsPut run (put_in a)
answer_put run i (Reply k value) is = is.0
answer_put run i (Skip k s opened) is = is.0

-- the answers rise at least one put each
rises : (run : Run) (i : ℕ) (answers : List Answer) (d : Answer) (n : ℕ) → AreAnswers run i answers → n < length answers → n < put_in (get_or answers n d)
rises run i answers d zero are l =
    let some : 1 ≤ put_in (get_or answers 0 d) = (answer_put run i (get_or answers 0 d) (are.right 0 d l)).first in
    omega arith
rises run i answers d (suc n) are l =
    let before : n < put_in (get_or answers n d) = rises run i answers d n are (omega arith) in
    let more : put_in (get_or answers n d) < put_in (get_or answers (suc n) d) = are.rising n (suc n) d (omega arith) l in
    omega arith

pub answers_few : (run : Run) (i : ℕ) (answers : List Answer) → AreAnswers run i answers → length answers ≤ puts_of run
answers_few run i [] are = omega arith
answers_few run i (a ∷ answers) are =
    let last : length answers < length (a ∷ answers) = omega arith in
    let high : length answers < put_in (get_or (a ∷ answers) (length answers) a) = rises run i (a ∷ answers) a (length answers) are last in
    let most : put_in (get_or (a ∷ answers) (length answers) a) ≤ puts_of run = (answer_put run i (get_or (a ∷ answers) (length answers) a) (are.right (length answers) a last)).last in
    omega arith

pub answer_place : (run : Run) (most i : ℕ) (a : Answer) → most ≡ puts_of run → IsAnswer run i a → HasPlace most a
answer_place run most i (Reply k value) is a = let l = a.0.last in omega (arith, is, l)
answer_place run most i (Skip k s opened) is a = tt

pub answers_places : (run : Run) (most i : ℕ) (log : SpokeLog) → most ≡ puts_of run → AreAnswers run i log.answers → HasPlaces most log
answers_places run most i log is are = record {
  each = λ n d l. answer_place run most i (get_or log.answers n d) is (are.right n d l);
  few = omega (arith, answers_few run i log.answers are, is);
}

module _ (run : Run) (most : ℕ) (marks : List Bool) (events : List Event) (marked : AreMarked run most marks events) where
  -- an answer that isn't marked wasn't taken
  left_same : (i : ℕ) (a : Answer) → i < spokes_of run → HasPlace most a → left_by most marks i a ≡ left_in events i a
  left_same i (Reply k value) l h = ap (λ b. if b then None else Some record { source = Spoke i; put = k; value = value }) (marked.each i k l h)
  left_same i (Skip k s opened) l h = refl

  left_answers : (i : ℕ) (answers : List Answer) → i < spokes_of run → AllByRecursion (HasPlace most) answers → filter_map (left_by most marks i) answers ≡ filter_map (left_in events i) answers
  left_answers i [] l h = refl
  left_answers i (a ∷ answers) l h = ap (λ o. cons_option o (filter_map (left_by most marks i) answers)) (left_same i a l h.0) ∙ ap (cons_option (left_in events i a)) (left_answers i answers l h.1)

  pub left_are : (i : ℕ) (logs : List SpokeLog) → i + length logs ≤ spokes_of run → AllByRecursion (HasPlaces most) logs → left_behind most marks i logs ≡ left_from events i logs
  left_are i [] l h = refl
  left_are i (log ∷ logs) l h =
      ap (λ xs. xs ++ left_behind most marks (i + 1) logs) (left_answers i log.answers (omega arith) (recursion_from_All (HasPlace most) log.answers h.0.each))
      ∙ ap (λ xs. filter_map (left_in events i) log.answers ++ xs) (left_are (i + 1) logs (omega arith) h.1)

-- those of one spoke more
pub left_append : (most : ℕ) (marks : List Bool) (i : ℕ) (logs : List SpokeLog) (log : SpokeLog) → left_behind most marks i (logs ++ log ∷ []) ≡ left_behind most marks i logs ++ filter_map (left_by most marks (i + length logs)) log.answers
left_append most marks i [] log =
    let here : i + 0 ≡ i = omega arith in
    append-nil (filter_map (left_by most marks i) log.answers) ∙ ap (λ n. filter_map (left_by most marks n) log.answers) (sym here)
left_append most marks i (first ∷ logs) log =
    let own = filter_map (left_by most marks i) first.answers in
    let here : i + 1 + length logs ≡ i + length (first ∷ logs) = omega arith in
    ap (λ xs. own ++ xs) (left_append most marks (i + 1) logs log)
    ∙ (sym (append_assoc own (left_behind most marks (i + 1) logs) (filter_map (left_by most marks (i + 1 + length logs)) log.answers))
    ∙ ap (λ n. (own ++ left_behind most marks (i + 1) logs) ++ filter_map (left_by most marks n) log.answers) here)

pub left_more : (most : ℕ) (marks : List Bool) (logs : List SpokeLog) (n : ℕ) (log : SpokeLog) → n < length logs → get_or logs n log ≡ log → left_behind most marks 0 (take (n + 1) logs) ≡ left_behind most marks 0 (take n logs) ++ filter_map (left_by most marks n) log.answers
left_more most marks logs n log l is =
    let long : 0 + length (take n logs) ≡ n = omega (arith, length-take n logs) in
    ap (left_behind most marks 0) (take_more logs n log l ∙ ap (λ x. take n logs ++ x ∷ []) is)
    ∙ (left_append most marks 0 (take n logs) log
    ∙ ap (λ m. left_behind most marks 0 (take n logs) ++ filter_map (left_by most marks m) log.answers) long)

-- they are no more than there are puts for each spoke
pub left_few : (most : ℕ) (marks : List Bool) (i : ℕ) (logs : List SpokeLog) → AllByRecursion (HasPlaces most) logs → length (left_behind most marks i logs) ≤ length logs * most
left_few most marks i [] h = omega arith
left_few most marks i (log ∷ logs) h =
    let own = filter_map (left_by most marks i) log.answers in
    let rest = left_behind most marks (i + 1) logs in
    let long : length (own ++ rest) ≡ length own + length rest = length-append own rest in
    let few : length own ≤ length log.answers = given_few (left_by most marks i) log.answers in
    let front : length log.answers ≤ most = h.0.few in
    let more : length (log ∷ logs) * most ≡ length logs * most + most = suc-mul (length logs) most in
    omega (arith, long, few, front, more, left_few most marks (i + 1) logs h.1)
