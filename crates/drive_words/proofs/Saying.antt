-- What the answers of spokes, and why a run has ended, say of the searches that were spent.

use Rattle.std.proofs.Common.{arith, refl, sym, ap, subst, ◌∙◌, ◌≡◌, ◌≢◌, ℕ, ◌-◌, ◌<◌, ◌≤◌, nat_eq, nat_lt, Bool, true, false, List, [], ◌∷◌, ◌++◌, length, get_or, map, take, ℤ, Option, Some, None, if◌then◌else◌}
use mathlib.Core.Logic.{dite}
use native.Mathlib.Decide.{ℕ_discrete}
use Rattle.std.specs.List.{All, AllPairs}
use Rattle.std.proofs.lemmas.List.{get_or_append_left, get_or_default, get_or-map, get_or-take, length-append, length-map, length-take}
use Rattle.std.proofs.lemmas.List.Elements.{recursion_from_All}
use Rattle.std.proofs.Math.Seq.{get_or-append_seam}
use Rattle.base_words.proofs.FirstAnswers.{first_some-at, first_some-none, same_some}
use Rattle.base_words.proofs.NumberTests.{less_from_test, not_less_from_test, test_from_less, test_from_not_less}
use Rattle.base_words.specs.FirstAnswers.{first_some}
use Rattle.lagrangian_spoke.specs.Answering.{IsAnswer, last_put, put_in}
use Rattle.log_words.specs.Replies.{reply_of}
use Rattle.log_words.specs.declared.log.Answer.{Answer}
use Rattle.log_words.specs.declared.log.Answer.TheVariants.{Reply, Skip}
use Rattle.sp_model.specs.declared.run.Run.{Run}
use Rattle.run_log.specs.declared.log.End.{End}
use Rattle.run_log.specs.declared.log.End.TheVariants.{Spent}
use Rattle.drive_words.specs.Driving.{finished, last_answer, next_of_end, skip_in, spent_end}
use Rattle.drive_words.specs.Leading.{SaysOf}

-- the puts of answers rise
abbrev pub HaveRisen : List Answer → Type 0
HaveRisen answers = AllPairs (λ a b. put_in a < put_in b) answers

test_other : (a b : ℕ) → (a ≡ b → ⊥) → nat_eq a b ≡ false
test_other a b off = grind arith

test_itself : (a : ℕ) → nat_eq a a ≡ true
test_itself a = grind arith

-- an answer to another put names no search of put k
other_none : (k : ℕ) (a : Answer) → put_in a ≢ k → skip_in k a ≡ None
other_none k (Reply m value) off = refl
other_none k (Skip m s opened) off = ap (λ t. if t then Some s else None) (test_other m k off)

skip_found : (k s opened : ℕ) → skip_in k (Skip k s opened) ≡ Some s
skip_found k s opened = ap (λ t. if t then Some s else None) (test_itself k)

module _ (answers : List Answer) (rising : HaveRisen answers) where
  -- an answer at another place is to another put
  apart : (i j : ℕ) (d : Answer) → i < length answers → j < length answers → j ≢ i → put_in (get_or answers j d) ≢ put_in (get_or answers i d)
  apart i j d l m off = apart_by (nat_lt j i) refl where
    apart_by : (t : Bool) → nat_lt j i ≡ t → put_in (get_or answers j d) ≢ put_in (get_or answers i d)
    apart_by true e = λ same. let r = rising j i d (less_from_test j i e) l in omega (arith, r, same)
    apart_by false e = λ same. let r = rising i j d (let n = not_less_from_test j i e in omega (arith, n, off)) m in omega (arith, r, same)

  -- where no answer names one
  none_named : (k : ℕ) → ((j : ℕ) (d : Answer) → j < length answers → skip_in k (get_or answers j d) ≡ None) → first_some (skip_in k) answers ≡ None
  none_named k all = first_some-none (skip_in k) answers (recursion_from_All (λ a. skip_in k a ≡ None) answers all)

  reply_says : (i : ℕ) (d : Answer) (k : ℕ) (value : Option ℤ) → i < length answers → get_or answers i d ≡ Reply k value → first_some (skip_in k) answers ≡ None
  reply_says i d k value l is = none_named k (λ j e m. dite (ℕ_discrete j i)
      (λ (same : j ≡ i). ap (skip_in k) (get_or_default answers j e d m ∙ (ap (λ n. get_or answers n d) same ∙ is)))
      (λ (off : j ≢ i). other_none k (get_or answers j e) (λ x. apart i j e l m off (x ∙ sym (ap put_in (get_or_default answers i e d l ∙ is))))))

  skip_says : (i : ℕ) (d : Answer) (k s opened : ℕ) → i < length answers → get_or answers i d ≡ Skip k s opened → first_some (skip_in k) answers ≡ Some s
  skip_says i d k s opened l is = first_some-at (skip_in k) answers i d s l front (ap (skip_in k) is ∙ skip_found k s opened) where
    front : first_some (skip_in k) (take i answers) ≡ None
    front = first_some-none (skip_in k) (take i answers) (recursion_from_All (λ a. skip_in k a ≡ None) (take i answers)
        (λ j e m. let n = length-take i answers in let small : j < i = omega (arith, m, n, l) in
        ap (skip_in k) (get_or-take i answers j e small) ∙ other_none k (get_or answers j e)
        (λ x. apart i j e l (omega (arith, small, l)) (λ same. omega (arith, small, same)) (x ∙ sym (ap put_in (get_or_default answers i e d l ∙ is))))))

  pub say_answers : All (SaysOf (λ k. first_some (skip_in k) answers)) answers
  say_answers i d l = say_by (get_or answers i d) refl where
    say_by : (a : Answer) → get_or answers i d ≡ a → SaysOf (λ k. first_some (skip_in k) answers) a
    say_by (Reply k value) is = reply_says i d k value l is
    say_by (Skip k s opened) is = skip_says i d k s opened l is

  -- no answer is to a put behind the last one
  none_later : (i : ℕ) (d : Answer) → i < length answers → put_in (get_or answers i d) ≤ last_put answers
  none_later i d l =
      let n = length-map answers put_in in
      let last : last_put answers ≡ put_in (get_or answers (length answers - 1) d) = get_or-map put_in answers (length (map put_in answers) - 1) d 0 (omega (arith, n, l)) ∙ ap (λ m. put_in (get_or answers (m - 1) d)) n in
      later_by last (nat_lt i (length answers - 1)) refl where
        later_by : last_put answers ≡ put_in (get_or answers (length answers - 1) d) → (t : Bool) → nat_lt i (length answers - 1) ≡ t → put_in (get_or answers i d) ≤ last_put answers
        later_by last true e = let r = rising i (length answers - 1) d (less_from_test i (length answers - 1) e) (omega (arith, l)) in omega (arith, r, last)
        later_by last false e = let n = not_less_from_test i (length answers - 1) e in let same : put_in (get_or answers i d) ≡ put_in (get_or answers (length answers - 1) d) = ap (λ m. put_in (get_or answers m d)) (let q : i ≡ length answers - 1 = omega (arith, n, l) in q) in omega (arith, same, last)

  pub say_newer : (k : ℕ) → last_put answers < k → first_some (skip_in k) answers ≡ None
  say_newer k newer = none_named k (λ j d l. other_none k (get_or answers j d) (λ same. let low = none_later j d l in omega (arith, low, newer, same)))

-- what is said of all answers is said of the first of them
pub say_front : (skips : ℕ → Option ℕ) (answers more : List Answer) → All (SaysOf skips) (answers ++ more) → All (SaysOf skips) answers
say_front skips answers more all = λ i d l. subst (SaysOf skips) (get_or_append_left answers more d i l) (all i d (let n = length-append answers more in omega (arith, l, n)))

say_last : (skips : ℕ → Option ℕ) (answers : List Answer) (a : Answer) → All (SaysOf skips) (answers ++ a ∷ []) → SaysOf skips a
say_last skips answers a all = subst (SaysOf skips) (get_or-append_seam answers a [] a) (all (length answers) a (let n = length-append answers (a ∷ []) in omega (arith, n)))

-- an answer to the last put, which wasn't answered before, is the one that the cuts give
last_by : (run : Run) (i p : ℕ) (spent : Option ℕ) (a : Answer) → IsAnswer run i a → put_in a ≡ p → SaysOf (λ k. spent) a → a ≡ last_answer run i p spent
last_by run i p spent (Reply k value) is same say = λ j. subst (λ (s : Option ℕ). Reply k value ≡ last_answer run i p s) (sym say) (reply_is run i k p value is.1 same) j where
  reply_is : (run : Run) (i k p : ℕ) (value : Option ℤ) → value ≡ reply_of run i k → k ≡ p → Reply k value ≡ Reply p (reply_of run i p)
  reply_is run i k p value v e = ap (Reply k) v ∙ ap (λ n. Reply n (reply_of run i n)) e
last_by run i p spent (Skip k s opened) is same say = λ j. subst (λ (x : Option ℕ). Skip k s opened ≡ last_answer run i p x) (sym say) (skip_is k p s opened (is.1).opened_is same) j where
  skip_is : (k p s opened : ℕ) → opened ≡ run.options.budget → k ≡ p → Skip k s opened ≡ Skip p s run.options.budget
  skip_is k p s opened o e = ap (Skip k s) o ∙ ap (λ n. Skip n s run.options.budget) e

pub finished_more : (run : Run) (i p : ℕ) (answers : List Answer) (a : Answer) → HaveRisen (answers ++ a ∷ []) → IsAnswer run i a → put_in a ≡ p → last_put answers < p → answers ++ a ∷ [] ≡ finished run p i (first_some (skip_in p) (answers ++ a ∷ [])) answers
finished_more run i p answers a rising is same newer =
    let all = answers ++ a ∷ [] in
    let spent = first_some (skip_in p) all in
    let say : SaysOf (λ k. first_some (skip_in k) all) a = say_last (λ k. first_some (skip_in k) all) answers a (say_answers all rising) in
    let last : a ≡ last_answer run i p spent = last_by run i p spent a is same (said a same say) in
    ap (λ (x : Answer). answers ++ x ∷ []) last ∙ sym (ap (λ t. if t then (answers ++ last_answer run i p spent ∷ []) else answers) (test_from_less (last_put answers) p newer)) where
      said : (x : Answer) → put_in x ≡ p → SaysOf (λ k. first_some (skip_in k) (answers ++ a ∷ [])) x → SaysOf (λ k. first_some (skip_in p) (answers ++ a ∷ [])) x
      said (Reply k value) e say = ap (λ n. first_some (skip_in n) (answers ++ a ∷ [])) (sym e) ∙ say
      said (Skip k s opened) e say = ap (λ n. first_some (skip_in n) (answers ++ a ∷ [])) (sym e) ∙ say

pub finished_same : (run : Run) (i p : ℕ) (spent : Option ℕ) (answers : List Answer) → p ≤ last_put answers → answers ≡ finished run p i spent answers
finished_same run i p spent answers late = sym (ap (λ t. if t then (answers ++ last_answer run i p spent ∷ []) else answers) (test_from_not_less (last_put answers) p late))

-- what the end says of the search for the put behind the last one
pub say_before : (p k : ℕ) (why : End) → k < p → next_of_end p why k ≡ None
say_before p k why l = ap (λ t. if t then spent_end why else None) (test_other k p (λ e. omega (arith, e, l)))

pub say_end : (p s : ℕ) (o : Option End) (why : End) → o ≡ Some why → o ≡ Some (Spent s) → next_of_end p why p ≡ Some s
say_end p s o why e f = ap (λ t. if t then spent_end why else None) (test_itself p) ∙ ap spent_end (same_some (sym e ∙ f))
