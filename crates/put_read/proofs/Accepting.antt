-- What a step of a reading leaves of the reader's facts, and of what the seat has accepted of the ranks.
use Rattle.std.proofs.Common.{arith, refl, sym, ap, ◌∙◌, subst, ◌≡◌, ℕ, ◌+◌, ◌/◌, ◌%◌, ◌<◌, nat_eq, nat_lt, Bool, true, false, List, [], ◌∷◌, length, get_or, set, Option, Some, None, if◌then◌else◌, get_or-set_other, get_or-set_same, length-set, ◌⊎◌, inl, inr}
use Rattle.std.proofs.Math.Nat.{eq-zero-or-pos}
use Rattle.std.proofs.lemmas.Bool.Decides.{nat_tests}
use mathlib.Core.Logic.{dite}
use native.Mathlib.Decide.{ℕ_discrete}
use Rattle.base_words.proofs.NumberTests.{less_from_test, not_less_from_test, test_from_less}
use Rattle.stamped_read.proofs.Standing.{fit_stamp}
use Rattle.std.proofs.lemmas.Bool.{eqb-true}
use Rattle.window_words.specs.Views.{add_once, after, ended, is_whole, last_of, with_accepted, with_reading}
use Rattle.window_words.specs.declared.views.View.{View}
use Rattle.window_words.specs.declared.views.Reading.{Reading}
use Rattle.window_words.specs.declared.views.Call.TheVariants as call
use Rattle.stamped_read.specs.declared.read.Again.{Again}
use Rattle.stamped_read.specs.Readers.{IsNewer, IsReader, Reader, begins, due, due_begun, emptied, ends, follows, is_more, longer_part, next, part, reads, restarted, unfit, window_of, words_of}
use Rattle.put_read.specs.Reads.{Accepts}

-- what a stamp that fits tells
fit_even : (r : Reader) (n : ℕ) → None ≡ unfit r n → n % 2 ≡ 0
fit_even r n e = grind (arith, nat_tests)

fit_first : (r : Reader) (n : ℕ) → None ≡ unfit r n → r.rank ≡ 0 → r.last < n / 2
fit_first r n e z = grind (arith, nat_tests)

-- a stamp that fits is that of an entry newer than the last
fit_newer : (r : Reader) (n : ℕ) → None ≡ unfit r n → (0 < r.rank → IsNewer r.last r.first) → IsNewer r.last n
fit_newer r n e h = record { even = fit_even r n e; newer = by_rank (eq-zero-or-pos r.rank) }
  where
    by_rank : (r.rank ≡ 0) ⊎ (0 < r.rank) → r.last < n / 2
    by_rank (inl z) = fit_first r n e z
    by_rank (inr l) = let newer = (h l).newer in let same = fit_stamp r n e l in omega (arith, newer, ap (λ k. k / 2) same)

-- the reader's facts after a step
module _ (r : Reader) (n : ℕ) (h : IsReader r) where
  restart_facts : IsReader (restarted r)
  restart_facts = let some = h.below in record { below = omega arith; begins_newer = λ b. absurd (cc); follows_newer = λ l. absurd (omega arith) }

  begin_facts : (u : Option Again) → u ≡ unfit r n → IsReader (begins u r n)
  begin_facts None e = let long = length-set r.parts r.rank (emptied (part r r.rank)) in let some = h.below in let newer = fit_newer r n e h.follows_newer in
      record { below = omega arith; begins_newer = λ b. newer; follows_newer = λ l. newer }
  begin_facts (Some again) e = restart_facts

  read_facts : r.begun ≡ true → IsReader (reads r n)
  read_facts b = let long = length-set r.parts r.rank (longer_part (part r r.rank) n) in let some = h.below in
      record { below = omega arith; begins_newer = h.begins_newer; follows_newer = h.follows_newer }

  follow_facts : r.begun ≡ true → (more : Bool) → is_more r ≡ more → IsReader (follows more r)
  follow_facts b true e = let under = less_from_test (r.rank + 1) (length r.parts) e in let newer = h.begins_newer b in record { below = under; begins_newer = λ c. absurd (cc); follows_newer = λ l. newer }
  follow_facts b false e = let some = h.below in record { below = omega arith; begins_newer = λ c. absurd (cc); follows_newer = λ l. absurd (omega arith) }

  end_facts : r.begun ≡ true → (t : Bool) → IsReader (if t then follows (is_more r) r else restarted r)
  end_facts b true = follow_facts b (is_more r) refl
  end_facts b false = restart_facts

  step_facts : (b full : Bool) → r.begun ≡ b → IsReader (next (if b then due_begun full (window_of r) else call.Begin (window_of r)) r n)
  step_facts false full e = begin_facts (unfit r n) refl
  step_facts true false e = read_facts e
  step_facts true true e = end_facts e (nat_eq n r.first)

  pub stays_reader : IsReader (next (due r) r n)
  stays_reader = step_facts r.begun (nat_eq (part r r.rank).spare 0) refl

-- a reading is whole where its two stamps are the same
pub whole_test : (r : Reader) (n : ℕ) (t : Bool) → IsNewer r.last r.first → nat_eq n r.first ≡ t → is_whole r.first n ≡ t
whole_test r n true newer e = let even = newer.even in let more = newer.newer in let same = eqb-true n r.first e in grind (arith, nat_tests)
whole_test r n false newer e = grind (arith, nat_tests)

-- what the seat has accepted after a step
module _ (leaders : ℕ) (v : View) (r : Reader) (n : ℕ) (h : Accepts leaders v.accepted r) (facts : IsReader r) (first : r.window ≡ 0) (many : length r.parts ≡ leaders)
    (reading : r.begun ≡ true → v.reading ≡ Some record { window = window_of r; first = r.first; words = words_of r r.rank }) where
  restart_accepts : Accepts leaders v.accepted (restarted r)
  restart_accepts = record { wide = h.wide; followed = h.followed; parts = λ i l. absurd (omega arith) }

  begin_accepts : (u : Option Again) → u ≡ unfit r n → Accepts leaders v.accepted (begins u r n)
  begin_accepts None e = record {
    wide = h.wide;
    followed = h.followed;
    parts = λ i l. let same = fit_stamp r n e (omega arith) in let old = h.parts i l in omega (arith, old, ap (λ k. k / 2) same);
  }
  begin_accepts (Some again) e = restart_accepts

  abbrev accepted' : List (List ℕ)
  accepted' = set v.accepted (window_of r) (n / 2 ∷ [])

  at_rank : (i : ℕ) → i ≡ r.rank → last_of (get_or accepted' i []) ≡ n / 2
  at_rank i e =
      let wide = h.wide in let some = facts.below in
      let place : i ≡ window_of r = omega arith in
      ap (λ j. last_of (get_or accepted' j [])) place ∙ ap last_of (get_or-set_same v.accepted (window_of r) (n / 2 ∷ []) [] (omega arith))

  off_rank : (i : ℕ) → (i ≡ r.rank → ⊥) → last_of (get_or accepted' i []) ≡ last_of (get_or v.accepted i [])
  off_rank i other = ap last_of (get_or-set_other v.accepted (window_of r) i (n / 2 ∷ []) [] (λ e. other (omega arith)))

  -- a reading that ends whole
  whole_accepts : n ≡ r.first → IsNewer r.last r.first → (more : Bool) → is_more r ≡ more → Accepts leaders accepted' (follows more r)
  whole_accepts same newer true e = let later = newer.newer in let long = length-set v.accepted (window_of r) (n / 2 ∷ []) in let wide = h.wide in let half = ap (λ k. k / 2) same in record {
    wide = omega arith;
    followed = λ i l. dite (ℕ_discrete i r.rank) (λ at. omega (arith, at_rank i at)) (λ off. omega (arith, off_rank i off, h.followed i l));
    parts = λ i l. dite (ℕ_discrete i r.rank) (λ at. omega (arith, at_rank i at)) (λ off. omega (arith, off_rank i off, h.parts i (omega arith)));
  }
  whole_accepts same newer false e = let all = not_less_from_test (r.rank + 1) (length r.parts) e in let long = length-set v.accepted (window_of r) (n / 2 ∷ []) in let wide = h.wide in let half = ap (λ k. k / 2) same in record {
    wide = omega arith;
    followed = λ i l. dite (ℕ_discrete i r.rank) (λ at. omega (arith, at_rank i at)) (λ off. omega (arith, off_rank i off, h.parts i (omega arith)));
    parts = λ i l. absurd (omega arith);
  }

  is_leader : nat_lt (window_of r) leaders ≡ true
  is_leader = let some = facts.below in test_from_less (window_of r) leaders (omega arith)

  same_view : (t whole lead : Bool) → (t ≡ true → n ≡ r.first) → IsNewer r.last r.first → whole ≡ t → lead ≡ true
      → Accepts leaders (if whole then with_accepted v (set v.accepted (window_of r) (if lead then n / 2 ∷ [] else add_once (n / 2) (get_or v.accepted (window_of r) []))) else with_reading v None).accepted (if t then follows (is_more r) r else restarted r)
  same_view true true true same newer w l = whole_accepts (same refl) newer (is_more r) refl
  same_view false false lead same newer w l = restart_accepts
  same_view true false lead same newer w l = absurd (cc)
  same_view false true lead same newer w l = absurd (cc)
  same_view true true false same newer w l = absurd (cc)

  end_accepts : r.begun ≡ true → Accepts leaders (after leaders (call.End (window_of r)) n v).accepted (ends r n)
  end_accepts b = let newer = facts.begins_newer b in
      subst (λ (o : Option Reading). Accepts leaders (ended leaders n v o).accepted (ends r n)) (sym (reading b))
      (same_view (nat_eq n r.first) (is_whole r.first n) (nat_lt (window_of r) leaders) (eqb-true n r.first) newer (whole_test r n (nat_eq n r.first) newer refl) is_leader)

  step_accepts : (b full : Bool) → r.begun ≡ b → Accepts leaders (after leaders (if b then due_begun full (window_of r) else call.Begin (window_of r)) n v).accepted (next (if b then due_begun full (window_of r) else call.Begin (window_of r)) r n)
  step_accepts false full e = begin_accepts (unfit r n) refl
  step_accepts true false e = record { wide = h.wide; followed = h.followed; parts = h.parts }
  step_accepts true true e = end_accepts e

  pub stays_accepted : Accepts leaders (after leaders (due r) n v).accepted (next (due r) r n)
  stays_accepted = step_accepts r.begun (nat_eq (part r r.rank).spare 0) refl
