-- Each call leaves no more entries than the number of the last.
use Rattle.std.proofs.Common.{◌≡◌, ◌≢◌, ℕ, zero, suc, ◌+◌, ◌-◌, ◌*◌, ◌/◌, ◌<◌, ◌≤◌, Bool, true, false, List, [], ◌∷◌, ◌++◌, length, get_or, set, nat_eq, nat_lt, if◌then◌else◌, sym, refl, ap, ◌∙◌, subst, arith, get_or-set_other, get_or-set_same}
use Rattle.std.specs.Prelude.{All, Option, Some, None}
use Rattle.std.specs.List.{list_any}
use Rattle.std.proofs.lemmas.List.Elements.{All-cons, All-nil, All-head, All-get_or, All-weaker}
use Rattle.std.proofs.lemmas.Bool.{eq-eqb, le-ltb, or_parts}
use Rattle.base_words.proofs.FirstAnswers.{no_some}
use mathlib.Core.Logic.{dite}
use native.Mathlib.Decide.{ℕ_discrete, dec_le}
use Rattle.window_words.specs.Views.{one, pending, last_of, one_more, close_first, entry_of, accept, add_once, ended, is_whole, with_owned, with_reading, with_accepted, with_stopped}
use Rattle.window_words.specs.declared.views.View.{View}
use Rattle.window_words.specs.declared.views.Owned.{Owned}
use Rattle.window_words.specs.declared.views.Pending.{Pending}
use Rattle.window_words.specs.declared.views.Reading.{Reading}
use Rattle.window_words.proofs.Stamps.{whole_tells}
use Rattle.window_words.proofs.Listed.{last_push, length_push}
use Rattle.plain_board.specs.Plain.{IsFew}

abbrev IsShort : Owned → Type 0
IsShort a = length a.closed ≤ last_of a.closed

abbrev EndsBelow : ℕ → Owned → Type 0
EndsBelow k a = last_of a.closed < k

alone : (P : Owned → Type 0) (w : ℕ) (closed : List ℕ) → P record { window = w; closed = closed } → All P (one w closed)
alone P w closed p = All-cons P record { window = w; closed = closed } [] p (All-nil P)

only : (P : Owned → Type 0) (w : ℕ) (closed : List ℕ) → All P (one w closed) → P record { window = w; closed = closed }
only P w closed all = All-head P record { window = w; closed = closed } [] all

abbrev entry_or : ℕ → Option Pending → ℕ
entry_or d None = d
entry_or d (Some p) = p.entry

same_entry : (p : Pending) (k c : ℕ) → Some (pending k c) ≡ Some p → k ≡ p.entry
same_entry p k c e = ap (entry_or 0) e

-- an entry is opened above all that were closed
pub few_opened : (leaders k w : ℕ) (closed : List ℕ) (v : View) → IsFew leaders v → v.owned ≡ one w closed → last_of closed < k → IsFew leaders (with_owned v v.owned (Some (pending k 0)))
few_opened leaders k w closed v f owned low = record {
  closed = f.closed;
  above = λ p e. subst (λ (z : List Owned × ℕ). All (EndsBelow z.1) z.0) (λ i. (sym owned i, same_entry p k 0 e i)) (alone (EndsBelow k) w closed low);
  accepted = f.accepted;
}

-- one more word is put
pub few_put : (leaders k c w : ℕ) (closed : List ℕ) (v : View) → IsFew leaders v → v.owned ≡ one w closed → v.pending ≡ Some (pending k c) → IsFew leaders (with_owned v v.owned (one_more v.pending))
few_put leaders k c w closed v f owned is = record {
  closed = f.closed;
  above = λ p e. let e' : Some (pending k (c + 1)) ≡ Some p = ap one_more (sym is) ∙ e in
      subst (λ (z : ℕ). All (EndsBelow z) v.owned) (same_entry p k (c + 1) e') (f.above (pending k c) is);
  accepted = f.accepted;
}

-- an open entry is closed
pub few_closed : (leaders k c w : ℕ) (closed : List ℕ) (v : View) → IsFew leaders v → v.owned ≡ one w closed → v.pending ≡ Some (pending k c) → IsFew leaders (with_owned v (close_first (entry_of v.pending) v.owned) None)
few_closed leaders k c w closed v f owned is =
    let short : length closed ≤ last_of closed = only IsShort w closed (subst (λ (z : List Owned). All IsShort z) owned f.closed) in
    let below : last_of closed < k = only (EndsBelow k) w closed (subst (λ (z : List Owned). All (EndsBelow k) z) owned (f.above (pending k c) is)) in
    let long = length_push closed k in let last = last_push closed k in
    let done : All IsShort (one w (closed ++ k ∷ [])) = alone IsShort w (closed ++ k ∷ []) (omega arith) in record {
      closed = subst (λ (z : List Owned × Option Pending). All IsShort (close_first (entry_of z.1) z.0)) (λ i. (sym owned i, sym is i)) done;
      above = λ p e. no_some p e;
      accepted = f.accepted;
    }

pub few_reading : (leaders : ℕ) (v : View) (r : Option Reading) → IsFew leaders v → IsFew leaders (with_reading v r)
few_reading leaders v r f = record { closed = f.closed; above = f.above; accepted = f.accepted }

pub few_stopped : (leaders n : ℕ) (v : View) → IsFew leaders v → IsFew leaders (with_stopped v n)
few_stopped leaders n v f = record { closed = f.closed; above = f.above; accepted = f.accepted }

-- an item of a list none of whose items is k isn't k
none_is : (ks : List ℕ) (i k : ℕ) → list_any (λ j. nat_eq j k) ks ≡ false → i < length ks → get_or ks i 0 ≢ k
none_is [] i k none l e = absurd (omega arith)
none_is (x ∷ xs) zero k none l e = let f : nat_eq x k ≡ false = (or_parts (nat_eq x k) (list_any (λ j. nat_eq j k) xs) none).0 in let t : nat_eq x k ≡ true = eq-eqb x k e in cc
none_is (x ∷ xs) (suc i) k none l e = none_is xs i k (or_parts (nat_eq x k) (list_any (λ j. nat_eq j k) xs) none).1 (omega arith) e

-- an entry that is at least all of a list and isn't there is above the last
pub above_last : (ks : List ℕ) (k : ℕ) → 1 ≤ k → All (λ j. j ≤ k) ks → list_any (λ j. nat_eq j k) ks ≡ false → last_of ks < k
above_last [] k pos all none = omega arith
above_last (x ∷ xs) k pos all none = let here : length (x ∷ xs) - 1 < length (x ∷ xs) = omega arith in
    let low : last_of (x ∷ xs) ≤ k = All-get_or (λ j. j ≤ k) (x ∷ xs) (length (x ∷ xs) - 1) 0 here all in let other : last_of (x ∷ xs) ≢ k = none_is (x ∷ xs) (length (x ∷ xs) - 1) k none here in omega arith

abbrev IsShortList : List ℕ → Type 0
IsShortList ks = length ks ≤ last_of ks

short_added : (ks : List ℕ) (k : ℕ) (b : Bool) → list_any (λ j. nat_eq j k) ks ≡ b → 1 ≤ k → All (λ j. j ≤ k) ks → IsShortList ks → IsShortList (if b then ks else (ks ++ k ∷ []))
short_added ks k true is pos all short = short
short_added ks k false is pos all short = let above = above_last ks k pos all is in let long = length_push ks k in let last = last_push ks k in omega arith

pub past_leaders : (ks : List ℕ) (w leaders k : ℕ) → leaders ≤ w → (if nat_lt w leaders then k ∷ [] else add_once k ks) ≡ add_once k ks
past_leaders ks w leaders k past = ap (λ (b : Bool). if b then k ∷ [] else add_once k ks) (le-ltb w leaders past)

-- entry k of window w is accepted
few_accepted : (leaders w k : ℕ) (acc : List (List ℕ)) → 1 ≤ k → All (λ j. j ≤ k) (get_or acc w []) → ((j : ℕ) → leaders ≤ j → IsShortList (get_or acc j []))
    → (j : ℕ) → leaders ≤ j → IsShortList (get_or (accept leaders w k acc) j [])
few_accepted leaders w k acc pos all short j past = dite (ℕ_discrete w j)
    (λ same. dite (dec_le (suc w) (length acc))
    (λ inside. let past' : leaders ≤ w = omega arith in
    let now : get_or (accept leaders w k acc) w [] ≡ add_once k (get_or acc w []) = get_or-set_same acc w _ [] (omega arith) ∙ past_leaders (get_or acc w []) w leaders k past' in
    let done : IsShortList (add_once k (get_or acc w [])) = short_added (get_or acc w []) k _ refl pos all (short w past') in
    subst (λ (z : ℕ). IsShortList (get_or (accept leaders w k acc) z [])) same (subst (λ (z : List ℕ). IsShortList z) (sym now) done))
    (λ outside. subst (λ (z : List (List ℕ)). IsShortList (get_or z j [])) (sym (set_outside acc w _ (λ l. outside (omega arith)))) (short j past)))
    (λ other. subst (λ (z : List ℕ). IsShortList z) (sym (get_or-set_other acc w j _ [] (λ e. other (sym e)))) (short j past))
  where
    set_outside : (xs : List (List ℕ)) (i : ℕ) (x : List ℕ) → ¬ (i < length xs) → set xs i x ≡ xs
    set_outside [] i x o = refl
    set_outside (y ∷ ys) zero x o = absurd (o (omega arith))
    set_outside (y ∷ ys) (suc i) x o = ap (λ (z : List (List ℕ)). y ∷ z) (set_outside ys i x (λ l. o (omega arith)))

ended_by : (leaders n : ℕ) (v : View) (q : Reading) (b : Bool) → is_whole q.first n ≡ b → All (λ j. 2 * j ≤ n) (get_or v.accepted q.window []) → IsFew leaders v
    → IsFew leaders (if b then with_accepted v (accept leaders q.window (n / 2) v.accepted) else with_reading v None)
ended_by leaders n v q false is low f = record { closed = f.closed; above = f.above; accepted = f.accepted }
ended_by leaders n v q true is low f = record {
  closed = f.closed;
  above = f.above;
  accepted = let t = whole_tells q.first n is in few_accepted leaders q.window (n / 2) v.accepted t.2 (All-weaker (λ j. 2 * j ≤ n) (λ j. j ≤ n / 2) (λ j h. omega arith) (get_or v.accepted q.window []) low) f.accepted;
}

-- a reading is ended at the stamp n
pub few_ended : (leaders n : ℕ) (v : View) (q : Reading) → v.reading ≡ Some q → All (λ j. 2 * j ≤ n) (get_or v.accepted q.window []) → IsFew leaders v → IsFew leaders (ended leaders n v v.reading)
few_ended leaders n v q is low f = subst (λ (z : Option Reading). IsFew leaders (ended leaders n v z)) (sym is) (ended_by leaders n v q (is_whole q.first n) refl low f)
