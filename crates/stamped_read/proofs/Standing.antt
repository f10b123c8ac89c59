-- What ties a reader to its seat holds after each call, and a reading that ends is whole.
use Rattle.std.proofs.Common.{◌≡◌, ℕ, zero, suc, ◌+◌, ◌*◌, ◌/◌, ◌<◌, ◌≤◌, Bool, true, false, nat_eq, if◌then◌else◌, List, [], ◌∷◌, length, get_or, set, sym, refl, ap, ◌∙◌, subst, arith, get_or-set_other, get_or-set_same, length-set}
use Rattle.std.specs.Prelude.{Option, Some, None}
use Rattle.std.proofs.lemmas.Bool.Decides.{nat_tests}
use Rattle.base_words.proofs.NumberTests.{not_less_from_test}
use Rattle.std.proofs.lemmas.Bool.{eqb-true}
use borrow.Author.Count.{below_more}
use Rattle.wide_num.specs.RoomContents.{Contents, with_room, room_of}
use Rattle.window_words.specs.Views.{gained, longer}
use Rattle.window_words.specs.declared.views.View.{View}
use Rattle.window_words.specs.declared.views.Reading.{Reading}
use Rattle.window_words.specs.declared.views.Call.TheVariants as call
use Rattle.window_words.proofs.Listed.{length_push}
use Rattle.stamped_read.specs.declared.read.Again.{Again}
use Rattle.stamped_read.specs.declared.read.Again.TheVariants.{Torn}
use Rattle.stamped_read.specs.declared.read.Read.{Read}
use Rattle.stamped_read.specs.declared.read.Read.TheVariants as read
use Rattle.stamped_read.specs.Readers.{Reader, IsReader, part, words_of, window_of, emptied, longer_part, unfit, begins, reads, restarted, follows, follows_told, is_more, ends, ends_told}
use Rattle.stamped_read.specs.Promises.{ReadsFor, TellsWhole}

-- the room of every part stays where one part is changed and keeps its own
room_set : (ps : List (Contents ℕ)) (at i : ℕ) (c : Contents ℕ) → room_of c ≡ room_of (get_or ps at (with_room 0)) → room_of (get_or (set ps at c) i (with_room 0)) ≡ room_of (get_or ps i (with_room 0))
room_set [] at i c e = refl
room_set (p ∷ ps) zero zero c e = e
room_set (p ∷ ps) zero (suc i) c e = refl
room_set (p ∷ ps) (suc at) zero c e = refl
room_set (p ∷ ps) (suc at) (suc i) c e = room_set ps at i c e

-- where a reading begins at a stamp and isn't that of the first window, the stamp is the first's
pub fit_stamp : (s : Reader) (n : ℕ) → None ≡ unfit s n → 0 < s.rank → n ≡ s.first
fit_stamp s n e l = grind (arith, nat_tests)

pub some_left : (b : Bool) (n : ℕ) → (n ≡ 0 → b ≡ true) → b ≡ false → 0 < n
some_left b zero h e = let t = h refl in absurd (cc)
some_left b (suc n) h e = omega arith

module _ (entry : ℕ → ℕ → List ℕ) (wide : ℕ → ℕ) (count : ℕ) (v v' : View) (s s' : Reader) (n : ℕ) (h : ReadsFor entry wide count v s) (facts : IsReader s) where
  restarts : ReadsFor entry wide count v' (restarted s)
  restarts = record { laid = h.laid; reading = λ b. absurd (cc); parts = λ i l. absurd (omega arith) }

  -- one part is changed, and its reading goes on
  changes : (c : Contents ℕ) (first : ℕ) → room_of c ≡ room_of (part s s.rank) → v'.reading ≡ Some record { window = window_of s; first = first; words = c.items } → (0 < s.rank → first ≡ s.first)
      → ReadsFor entry wide count v' record s { begun = true; first = first; parts = set s.parts s.rank c }
  changes c first room knows same = record {
    laid = λ i l. let long = length-set s.parts s.rank c in let old = h.laid i (omega arith) in (old.0, room_set s.parts s.rank i c room ∙ old.1);
    reading = λ b. knows ∙ ap (λ (z : Contents ℕ). Some record { window = window_of s; first = first; words = z.items }) (sym (get_or-set_same s.parts s.rank c (with_room 0) facts.below));
    parts = λ i l. ap (λ (z : Contents ℕ). z.items) (get_or-set_other s.parts s.rank i c (with_room 0) (λ e. omega arith))
        ∙ (h.parts i l ∙ ap (λ (z : ℕ). entry (s.window + i) (z / 2)) (sym (same (omega arith))));
  }

  pub begin_stands : v' ≡ gained (call.Begin (window_of s)) n v → s' ≡ begins (unfit s n) s n → ReadsFor entry wide count v' s'
  begin_stands knows is = cases (unfit s n) refl is
    where
      cases : (u : Option Again) → u ≡ unfit s n → s' ≡ begins u s n → ReadsFor entry wide count v' s'
      cases None e is = subst (ReadsFor entry wide count v') (sym is) (changes (emptied (part s s.rank)) n (omega arith) (ap (λ (z : View). z.reading) knows) (fit_stamp s n e))
      cases (Some again) e is = subst (ReadsFor entry wide count v') (sym is) restarts

  pub read_stands : s.begun ≡ true → 0 < (part s s.rank).spare → v' ≡ gained (call.Read (window_of s)) n v → s' ≡ reads s n → ReadsFor entry wide count v' s'
  read_stands begun left knows is = let long = length_push (words_of s s.rank) n in subst (ReadsFor entry wide count v') (sym (is ∙ ap (λ (b : Bool). record s { begun = b; parts = set s.parts s.rank (longer_part (part s s.rank) n) }) begun))
      (changes (longer_part (part s s.rank) n) s.first (omega arith) (ap (λ (z : View). z.reading) knows ∙ ap (longer n) (h.reading begun)) (λ l. refl))

-- the parts of a reading that ends at the stamp that it began at
module _ (entry : ℕ → ℕ → List ℕ) (wide : ℕ → ℕ) (count most : ℕ) (v : View) (s s' : Reader) (told : Read) (n : ℕ) (h : ReadsFor entry wide count v s) (facts : IsReader s) (begun : s.begun ≡ true)
    (whole : (r : Reading) (k : ℕ) → v.reading ≡ Some r → 1 ≤ k → r.first ≡ 2 * k → n ≡ r.first → (k ≤ most) × (r.words ≡ entry (window_of s) k)) where
  one_more : n ≡ s.first → (s.first / 2 ≤ most) × ((i : ℕ) → i < s.rank + 1 → words_of s i ≡ entry (s.window + i) (s.first / 2))
  one_more same = let newer = facts.begins_newer begun in let even = newer.even in let later = newer.newer in
      let last = whole record { window = window_of s; first = s.first; words = words_of s s.rank } (s.first / 2) (h.reading begun) (omega arith) (omega arith) same in
      (last.0, below_more (λ (i : ℕ). words_of s i ≡ entry (s.window + i) (s.first / 2)) s.rank h.parts last.1)

  end_stands : (v' : View) → s' ≡ ends s n → ReadsFor entry wide count v' s'
  end_stands v' is = cases (nat_eq n s.first) (is_more s) (eqb-true n s.first) is
    where
      cases : (b more : Bool) → (b ≡ true → n ≡ s.first) → s' ≡ (if b then follows more s else restarted s) → ReadsFor entry wide count v' s'
      cases true true same is = subst (ReadsFor entry wide count v') (sym is) record { laid = h.laid; reading = λ b. absurd (cc); parts = (one_more (same refl)).1 }
      cases true false same is = subst (ReadsFor entry wide count v') (sym is) record { laid = h.laid; reading = λ b. absurd (cc); parts = λ i l. absurd (omega arith) }
      cases false more same is = subst (ReadsFor entry wide count v') (sym is) record { laid = h.laid; reading = λ b. absurd (cc); parts = λ i l. absurd (omega arith) }

  pub end_tells : s' ≡ ends s n → told ≡ ends_told s n → TellsWhole entry most s s' told
  end_tells is e = cases (nat_eq n s.first) (is_more s) (Torn s.rank s.first n) (eqb-true n s.first) (not_less_from_test (s.rank + 1) (length s.parts)) is e
    where
      cases : (b more : Bool) (torn : Again) → (b ≡ true → n ≡ s.first) → (more ≡ false → length s.parts ≤ s.rank + 1) → s' ≡ (if b then follows more s else restarted s) → told ≡ (if b then follows_told more s else read.Again torn) → TellsWhole entry most s s' told
      cases true true torn same none is e = subst (TellsWhole entry most s s') (sym e) (ap (λ (z : Reader). z.last) is)
      cases true false torn same none is e = let newer = facts.begins_newer begun in let all = one_more (same refl) in let long = none refl in subst (λ (z : Reader × Read). TellsWhole entry most s z.0 z.1) (λ i. (sym is i, sym e i))
          (newer.newer, all.0, refl, λ i l. all.1 i (omega arith))
      cases false more torn same none is e = subst (TellsWhole entry most s s') (sym e) (ap (λ (z : Reader). z.last) is)
