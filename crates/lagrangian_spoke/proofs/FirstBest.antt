-- The best of a spoke's replies is the first greatest one.
use Rattle.std.proofs.Common.{arith, refl, sym, ap, ◌∙◌, subst, ◌≡◌, ℕ, zero, suc, ◌<◌, Bool, true, false, List, [], ◌∷◌, ℤ, ◌<ℤ◌, ◌≤ℤ◌, Option, Some, None, if◌then◌else◌, ◌⊎◌, inl, inr}
use Rattle.std.specs.Prelude.{int_lt}
use Rattle.std.specs.List.{fold, slice_get}
use Rattle.std.proofs.lemmas.Int.{ints}
use Rattle.base_words.proofs.Comparisons.{above_from_test, below_from_test}
use Rattle.base_words.proofs.FirstAnswers.{same_some}
use Rattle.log_words.specs.declared.log.Answer.{Answer}
use Rattle.log_words.specs.declared.log.Answer.TheVariants.{Reply, Skip}
use Rattle.log_words.specs.declared.log.Backing.{Backing}
use Rattle.log_words.specs.declared.log.Backing.TheVariants.{Lower}
use Rattle.log_words.specs.declared.log.SpokeEnd.{SpokeEnd}
use Rattle.sp_model.specs.declared.run.Run.{Run}
use Rattle.lagrangian_spoke.specs.Answering.{HaveNoValue, IsFirstGreatest, best_reply, better}
use Rattle.lagrangian_spoke.specs.Spokes.{BacksBest, IsBestIf, IsEnd, IsSpoke}
use Rattle.lagrangian_spoke.specs.declared.spoke.LagrangianSpoke.{LagrangianSpoke}

-- no value is above another
abbrev AreAtMost : List Answer → ℤ → Type 0
AreAtMost answers value = (n j : ℕ) (other : ℤ) → slice_get answers n ≡ Some (Reply j (Some other)) → other ≤ℤ value

-- what the best is behind a best so far
abbrev IsBestBehind : Option (ℕ × ℤ) → List Answer → Option (ℕ × ℤ) → Type 0
IsBestBehind None answers None = HaveNoValue answers
IsBestBehind None answers (Some b) = IsFirstGreatest answers b.0 b.1
IsBestBehind (Some g) answers None = ⊥
IsBestBehind (Some g) answers (Some b) = ((b ≡ g) × AreAtMost answers g.1) ⊎ (IsFirstGreatest answers b.0 b.1 × (g.1 <ℤ b.1))

-- a value at the head of a list, and an answer there that has none
abbrev value_in : Answer → Option ℤ
value_in (Reply k value) = value
value_in (Skip k s opened) = None

same_reply : (k j : ℕ) (a b : ℤ) → Some (Reply k (Some a)) ≡ Some (Reply j (Some b)) → a ≡ b
same_reply k j a b e = same_some (ap value_in (same_some e))

no_reply : (a : Answer) (j : ℕ) (other : ℤ) → value_in a ≡ None → Some a ≡ Some (Reply j (Some other)) → ⊥
no_reply a j other none e = absurd (let x = sym none ∙ ap value_in (same_some e) in cc)

-- one answer more in front, which has no value
module _ (a : Answer) (answers : List Answer) (none : value_in a ≡ None) where
  at_most_behind : (g : ℤ) → AreAtMost answers g → AreAtMost (a ∷ answers) g
  at_most_behind g h zero j other e = absurd (no_reply a j other none e)
  at_most_behind g h (suc n) j other e = h n j other e

  greatest_behind : (k : ℕ) (v : ℤ) → IsFirstGreatest answers k v → IsFirstGreatest (a ∷ answers) k v
  greatest_behind k v h = record { place = suc h.place; there = h.there; greatest = most; first = before }
    where
      most : (n j : ℕ) (other : ℤ) → slice_get (a ∷ answers) n ≡ Some (Reply j (Some other)) → other ≤ℤ v
      most zero j other e = absurd (no_reply a j other none e)
      most (suc n) j other e = h.greatest n j other e

      before : (n j : ℕ) (other : ℤ) → slice_get (a ∷ answers) n ≡ Some (Reply j (Some other)) → n < suc h.place → other <ℤ v
      before zero j other e l = absurd (no_reply a j other none e)
      before (suc n) j other e l = h.first n j other e (omega arith)

  none_behind : HaveNoValue answers → HaveNoValue (a ∷ answers)
  none_behind h zero j other e = no_reply a j other none e
  none_behind h (suc n) j other e = h n j other e

  passed : (best r : Option (ℕ × ℤ)) → IsBestBehind best answers r → IsBestBehind best (a ∷ answers) r
  passed None None h = none_behind h
  passed None (Some b) h = greatest_behind b.0 b.1 h
  passed (Some g) None h = absurd h
  passed (Some g) (Some b) (inl h) = inl (h.0, at_most_behind g.1 h.1)
  passed (Some g) (Some b) (inr h) = inr (greatest_behind b.0 b.1 h.0, h.1)

-- a reply with a value in front
module _ (k : ℕ) (v : ℤ) (answers : List Answer) where
  -- behind it no value is greater
  at_head : AreAtMost answers v → IsFirstGreatest (Reply k (Some v) ∷ answers) k v
  at_head h = record { place = 0; there = refl; greatest = most; first = λ n j other e l. absurd (omega arith) }
    where
      most : (n j : ℕ) (other : ℤ) → slice_get (Reply k (Some v) ∷ answers) n ≡ Some (Reply j (Some other)) → other ≤ℤ v
      most zero j other e = let same = same_reply k j v other e in omega (arith, ints, same)
      most (suc n) j other e = h n j other e

  -- a greater one stands behind it
  greater_behind : (j : ℕ) (w : ℤ) → v <ℤ w → IsFirstGreatest answers j w → IsFirstGreatest (Reply k (Some v) ∷ answers) j w
  greater_behind j w less h = record { place = suc h.place; there = h.there; greatest = most; first = before }
    where
      most : (n i : ℕ) (other : ℤ) → slice_get (Reply k (Some v) ∷ answers) n ≡ Some (Reply i (Some other)) → other ≤ℤ w
      most zero i other e = let same = same_reply k i v other e in omega (arith, ints, same, less)
      most (suc n) i other e = h.greatest n i other e

      before : (n i : ℕ) (other : ℤ) → slice_get (Reply k (Some v) ∷ answers) n ≡ Some (Reply i (Some other)) → n < suc h.place → other <ℤ w
      before zero i other e l = let same = same_reply k i v other e in omega (arith, ints, same, less)
      before (suc n) i other e l = h.first n i other e (omega arith)

  at_most_more : (g : ℤ) → v ≤ℤ g → AreAtMost answers g → AreAtMost (Reply k (Some v) ∷ answers) g
  at_most_more g most h zero j other e = let same = same_reply k j v other e in omega (arith, ints, same, most)
  at_most_more g most h (suc n) j other e = h n j other e

  -- it is the best so far
  taken : (r : Option (ℕ × ℤ)) → IsBestBehind (Some (k, v)) answers r → (b : ℕ × ℤ) × (r ≡ Some b) × IsFirstGreatest (Reply k (Some v) ∷ answers) b.0 b.1 × (v ≤ℤ b.1)
  taken None h = absurd h
  taken (Some b) (inl h) = (b, refl, subst (λ (z : ℕ × ℤ). IsFirstGreatest (Reply k (Some v) ∷ answers) z.0 z.1) (sym h.0) (at_head h.1), let same = ap (λ (z : ℕ × ℤ). z.1) h.0 in omega (arith, ints, same))
  taken (Some b) (inr h) = let less = h.1 in (b, refl, greater_behind b.0 b.1 less h.0, omega (arith, ints, less))

  -- another stays the best so far
  kept : (g : ℕ × ℤ) (r : Option (ℕ × ℤ)) → v ≤ℤ g.1 → IsBestBehind (Some g) answers r → IsBestBehind (Some g) (Reply k (Some v) ∷ answers) r
  kept g None most h = absurd h
  kept g (Some b) most (inl h) = inl (h.0, at_most_more g.1 most h.1)
  kept g (Some b) most (inr h) = let less = h.1 in inr (greater_behind b.0 b.1 (omega (arith, ints, most, less)) h.0, less)

  started : (r : Option (ℕ × ℤ)) → IsBestBehind (Some (k, v)) answers r → IsBestBehind None (Reply k (Some v) ∷ answers) r
  started r h = let found = taken r h in subst (IsBestBehind None (Reply k (Some v) ∷ answers)) (sym found.1) found.2

  bettered : (g : ℕ × ℤ) (r : Option (ℕ × ℤ)) → g.1 <ℤ v → IsBestBehind (Some (k, v)) answers r → IsBestBehind (Some g) (Reply k (Some v) ∷ answers) r
  bettered g r less h = let found = taken r h in let most = found.3 in subst (IsBestBehind (Some g) (Reply k (Some v) ∷ answers)) (sym found.1) (inr (found.2, omega (arith, ints, less, most)))

  by_test : (g : ℕ × ℤ) (r : Option (ℕ × ℤ)) (t : Bool) → int_lt g.1 v ≡ t → IsBestBehind (if t then Some (k, v) else Some g) answers r → IsBestBehind (Some g) (Reply k (Some v) ∷ answers) r
  by_test g r true e h = bettered g r (below_from_test g.1 v e) h
  by_test g r false e h = kept g r (above_from_test g.1 v e) h

best_behind : (best : Option (ℕ × ℤ)) (answers : List Answer) → IsBestBehind best answers (fold better best answers)
best_behind None [] = λ n j other e. absurd (let x = e in cc)
best_behind (Some g) [] = inl (refl, λ n j other e. absurd (let x = e in cc))
best_behind best (Skip k s opened ∷ answers) = passed (Skip k s opened) answers refl best (fold better best answers) (best_behind best answers)
best_behind best (Reply k None ∷ answers) = passed (Reply k None) answers refl best (fold better best answers) (best_behind best answers)
best_behind None (Reply k (Some v) ∷ answers) = started k v answers (fold better (Some (k, v)) answers) (best_behind (Some (k, v)) answers)
best_behind (Some (j, g)) (Reply k (Some v) ∷ answers) = by_test k v answers (j, g) (fold better (better (Some (j, g)) (Reply k (Some v))) answers) (int_lt g v) refl (best_behind (better (Some (j, g)) (Reply k (Some v))) answers)

pub first_greatest : (answers : List Answer) (k : ℕ) (value : ℤ) → best_reply answers ≡ Some (k, value) → IsFirstGreatest answers k value
first_greatest answers k value e = subst (IsBestBehind None answers) e (best_behind None answers)

pub no_value : (answers : List Answer) → best_reply answers ≡ None → HaveNoValue answers
no_value answers e = subst (IsBestBehind None answers) e (best_behind None answers)

-- what a spoke leaves is the best of its answers
pub left_backs : (run : Run) (s : LagrangianSpoke) (left : SpokeEnd) → IsSpoke run s → IsEnd s left → BacksBest run left.log.answers left.best
left_backs run s left h is = subst (λ (z : List Answer × Option Backing). BacksBest run z.0 z.1) (λ i. (sym is.answers i, sym is.best i)) (by_found s.best.found h.best)
  where
    by_found : (b : Bool) → IsBestIf b run s.answers.items s.best → BacksBest run s.answers.items (if b then Some (Lower s.best.put s.best.value s.best.multipliers) else None)
    by_found true best = (first_greatest s.answers.items s.best.put s.best.value best.0, best.1)
    by_found false best = no_value s.answers.items best
