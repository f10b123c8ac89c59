-- The multipliers that are found among what the spokes hand over are those of the first put to which one replied with the bound.

use Rattle.std.proofs.Common.{arith, refl, sym, subst, ◌∙◌, ◌≡◌, ℕ, ◌<◌, ◌≤◌, Bool, true, false, ◌&&◌, List, [], ◌∷◌, ◌++◌, ℤ, ◌≤ℤ◌, Option, Some, None, All, if◌then◌else◌, append-nil}
use Rattle.std.proofs.lemmas.Bool.Decides.{Decides-int_eq}
use Rattle.std.proofs.lemmas.Int.{ints}
use Rattle.std.proofs.lemmas.List.{append_assoc, get_or_append_left, length-append, map-append}
use Rattle.std.proofs.lemmas.List.Elements.{All-contains, All-nil, All-push, All-weaker}
use Rattle.std.proofs.lemmas.List.Quantifiers.{Any-push}
use Rattle.std.specs.List.{AllByRecursion, AllPairs, Any, Contains, fold}
use Rattle.std.specs.Option.{option_and_then, option_map_or}
use Rattle.std.specs.Ordering.{int_eq}
use Rattle.base_words.proofs.FirstAnswers.{same_some}
use Rattle.base_words.proofs.NumberTests.{less_from_test, not_less_from_test}
use Rattle.log_words.specs.Replies.{reply_of, reply_to}
use Rattle.log_words.specs.declared.log.Answer.{Answer}
use Rattle.log_words.specs.declared.log.Answer.TheVariants.{Reply, Skip}
use Rattle.log_words.specs.declared.log.Backing.{Backing}
use Rattle.log_words.specs.declared.log.Backing.TheVariants.{Lower, Upper}
use Rattle.log_words.specs.declared.log.SpokeEnd.{SpokeEnd}
use Rattle.log_words.specs.declared.log.SpokeLog.{SpokeLog}
use Rattle.put_words.specs.NextMultipliers.{no_multipliers}
use Rattle.put_words.specs.Puts.{Made, put_of}
use Rattle.sp_model.specs.declared.plan.Multipliers.{Multipliers}
use Rattle.sp_model.specs.declared.run.Run.{Run}
use Rattle.lagrangian_spoke.specs.Answering.{put_in}
use Rattle.run_log.specs.Runs.{IsNoEarlier, multipliers_of}
use Rattle.log_closing.specs.Closings.{IsAtMost, IsBacking, IsFoundFirst, IsOther, found_in, is_earlier, logs_of, nearer}
use Rattle.log_closing.specs.declared.gathering.Found.{Found}
use Rattle.log_closing.proofs.Besting.{IsBestOf, IsEmpty, best_is}

-- an answer without the bound, and one that isn't above a lower one
empty_other : (bound : ℤ) (a : Answer) → IsEmpty a → IsOther bound a
empty_other bound (Reply k value) h = λ e. absurd (let x = sym h ∙ e in cc)
empty_other bound (Skip k s opened) h = tt

other_first : (k : ℕ) (bound : ℤ) (a : Answer) → IsOther bound a → IsNoEarlier k bound a
other_first k bound (Reply m value) h = λ e. absurd (h e)
other_first k bound (Skip m s opened) h = tt

lower_other : (v bound : ℤ) (a : Answer) → (v ≡ bound → ⊥) → v ≤ℤ bound → IsAtMost v a → IsOther bound a
lower_other v bound (Reply k None) other l h = λ e. absurd (let x = e in cc)
lower_other v bound (Reply k (Some w)) other l h = λ e. let same : w ≡ bound = same_some e in let most : w ≤ℤ v = h in let one : v ≡ bound = omega (arith, ints) in other one
lower_other v bound (Skip k s opened) other l h = tt

earlier_still : (j k : ℕ) (bound : ℤ) (a : Answer) → j ≤ k → IsNoEarlier k bound a → IsNoEarlier j bound a
earlier_still j k bound (Reply m value) l h = λ e. let g : k ≤ m = h e in omega arith
earlier_still j k bound (Skip m s opened) l h = tt

module _ (run : Run) (bound : ℤ) where
  abbrev Others : SpokeLog → Type 0
  Others log = All (IsOther bound) log.answers

  abbrev NoneBefore : ℕ → SpokeLog → Type 0
  NoneBefore k log = All (IsNoEarlier k bound) log.answers

  abbrev HasBound : ℕ → SpokeLog → Type 0
  HasBound k log = Contains log.answers (Reply k (Some bound))

  -- a log more changes nothing of one that has the bound
  any_past : (k : ℕ) (logs : List SpokeLog) (log : SpokeLog) → Any (HasBound k) logs → Any (HasBound k) (logs ++ log ∷ [])
  any_past k logs log (n, l, within, at, has) = (n, l, omega (arith, within, length-append logs (log ∷ [])), get_or_append_left logs (log ∷ []) l n within ∙ at, has)

  others_before : (k : ℕ) (log : SpokeLog) → Others log → NoneBefore k log
  others_before k log h = All-weaker (IsOther bound) (IsNoEarlier k bound) (λ a. other_first k bound a) log.answers h

  before_still : (j k : ℕ) (log : SpokeLog) → j ≤ k → NoneBefore k log → NoneBefore j log
  before_still j k log l h = All-weaker (IsNoEarlier k bound) (IsNoEarlier j bound) (λ a. earlier_still j k bound a l) log.answers h

  -- a log without the bound changes nothing
  found_past : (logs : List SpokeLog) (log : SpokeLog) (found : Option Found) → IsFoundFirst run logs bound found → Others log → IsFoundFirst run (logs ++ log ∷ []) bound found
  found_past logs log None h others = All-push Others logs log h others
  found_past logs log (Some f) h others = (record { there = any_past f.put logs log h.0.there; none_earlier = All-push (NoneBefore f.put) logs log h.0.none_earlier (others_before f.put log others) }, h.1)

  -- a log with the bound
  found_here : (logs : List SpokeLog) (log : SpokeLog) (found : Option Found) (k : ℕ) (m : Multipliers) (b : Bool) → is_earlier found k ≡ b → IsFoundFirst run logs bound found → Contains log.answers (Reply k (Some bound)) → NoneBefore k log → ((made : Made) → put_of run k ≡ Some made → m ≡ made.put.multipliers) → IsFoundFirst run (logs ++ log ∷ []) bound (if b then Some record { put = k; multipliers = m } else found)
  found_here logs log None k m true e h has none backs = (record { there = Any-push (HasBound k) logs log has; none_earlier = All-push (NoneBefore k) logs log (All-weaker Others (NoneBefore k) (λ l. others_before k l) logs h) none }, backs)
  found_here logs log None k m false e h has none backs = absurd (let x = e in cc)
  found_here logs log (Some f) k m true e h has none backs =
      let l : k ≤ f.put = (let x = less_from_test k f.put e in omega arith) in
      (record { there = Any-push (HasBound k) logs log has; none_earlier = All-push (NoneBefore k) logs log (All-weaker (NoneBefore f.put) (NoneBefore k) (λ x. before_still k f.put x l) logs h.0.none_earlier) none }, backs)
  found_here logs log (Some f) k m false e h has none backs =
      let l = not_less_from_test k f.put e in
      (record { there = any_past f.put logs log h.0.there; none_earlier = All-push (NoneBefore f.put) logs log h.0.none_earlier (before_still f.put k log l none) }, h.1)

  by_value : (logs : List SpokeLog) (log : SpokeLog) (found : Option Found) (k : ℕ) (v : ℤ) (m : Multipliers) (t : Bool) → int_eq v bound ≡ t → IsFoundFirst run logs bound found → IsBestOf log.answers (Some (k, v)) → v ≤ℤ bound → ((made : Made) → put_of run k ≡ Some made → m ≡ made.put.multipliers) → IsFoundFirst run (logs ++ log ∷ []) bound (if t && is_earlier found k then Some record { put = k; multipliers = m } else found)
  by_value logs log found k v m true e h best l backs =
      let same : v ≡ bound = (Decides-int_eq v bound).0 e in
      found_here logs log found k m (is_earlier found k) refl h (subst (λ w. Contains log.answers (Reply k (Some w))) same best.there) (subst (λ w. All (IsNoEarlier k w) log.answers) same best.first) backs
  by_value logs log found k v m false e h best l backs =
      found_past logs log found h (All-weaker (IsAtMost v) (IsOther bound) (λ a. lower_other v bound a (λ same. let t = sym ((Decides-int_eq v bound).1 same) ∙ e in absurd (let x = t in cc)) l) log.answers best.most)

  -- one spoke more
  found_more : (logs : List SpokeLog) (log : SpokeLog) (found : Option Found) (best : Option Backing) → IsFoundFirst run logs bound found → AllPairs (λ a b. put_in a < put_in b) log.answers → IsBacking run log.answers best → All (IsAtMost bound) log.answers → IsFoundFirst run (logs ++ log ∷ []) bound (nearer bound found best)
  found_more logs log found None h rising is most =
      let none : IsBestOf log.answers None = subst (IsBestOf log.answers) is (best_is log.answers rising) in
      found_past logs log found h (All-weaker IsEmpty (IsOther bound) (λ a. empty_other bound a) log.answers none)
  found_more logs log found (Some (Lower k v m)) h rising is most =
      let best : IsBestOf log.answers (Some (k, v)) = subst (IsBestOf log.answers) is.0 (best_is log.answers rising) in
      by_value logs log found k v m (int_eq v bound) refl h best (All-contains (IsAtMost bound) log.answers (Reply k (Some v)) most best.there) is.1
  found_more logs log found (Some (Upper k v plan)) h rising is most = absurd is

  -- what is asked of a spoke
  pub record Hands (end : SpokeEnd) : Type 0 where
    pub rising : AllPairs (λ a b. put_in a < put_in b) end.log.answers
    pub backing : IsBacking run end.log.answers end.best
    pub most : All (IsAtMost bound) end.log.answers

  found_behind : (front ends : List SpokeEnd) (found : Option Found) → IsFoundFirst run (logs_of front) bound found → AllByRecursion Hands ends → IsFoundFirst run (logs_of (front ++ ends)) bound (fold (λ f (end : SpokeEnd). nearer bound f end.best) found ends)
  found_behind front [] found h hands = subst (λ es. IsFoundFirst run (logs_of es) bound found) (sym (append-nil front)) h
  found_behind front (end ∷ ends) found h hands =
      let one : IsFoundFirst run (logs_of (front ++ end ∷ [])) bound (nearer bound found end.best) = subst (λ ls. IsFoundFirst run ls bound (nearer bound found end.best)) (sym (map-append (λ (e : SpokeEnd). e.log) front (end ∷ []))) (found_more (logs_of front) end.log found end.best h hands.0.rising hands.0.backing hands.0.most) in
      subst (λ es. IsFoundFirst run (logs_of es) bound (fold (λ f (e : SpokeEnd). nearer bound f e.best) (nearer bound found end.best) ends)) (append_assoc front (end ∷ []) ends) (found_behind (front ++ end ∷ []) ends (nearer bound found end.best) one hands.1)

  pub found_is : (ends : List SpokeEnd) → AllByRecursion Hands ends → IsFoundFirst run (logs_of ends) bound (found_in bound ends)
  found_is ends hands = found_behind [] ends None (All-nil Others) hands

-- the multipliers of a put to which a spoke replied with a value
pub multipliers_made : (run : Run) (i k : ℕ) (v : ℤ) (m : Multipliers) → reply_of run i k ≡ Some v → ((made : Made) → put_of run k ≡ Some made → m ≡ made.put.multipliers) → m ≡ multipliers_of run k
multipliers_made run i k v m reply backs = by_put (put_of run k) refl reply
  where
    by_put : (o : Option Made) → put_of run k ≡ o → option_and_then (reply_to run i) o ≡ Some v → m ≡ option_map_or (λ (made : Made). made.put.multipliers) o (no_multipliers run)
    by_put None e r = absurd (let x = r in cc)
    by_put (Some made) e r = backs made e
