-- The best reply of a spoke is the first of its greatest ones.

use Rattle.std.proofs.Common.{arith, refl, sym, subst, ◌∙◌, ◌≡◌, ℕ, ◌<◌, Bool, true, false, List, [], ◌∷◌, ◌++◌, length, get_or, ℤ, ◌≤ℤ◌, ◌<ℤ◌, int_lt, Option, Some, None, All, if◌then◌else◌, append-nil}
use Rattle.std.proofs.lemmas.Int.{ints}
use Rattle.std.proofs.lemmas.List.{append_assoc, get_or_append_left, length-append}
use Rattle.std.proofs.Math.Seq.{get_or-append_seam}
use Rattle.std.proofs.lemmas.List.Elements.{All-contains, All-nil, All-push, All-weaker, Contains-append_left, Contains-append_right}
use Rattle.std.specs.List.{AllPairs, Contains, fold}
use Rattle.base_words.proofs.Comparisons.{above_from_test, below_from_test}
use Rattle.base_words.proofs.FirstAnswers.{same_some}
use Rattle.log_words.specs.declared.log.Answer.{Answer}
use Rattle.log_words.specs.declared.log.Answer.TheVariants.{Reply, Skip}
use Rattle.lagrangian_spoke.specs.Answering.{best_reply, better, better_value, put_in}
use Rattle.run_log.specs.Runs.{IsNoEarlier}
use Rattle.log_closing.specs.Closings.{IsAtMost}
use Rattle.log_closing.proofs.Members.{contains_here}

-- a reply has no value
abbrev pub IsEmpty : Answer → Type 0
IsEmpty (Reply k value) = value ≡ None
IsEmpty (Skip k s opened) = Unit {0}

-- the first of the greatest replies
pub record IsFirstGreatest (answers : List Answer) (k : ℕ) (value : ℤ) : Type 0 where
  pub there : Contains answers (Reply k (Some value))
  pub most : All (IsAtMost value) answers
  pub first : All (IsNoEarlier k value) answers

abbrev pub IsBestOf : List Answer → Option (ℕ × ℤ) → Type 0
IsBestOf answers None = All IsEmpty answers
IsBestOf answers (Some best) = IsFirstGreatest answers best.0 best.1

-- an answer behind all others
abbrev pub IsBehind : List Answer → Answer → Type 0
IsBehind answers a = All (λ b. put_in b < put_in a) answers

empty_most : (v : ℤ) (a : Answer) → IsEmpty a → IsAtMost v a
empty_most v (Reply k None) h = tt
empty_most v (Reply k (Some w)) h = absurd (let x = h in cc)
empty_most v (Skip k s opened) h = tt

empty_first : (k : ℕ) (v : ℤ) (a : Answer) → IsEmpty a → IsNoEarlier k v a
empty_first k v (Reply m value) h = λ e. absurd (let x = sym h ∙ e in cc)
empty_first k v (Skip m s opened) h = tt

most_more : (v w : ℤ) (a : Answer) → v ≤ℤ w → IsAtMost v a → IsAtMost w a
most_more v w (Reply k None) l h = tt
most_more v w (Reply k (Some u)) l h = let most : u ≤ℤ v = h in omega (arith, ints)
most_more v w (Skip k s opened) l h = tt

-- a reply below a value isn't it
below_other : (v w : ℤ) (k : ℕ) (a : Answer) → int_lt v w ≡ true → IsAtMost v a → IsNoEarlier k w a
below_other v w k (Reply m None) t h = λ e. absurd (let x = e in cc)
below_other v w k (Reply m (Some u)) t h = λ e. absurd (let same : u ≡ w = same_some e in let l : v <ℤ w = below_from_test v w t in let most : u ≤ℤ v = h in omega (arith, ints))
below_other v w k (Skip m s opened) t h = tt

module _ (xs : List Answer) where
  best_put : (acc : Option (ℕ × ℤ)) (k : ℕ) (value : Option ℤ) → IsBestOf xs acc → IsBehind xs (Reply k value) → IsBestOf (xs ++ Reply k value ∷ []) (better_value acc k value)
  best_put None k None h b = All-push IsEmpty xs (Reply k None) h refl
  best_put (Some (j, v)) k None h b = record {
    there = Contains-append_left xs (Reply k None ∷ []) (Reply j (Some v)) h.there;
    most = All-push (IsAtMost v) xs (Reply k None) h.most tt;
    first = All-push (IsNoEarlier j v) xs (Reply k None) h.first (λ e. absurd (let x = e in cc));
  }
  best_put None k (Some v) h b = record {
    there = Contains-append_right xs (Reply k (Some v) ∷ []) (Reply k (Some v)) (contains_here [] (Reply k (Some v)) (Reply k (Some v)) refl);
    most = All-push (IsAtMost v) xs (Reply k (Some v)) (All-weaker IsEmpty (IsAtMost v) (λ a. empty_most v a) xs h) (omega (arith, ints));
    first = All-push (IsNoEarlier k v) xs (Reply k (Some v)) (All-weaker IsEmpty (IsNoEarlier k v) (λ a. empty_first k v a) xs h) (λ e. omega arith);
  }
  best_put (Some (j, v)) k (Some w) h b = by_test (int_lt v w) refl
    where
      by_test : (t : Bool) → int_lt v w ≡ t → IsBestOf (xs ++ Reply k (Some w) ∷ []) (if t then Some (k, w) else Some (j, v))
      by_test true t = record {
        there = Contains-append_right xs (Reply k (Some w) ∷ []) (Reply k (Some w)) (contains_here [] (Reply k (Some w)) (Reply k (Some w)) refl);
        most = All-push (IsAtMost w) xs (Reply k (Some w)) (All-weaker (IsAtMost v) (IsAtMost w) (λ a. most_more v w a (let l : v <ℤ w = below_from_test v w t in omega (arith, ints))) xs h.most) (omega (arith, ints));
        first = All-push (IsNoEarlier k w) xs (Reply k (Some w)) (All-weaker (IsAtMost v) (IsNoEarlier k w) (λ a. below_other v w k a t) xs h.most) (λ e. omega arith);
      }
      by_test false t = record {
        there = Contains-append_left xs (Reply k (Some w) ∷ []) (Reply j (Some v)) h.there;
        most = All-push (IsAtMost v) xs (Reply k (Some w)) h.most (above_from_test v w t);
        first = All-push (IsNoEarlier j v) xs (Reply k (Some w)) h.first (λ e. let l : j < k = All-contains (λ a. put_in a < k) xs (Reply j (Some v)) b h.there in omega arith);
      }

  -- one answer more, behind all others
  best_more : (acc : Option (ℕ × ℤ)) (a : Answer) → IsBestOf xs acc → IsBehind xs a → IsBestOf (xs ++ a ∷ []) (better acc a)
  best_more acc (Reply k value) h b = best_put acc k value h b
  best_more None (Skip k s opened) h b = All-push IsEmpty xs (Skip k s opened) h tt
  best_more (Some (j, v)) (Skip k s opened) h b = record {
    there = Contains-append_left xs (Skip k s opened ∷ []) (Reply j (Some v)) h.there;
    most = All-push (IsAtMost v) xs (Skip k s opened) h.most tt;
    first = All-push (IsNoEarlier j v) xs (Skip k s opened) h.first tt;
  }

-- each answer stands behind those before it
behind_all : (xs ys : List Answer) (a : Answer) → AllPairs (λ b c. put_in b < put_in c) (xs ++ (a ∷ ys)) → IsBehind xs a
behind_all xs ys a rising k d l =
    let here : get_or (xs ++ (a ∷ ys)) (length xs) d ≡ a = get_or-append_seam xs a ys d in
    let there : get_or (xs ++ (a ∷ ys)) k d ≡ get_or xs k d = get_or_append_left xs (a ∷ ys) d k l in
    let less = rising k (length xs) d l (omega (arith, length-append xs (a ∷ ys))) in
    subst (λ (p : Answer × Answer). put_in p.0 < put_in p.1) (λ i. (there i, here i)) less

best_from : (xs ys : List Answer) (acc : Option (ℕ × ℤ)) → IsBestOf xs acc → AllPairs (λ b c. put_in b < put_in c) (xs ++ ys) → IsBestOf (xs ++ ys) (fold better acc ys)
best_from xs [] acc h rising = subst (λ zs. IsBestOf zs acc) (sym (append-nil xs)) h
best_from xs (a ∷ ys) acc h rising =
    let turned : (xs ++ a ∷ []) ++ ys ≡ xs ++ (a ∷ ys) = append_assoc xs (a ∷ []) ys in
    subst (λ zs. IsBestOf zs (fold better (better acc a) ys)) turned
    (best_from (xs ++ a ∷ []) ys (better acc a) (best_more xs acc a h (behind_all xs ys a rising)) (subst (AllPairs (λ b c. put_in b < put_in c)) (sym turned) rising))

pub best_is : (answers : List Answer) → AllPairs (λ b c. put_in b < put_in c) answers → IsBestOf answers (best_reply answers)
best_is answers rising = best_from [] answers None (All-nil IsEmpty) rising
