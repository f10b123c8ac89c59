-- One answer more: the list of puts, the puts replied to, and the best.
use Rattle.std.proofs.Common.{arith, refl, ap, ◌∙◌, ◌≡◌, ℕ, ◌-◌, ◌<◌, ◌≤◌, List, [], ◌∷◌, ◌++◌, length, map, get_or, ℤ, Option, None, ◌⊎◌, inl, inr}
use Rattle.std.specs.List.{All}
use Rattle.std.proofs.lemmas.List.{get_or-map, length-map, map-append}
use Rattle.std.proofs.lemmas.List.Sums.{fold-append}
use Rattle.std.proofs.lemmas.List.Quantifiers.{all_pairs_push}
use Rattle.std.proofs.lemmas.Bool.{cases_lt}
use Rattle.window_words.proofs.Listed.{last_push}
use Rattle.std.proofs.lemmas.List.Elements.{All-append, All-cons, All-head, All-nil, All-tail}
use Rattle.sp_model.specs.declared.run.Run.{Run}
use Rattle.log_words.specs.declared.log.Answer.{Answer}
use Rattle.log_words.specs.declared.log.Answer.TheVariants.{Reply, Skip}
use Rattle.window_words.specs.Views.{last_of}
use Rattle.lagrangian_spoke.specs.Answering.{AreAnswers, IsAnswer, best_reply, better, last_put, put_in, replied}

pub best_more : (answers : List Answer) (a : Answer) → best_reply (answers ++ a ∷ []) ≡ better (best_reply answers) a
best_more answers a = fold-append better None answers (a ∷ [])

pub last_more : (answers : List Answer) (a : Answer) → last_put (answers ++ a ∷ []) ≡ put_in a
last_more answers a = ap last_of (map-append put_in answers (a ∷ [])) ∙ last_push (map put_in answers) (put_in a)

pub replied_reply : (answers : List Answer) (k : ℕ) (value : Option ℤ) → replied (answers ++ Reply k value ∷ []) ≡ replied answers ++ k ∷ []
replied_reply [] k value = refl
replied_reply (Reply j v ∷ answers) k value = ap (λ ks. j ∷ ks) (replied_reply answers k value)
replied_reply (Skip j s opened ∷ answers) k value = replied_reply answers k value

pub replied_skip : (answers : List Answer) (k s opened : ℕ) → replied (answers ++ Skip k s opened ∷ []) ≡ replied answers
replied_skip [] k s opened = refl
replied_skip (Reply j v ∷ answers) k s opened = ap (λ ks. j ∷ ks) (replied_skip answers k s opened)
replied_skip (Skip j u o ∷ answers) k s opened = replied_skip answers k s opened

-- each answer is to a put of at most the last one's
below_last : (run : Run) (i : ℕ) (answers : List Answer) → AreAnswers run i answers → (k : ℕ) (d : Answer) → k < length answers → put_in (get_or answers k d) ≤ last_put answers
below_last run i answers h k d l =
    let long : length (map put_in answers) ≡ length answers = length-map answers put_in in
    let at : length (map put_in answers) - 1 ≡ length answers - 1 = omega arith in
    let last : last_put answers ≡ put_in (get_or answers (length answers - 1) d) = ap (λ n. get_or (map put_in answers) n 0) at ∙ get_or-map put_in answers (length answers - 1) d 0 (omega arith) in
    by_place last (cases_lt k (length answers - 1))
  where
    by_place : last_put answers ≡ put_in (get_or answers (length answers - 1) d) → (k < length answers - 1) ⊎ (length answers - 1 ≤ k) → put_in (get_or answers k d) ≤ last_put answers
    by_place last (inl less) = let under : put_in (get_or answers k d) < put_in (get_or answers (length answers - 1) d) = h.rising k (length answers - 1) d less (omega arith) in omega arith
    by_place last (inr more) = let same : k ≡ length answers - 1 = omega arith in let is = ap (λ n. put_in (get_or answers n d)) same in omega (arith, is, last)

-- a right answer to a newer put
pub answer_more : (run : Run) (i : ℕ) (answers : List Answer) (a : Answer) → AreAnswers run i answers → IsAnswer run i a → last_put answers < put_in a → AreAnswers run i (answers ++ a ∷ [])
answer_more run i answers a h is newer = record {
  right = All-append (IsAnswer run i) answers (a ∷ []) h.right (All-cons (IsAnswer run i) a [] is (All-nil (IsAnswer run i)));
  rising = all_pairs_push (λ b c. put_in b < put_in c) answers a h.rising (λ k d l. let below = below_last run i answers h k d l in omega arith);
}

-- what holds of all puts answered holds of those replied to
replied_all : (P : ℕ → Type 0) (answers : List Answer) → All (λ a. P (put_in a)) answers → All P (replied answers)
replied_all P [] h = All-nil P
replied_all P (Reply k v ∷ answers) h = All-cons P k (replied answers) (All-head (λ a. P (put_in a)) (Reply k v) answers h) (replied_all P answers (All-tail (λ a. P (put_in a)) (Reply k v) answers h))
replied_all P (Skip k s o ∷ answers) h = replied_all P answers (All-tail (λ a. P (put_in a)) (Skip k s o) answers h)

last_below : (n : ℕ) (ks : List ℕ) → All (λ k. k ≤ n) ks → last_of ks ≤ n
last_below n [] h = omega arith
last_below n (k ∷ ks) h = h (length (k ∷ ks) - 1) 0 (omega arith)

-- the last put replied to isn't newer than the last answered
pub replied_below : (run : Run) (i : ℕ) (answers : List Answer) → AreAnswers run i answers → last_of (replied answers) ≤ last_put answers
replied_below run i answers h = last_below (last_put answers) (replied answers) (replied_all (λ k. k ≤ last_put answers) answers (below_last run i answers h))
