-- The first answer that the numbers below n give, number by number.

use Rattle.std.proofs.Common.{arith, sym, ap, ◌∙◌, ◌≡◌, ℕ, ◌+◌, ◌<◌, add-one, [], ◌∷◌, get_or, Option, Some, None}
use Rattle.std.specs.List.{range_with_len}
use Rattle.std.specs.Option.{option_or}
use Rattle.std.proofs.lemmas.List.Elements.{All-from_recursion}
use Rattle.std.proofs.lemmas.List.FromFn.{get_or-range_with_len, length-range_with_len}
use Rattle.base_words.specs.FirstAnswers.{first_some}
use Rattle.base_words.proofs.FirstAnswers.{first_some-all_none, first_some-append, first_some-found, option_or_none}
use Rattle.base_words.proofs.ListSumsByNumber.{range_more, take_range}

-- one number more
first_next : {B : Type 0} (f : ℕ → Option B) (k : ℕ) → first_some f (range_with_len 0 k) ≡ None → first_some f (range_with_len 0 (k + 1)) ≡ f k
first_next f k none =
    let zeroth : 0 + k ≡ k = omega arith in
    ap (λ n. first_some f (range_with_len 0 n)) (add-one k)
    ∙ ap (first_some f) (range_more 0 k)
    ∙ first_some-append f (range_with_len 0 k) ((0 + k) ∷ [])
    ∙ ap (λ a. option_or a (option_or (f (0 + k)) None)) none
    ∙ ap (λ m. option_or (f m) None) zeroth
    ∙ option_or_none (f k)

pub number_none : {B : Type 0} (f : ℕ → Option B) (k : ℕ) → first_some f (range_with_len 0 k) ≡ None → f k ≡ None → first_some f (range_with_len 0 (k + 1)) ≡ None
number_none f k none own = first_next f k none ∙ own

-- the first number that answers
pub number_found : {B : Type 0} (f : ℕ → Option B) (k n : ℕ) (b : B) → k < n → first_some f (range_with_len 0 k) ≡ None → f k ≡ Some b → first_some f (range_with_len 0 n) ≡ Some b
number_found f k n b l none own = first_some-found f (range_with_len 0 n) (k + 1) b (ap (first_some f) (take_range 0 n (k + 1) (omega arith)) ∙ first_next f k none ∙ own)

-- where none answers, each number gives none
pub number_each : {B : Type 0} (f : ℕ → Option B) (n k : ℕ) → first_some f (range_with_len 0 n) ≡ None → k < n → f k ≡ None
number_each f n k none l =
    let all = All-from_recursion (λ i. f i ≡ None) (range_with_len 0 n) (first_some-all_none f (range_with_len 0 n) none) in
    let at : get_or (range_with_len 0 n) k 0 ≡ k = get_or-range_with_len 0 n k 0 l ∙ omega arith in
    ap f (sym at) ∙ all k 0 (omega (arith, length-range_with_len 0 n))
