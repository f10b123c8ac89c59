-- The mark of some choices with one more element.
use Rattle.std.proofs.Common.{arith, ◌≡◌, ◌<◌, ◌≤◌, ◌+◌, ◌*◌, ℕ, ◌∙◌, ap, sym, subst, length, drop, List, add-one}
use Rattle.smps_stoch.specs.declared.stoch.Element.{Element}
use Rattle.scenario_lists.specs.Combinations.{AreChoices, choice_until, combinations, mark_below, realisations_at}
use Rattle.scenario_lists.proofs.Agreement.{until_below}
use Rattle.scenario_lists.proofs.Digits.{below_whole, combinations_next, factor_positive, mark_step, some_combination}

-- elements of which each has a choice have a combination
pub some_choice : (es : List Element) (cs : List ℕ) → AreChoices es cs → 0 < combinations es
some_choice es cs choices = some_combination es (λ k lt. omega (arith, choices.there k lt))

-- what is known after one more element: the mark, the room for the combinations behind it, and that there is one
pub record IsMark (es : List Element) (cs : List ℕ) (t k mark : ℕ) : Type 0 where
  pub mark_is : mark ≡ mark_below es cs t k
  pub room : (mark + 1) * combinations (drop k es) ≤ combinations es
  pub some : 0 < combinations (drop k es)

pub mark_next : (es : List Element) (cs : List ℕ) (t k mark len choice : ℕ) → k < length es → AreChoices es cs → len ≡ length (realisations_at es k) → choice ≡ choice_until es cs t k → mark ≡ mark_below es cs t k → (mark + 1) * combinations (drop k es) ≤ combinations es → 0 < combinations (drop k es) → IsMark es cs t (k + 1) (mark * len + choice)
mark_next es cs t k mark len choice lt choices many chosen is room some =
    let n = length (realisations_at es k) in
    let m = combinations (drop (k + 1) es) in
    let next = combinations_next es k lt in
    let below : choice < len = omega (arith, until_below es cs t choices k lt, many, chosen) in
    let positive : 0 < n * m = omega (arith, next, some) in
    let product : len * m ≡ n * m = ap (λ l. l * m) many in
    let left : (mark + 1) * (len * m) ≤ combinations es = let P : ℕ → Type 0 = λ p. (mark + 1) * p ≤ combinations es in subst P (next ∙ sym product) room in
    record {
      mark_is = ap (λ l. mark * l + choice) many ∙ (ap (λ d. mark * n + d) chosen ∙ (ap (λ a. a * n + choice_until es cs t k) is ∙ sym (ap (mark_below es cs t) (add-one k))));
      room = mark_step mark len choice m (combinations es) below left;
      some = factor_positive 0 n m positive;
    }

-- the number made so far is small
mark_small : (es : List Element) (cs : List ℕ) (t k mark : ℕ) → IsMark es cs t k mark → mark + 1 ≤ combinations es
mark_small es cs t k mark known = below_whole (mark + 1) (combinations (drop k es)) (combinations es) known.some known.room
