-- The number of an item in a list that only new items make longer stays as the list grows.
use Rattle.std.proofs.Common.{◌≡◌, refl, ap, ◌∙◌, ◌+◌, Bool, true, false, cond, ◌||◌, List, [], ◌∷◌, ◌++◌, length, arith, eqb, eq-eqb, length-append}
use Rattle.std.specs.List.{list_any, position_or_len}
use Rattle.std.proofs.lemmas.Bool.Decides.{nat_tests}
use Rattle.std.proofs.lemmas.List.{get_or_at}
use Rattle.std.proofs.lemmas.List.Folds.{list_any-append, list_any_at, position_or_len_push}
use Rattle.base_words.proofs.Positions.{place_there}
use Rattle.stoch_lines.proofs.Positions.{none_passes}

-- the number of an item that is there stays as the list grows, and a new one has the next number
module _ {X : Type 0} (same : X → X → Bool) (items : List X) (new : X) where
  pub old_number : (item : X) → list_any (same item) items ≡ true → position_or_len (same item) (items ++ new ∷ []) ≡ position_or_len (same item) items
  old_number item known =
      let below = place_there (same item) items known in
      let off : eqb (position_or_len (same item) items) (length items) ≡ false = grind (arith, nat_tests, below) in
      position_or_len_push (same item) items new
      ∙ ap (λ (b : Bool). cond b (length items + cond (same item new) 0 1) (position_or_len (same item) items)) off

  pub new_number : same new new ≡ true → list_any (same new) items ≡ false → position_or_len (same new) (items ++ new ∷ []) ≡ position_or_len (same new) items
  new_number self unknown =
      let past = none_passes (same new) items unknown in
      position_or_len_push (same new) items new
      ∙ ap (λ (b : Bool). cond b (length items + cond (same new new) 0 1) (position_or_len (same new) items)) (eq-eqb _ _ past)
      ∙ ap (λ (b : Bool). length items + cond b 0 1) self
      ∙ (omega (arith, past))

  pub known_more : (item : X) → list_any (same item) items ≡ true → list_any (same item) (items ++ new ∷ []) ≡ true
  known_more item known =
      list_any-append (same item) items (new ∷ [])
      ∙ ap (λ (b : Bool). b || list_any (same item) (new ∷ [])) known

  pub known_now : same new new ≡ true → list_any (same new) (items ++ new ∷ []) ≡ true
  known_now self =
      list_any_at (same new) (items ++ new ∷ []) (length items) new (rw length-append (omega arith))
      (ap (same new) (get_or_at items new [] new (length items) refl) ∙ self)
