-- Lists made by the numbers of their places.
use Rattle.std.proofs.Common.{◌≡◌, sym, ap, ◌∙◌, ℕ, ◌+◌, ◌<◌, List, [], ◌∷◌, ◌++◌, length, map, set, get_or, subst, inl, inr, arith}
use Rattle.std.specs.List.{range_with_len}
use Rattle.std.proofs.lemmas.Bool.{cases_eq}
use Rattle.std.proofs.lemmas.List.{same_lists, length-set, get_or-set_same, get_or-set_other}
use Rattle.std.proofs.lemmas.List.FromFn.{length-map-range_with_len, get_or-map-range_with_len, map-range_with_len_more}

module _ {X : Type 0} where
  -- the k-th item
  pub made_at : (f : ℕ → X) (n k : ℕ) (d : X) → k < n → get_or (map f (range_with_len 0 n)) k d ≡ f k
  made_at f n k d lt = get_or-map-range_with_len f 0 n k k d lt (omega arith)

  -- a list whose items are those of a function
  pub is_made : (xs : List X) (f : ℕ → X) (n : ℕ) → length xs ≡ n → ((j : ℕ) (d : X) → j < n → get_or xs j d ≡ f j) → xs ≡ map f (range_with_len 0 n)
  is_made xs f n long same =
      same_lists xs (map f (range_with_len 0 n))
      (long ∙ sym (length-map-range_with_len f 0 n))
      (λ j d lt.
      let below : j < n = subst (λ (m : ℕ). j < m) long lt in
      same j d below ∙ sym (made_at f n j d below))

  -- two such lists are the same where they agree at each place
  pub same_made : (f g : ℕ → X) (n : ℕ) → ((j : ℕ) → j < n → f j ≡ g j) → map f (range_with_len 0 n) ≡ map g (range_with_len 0 n)
  same_made f g n same = is_made (map f (range_with_len 0 n)) g n (length-map-range_with_len f 0 n) (λ j d lt. made_at f n j d lt ∙ same j lt)

  -- one place is changed
  pub changed : (f g : ℕ → X) (n k : ℕ) (y : X) → k < n → g k ≡ y → ((j : ℕ) → (j ≡ k → ⊥) → g j ≡ f j) → set (map f (range_with_len 0 n)) k y ≡ map g (range_with_len 0 n)
  changed f g n k y within at others =
      let fs = map f (range_with_len 0 n) in
      let long : length fs ≡ n = length-map-range_with_len f 0 n in
      is_made (set fs k y) g n (length-set fs k y ∙ long) (λ j d lt. elim (cases_eq j k) [
        | inl same ↦ ap (λ (m : ℕ). get_or (set fs k y) m d) same ∙ get_or-set_same fs k y d (subst (λ (m : ℕ). k < m) (sym long) within) ∙ sym at ∙ ap g (sym same)
        | inr other ↦ get_or-set_other fs k j y d other ∙ made_at f n j d lt ∙ sym (others j other)
      ])

  -- one item more of those from a on
  pub next_made : (f : ℕ → X) (a n j : ℕ) (old new : List X) (x : X) → a + n ≡ j → new ≡ old ++ x ∷ [] → x ≡ f j → old ≡ map f (range_with_len a n) → new ≡ map f (range_with_len a (n + 1))
  next_made f a n j old new x e pushed is made = pushed ∙ (ap (λ y. old ++ y ∷ []) is ∙ (ap (λ ys. ys ++ f j ∷ []) made ∙ sym (map-range_with_len_more f a n j e)))

  -- the same of all from 0 on
  pub map_next : (f : ℕ → X) (n : ℕ) (old new : List X) (x : X) → new ≡ old ++ x ∷ [] → x ≡ f n → old ≡ map f (range_with_len 0 n) → new ≡ map f (range_with_len 0 (n + 1))
  map_next f n old new x pushed is made = next_made f 0 n n old new x (omega arith) pushed is made
