-- Lists made by a number of their place, of which one place changes at a time.
use Rattle.std.proofs.Common.{◌≡◌, refl, sym, ap, ◌∙◌, ℕ, ◌+◌, ◌<◌, ◌≤◌, ◌==◌, Bool, true, false, cond, zero, suc, List, [], ◌∷◌, ◌++◌, length, map, set, get_or, subst, arith, eq-eqb}
use Rattle.std.specs.Prelude.{filter}
use Rattle.std.specs.List.{All, range_with_len}
use Rattle.std.proofs.lemmas.List.{append-nil}
use Rattle.std.proofs.lemmas.List.Elements.{filter-append}
use Rattle.std.proofs.lemmas.List.FromFn.{length-map-range_with_len, map-range_with_len_more}
use Rattle.base_words.proofs.Made.{changed, made_at, same_made}

module _ {X : Type 0} where
  -- what holds at each place holds of the list's items
  pub all_made : (P : X → Type 0) (f : ℕ → X) (n : ℕ) → ((k : ℕ) → k < n → P (f k)) → All P (map f (range_with_len 0 n))
  all_made P f n holds k d lt =
      let below : k < n = subst (λ (m : ℕ). k < m) (length-map-range_with_len f 0 n) lt in
      subst P (sym (made_at f n k d below)) (holds k below)

  -- a list of which one item has changed is that of the new function
  pub grown : (f g : ℕ → X) (n k : ℕ) (before after : List X) (x y : X) → before ≡ map f (range_with_len 0 n) → k < length before → x ≡ get_or before k x → after ≡ set before k y → (f k ≡ x → g k ≡ y) → ((j : ℕ) → (j ≡ k → ⊥) → g j ≡ f j) → after ≡ map g (range_with_len 0 n)
  grown f g n k before after x y is within at made next others =
      let long : length before ≡ n = ap (λ (xs : List X). length xs) is ∙ length-map-range_with_len f 0 n in
      let lt : k < n = subst (λ (m : ℕ). k < m) long within in
      let same : f k ≡ x = sym (made_at f n k x lt) ∙ ap (λ (xs : List X). get_or xs k x) (sym is) ∙ sym at in
      made ∙ ap (λ (xs : List X). set xs k y) is ∙ changed f g n k y lt (next same) others

  -- and one of which none has changed
  pub kept : (f g : ℕ → X) (n k : ℕ) (before : List X) → before ≡ map f (range_with_len 0 n) → length before ≤ k → ((j : ℕ) → (j ≡ k → ⊥) → g j ≡ f j) → before ≡ map g (range_with_len 0 n)
  kept f g n k before is past others =
      let long : length before ≡ n = ap (λ (xs : List X). length xs) is ∙ length-map-range_with_len f 0 n in
      is ∙ same_made f g n (λ j lt. sym (others j (λ same. absurd (omega (arith, lt, long, past, same)))))

  -- one more place
  pub one_more_made : (f : ℕ → X) (n : ℕ) (x : X) → f n ≡ x → map f (range_with_len 0 (n + 1)) ≡ map f (range_with_len 0 n) ++ x ∷ []
  one_more_made f n x same = map-range_with_len_more f 0 n n (omega arith) ∙ ap (λ (y : X). map f (range_with_len 0 n) ++ y ∷ []) same

  -- the items with a number, with one more item
  pub keyed_same : (key : X → ℕ) (xs : List X) (x : X) (k : ℕ) → key x ≡ k → filter (λ x. key x == k) (xs ++ x ∷ []) ≡ filter (λ x. key x == k) xs ++ x ∷ []
  keyed_same key xs x k same =
      let e : (key x == k) ≡ true = eq-eqb (key x) k same in
      rw (filter-append, e) refl

  keyed_false : (key : X → ℕ) (xs : List X) (x : X) (k : ℕ) → (key x == k) ≡ false → filter (λ x. key x == k) (xs ++ x ∷ []) ≡ filter (λ x. key x == k) xs
  keyed_false key xs x k e = rw (filter-append, e, append-nil) refl

  pub keyed_other : (key : X → ℕ) (xs : List X) (x : X) (k : ℕ) → (k ≡ key x → ⊥) → filter (λ x. key x == k) (xs ++ x ∷ []) ≡ filter (λ x. key x == k) xs
  keyed_other key xs x k other =
      let e : (key x == k) ≡ false = grind (arith, other) in
      keyed_false key xs x k e

  -- where an item passes a test, some item is left
  more_left : (b : Bool) (x : X) (xs : List X) → 0 < length xs → 0 < length (cond b (x ∷ xs) xs)
  more_left true x xs some = omega arith
  more_left false x xs some = some

  pub passing_left : (p : X → Bool) (xs : List X) (k : ℕ) (d : X) → k < length xs → p (get_or xs k d) ≡ true → 0 < length (filter p xs)
  passing_left p [] k d lt pass = absurd (omega (arith, lt))
  passing_left p (x ∷ xs) zero d lt pass =
      let P : Bool → Type 0 = λ b. 0 < length (cond b (x ∷ filter p xs) (filter p xs)) in
      subst P (sym pass) (omega arith)
  passing_left p (x ∷ xs) (suc k) d lt pass = more_left (p x) x (filter p xs) (passing_left p xs k d (omega (arith, lt)) pass)
