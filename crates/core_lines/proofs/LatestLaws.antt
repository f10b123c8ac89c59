-- An array in which each item that speaks is put in its place holds what the latest items say.
use Rattle.std.proofs.Common.{◌≡◌, sym, ◌∙◌, ap, ℕ, ◌<◌, ◌==◌, Bool, true, false, List, [], ◌∷◌, ◌++◌, length, take, get_or, set, ◌+◌, subst, arith, inl, inr}
use Rattle.std.specs.Prelude.{◌&&◌, if◌then◌else◌}
use Rattle.std.proofs.lemmas.Bool.{cases_eq}
use Rattle.std.proofs.lemmas.Grind.{common_steps}
use Rattle.std.proofs.lemmas.List.{length-set, take_more}
use Rattle.std.proofs.lemmas.List.Sums.{fold_push}
use Rattle.smps_words.specs.Outcomes.{latest}

pub latest_push : {X V : Type 0} (passes : X → Bool) (says : X → V) (other : V) (items : List X) (x : X) → latest passes says other (items ++ x ∷ []) ≡ (if passes x then says x else latest passes says other items)
latest_push passes says other items x = fold_push (λ last y. if passes y then says y else last) other items x

-- one more item, where it speaks and where it doesn't
pub put_is : {X V : Type 0} (speaks : X → Bool) (at : X → ℕ) (says : X → V) (other d : V) (items : List X) (x : X) (values : List V) (j : ℕ) → j < length values → get_or values j d ≡ latest (λ y. speaks y && (at y == j)) says other items → get_or (if speaks x then set values (at x) (says x) else values) j d ≡ latest (λ y. speaks y && (at y == j)) says other (items ++ x ∷ [])
put_is {X} {V} speaks at says other d items x values j lt before =
    put_by (speaks x) ∙ sym (latest_push (λ y. speaks y && (at y == j)) says other items x)
  where
    put_by : (s : Bool) → get_or (if s then set values (at x) (says x) else values) j d ≡ (if s && (at x == j) then says x else latest (λ y. speaks y && (at y == j)) says other items)
    put_by false = before
    put_by true = elim (cases_eq j (at x)) as (λ _. get_or (set values (at x) (says x)) j d ≡ (if (at x == j) then says x else latest (λ y. speaks y && (at y == j)) says other items)) [
      | inl e ↦ grind (arith, common_steps)
      | inr ne ↦ grind (arith, common_steps)
    ]

-- the same in the course of a loop
pub put_each : {X V : Type 0} (speaks : X → Bool) (at : X → ℕ) (says : X → V) (other d : V) (items : List X) (i : ℕ) (e : X) (values new : List V) (count : ℕ) → i < length items → length values ≡ count → ((j : ℕ) → j < count → get_or values j d ≡ latest (λ y. speaks y && (at y == j)) says other (take i items)) → new ≡ (if speaks (get_or items i e) then set values (at (get_or items i e)) (says (get_or items i e)) else values) → (j : ℕ) → j < count → get_or new j d ≡ latest (λ y. speaks y && (at y == j)) says other (take (i + 1) items)
put_each {X} {V} speaks at says other d items i e values new count lt counted before is j small =
    ap (λ (l : List V). get_or l j d) is
    ∙ put_is speaks at says other d (take i items) (get_or items i e) values j (subst (λ n. j < n) (sym counted) small) (before j small)
    ∙ ap (latest (λ y. speaks y && (at y == j)) says other) (sym (take_more items i e lt))

pub put_length : {V : Type 0} (s : Bool) (at : ℕ) (v : V) (values new : List V) (count : ℕ) → length values ≡ count → new ≡ (if s then set values at v else values) → length new ≡ count
put_length {V} false at v values new count counted is = ap (λ (l : List V). length l) is ∙ counted
put_length {V} true at v values new count counted is = ap (λ (l : List V). length l) is ∙ length-set values at v ∙ counted
