-- The last entry of a place tells what all entries of that place are.
use Rattle.std.proofs.Common.{◌≡◌, refl, sym, ap, ◌∙◌, subst, ℕ, suc, ◌<◌, ◌≤◌, ◌==◌, Bool, true, false, not, cond, List, [], ◌∷◌, get_or, Option, Some, None, arith}
use Rattle.std.specs.Prelude.{find, reverse}
use Rattle.std.specs.List.{All, AllPairs, Contains}
use Rattle.std.specs.Option.{option_map_or, option_or}
use Rattle.std.proofs.lemmas.Bool.Decides.{nat_tests}
use Rattle.std.proofs.lemmas.List.{reverse-append}
use Rattle.std.proofs.lemmas.List.Elements.{All-nil, All-cons}
use Rattle.std.proofs.lemmas.List.Folds.{find-append}
use Rattle.base_words.proofs.Pairs.{pairs_head, pairs_tail}
use Rattle.base_words.proofs.Comparisons.{both_parts}
use Rattle.stoch_lines.specs.Faults.{is_given, is_taken, last_at}
use Rattle.stoch_lines.specs.Places.{same_place}
use Rattle.stoch_lines.specs.declared.entries.Owned.{Owned}
use Rattle.stoch_lines.specs.declared.places.StochPlace.{StochPlace}
use Rattle.stoch_lines.specs.declared.places.StochPlace.TheVariants.{Cost, Cell, Right}
use Rattle.smps_stoch.specs.SaidFacts.{Follows}

-- a place is the same exactly as itself
pub same_is : (p q : StochPlace) → same_place p q ≡ true → p ≡ q
same_is (Cost a) (Cost b) e = ap (λ n. Cost n) (grind (arith, e))
same_is (Cost a) (Cell c d) e = absurd (cc e)
same_is (Cost a) (Right b) e = absurd (cc e)
same_is (Cell a b) (Cost c) e = absurd (cc e)
same_is (Cell a b) (Cell c d) e =
    let parts = both_parts (a == c) (b == d) e in
    let row : a ≡ c = grind (arith, parts.0) in
    let column : b ≡ d = grind (arith, parts.1) in
    cc
same_is (Cell a b) (Right c) e = absurd (cc e)
same_is (Right a) (Cost b) e = absurd (cc e)
same_is (Right a) (Cell c d) e = absurd (cc e)
same_is (Right a) (Right b) e = ap (λ n. Right n) (grind (arith, e))

pub same_self : (p : StochPlace) → same_place p p ≡ true
same_self (Cost a) = grind arith
same_self (Cell a b) = grind arith
same_self (Right a) = grind arith

-- two that are the same as a third
same_both : (p q r : StochPlace) → same_place p r ≡ true → same_place q r ≡ true → same_place p q ≡ true
same_both p q r e f =
    let same : p ≡ q = same_is p r e ∙ sym (same_is q r f) in
    subst (λ (x : StochPlace). same_place p x ≡ true) same (same_self p)

same_sym : (p q : StochPlace) → same_place p q ≡ false → same_place q p ≡ false
same_sym (Cost a) (Cost b) e = grind (arith, e)
same_sym (Cost a) (Cell c d) e = refl
same_sym (Cost a) (Right b) e = refl
same_sym (Cell a b) (Cost c) e = refl
same_sym (Cell a b) (Cell c d) e = grind (arith, e)
same_sym (Cell a b) (Right c) e = refl
same_sym (Right a) (Cost b) e = refl
same_sym (Right a) (Cell c d) e = refl
same_sym (Right a) (Right b) e = grind (arith, e)

module _ (place : StochPlace) where
  abbrev IsOf : Owned → Bool
  IsOf owned = same_place owned.entry.place place

  -- each entry of the place is of the last one's element, and of its choice or one before it
  abbrev pub IsUnder : Owned → Owned → Type 0
  IsUnder last owned = same_place owned.entry.place place ≡ true → (owned.element ≡ last.element) × (owned.choice ≤ last.choice)

  abbrev pub IsLast : List Owned → Option Owned → Type 0
  IsLast entries None = All (λ owned. same_place owned.entry.place place ≡ false) entries
  IsLast entries (Some last) = (same_place last.entry.place place ≡ true) × Contains entries last × All (IsUnder last) entries

  within_more : (entries : List Owned) (first owned : Owned) → Contains entries owned → Contains (first ∷ entries) owned
  within_more entries first owned (k, lt, at) = (suc k, omega (arith, lt), at)

  last_of_more : (b : Bool) (first : Owned) (entries : List Owned) (last : Option Owned) → IsOf first ≡ b → All (Follows first) entries → IsLast entries last → IsLast (first ∷ entries) (option_or last (cond b (Some first) None))
  last_of_more false first entries None is follows none = All-cons (λ (owned : Owned). IsOf owned ≡ false) first entries is none
  last_of_more true first entries None is follows none =
      (is, (0, omega arith, refl), All-cons (IsUnder first) first entries (λ same. (refl, omega arith)) (λ k d lt same. absurd (let e : true ≡ false = sym same ∙ none k d lt in cc e)))
  last_of_more b first entries (Some last) is follows found =
      let within = found.1 in
      let one : IsUnder last first = λ same.
      let at : get_or entries within.0 last ≡ last = within.2 in
      let after = follows within.0 last within.1 (subst (λ (o : Owned). same_place first.entry.place o.entry.place ≡ true) (sym at) (same_both first.entry.place last.entry.place place same found.0)) in
      (after.0 ∙ ap (λ (o : Owned). o.element) at, subst (λ (o : Owned). first.choice ≤ o.choice) at (omega (arith, after.1))) in
      (found.0, within_more entries first last within, All-cons (IsUnder last) first entries one found.2)

  last_cons : (first : Owned) (entries : List Owned) → last_at place (first ∷ entries) ≡ option_or (last_at place entries) (cond (IsOf first) (Some first) None)
  last_cons first entries =
      ap (find IsOf) (reverse-append (first ∷ []) entries) ∙ find-append IsOf (reverse entries) (first ∷ [])

  pub last_is : (entries : List Owned) → AllPairs Follows entries → IsLast entries (last_at place entries)
  last_is [] pairs = All-nil (λ (owned : Owned). IsOf owned ≡ false)
  last_is (first ∷ entries) pairs =
      subst (IsLast (first ∷ entries)) (sym (last_cons first entries))
      (last_of_more (IsOf first) first entries (last_at place entries) refl (pairs_head Follows first entries pairs) (last_is entries (pairs_tail Follows first entries pairs)))

  -- where a place belongs to no other element, all its entries are of this one
  abbrev pub IsKept : ℕ → Owned → Type 0
  IsKept element owned = same_place owned.entry.place place ≡ true → owned.element ≡ element

  kept_by : (element : ℕ) (entries : List Owned) (last : Option Owned) → IsLast entries last → option_map_or (λ owned. not (owned.element == element)) last false ≡ false → All (IsKept element) entries
  kept_by element entries None none test k d lt same = absurd (let e : true ≡ false = sym same ∙ none k d lt in cc e)
  kept_by element entries (Some last) found test k d lt same =
      let is : last.element ≡ element = grind (arith, nat_tests, test) in
      (found.2 k d lt same).0 ∙ is

  pub kept : (element : ℕ) (entries : List Owned) → AllPairs Follows entries → is_taken entries element place ≡ false → All (IsKept element) entries
  kept element entries pairs test = kept_by element entries (last_at place entries) (last_is entries pairs) test

  -- where it isn't given in the last choice, all its entries are of earlier ones
  abbrev pub IsBefore : ℕ → Owned → Type 0
  IsBefore choice owned = same_place owned.entry.place place ≡ true → owned.choice < choice

  before_by : (choice : ℕ) (entries : List Owned) (last : Option Owned) → IsLast entries last → All (λ owned. owned.choice ≤ choice) entries → option_map_or (λ owned. owned.choice == choice) last false ≡ false → All (IsBefore choice) entries
  before_by choice entries None none most test k d lt same = absurd (let e : true ≡ false = sym same ∙ none k d lt in cc e)
  before_by choice entries (Some last) found most test k d lt same =
      let at = found.1.2 in
      let small : last.choice ≤ choice = subst (λ (o : Owned). o.choice ≤ choice) at (most found.1.0 last found.1.1) in
      let under = (found.2 k d lt same).1 in
      grind (arith, nat_tests, test, small, under)

  pub before : (choice : ℕ) (entries : List Owned) → AllPairs Follows entries → All (λ owned. owned.choice ≤ choice) entries → is_given entries choice place ≡ false → All (IsBefore choice) entries
  before choice entries pairs most test = before_by choice entries (last_at place entries) (last_is entries pairs) most test
