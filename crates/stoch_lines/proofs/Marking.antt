-- The marks of places tell what their last entries tell.
use Rattle.std.proofs.Common.{◌≡◌, sym, ap, ◌∙◌, ℕ, ◌+◌, Bool, true, false, cond, not, nat_eq, List, [], ◌∷◌, ◌++◌, Option, Some, None, arith}
use Rattle.std.specs.Prelude.{find}
use Rattle.std.specs.Option.{option_map_or}
use Rattle.std.proofs.lemmas.List.{reverse-append}
use Rattle.indexmap.specs.IndexMap.{IndexMap, get, Updates}
use Rattle.stoch_lines.specs.declared.entries.Owned.{Owned}
use Rattle.stoch_lines.specs.declared.entries.Mark.{Mark}
use Rattle.stoch_lines.specs.declared.places.StochPlace.{StochPlace}
use Rattle.stoch_lines.specs.Places.{same_place}
use Rattle.stoch_lines.specs.Faults.{last_at}
use Rattle.stoch_lines.specs.Marks.{AreMarked}

-- a mark's element is another one exactly where the last entry's is
pub taken_is : (element mark : ℕ) (last : Option Owned) → mark + 1 ≡ option_map_or (λ owned. owned.element + 1) last 0 → not (nat_eq mark element) ≡ option_map_or (λ owned. not (nat_eq owned.element element)) last false
taken_is element mark None same = absurd (omega (arith, same))
taken_is element mark (Some owned) same =
    let equal : mark ≡ owned.element = omega (arith, same) in
    ap (λ n. not (nat_eq n element)) equal

pub given_is : (choice mark : ℕ) (last : Option Owned) → mark + 1 ≡ option_map_or (λ owned. owned.choice + 1) last 0 → nat_eq mark choice ≡ option_map_or (λ owned. nat_eq owned.choice choice) last false
given_is choice mark None same = absurd (omega (arith, same))
given_is choice mark (Some owned) same =
    let equal : mark ≡ owned.choice = omega (arith, same) in
    ap (λ n. nat_eq n choice) equal

-- the last entry of a place behind one more entry
last_push : (place : StochPlace) (items : List Owned) (owned : Owned) → last_at place (items ++ owned ∷ []) ≡ cond (same_place owned.entry.place place) (Some owned) (last_at place items)
last_push place items owned = ap (find (λ (o : Owned). same_place o.entry.place place)) (reverse-append items (owned ∷ []))

one_mark : {X Y : Type 0} (f : X → ℕ) (g : Y → ℕ) (b : Bool) (x : X) (y : Y) (xs : Option X) (ys : Option Y) → f x ≡ g y → option_map_or f xs 0 ≡ option_map_or g ys 0 → option_map_or f (cond b (Some x) xs) 0 ≡ option_map_or g (cond b (Some y) ys) 0
one_mark f g true x y xs ys new old = new
one_mark f g false x y xs ys new old = old

pub marked_push : {S : Type 0} (marks after : IndexMap StochPlace Mark S) (items : List Owned) (owned : Owned) (mark : Mark) → mark.element ≡ owned.element → mark.choice ≡ owned.choice → AreMarked marks items → Updates same_place marks after owned.entry.place (Some mark) → AreMarked after (items ++ owned ∷ [])
marked_push marks after items owned mark element choice before updates = record {
  elements = λ place. ap (λ o. option_map_or (λ m. m.element + 1) o 0) (updates.0 place)
      ∙ one_mark (λ (m : Mark). m.element + 1) (λ (o : Owned). o.element + 1) (same_place owned.entry.place place) mark owned (get same_place marks place) (last_at place items) (ap (λ n. n + 1) element) (before.elements place)
      ∙ sym (ap (λ o. option_map_or (λ (o : Owned). o.element + 1) o 0) (last_push place items owned));
  choices = λ place. ap (λ o. option_map_or (λ m. m.choice + 1) o 0) (updates.0 place)
      ∙ one_mark (λ (m : Mark). m.choice + 1) (λ (o : Owned). o.choice + 1) (same_place owned.entry.place place) mark owned (get same_place marks place) (last_at place items) (ap (λ n. n + 1) choice) (before.choices place)
      ∙ sym (ap (λ o. option_map_or (λ (o : Owned). o.choice + 1) o 0) (last_push place items owned));
}
