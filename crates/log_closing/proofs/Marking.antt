-- One mark more, and the marks of the replies that were taken.

use Rattle.std.proofs.Common.{arith, refl, sym, ap, subst, ◌∙◌, ◌≡◌, ◌≢◌, ℕ, zero, suc, ◌+◌, ◌*◌, ◌/◌, ◌%◌, ◌<◌, ◌≤◌, nat_eq, Bool, true, false, ◌&&◌, ◌||◌, List, [], ◌∷◌, ◌++◌, length, set, get_or, replicate, ℤ, Option}
use Rattle.std.proofs.lemmas.List.{get_or-set_other, get_or-set_same, length-replicate, length-set}
use Rattle.std.proofs.lemmas.Nat.{div-mul-add, mod-mul-add}
use Rattle.std.proofs.Math.Nat.{mul-le-mul_right, suc-mul}
use Rattle.base_words.proofs.Booleans.{not_both, or_false, or_true}
use Rattle.base_words.proofs.NumberTests.{same_from_test, test_from_same}
use Rattle.sp_model.specs.declared.run.Run.{Run}
use Rattle.run_log.specs.Events.{is_taken}
use Rattle.run_log.specs.declared.log.Event.{Event}
use Rattle.run_log.specs.declared.log.Event.TheVariants.{Put, Take}
use Rattle.run_log.specs.declared.log.Source.TheVariants.{Spoke}
use Rattle.log_closing.specs.Marks.{AreMarked, Marks, mark_of, spokes_of}
use Rattle.log_closing.proofs.Pushing.{taken_more}

test_other : (a b : ℕ) → nat_eq a b ≡ false → a ≡ b → ⊥
test_other a b e f = not_both (nat_eq a b) (test_from_same a b f) e

-- numbers below the width of a row tell their place
one_place : (w i k j m : ℕ) → k < w → m < w → j * w + m ≡ i * w + k → (i ≡ j) × (k ≡ m)
one_place w i k j m l h e = (
  sym (div-mul-add i w k l) ∙ (ap (λ n. n / w) (sym e) ∙ div-mul-add j w m h),
  sym (mod-mul-add i w k l) ∙ (ap (λ n. n % w) (sym e) ∙ mod-mul-add j w m h),
)

module _ (marks : List Bool) (most i k : ℕ) (within : k ≤ most) (there : i * (most + 1) + k < length marks) where
  abbrev place : ℕ
  place = i * (most + 1) + k

  marked_each : (j m : ℕ) → m ≤ most → mark_of most (set marks place true) j m ≡ (mark_of most marks j m || (nat_eq i j && nat_eq k m))
  marked_each j m l = by_tests (nat_eq i j) (nat_eq k m) refl refl
    where
      other : ((i ≡ j) × (k ≡ m) → ⊥) → j * (most + 1) + m ≢ place
      other no_one e = no_one (one_place (most + 1) i k j m (omega arith) (omega arith) e)

      by_tests : (a b : Bool) → nat_eq i j ≡ a → nat_eq k m ≡ b → mark_of most (set marks place true) j m ≡ (mark_of most marks j m || (a && b))
      by_tests true true e f =
          let here : j * (most + 1) + m ≡ place = ap (λ n. n * (most + 1) + m) (sym (same_from_test i j e)) ∙ ap (λ n. i * (most + 1) + n) (sym (same_from_test k m f)) in
          ap (λ n. get_or (set marks place true) n false) here ∙ (get_or-set_same marks place true false there ∙ sym (or_true (mark_of most marks j m)))
      by_tests true false e f = get_or-set_other marks place (j * (most + 1) + m) true false (other (λ is. test_other k m f is.1)) ∙ sym (or_false (mark_of most marks j m))
      by_tests false b e f = get_or-set_other marks place (j * (most + 1) + m) true false (other (λ is. test_other i j e is.0)) ∙ sym (or_false (mark_of most marks j m))

  pub mark_set : (new : List Bool) → new ≡ set marks place true → Marks marks new most i k
  mark_set new is = subst (λ xs. Marks marks xs most i k) (sym is) (record { long = length-set marks place true; each = marked_each })

-- a mark's place is in the list
pub mark_there : (n w i k : ℕ) → i < n → k < w → i * w + k < n * w
mark_there n w i k l h =
    let more : suc i ≤ n = omega arith in
    let rows : suc i * w ≤ n * w = mul-le-mul_right w more in
    omega (arith, suc-mul i w, rows)

swap_and : (a b : Bool) → (a && b) ≡ ((a && b) || false)
swap_and true true = refl
swap_and true false = refl
swap_and false b = refl

-- one take more, and one mark more
pub marked_take : (run : Run) (most : ℕ) (marks marks' : List Bool) (events : List Event) (i k : ℕ) (value : Option ℤ) (lower : ℤ) (upper : Option ℤ) → AreMarked run most marks events → Marks marks marks' most i k → AreMarked run most marks' (events ++ Take (Spoke i) k value lower upper ∷ [])
marked_take run most marks marks' events i k value lower upper old more = record {
  long = more.long ∙ old.long;
  each = λ j m l h.
      let e = Take (Spoke i) k value lower upper in
      more.each j m h
      ∙ (ap (λ b. b || (nat_eq i j && nat_eq k m)) (old.each j m l h)
      ∙ (ap (λ b. is_taken events j m || b) (swap_and (nat_eq i j) (nat_eq k m))
      ∙ sym (taken_more events e j m)));
}

pub marked_put : (run : Run) (most : ℕ) (marks : List Bool) (events : List Event) (k : ℕ) → AreMarked run most marks events → AreMarked run most marks (events ++ Put k ∷ [])
marked_put run most marks events k old = record {
  long = old.long;
  each = λ j m l h. old.each j m l h ∙ (sym (or_false (is_taken events j m)) ∙ sym (taken_more events (Put k) j m));
}

falses : (n k : ℕ) → get_or (replicate n false) k false ≡ false
falses zero k = refl
falses (suc n) zero = refl
falses (suc n) (suc k) = falses n k

-- no mark where nothing is taken
pub marked_none : (run : Run) (most : ℕ) (marks : List Bool) (k : ℕ) → marks ≡ replicate (spokes_of run * (most + 1)) false → AreMarked run most marks (Put k ∷ [])
marked_none run most marks k is = record {
  long = ap length is ∙ length-replicate (spokes_of run * (most + 1)) false;
  each = λ j m l h. ap (λ (xs : List Bool). get_or xs (j * (most + 1) + m) false) is ∙ falses (spokes_of run * (most + 1)) (j * (most + 1) + m);
}
