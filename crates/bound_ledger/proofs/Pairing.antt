-- The pair of replies: with one more reply, and as the greatest and the least.
use Rattle.std.proofs.Common.{arith, refl, sym, ap, inl, inr, ◌∙◌, ◌≡◌, ◌⊎◌, zero, suc, ℤ, ◌≤ℤ◌, List, [], ◌∷◌, ◌++◌, Option, Some, append-nil}
use Rattle.std.proofs.lemmas.Int.{fold-int_max_bounds, fold-int_max_reached, fold-int_min_bounds, fold-int_min_reached}
use Rattle.std.proofs.lemmas.List.Elements.{All-cons, filter_map-append}
use Rattle.std.proofs.lemmas.List.Sums.{fold-append}
use Rattle.std.specs.Int.{int_max, int_min}
use Rattle.std.specs.List.{Contains, filter_map, fold}
use Rattle.bound_ledger.specs.Pairs.{IsGreatest, IsLeast, IsPairOf, least, least_of, lower_of, pair_after, pair_with, upper_of}
use Rattle.bound_ledger.specs.declared.ledger.Bound.{Bound}
use Rattle.bound_ledger.specs.declared.ledger.Bound.TheVariants.{Lower, Upper, Nothing}
use Rattle.bound_ledger.specs.declared.ledger.Pair.{Pair}

greatest_push : (first : ℤ) (values : List ℤ) (value : ℤ) → fold int_max first (values ++ value ∷ []) ≡ int_max (fold int_max first values) value
greatest_push first values value = fold-append int_max first values (value ∷ [])

least_push : (values : List ℤ) (value : ℤ) → least (values ++ value ∷ []) ≡ Some (least_of (least values) value)
least_push [] value = refl
least_push (v ∷ vs) value = ap Some (fold-append int_min v vs (value ∷ []))

lowers_push : (replies : List Bound) (reply : Bound) → filter_map lower_of (replies ++ reply ∷ []) ≡ filter_map lower_of replies ++ filter_map lower_of (reply ∷ [])
lowers_push replies reply = filter_map-append lower_of replies (reply ∷ [])

uppers_push : (replies : List Bound) (reply : Bound) → filter_map upper_of (replies ++ reply ∷ []) ≡ filter_map upper_of replies ++ filter_map upper_of (reply ∷ [])
uppers_push replies reply = filter_map-append upper_of replies (reply ∷ [])

abbrev paired : ℤ → Option ℤ → Pair
paired a u = record { lower = a; upper = u }

same_pair : (a b : ℤ) (u w : Option ℤ) → a ≡ b → u ≡ w → paired a u ≡ paired b w
same_pair a b u w e f = cc

-- one more reply
pair_push : (first : ℤ) (replies : List Bound) (reply : Bound) → pair_with (pair_after first replies) reply ≡ pair_after first (replies ++ reply ∷ [])
pair_push first replies (Lower value) =
    same_pair _ _ _ _
    (sym (ap (fold int_max first) (lowers_push replies (Lower value)) ∙ greatest_push first (filter_map lower_of replies) value))
    (sym (ap least (uppers_push replies (Lower value) ∙ append-nil (filter_map upper_of replies))))
pair_push first replies (Upper value) =
    same_pair _ _ _ _
    (sym (ap (fold int_max first) (lowers_push replies (Upper value) ∙ append-nil (filter_map lower_of replies))))
    (sym (ap least (uppers_push replies (Upper value)) ∙ least_push (filter_map upper_of replies) value))
pair_push first replies Nothing =
    same_pair _ _ _ _
    (sym (ap (fold int_max first) (lowers_push replies Nothing ∙ append-nil (filter_map lower_of replies))))
    (sym (ap least (uppers_push replies Nothing ∙ append-nil (filter_map upper_of replies))))

pub pair_taken : (first : ℤ) (replies : List Bound) (reply : Bound) (old new : Pair) → new ≡ pair_with old reply → old ≡ pair_after first replies → new ≡ pair_after first (replies ++ reply ∷ [])
pair_taken first replies reply old new e h = e ∙ ap (λ p. pair_with p reply) h ∙ pair_push first replies reply

there_in : {X : Type 0} (x : X) (xs : List X) (r : X) → (r ≡ x) ⊎ Contains xs r → Contains (x ∷ xs) r
there_in x xs r (inl e) = (zero, omega arith, sym e)
there_in x xs r (inr h) = (suc h.0, omega (arith, h.1), h.2)

greatest_is : (first : ℤ) (values : List ℤ) → IsGreatest (first ∷ values) (fold int_max first values)
greatest_is first values =
    let b = fold-int_max_bounds first values (fold int_max first values) refl in
    record { there = there_in first values (fold int_max first values) (fold-int_max_reached first values (fold int_max first values) refl); above = All-cons (λ v. v ≤ℤ fold int_max first values) first values b.0 b.1 }

least_is : (values : List ℤ) → IsLeast values (least values)
least_is [] = refl
least_is (v ∷ vs) =
    let b = fold-int_min_bounds v vs (fold int_min v vs) refl in
    (there_in v vs (fold int_min v vs) (fold-int_min_reached v vs (fold int_min v vs) refl), All-cons (λ w. fold int_min v vs ≤ℤ w) v vs b.0 b.1)

pub pair_is : (first : ℤ) (replies : List Bound) → IsPairOf first replies (pair_after first replies)
pair_is first replies = record { lower = greatest_is first (filter_map lower_of replies); upper = least_is (filter_map upper_of replies) }
