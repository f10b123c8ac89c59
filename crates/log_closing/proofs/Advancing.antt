-- Steps of the closing, one after another.

use Rattle.std.proofs.Common.{arith, refl, sym, ap, subst, ◌∙◌, ◌≡◌, ℕ, ◌+◌, ◌<◌, ◌≤◌, List, [], ◌∷◌, ◌++◌, length, map, take, get_or, ℤ, Option, Some, None, append-nil}
use Rattle.std.proofs.lemmas.List.{append_assoc, length-append, map-append, take_more}
use Rattle.std.proofs.lemmas.List.Elements.{filter_map-append}
use Rattle.std.specs.List.{cons_option, filter_map}
use Rattle.std.specs.Option.{option_to_list}
use Rattle.bound_ledger.specs.Pairs.{pair_after}
use Rattle.bound_ledger.specs.declared.ledger.Pair.{Pair}
use Rattle.run_log.specs.Events.{EachBehind, HasPair, bound_from, bounds_of, pair_in}
use Rattle.run_log.specs.Runs.{Claim, claim_of}
use Rattle.run_log.specs.declared.log.Event.TheVariants.{Take}
use Rattle.run_log.specs.declared.log.Source.{Source}
use Rattle.log_closing.specs.Closings.{Advances}
use Rattle.log_closing.specs.declared.closing.Closing.{Closing}
use Rattle.log_closing.proofs.Pushing.{behind_more, bounds_take}

pub advance_none : (first : ℤ) (c : Closing) → Advances first c c []
advance_none first c = record {
  pair = λ e. e;
  taken = λ e. record { closing = []; events = sym (append-nil c.events.items); taken = refl; pairs = λ h. h };
  spare = omega arith;
}

pub advance_both : (first : ℤ) (a b c : Closing) (xs ys : List Claim) → Advances first a b xs → Advances first b c ys → Advances first a c (xs ++ ys)
advance_both first a b c xs ys p q = record {
  pair = λ e. q.pair (p.pair e);
  taken = λ e.
      let s = p.taken e in let t = q.taken (p.pair e) in
      record {
        closing = s.closing ++ t.closing;
        events = t.events ∙ (ap (λ zs. zs ++ t.closing) s.events ∙ append_assoc a.events.items s.closing t.closing);
        taken = map-append claim_of s.closing t.closing ∙ (ap (λ zs. zs ++ map claim_of t.closing) s.taken ∙ (ap (λ zs. map Some xs ++ zs) t.taken ∙ sym (map-append Some xs ys)));
        pairs = λ h. t.pairs (s.pairs h);
      };
  spare = omega (arith, p.spare, q.spare, length-append xs ys);
}

-- one take
pub advance_take : (c c' : Closing) (source : Source) (k : ℕ) (value : Option ℤ) (pair : Pair) → ((first : ℤ) → c.ledger.pair ≡ pair_in first c.events.items → pair ≡ pair_after first (bounds_of c.events.items ++ bound_from source value ∷ [])) → c'.ledger.pair ≡ pair → c'.events.items ≡ c.events.items ++ Take source k value pair.lower pair.upper ∷ [] → c'.events.spare + 1 ≡ c.events.spare → (first : ℤ) → Advances first c c' (record { source = source; put = k; value = value } ∷ [])
advance_take c c' source k value pair kept is events spare first =
    let e = Take source k value pair.lower pair.upper in
    record {
      pair = λ h. is ∙ (kept first h ∙ (ap (pair_after first) (sym (bounds_take c.events.items source k value pair.lower pair.upper)) ∙ ap (λ xs. pair_in first xs) (sym events)));
      taken = λ h. record {
        closing = e ∷ [];
        events = events;
        taken = refl;
        pairs = λ old. subst (λ xs. EachBehind (HasPair first) xs) (sym events) (behind_more (HasPair first) c.events.items e old (kept first h));
      };
      spare = omega (arith, spare);
    }

-- what a function gives of one item more
pub given_more : {X : Type 0} {Y : Type 0} (f : X → Option Y) (xs : List X) (n : ℕ) (d : X) → n < length xs → filter_map f (take (n + 1) xs) ≡ filter_map f (take n xs) ++ option_to_list (f (get_or xs n d))
given_more f xs n d l = ap (filter_map f) (take_more xs n d l) ∙ (filter_map-append f (take n xs) (get_or xs n d ∷ []) ∙ ap (λ ys. filter_map f (take n xs) ++ ys) (one (f (get_or xs n d))))
  where
    one : {Y : Type 0} (o : Option Y) → cons_option o [] ≡ option_to_list o
    one None = refl
    one (Some y) = refl

-- it gives no more than there are
pub given_few : {X : Type 0} {Y : Type 0} (f : X → Option Y) (xs : List X) → length (filter_map f xs) ≤ length xs
given_few f [] = omega arith
given_few f (x ∷ xs) = one (f x) (filter_map f xs) (given_few f xs)
  where
    one : {Y : Type 0} (o : Option Y) (ys : List Y) → length ys ≤ length xs → length (cons_option o ys) ≤ length (x ∷ xs)
    one None ys h = omega arith
    one (Some y) ys h = omega arith
