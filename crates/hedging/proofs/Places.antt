-- A scenario that stands once at a stage has one node there: the tests by which a table is filled
-- node after node.

use Rattle.std.proofs.Common.{arith, refl, sym, ap, ◌∙◌, ◌≡◌, ℕ, ◌+◌, ◌<◌, nat_lt, ◌==◌, ◌&&◌, ◌||◌, Bool, true, false, List, length, get_or, take}
use Rattle.std.proofs.lemmas.List.Folds.{list_any_more, list_any_none}
use Rattle.std.proofs.lemmas.List.{get_or_default, get_or-take, length-take-le}
use Rattle.std.specs.List.{AllPairs, list_any}
use Rattle.base_words.proofs.NumberTests.{same_from_test, test_from_other, test_from_same}
use Rattle.tree_core.specs.Nodes.{holds, no_node, node_place, StandsOnce}
use Rattle.tree_core.specs.declared.tree.Node.{Node}
use Rattle.tree_core.proofs.Listing.{ones, place_passes}
use Rattle.tree_core.proofs.OncePlaces.{once_place}

-- whether a node is that of a scenario at a stage is whether it has the scenario there
pub place_test : (nodes : List Node) (t s i : ℕ) → StandsOnce nodes t s → node_place nodes s t < length nodes → i < length nodes → (node_place nodes s t == i) ≡ holds s t (get_or nodes i no_node)
place_test nodes t s i once there l = by_test (holds s t (get_or nodes i no_node)) refl
  where
    by_test : (b : Bool) → holds s t (get_or nodes i no_node) ≡ b → (node_place nodes s t == i) ≡ b
    by_test true e = test_from_same (node_place nodes s t) i (once_place nodes t s i no_node once l e)
    by_test false e = test_from_other (node_place nodes s t) i (apart e)
      where
        apart : holds s t (get_or nodes i no_node) ≡ false → node_place nodes s t ≡ i → ⊥
        apart off same =
            let held : holds s t (get_or nodes (node_place nodes s t) no_node) ≡ true = place_passes (holds s t) nodes no_node there in
            let here : holds s t (get_or nodes i no_node) ≡ true = ap (λ k. holds s t (get_or nodes k no_node)) (sym same) ∙ held in
            cc

-- one number more is below
pub next_is_due : (a n : ℕ) → ones (nat_lt a (n + 1)) ≡ ones (nat_lt a n) + ones (a == n)
next_is_due a n = grind arith

-- behind a test of both
pub both_due : (p a b c : Bool) → ones c ≡ ones a + ones b → ones (p && c) ≡ ones (p && a) + ones (p && b)
both_due true a b c e = e
both_due false a b c e = refl

-- one member more
pub member_due : (ns : List ℕ) (s i d : ℕ) → AllPairs (λ a b. a < b) ns → i < length ns → ones (list_any (λ u. u == s) (take (i + 1) ns)) ≡ ones (list_any (λ u. u == s) (take i ns)) + ones (get_or ns i d == s)
member_due ns s i d ascending l = by_own (get_or ns i d == s) refl
  where
    more : list_any (λ u. u == s) (take (i + 1) ns) ≡ (list_any (λ u. u == s) (take i ns) || (get_or ns i d == s))
    more = list_any_more (λ u. u == s) ns i d l

    by_front : (a : Bool) → ones (a || false) ≡ ones a + 0
    by_front true = refl
    by_front false = refl

    by_own : (b : Bool) → (get_or ns i d == s) ≡ b → ones (list_any (λ u. u == s) (take (i + 1) ns)) ≡ ones (list_any (λ u. u == s) (take i ns)) + ones b
    by_own false e = ap (λ c. ones c) (more ∙ ap (λ b. list_any (λ u. u == s) (take i ns) || b) e) ∙ by_front (list_any (λ u. u == s) (take i ns))
    by_own true e =
        let none : list_any (λ u. u == s) (take i ns) ≡ false = list_any_none (λ u. u == s) (take i ns) (λ k f h. earlier k f h) in
        ap (λ c. ones c) (more ∙ ap (λ a. a || (get_or ns i d == s)) none ∙ e) ∙ ap (λ a. ones a + 1) (sym none)
      where
        earlier : (k f : ℕ) → k < length (take i ns) → (get_or (take i ns) k f == s) ≡ false
        earlier k f h =
            let before : k < i = omega (arith, length-take-le i ns (omega arith), h) in
            let less : get_or ns k f < get_or ns i f = ascending k i f before l in
            let last : get_or ns i f ≡ s = get_or_default ns i f d l ∙ same_from_test (get_or ns i d) s e in
            test_from_other (get_or (take i ns) k f) s (λ same. absurd (omega (arith, less, last, same, get_or-take i ns k f before)))
