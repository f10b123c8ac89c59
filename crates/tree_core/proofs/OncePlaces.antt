-- The place of a scenario's node at a stage where the scenario stands once.

use Rattle.std.proofs.Common.{arith, refl, ◌≡◌, ℕ, zero, suc, ◌+◌, ◌<◌, ◌≤◌, ◌==◌, ◌&&◌, ap, Bool, true, false, cond, List, [], ◌∷◌, length, get_or}
use Rattle.std.proofs.lemmas.List.Sums.{position_or_len_is, sum_by-append}
use Rattle.std.specs.List.{count_by, flat_map, list_any}
use Rattle.tree_core.specs.Nodes.{holds, members, node_place, nodes_of, StandsOnce}
use Rattle.tree_core.specs.declared.tree.Node.{Node}
use Rattle.tree_core.proofs.Listing.{any_counted, ones}

-- a scenario that is found in a list is counted there
counted : (xs : List ℕ) (s : ℕ) → list_any (λ u. u == s) xs ≡ true → 1 ≤ count_by (λ u. u == s) xs
counted xs s h = by_count (count_by (λ u. u == s) xs) refl
  where
    by_count : (n : ℕ) → count_by (λ u. u == s) xs ≡ n → 1 ≤ count_by (λ u. u == s) xs
    by_count zero e = absurd (let f = any_counted (λ u. u == s) xs false e in cc)
    by_count (suc n) e = omega arith

-- the members of the stage with one node more in front: those of the node are counted besides
in_front : (n : Node) (nodes : List Node) (t s : ℕ) → ones (holds s t n) + count_by (λ u. u == s) (members nodes t) ≤ count_by (λ u. u == s) (members (n ∷ nodes) t)
in_front n nodes t s = by_stage (n.stage == t) (list_any (λ u. u == s) n.scenarios) refl
  where
    by_stage : (b own : Bool) → list_any (λ u. u == s) n.scenarios ≡ own → ones (b && own) + count_by (λ u. u == s) (members nodes t) ≤ count_by (λ u. u == s) (flat_map (λ (m : Node). m.scenarios) (cond b (n ∷ nodes_of nodes t) (nodes_of nodes t)))
    by_stage true true e = omega (arith, sum_by-append (λ u. cond (u == s) 1 0) n.scenarios (members nodes t), counted n.scenarios s e)
    by_stage true false e = omega (arith, sum_by-append (λ u. cond (u == s) 1 0) n.scenarios (members nodes t))
    by_stage false own e = omega arith

-- a node that has the scenario at the stage counts it
held_count : (nodes : List Node) (t s i : ℕ) (d : Node) → i < length nodes → holds s t (get_or nodes i d) ≡ true → 1 ≤ count_by (λ u. u == s) (members nodes t)
held_count [] t s i d l h = absurd (omega arith)
held_count (n ∷ nodes) t s zero d l h = omega (arith, in_front n nodes t s, ap ones h)
held_count (n ∷ nodes) t s (suc i) d l h = omega (arith, in_front n nodes t s, held_count nodes t s i d (omega arith) h)

-- two nodes that have it count it twice
twice_counted : (nodes : List Node) (t s k i : ℕ) (d : Node) → k < i → i < length nodes → holds s t (get_or nodes k d) ≡ true → holds s t (get_or nodes i d) ≡ true → 2 ≤ count_by (λ u. u == s) (members nodes t)
twice_counted nodes t s k zero d l h p q = absurd (omega arith)
twice_counted [] t s k (suc i) d l h p q = absurd (omega arith)
twice_counted (n ∷ nodes) t s zero (suc i) d l h p q = omega (arith, in_front n nodes t s, ap ones p, held_count nodes t s i d (omega arith) q)
twice_counted (n ∷ nodes) t s (suc k) (suc i) d l h p q = omega (arith, in_front n nodes t s, twice_counted nodes t s k i d (omega arith) (omega arith) p q)

-- the node of a scenario that stands once is any one that has it
pub once_place : (nodes : List Node) (t s i : ℕ) (d : Node) → StandsOnce nodes t s → i < length nodes → holds s t (get_or nodes i d) ≡ true → node_place nodes s t ≡ i
once_place nodes t s i d once l h = position_or_len_is (holds s t) nodes i d (omega arith) (λ k below. earlier k below (holds s t (get_or nodes k d)) refl) (λ q. h)
  where
    earlier : (k : ℕ) → k < i → (b : Bool) → holds s t (get_or nodes k d) ≡ b → holds s t (get_or nodes k d) ≡ false
    earlier k below false e = e
    earlier k below true e = absurd (let two = twice_counted nodes t s k i d below l e h in omega (arith, two, once))
