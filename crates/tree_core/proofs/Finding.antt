-- A scenario that stands at a stage is in a node that a search finds.

use Rattle.std.proofs.Common.{refl, sym, ap, subst, ◌∙◌, ◌≡◌, ℕ, ◌<◌, ◌==◌, ◌&&◌, ◌||◌, Bool, true, false, cond, List, [], ◌∷◌, length, get_or}
use Rattle.std.specs.List.{Contains, flat_map, list_any}
use Rattle.std.specs.Option.{IsSome}
use Rattle.std.proofs.lemmas.List.Folds.{Any-from_list_any, list_any-append}
use Rattle.tree_core.specs.declared.tree.Node.{Node}
use Rattle.tree_core.specs.Nodes.{holds, members, node_number, node_place, nodes_of, StandsOnce}
use Rattle.tree_core.proofs.Listing.{any_counted}
use Rattle.base_words.proofs.Comparisons.{both_left, both_right}
use Rattle.base_words.proofs.NumberTests.{same_from_test}
use Rattle.base_words.proofs.Positions.{passes_is, place_there}

-- a node has the scenario where it is one of those of the stage
any_holds : (nodes : List Node) (t s : ℕ) → list_any (holds s t) nodes ≡ list_any (λ u. u == s) (members nodes t)
any_holds [] t s = refl
any_holds (n ∷ nodes) t s = by_stage (n.stage == t) (any_holds nodes t s)
  where
    by_stage : (b : Bool) → list_any (holds s t) nodes ≡ list_any (λ u. u == s) (members nodes t) → ((b && list_any (λ u. u == s) n.scenarios) || list_any (holds s t) nodes) ≡ list_any (λ u. u == s) (flat_map (λ (m : Node). m.scenarios) (cond b (n ∷ nodes_of nodes t) (nodes_of nodes t)))
    by_stage true e = ap (λ r. list_any (λ u. u == s) n.scenarios || r) e ∙ sym (list_any-append (λ u. u == s) n.scenarios (members nodes t))
    by_stage false e = e

pub node_found : (nodes : List Node) (t s : ℕ) → StandsOnce nodes t s → IsSome (node_number nodes s t)
node_found nodes t s h =
    sym (passes_is (holds s t) nodes) ∙ any_holds nodes t s ∙ any_counted (λ u. u == s) (members nodes t) true h

-- the place of the node of a scenario that stands at a stage
pub node_there : (nodes : List Node) (t s : ℕ) → StandsOnce nodes t s → node_place nodes s t < length nodes
node_there nodes t s h = place_there (holds s t) nodes (any_holds nodes t s ∙ any_counted (λ u. u == s) (members nodes t) true h)

-- a node that has a scenario at a stage is of the stage
pub held_stage : (n : Node) (s t : ℕ) → holds s t n ≡ true → n.stage ≡ t
held_stage n s t h = same_from_test n.stage t (both_left (n.stage == t) (list_any (λ u. u == s) n.scenarios) h)

-- and the scenario is among its scenarios
pub held_in : (n : Node) (s t : ℕ) → holds s t n ≡ true → Contains n.scenarios s
held_in n s t h =
    let found = Any-from_list_any (λ u. u == s) n.scenarios (both_right (n.stage == t) (list_any (λ u. u == s) n.scenarios) h) in
    let P : ℕ → Type 0 = λ u. get_or n.scenarios found.0 u ≡ u in
    (found.0, found.2, subst P (same_from_test found.1 s found.4) found.3)
