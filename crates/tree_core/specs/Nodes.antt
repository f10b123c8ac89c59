-- What a list of nodes says: which scenarios stand at a stage, which share a node, and which node
-- has a scenario.

use Rattle.std.specs.Prelude.{◌≡◌, ◌↔◌, ℕ, ◌+◌, ◌<◌, ◌≤◌, ◌==◌, ◌&&◌, Bool, List, [], length, Option, slice_index_or, position, Contains}
use Rattle.std.specs.List.{All, AllPairs, Any, count_by, filter, flat_map, list_any, position_or_len}
use Rattle.tree_core.specs.Marks.{mark_of}
use Rattle.tree_core.specs.declared.tree.Node.{Node}

-- whether a scenario stands in the node, and the node at the stage
abbrev pub holds : ℕ → ℕ → Node → Bool
holds s t n = (n.stage == t) && list_any (λ u. u == s) n.scenarios

-- the number of the node at stage t that has scenario s, if there is one
abbrev pub node_number : List Node → ℕ → ℕ → Option ℕ
node_number nodes s t = position (holds s t) nodes

-- the number of the node at stage t that has scenario s; where there is none, the number of nodes
abbrev pub node_place : List Node → ℕ → ℕ → ℕ
node_place nodes s t = position_or_len (holds s t) nodes

-- scenarios s and u stand in one node of stage t
abbrev pub SameNode : List Node → ℕ → ℕ → ℕ → Type 0
SameNode nodes t s u = node_place nodes s t ≡ node_place nodes u t

-- what stands past the end of the nodes
abbrev pub no_node : Node
no_node = record { stage = 0; scenarios = [] }

-- the scenarios of a node
abbrev pub scenarios_at : List Node → ℕ → List ℕ
scenarios_at nodes i = (slice_index_or nodes i no_node).scenarios

-- the nodes of stage t
abbrev pub nodes_of : List Node → ℕ → List Node
nodes_of nodes t = filter (λ (n : Node). n.stage == t) nodes

-- the scenarios of the nodes of stage t, node after node
abbrev pub members : List Node → ℕ → List ℕ
members nodes t = flat_map (λ (n : Node). n.scenarios) (nodes_of nodes t)

-- scenario s stands in exactly one node of stage t, and there once
abbrev pub StandsOnce : List Node → ℕ → ℕ → Type 0
StandsOnce nodes t s = count_by (λ u. u == s) (members nodes t) ≡ 1

-- scenarios s and u share a node of stage t
abbrev pub Share : List Node → ℕ → ℕ → ℕ → Type 0
Share nodes s u t =
    Any (λ (n : Node). (n.stage ≡ t) × Contains n.scenarios s × Contains n.scenarios u) nodes

-- a node of these stages and of some of n scenarios, in ascending order
pub record IsNode (stages count : ℕ) (n : Node) : Type 0 where
  pub early : 1 ≤ n.stage
  pub late : n.stage ≤ stages
  pub filled : 0 < length n.scenarios
  pub there : All (λ s. s < count) n.scenarios
  pub ascending : AllPairs (λ s u. s < u) n.scenarios

-- the first scenario of a node
abbrev pub first_of : Node → ℕ
first_of n = slice_index_or n.scenarios 0 0

-- a node of an earlier stage, or of the same stage and with an earlier first scenario
abbrev pub Precedes : Node → Node → Type 0
Precedes n m = (n.stage ≤ m.stage) × (n.stage ≡ m.stage → first_of n < first_of m)

-- at each stage each scenario stands once
abbrev pub StandOnce : ℕ → ℕ → List Node → Type 0
StandOnce stages count nodes = (t s : ℕ) → 1 ≤ t → t ≤ stages → s < count → StandsOnce nodes t s

-- scenarios share a node of a stage exactly where their marks at the stage are equal
abbrev pub ShareByMarks : ℕ → List (List ℕ) → List Node → Type 0
ShareByMarks stages owners nodes =
    (t s u : ℕ) → 1 ≤ t → t ≤ stages → s < length owners → u < length owners →
    Share nodes s u t ↔ (mark_of owners t s ≡ mark_of owners t u)

-- scenarios in one node of a stage are in one node of the stage before
abbrev pub AreNestedNodes : ℕ → ℕ → List Node → Type 0
AreNestedNodes stages count nodes =
    (t s u : ℕ) → 1 ≤ t → t < stages → s < count → u < count →
    SameNode nodes (t + 1) s u → SameNode nodes t s u
