-- The tree of marks: two scenarios share a node of a stage exactly where their marks at the stage
-- are equal.

use Rattle.std.specs.Prelude.{◌≡◌, ℕ, ◌+◌, ◌-◌, ◌<◌, ◌≤◌, ◌==◌, Bool, not, List, [], length, map, slice_index_or}
use Rattle.std.specs.List.{filter, flat_map, list_any, range_with_len}
use Rattle.tree_core.specs.declared.tree.Node.{Node}
use Rattle.tree_core.specs.declared.tree.Tree.{Tree}

-- the mark of scenario s at stage t, which is counted from 1
abbrev pub mark_of : List (List ℕ) → ℕ → ℕ → ℕ
mark_of owners t s = slice_index_or (slice_index_or owners s []) (t - 1) 0

-- whether a scenario before n has this mark
abbrev pub is_marked_before : (ℕ → ℕ) → ℕ → ℕ → Bool
is_marked_before mark n key = list_any (λ u. mark u == key) (range_with_len 0 n)

-- the first scenario of each mark among those below n, in ascending order
abbrev pub firsts : (ℕ → ℕ) → ℕ → List ℕ
firsts mark n = filter (λ s. not (is_marked_before mark s (mark s))) (range_with_len 0 n)

-- the scenarios below n that have the mark of s, in ascending order
abbrev pub alike : (ℕ → ℕ) → ℕ → ℕ → List ℕ
alike mark n s = filter (λ u. mark s == mark u) (range_with_len 0 n)

-- the scenarios below n by their marks: a list for each mark, by first scenario
abbrev pub groups : (ℕ → ℕ) → ℕ → List (List ℕ)
groups mark n = map (alike mark n) (firsts mark n)

-- a node of a stage
abbrev pub node : ℕ → List ℕ → Node
node t scenarios = record { stage = t; scenarios = scenarios }

-- the nodes of stage t: one for each mark at the stage, by first scenario
abbrev pub nodes_at : List (List ℕ) → ℕ → List Node
nodes_at owners t = map (node t) (groups (mark_of owners t) (length owners))

-- the tree of these marks
unfoldable pub tree_of : ℕ → List (List ℕ) → Tree
tree_of stages owners = record {
  stages = stages;
  nodes = flat_map (nodes_at owners) (range_with_len 1 stages);
}

-- equal marks at a stage are equal at the stage before
abbrev pub AreNested : ℕ → List (List ℕ) → Type 0
AreNested stages owners =
    (t s u : ℕ) → 1 ≤ t → t < stages → s < length owners → u < length owners
    → mark_of owners (t + 1) s ≡ mark_of owners (t + 1) u
    → mark_of owners t s ≡ mark_of owners t u
