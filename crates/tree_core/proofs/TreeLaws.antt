-- The tree of marks in words that don't make it: who stands where, who shares a node, and in which order.

use Rattle.std.proofs.Common.{arith, refl, sym, ap, subst, ◌∙◌, ◌≡◌, ℕ, ◌+◌, ◌*◌, ◌<◌, ◌≤◌, ◌==◌, ◌&&◌, Bool, true, false, not, List, length, get_or}
use Rattle.std.specs.List.{All, AllPairs, Contains, count_by, flat_map, range_with_len}
use Rattle.std.proofs.lemmas.List.{get_or_default, length-map}
use Rattle.std.proofs.lemmas.List.Elements.{All-contains, All-map, All-weaker, recursion_from_All}
use Rattle.std.proofs.lemmas.List.Folds.{flat_map-map}
use Rattle.std.proofs.lemmas.List.Sums.{count_by-le-length, length-filter}
use Rattle.std.proofs.lemmas.List.FromFn.{length-range_with_len}
use Rattle.base_words.proofs.Positions.{contains_map}
use Rattle.tree_core.specs.declared.tree.Node.{Node}
use Rattle.tree_core.specs.declared.tree.Tree.{Tree}
use Rattle.tree_core.specs.Marks.{AreNested, alike, firsts, groups, is_marked_before, mark_of, node, nodes_at, tree_of}
use Rattle.tree_core.specs.Nodes.{holds, IsNode, no_node, node_place, Precedes, SameNode, Share, StandsOnce}
use Rattle.tree_core.proofs.Alike.{alike_all, alike_ascends, alike_begins, alike_count, counted_in, first_found, firsts_all, firsts_ascend, IsAlike, IsFirst, stands_once}
use Rattle.tree_core.proofs.Stages.{each_stage, in_stage, length_stages, pairs_map, pairs_stages, stage_nodes}
use Rattle.tree_core.proofs.Listing.{any_counted, ones, place_passes, place_same}
use Rattle.tree_core.proofs.Finding.{held_in, held_stage, node_there}

-- the scenarios of a stage's nodes are those of its marks
stage_members : (owners : List (List ℕ)) (t : ℕ) → flat_map (λ (n : Node). n.scenarios) (nodes_at owners t) ≡ flat_map (alike (mark_of owners t) (length owners)) (firsts (mark_of owners t) (length owners))
stage_members owners t =
    flat_map-map (λ (n : Node). n.scenarios) (node t) (groups (mark_of owners t) (length owners))
    ∙ flat_map-map (λ g. g) (alike (mark_of owners t) (length owners)) (firsts (mark_of owners t) (length owners))

pub tree_once : (stages : ℕ) (owners : List (List ℕ)) (t s : ℕ) → 1 ≤ t → t ≤ stages → s < length owners → StandsOnce (tree_of stages owners).nodes t s
unfolding tree_of
tree_once stages owners t s l h below =
    ap (λ ns. count_by (λ u. u == s) (flat_map (λ (n : Node). n.scenarios) ns)) (stage_nodes owners t stages l h)
    ∙ ap (count_by (λ u. u == s)) (stage_members owners t)
    ∙ stands_once (mark_of owners t) (length owners) s below

-- the scenarios of a node have one mark
abbrev OneMark : List (List ℕ) → Node → Type 0
OneMark owners n = (s u : ℕ) → Contains n.scenarios s → Contains n.scenarios u → mark_of owners n.stage s ≡ mark_of owners n.stage u

one_mark : (owners : List (List ℕ)) (t f : ℕ) → OneMark owners (node t (alike (mark_of owners t) (length owners) f))
one_mark owners t f s u at au =
    let mark = mark_of owners t in
    let all = alike_all mark (length owners) f in
    sym (All-contains (IsAlike mark (length owners) f) (alike mark (length owners) f) s all at).same ∙ (All-contains (IsAlike mark (length owners) f) (alike mark (length owners) f) u all au).same

-- a fact of the node of each mark is one of all nodes
each_node : (P : Node → Type 0) (stages : ℕ) (owners : List (List ℕ)) → ((t f : ℕ) → 1 ≤ t → t ≤ stages → IsFirst (mark_of owners t) (length owners) f → P (node t (alike (mark_of owners t) (length owners) f))) → All P (tree_of stages owners).nodes
unfolding tree_of
each_node P stages owners each =
    each_stage P (nodes_at owners) stages (λ t l h.
    let mark = mark_of owners t in
    let n = length owners in
    All-map P (node t) (groups mark n) (All-map (λ g. P (node t g)) (alike mark n) (firsts mark n) (All-weaker (IsFirst mark n) (λ f. P (node t (alike mark n f))) (λ f first. each t f l h first) (firsts mark n) (firsts_all mark n))))

pub tree_shared : (stages : ℕ) (owners : List (List ℕ)) (t s u : ℕ) → Share (tree_of stages owners).nodes s u t → mark_of owners t s ≡ mark_of owners t u
tree_shared stages owners t s u share =
    let n = share.1 in
    let all = each_node (OneMark owners) stages owners (λ v f l h first. one_mark owners v f) in
    let one = All-contains (OneMark owners) (tree_of stages owners).nodes n all (share.0, share.2, share.3) s u share.4.1 share.4.2 in
    let P : ℕ → Type 0 = λ v. mark_of owners v s ≡ mark_of owners v u in
    subst P share.4.0 one

pub tree_shares : (stages : ℕ) (owners : List (List ℕ)) (t s u : ℕ) → 1 ≤ t → t ≤ stages → s < length owners → u < length owners → mark_of owners t s ≡ mark_of owners t u → Share (tree_of stages owners).nodes s u t
unfolding tree_of
tree_shares stages owners t s u l h below under same =
    let mark = mark_of owners t in
    let n = length owners in
    let found = first_found mark n s below in
    let f = found.0 in
    let first = node t (alike mark n f) in
    let at_s : (mark f == mark s) ≡ true = (let e = found.1.same in grind arith) in
    let at_u : (mark f == mark u) ≡ true = (let e = found.1.same ∙ same in grind arith) in
    let one_s = counted_in (alike mark n f) s (alike_count mark n f s below ∙ ap ones at_s) in
    let one_u = counted_in (alike mark n f) u (alike_count mark n f u under ∙ ap ones at_u) in
    let listed = in_stage (nodes_at owners) first t stages l h (contains_map (node t) (groups mark n) (alike mark n f) (contains_map (alike mark n) (firsts mark n) f found.1.listed)) in
    (listed.0, first, listed.1, listed.2, (refl, one_s, one_u))

pub tree_nodes : (stages : ℕ) (owners : List (List ℕ)) → All (IsNode stages (length owners)) (tree_of stages owners).nodes
tree_nodes stages owners =
    each_node (IsNode stages (length owners)) stages owners (λ t f l h first.
    let mark = mark_of owners t in
    let n = length owners in
    record {
      early = l;
      late = h;
      filled = (alike_begins mark n f first).filled;
      there = All-weaker (IsAlike mark n f) (λ s. s < n) (λ s a. a.below) (alike mark n f) (alike_all mark n f);
      ascending = alike_ascends mark n f;
    })

pub tree_ordered : (stages : ℕ) (owners : List (List ℕ)) → AllPairs Precedes (tree_of stages owners).nodes
unfolding tree_of
tree_ordered stages owners =
    pairs_stages owners stages (λ t.
    let mark = mark_of owners t in
    let n = length owners in
    pairs_map (λ g. 0 ≤ length g) (λ g k. get_or g 0 0 < get_or k 0 0) Precedes (node t) (λ g k p q r. (omega arith, λ e. r)) (groups mark n) (λ k d i. omega arith)
    (pairs_map (IsFirst mark n) (λ f g. f < g) (λ g k. get_or g 0 0 < get_or k 0 0) (alike mark n) (λ f g p q r. omega (arith, (alike_begins mark n f p).first, (alike_begins mark n g q).first)) (firsts mark n) (firsts_all mark n) (firsts_ascend mark n)))

pub tree_few : (stages : ℕ) (owners : List (List ℕ)) → length (tree_of stages owners).nodes ≤ stages * length owners
unfolding tree_of
tree_few stages owners =
    length_stages (nodes_at owners) stages (length owners) (λ t.
    let mark = mark_of owners t in
    let n = length owners in
    omega (arith, length-map (groups mark n) (node t), length-map (firsts mark n) (alike mark n), length-filter (λ s. not (is_marked_before mark s (mark s))) (range_with_len 0 n), count_by-le-length (λ s. not (is_marked_before mark s (mark s))) (range_with_len 0 n), length-range_with_len 0 n))

-- of the node of a mark it is asked whether it is of the stage and the mark
holds_is : (owners : List (List ℕ)) (v f s t : ℕ) → s < length owners → holds s t (node v (alike (mark_of owners v) (length owners) f)) ≡ ((v == t) && (mark_of owners v f == mark_of owners v s))
holds_is owners v f s t h =
    let mark = mark_of owners v in
    ap (λ b. (v == t) && b) (any_counted (λ u. u == s) (alike mark (length owners) f) (mark f == mark s) (alike_count mark (length owners) f s h))

-- scenarios of one mark stand in one node
same_node : (stages : ℕ) (owners : List (List ℕ)) (t s u : ℕ) → s < length owners → u < length owners → mark_of owners t s ≡ mark_of owners t u → SameNode (tree_of stages owners).nodes t s u
same_node stages owners t s u below under same =
    let alike_nodes = each_node (λ n. holds s t n ≡ holds u t n) stages owners (λ v f l h first. holds_is owners v f s t below ∙ by_stage v f (v == t) refl ∙ sym (holds_is owners v f u t under)) in
    place_same (holds s t) (holds u t) (tree_of stages owners).nodes (recursion_from_All (λ n. holds s t n ≡ holds u t n) (tree_of stages owners).nodes alike_nodes)
  where
    by_stage : (v f : ℕ) (b : Bool) → (v == t) ≡ b → (b && (mark_of owners v f == mark_of owners v s)) ≡ (b && (mark_of owners v f == mark_of owners v u))
    by_stage v f true e =
        let at : t ≡ v = grind arith in
        let Q : ℕ → Type 0 = λ w. mark_of owners w s ≡ mark_of owners w u in
        ap (λ m. mark_of owners v f == m) (subst Q at same)
    by_stage v f false e = refl

-- scenarios that stand in one node have one mark
same_mark : (stages : ℕ) (owners : List (List ℕ)) (t s u : ℕ) → 1 ≤ t → t ≤ stages → s < length owners → SameNode (tree_of stages owners).nodes t s u → mark_of owners t s ≡ mark_of owners t u
same_mark stages owners t s u l h below same =
    let nodes = (tree_of stages owners).nodes in
    let there = node_there nodes t s (tree_once stages owners t s l h below) in
    let n = get_or nodes (node_place nodes s t) no_node in
    let at_s = place_passes (holds s t) nodes no_node there in
    let at_u : holds u t n ≡ true = ap (λ k. holds u t (get_or nodes k no_node)) same ∙ place_passes (holds u t) nodes no_node (omega arith) in
    tree_shared stages owners t s u (node_place nodes s t, n, there, get_or_default nodes (node_place nodes s t) n no_node there, (held_stage n s t at_s, held_in n s t at_s, held_in n u t at_u))

pub tree_nested : (stages : ℕ) (owners : List (List ℕ)) → AreNested stages owners → (t s u : ℕ) → 1 ≤ t → t < stages → s < length owners → u < length owners → SameNode (tree_of stages owners).nodes (t + 1) s u → SameNode (tree_of stages owners).nodes t s u
tree_nested stages owners nested t s u l h below under same =
    same_node stages owners t s u below under (nested t s u l h below under (same_mark stages owners (t + 1) s u (omega arith) (omega arith) below same))

abbrev tree_with : ℕ → List Node → Tree
tree_with stages nodes = record { stages = stages; nodes = nodes }

-- the nodes of all stages are those of the tree
pub whole_tree : (stages n : ℕ) (owners : List (List ℕ)) (nodes : List Node) → n ≡ stages → nodes ≡ flat_map (nodes_at owners) (range_with_len 1 n) → tree_with stages nodes ≡ tree_of stages owners
unfolding tree_of
whole_tree stages n owners nodes e h = ap (tree_with stages) (h ∙ ap (λ m. flat_map (nodes_at owners) (range_with_len 1 m)) e)
