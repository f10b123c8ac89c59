-- The nodes of the stages one after another: what holds of each stage's nodes, and which of all nodes are of one stage.

use Rattle.std.proofs.Common.{arith, refl, sym, ap, subst, ◌∙◌, ◌≡◌, ℕ, zero, suc, ◌+◌, ◌*◌, ◌<◌, ◌≤◌, ◌==◌, Bool, true, false, cond, List, [], ◌∷◌, ◌++◌, map, length, get_or, append-nil}
use Rattle.std.specs.List.{All, AllPairs, Contains, filter, flat_map, range_with_len}
use Rattle.std.proofs.lemmas.List.Elements.{All-append, All-head, All-map, All-nil, All-tail, Contains-append_left, Contains-append_right, filter-append}
use Rattle.std.proofs.lemmas.List.Concat.{length-flat_map}
use Rattle.std.proofs.lemmas.List.FromFn.{length-range_with_len}
use Rattle.std.proofs.lemmas.List.Kept.{AllPairs-cons}
use Rattle.std.proofs.lemmas.List.Sums.{sum_by-le}
use Rattle.base_words.proofs.ListSumsByNumber.{flat_map-more}
use Rattle.base_words.proofs.Pairs.{pairs_head, pairs_tail}
use Rattle.tree_core.specs.declared.tree.Node.{Node}
use Rattle.tree_core.specs.Marks.{node, nodes_at}
use Rattle.tree_core.specs.Nodes.{nodes_of, Precedes}

-- what holds of the items of each stage
pub each_stage : {X : Type 0} (P : X → Type 0) (f : ℕ → List X) (n : ℕ) → ((t : ℕ) → 1 ≤ t → t ≤ n → All P (f t)) → All P (flat_map f (range_with_len 1 n))
each_stage P f zero h = All-nil P
each_stage P f (suc n) h =
    let Q : List _ → Type 0 = All P in
    subst Q (sym (flat_map-more f n)) (All-append P (flat_map f (range_with_len 1 n)) (f (suc n)) (each_stage P f n (λ t l m. h t l (omega arith))) (h (suc n) (omega arith) (omega arith)))

-- of nodes of one stage a filter by the stage keeps all or none
kept_stage : (t u : ℕ) (gs : List (List ℕ)) → filter (λ (n : Node). n.stage == t) (map (node u) gs) ≡ cond (u == t) (map (node u) gs) []
kept_stage t u [] = by_test (u == t) []
  where
    by_test : (b : Bool) (ns : List Node) → ns ≡ cond b ns ns
    by_test true ns = refl
    by_test false ns = refl
kept_stage t u (g ∷ gs) = ap (λ ns. cond (u == t) (node u g ∷ ns) ns) (kept_stage t u gs) ∙ by_test (u == t)
  where
    by_test : (b : Bool) → cond b (node u g ∷ cond b (map (node u) gs) []) (cond b (map (node u) gs) []) ≡ cond b (node u g ∷ map (node u) gs) []
    by_test true = refl
    by_test false = refl

-- no node of a stage past the last
stage_past : (owners : List (List ℕ)) (t n : ℕ) → n < t → nodes_of (flat_map (nodes_at owners) (range_with_len 1 n)) t ≡ []
stage_past owners t zero h = refl
stage_past owners t (suc n) h =
    let e : (suc n == t) ≡ false = grind arith in
    ap (λ ns. nodes_of ns t) (flat_map-more (nodes_at owners) n)
    ∙ filter-append (λ (m : Node). m.stage == t) (flat_map (nodes_at owners) (range_with_len 1 n)) (nodes_at owners (suc n))
    ∙ ap (λ ns. ns ++ nodes_of (nodes_at owners (suc n)) t) (stage_past owners t n (omega arith))
    ∙ kept_stage t (suc n) _
    ∙ ap (λ b. cond b (nodes_at owners (suc n)) []) e

-- the nodes of a stage are those that were made for it
pub stage_nodes : (owners : List (List ℕ)) (t n : ℕ) → 1 ≤ t → t ≤ n → nodes_of (flat_map (nodes_at owners) (range_with_len 1 n)) t ≡ nodes_at owners t
stage_nodes owners t zero l h = absurd (omega arith)
stage_nodes owners t (suc n) l h =
    ap (λ ns. nodes_of ns t) (flat_map-more (nodes_at owners) n)
    ∙ filter-append (λ (m : Node). m.stage == t) (flat_map (nodes_at owners) (range_with_len 1 n)) (nodes_at owners (suc n))
    ∙ ap (λ ns. nodes_of (flat_map (nodes_at owners) (range_with_len 1 n)) t ++ ns) (kept_stage t (suc n) _)
    ∙ by_last (suc n == t) refl (λ k. stage_nodes owners t n l k)
  where
    by_last : (b : Bool) → (suc n == t) ≡ b → (t ≤ n → nodes_of (flat_map (nodes_at owners) (range_with_len 1 n)) t ≡ nodes_at owners t) → nodes_of (flat_map (nodes_at owners) (range_with_len 1 n)) t ++ cond b (nodes_at owners (suc n)) [] ≡ nodes_at owners t
    by_last true e r =
        let same : suc n ≡ t = grind arith in
        ap (λ ns. ns ++ nodes_at owners (suc n)) (stage_past owners t n (omega arith)) ∙ ap (nodes_at owners) same
    by_last false e r =
        let earlier : t ≤ n = grind arith in
        append-nil (nodes_of (flat_map (nodes_at owners) (range_with_len 1 n)) t) ∙ r earlier

-- what stands among the items of a stage stands among all
pub in_stage : {X : Type 0} (f : ℕ → List X) (x : X) (t n : ℕ) → 1 ≤ t → t ≤ n → Contains (f t) x → Contains (flat_map f (range_with_len 1 n)) x
in_stage f x t zero l h at = absurd (omega arith)
in_stage {X} f x t (suc n) l h at = by_last (suc n == t) refl (λ k. in_stage f x t n l k at)
  where
    by_last : (b : Bool) → (suc n == t) ≡ b → (t ≤ n → Contains (flat_map f (range_with_len 1 n)) x) → Contains (flat_map f (range_with_len 1 (suc n))) x
    by_last true e r =
        let same : t ≡ suc n = grind arith in
        let Q : ℕ → Type 0 = λ m. Contains (f m) x in
        let R : List X → Type 0 = λ xs. Contains xs x in
        subst R (sym (flat_map-more f n)) (Contains-append_right (flat_map f (range_with_len 1 n)) (f (suc n)) x (subst Q same at))
    by_last false e r =
        let earlier : t ≤ n = grind arith in
        let R : List X → Type 0 = λ xs. Contains xs x in
        subst R (sym (flat_map-more f n)) (Contains-append_left (flat_map f (range_with_len 1 n)) (f (suc n)) x (r earlier))

pairs_nil : {X : Type 0} (R : X → X → Type 0) → AllPairs R []
pairs_nil R i j d l m = absurd (omega arith)

-- pairs in two lists, and across them
pairs_append : {X : Type 0} (R : X → X → Type 0) (xs ys : List X) → AllPairs R xs → AllPairs R ys → All (λ x. All (R x) ys) xs → AllPairs R (xs ++ ys)
pairs_append R [] ys p q h = q
pairs_append R (x ∷ xs) ys p q h =
    AllPairs-cons R x (xs ++ ys) (All-append (R x) xs ys (pairs_head R x xs p) (All-head (λ z. All (R z) ys) x xs h)) (pairs_append R xs ys (pairs_tail R x xs p) q (All-tail (λ z. All (R z) ys) x xs h))

-- pairs of images
pub pairs_map : {X Y : Type 0} (P : X → Type 0) (Q : X → X → Type 0) (R : Y → Y → Type 0) (g : X → Y) → ((x z : X) → P x → P z → Q x z → R (g x) (g z)) → (xs : List X) → All P xs → AllPairs Q xs → AllPairs R (map g xs)
pairs_map P Q R g keeps [] all p = pairs_nil R
pairs_map P Q R g keeps (x ∷ xs) all p =
    let first = All-head P x xs all in
    let rest = All-tail P x xs all in
    let after = pairs_head Q x xs p in
    AllPairs-cons R (g x) (map g xs) (All-map (R (g x)) g xs (λ k d l. keeps x (get_or xs k d) first (rest k d l) (after k d l))) (pairs_map P Q R g keeps xs rest (pairs_tail Q x xs p))

-- pairs stage after stage
pub pairs_stages : (owners : List (List ℕ)) (n : ℕ) → ((t : ℕ) → AllPairs Precedes (nodes_at owners t)) → AllPairs Precedes (flat_map (nodes_at owners) (range_with_len 1 n))
pairs_stages owners zero each = pairs_nil Precedes
pairs_stages owners (suc n) each =
    let Q : List Node → Type 0 = AllPairs Precedes in
    let before : All (λ (m : Node). m.stage ≤ n) (flat_map (nodes_at owners) (range_with_len 1 n)) = each_stage (λ (m : Node). m.stage ≤ n) (nodes_at owners) n (λ t l h. All-map (λ (m : Node). m.stage ≤ n) (node t) _ (λ k d i. h)) in
    subst Q (sym (flat_map-more (nodes_at owners) n))
    (pairs_append Precedes (flat_map (nodes_at owners) (range_with_len 1 n)) (nodes_at owners (suc n)) (pairs_stages owners n each) (each (suc n))
    (λ k d i. let early = before k d i in All-map (Precedes (get_or (flat_map (nodes_at owners) (range_with_len 1 n)) k d)) (node (suc n)) _ (λ j e l. (omega arith, λ same. absurd (omega arith)))))

-- not more items than the stages times the most of a stage
pub length_stages : {X : Type 0} (f : ℕ → List X) (n most : ℕ) → ((t : ℕ) → length (f t) ≤ most) → length (flat_map f (range_with_len 1 n)) ≤ n * most
length_stages f n most h =
    let bound = sum_by-le (λ t. length (f t)) most (range_with_len 1 n) (λ k d l. h (get_or (range_with_len 1 n) k d)) in
    omega (arith, length-flat_map f (range_with_len 1 n), bound, ap (λ m. m * most) (length-range_with_len 1 n))
