-- The next entry of a list in order that is put over another: what stands before it is left behind.

use Rattle.std.proofs.Common.{arith, refl, sym, ap, subst, ◌∙◌, ◌≡◌, ℕ, zero, suc, ◌+◌, ◌<◌, ◌≤◌, nat_lt, Bool, true, false, cond, List, [], ◌∷◌, ◌++◌, length, get_or, take, drop, if◌then◌else◌}
use Rattle.std.proofs.lemmas.List.{append_assoc, drop-drop, length-drop, drop_all, drop_more}
use Rattle.std.proofs.lemmas.List.Sums.{prefix_len-le-length}
use Rattle.base_words.proofs.Comparisons.{both_left}
use Rattle.boxed_problem.specs.BoxedFacts.{no_entry, AreAscending}
use Rattle.boxed_problem.specs.declared.parts.Entry.{Entry}
use Rattle.sp_model.specs.Changes.{is_at, is_before, passed_by, place_of, put_entries, put_entry, stands_at}
use Rattle.sp_model.proofs.EntryOrder.{behind_test, chain_at, chain_from, front_test, IsChain, put_behind, put_front, put_over}
use Rattle.sp_model.proofs.Putting.{all_after, all_behind, AllAfter, chain_tail, puts_append, puts_chain, puts_join}

-- an entry before all that are put stays the first
head_stays : (e : Entry) (es ds : List Entry) → AllAfter e ds → put_entries (e ∷ es) ds ≡ e ∷ put_entries es ds
head_stays e es [] h = refl
head_stays e es (d ∷ ds) h = ap (λ l. put_entries l ds) (put_behind d e es h.0) ∙ head_stays e (put_entry d es) ds h.1

-- the first k entries, then d, and the rest with ds put over it
abbrev spread : Entry → List Entry → List Entry → ℕ → Bool → List Entry
spread d ds us k t = take k us ++ d ∷ put_entries (drop (if t then k + 1 else k) us) ds

spread_behind : (d e : Entry) (ds us : List Entry) (k : ℕ) (t : Bool) → spread d ds (e ∷ us) (suc k) t ≡ e ∷ spread d ds us k t
spread_behind d e ds us k true = let next : suc k + 1 ≡ suc (k + 1) = omega arith in ap (λ n. take (suc k) (e ∷ us) ++ d ∷ put_entries (drop n (e ∷ us)) ds) next
spread_behind d e ds us k false = refl

next_put : (d : Entry) (us ds : List Entry) → IsChain (d ∷ ds) → put_entries us (d ∷ ds) ≡ take (place_of d us) us ++ d ∷ put_entries (drop (passed_by d us) us) ds
next_put d [] ds h = head_stays d [] ds (all_after d ds h)
next_put d (e ∷ us) ds h = by_first (is_before e d) refl (is_at e d) refl (next_put d us ds h)
  where
    at_place : ℕ → List Entry
    at_place k = spread d ds (e ∷ us) k (stands_at d (e ∷ us) k)

    by_first : (t : Bool) → is_before e d ≡ t → (u : Bool) → is_at e d ≡ u → put_entries us (d ∷ ds) ≡ spread d ds us (place_of d us) (stands_at d us (place_of d us)) → put_entries (e ∷ us) (d ∷ ds) ≡ at_place (place_of d (e ∷ us))
    by_first true b u a r =
        let next : 1 + place_of d us ≡ suc (place_of d us) = omega arith in
        head_stays e us (d ∷ ds) (b, all_behind e d ds b (all_after d ds h))
        ∙ ap (λ l. e ∷ l) r
        ∙ sym (ap (λ t. at_place (cond t (1 + place_of d us) 0)) b
        ∙ ap at_place next
        ∙ ap (spread d ds (e ∷ us) (suc (place_of d us))) (behind_test d e us (place_of d us))
        ∙ spread_behind d e ds us (place_of d us) (stands_at d us (place_of d us)))
    by_first false b true a r =
        ap (λ l. put_entries l ds) (put_over d e us b a)
        ∙ head_stays d us ds (all_after d ds h)
        ∙ sym (ap (λ t. at_place (cond t (1 + place_of d us) 0)) b ∙ ap (spread d ds (e ∷ us) 0) (front_test d e us ∙ a))
    by_first false b false a r =
        ap (λ l. put_entries l ds) (put_front d e us b a)
        ∙ head_stays d (e ∷ us) ds (all_after d ds h)
        ∙ sym (ap (λ t. at_place (cond t (1 + place_of d us) 0)) b ∙ ap (spread d ds (e ∷ us) 0) (front_test d e us ∙ a))

chain_drop : (k : ℕ) (ds : List Entry) → IsChain ds → IsChain (drop k ds)
chain_drop zero ds h = h
chain_drop (suc k) [] h = h
chain_drop (suc k) (d ∷ ds) h = chain_drop k ds (chain_tail d ds h)

-- a turn of the merge
pub merge_more : (under over all next : List Entry) (at k : ℕ) (d : Entry) → AreAscending over → k < length over → d ≡ get_or over k d → all ++ put_entries (drop at under) (drop k over) ≡ put_entries under over → next ≡ (all ++ take (place_of d (drop at under)) (drop at under)) ++ d ∷ [] → next ++ put_entries (drop (at + passed_by d (drop at under)) under) (drop (k + 1) over) ≡ put_entries under over
merge_more under over all next at k d rises lt is so step =
    let us = drop at under in
    let ds = drop (k + 1) over in
    let front = take (place_of d us) us in
    let rest = put_entries (drop (passed_by d us) us) ds in
    let here : drop k over ≡ d ∷ ds = drop_more over k d lt ∙ ap (λ x. x ∷ ds) (sym is) in
    let chain : IsChain (d ∷ ds) = subst IsChain here (chain_drop k over (chain_from over rises)) in
    ap (λ l. l ++ put_entries (drop (at + passed_by d us) under) ds) step
    ∙ ap (λ l. ((all ++ front) ++ d ∷ []) ++ put_entries l ds) (sym (drop-drop (passed_by d us) at under))
    ∙ append_assoc (all ++ front) (d ∷ []) rest
    ∙ append_assoc all front (d ∷ rest)
    ∙ ap (λ l. all ++ l) (sym (next_put d us ds chain))
    ∙ ap (λ l. all ++ put_entries us l) (sym here)
    ∙ so

-- the end of the merge
merge_end : (under over all next : List Entry) (at k : ℕ) → length over ≤ k → all ++ put_entries (drop at under) (drop k over) ≡ put_entries under over → next ≡ all ++ drop at under → next ≡ put_entries under over
merge_end under over all next at k le so step = step ∙ ap (λ l. all ++ put_entries (drop at under) l) (sym (drop_all k over le)) ∙ so

-- the two halves of a list put in order
pub halves : (cs front back all : List Entry) (k : ℕ) → front ≡ put_entries [] (take k cs) → back ≡ put_entries [] (drop k cs) → take k cs ++ drop k cs ≡ cs → all ≡ put_entries front back → all ≡ put_entries [] cs
halves cs front back all k first second parts is =
    is
    ∙ ap (λ l. put_entries l back) first
    ∙ ap (put_entries (put_entries [] (take k cs))) second
    ∙ puts_join (put_entries [] (take k cs)) [] (drop k cs) tt
    ∙ sym (puts_append [] (take k cs) (drop k cs))
    ∙ ap (put_entries []) parts

pub puts_ascend : (cs : List Entry) → AreAscending (put_entries [] cs)
puts_ascend cs = chain_at (put_entries [] cs) (puts_chain [] cs tt)

-- what was put in order is put over a list as it came
pub ordered_puts : (es cs : List Entry) → put_entries es (put_entries [] cs) ≡ put_entries es cs
ordered_puts es cs = puts_join es [] cs tt

-- what is passed is there
passed_le : (d : Entry) (us : List Entry) → passed_by d us ≤ length us
passed_le d us = by_test (stands_at d us (place_of d us)) refl
  where
    below : stands_at d us (place_of d us) ≡ true → place_of d us < length us
    below h = let less : nat_lt (place_of d us) (length us) ≡ true = both_left (nat_lt (place_of d us) (length us)) (is_at (get_or us (place_of d us) no_entry) d) h in grind arith

    by_test : (t : Bool) → stands_at d us (place_of d us) ≡ t → (if t then place_of d us + 1 else place_of d us) ≤ length us
    by_test true h = let lt = below h in omega (arith, lt)
    by_test false h = prefix_len-le-length (λ f. is_before f d) us

pub passed_there : (d : Entry) (under : List Entry) (at : ℕ) → at ≤ length under → at + passed_by d (drop at under) ≤ length under
passed_there d under at le = let passed = passed_le d (drop at under) in omega (arith, passed, length-drop at under, le)

-- at most one entry is in order
pub short_is : (es : List Entry) → length es ≤ 1 → es ≡ put_entries [] es
short_is [] h = refl
short_is (e ∷ []) h = refl
short_is (e ∷ f ∷ es) h = absurd (omega (arith, h))
