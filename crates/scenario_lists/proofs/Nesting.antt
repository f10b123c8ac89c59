-- Marks that are equal at a stage are equal at the stage before, and no two scenarios have the same mark at the last stage.
use Rattle.std.proofs.Common.{arith, refl, ◌≡◌, ◌<◌, ◌≤◌, ◌+◌, ◌*◌, ◌-◌, ◌/◌, ◌%◌, ℕ, zero, suc, Bool, true, false, if◌then◌else◌, max, nat_le, ap, ◌∙◌, sym, subst, length, List, [], ◌∷◌, ◌++◌, get_or, drop, inl, inr, Option, Some, None}
use Rattle.std.proofs.lemmas.List.{get_or_append_left, get_or_default, length_push, same_lists}
use Rattle.std.proofs.lemmas.Bool.{cases_lt}
use Rattle.std.proofs.lemmas.List.FromFn.{get_or-map-range_with_len, length-map-range_with_len}
use Rattle.std.proofs.Math.Nat.{div-add-mod, mod-lt}
use Rattle.std.proofs.Math.Seq.{get_or-append_seam}
use Rattle.std.specs.List.{All, fold}
use Rattle.smps_stoch.specs.StochFacts.{IsEarlier, no_branch}
use Rattle.smps_stoch.specs.declared.stoch.Branch.{Branch}
use Rattle.smps_stoch.specs.declared.stoch.Element.{Element}
use Rattle.smps_stoch.specs.declared.stoch.Stoch.{Stoch}
use Rattle.smps_stoch.specs.declared.stoch.Stoch.TheVariants.{Product, Scenarios}
use Rattle.tree_core.specs.Marks.{AreNested, mark_of}
use Rattle.scenario_lists.specs.Combinations.{choices_of, combinations, mark_in, no_element}
use Rattle.scenario_lists.specs.Nesting.{HavePeriods}
use Rattle.scenario_lists.specs.ScenarioList.{HaveAllParents, HaveParents, branch_marks, count_of, inherited_mark, mark_beside, marks_beside, marks_of, product_marks, product_marks_at, with_marks}
use Rattle.scenario_lists.proofs.Agreement.{marks_agree}
use Rattle.scenario_lists.proofs.Digits.{are_choices, factor_positive}

-- combinations

product_mark : (stages : ℕ) (es : List Element) (t s : ℕ) → 1 ≤ t → t ≤ stages → s < combinations es → mark_of (product_marks stages es) t s ≡ mark_in es (choices_of es s) t
product_mark stages es t s first last lt =
    ap (λ (row : List ℕ). get_or row (t - 1) 0) (get_or-map-range_with_len (product_marks_at stages es) 0 (combinations es) s s [] lt (omega arith))
    ∙ get_or-map-range_with_len (mark_in es (choices_of es s)) 1 stages (t - 1) t 0 (omega (arith, first, last)) (omega (arith, first))

products_long : (stages : ℕ) (es : List Element) → length (product_marks stages es) ≡ combinations es
products_long stages es = length-map-range_with_len (product_marks_at stages es) 0 (combinations es)

products_nested : (stages : ℕ) (es : List Element) → AreNested stages (product_marks stages es)
products_nested stages es t s u first last s_lt u_lt same =
    let long = products_long stages es in
    let s_there : s < combinations es = omega (arith, long) in
    let u_there : u < combinations es = omega (arith, long) in
    let later : mark_in es (choices_of es s) (t + 1) ≡ mark_in es (choices_of es u) (t + 1) = sym (product_mark stages es (t + 1) s (omega arith) (omega (arith, last)) s_there) ∙ same ∙ product_mark stages es (t + 1) u (omega arith) (omega (arith, last)) u_there in
    let cs = are_choices es s s_there in
    let ds = are_choices es u u_there in
    let agree = (marks_agree es (choices_of es s) (choices_of es u) (t + 1) cs ds).0 later in
    product_mark stages es t s first (omega (arith, last)) s_there
    ∙ ((marks_agree es (choices_of es s) (choices_of es u) t cs ds).1 (λ k lt early. agree k lt (omega (arith, early)))
    ∙ sym (product_mark stages es t u first (omega (arith, last)) u_there))

-- equal lists have equal heads and equal rests
heads_same : (a b : ℕ) (xs ys : List ℕ) → a ∷ xs ≡ b ∷ ys → a ≡ b
heads_same a b xs ys e = ap (λ (l : List ℕ). get_or l 0 0) e

rests_same : (a b : ℕ) (xs ys : List ℕ) → a ∷ xs ≡ b ∷ ys → xs ≡ ys
rests_same a b xs ys e = ap (λ (l : List ℕ). drop 1 l) e

-- a combination is known by its choices
one_combination : (es : List Element) (s u : ℕ) → s < combinations es → u < combinations es → choices_of es s ≡ choices_of es u → s ≡ u
one_combination [] s u p q h = omega (arith, p, q)
one_combination (e ∷ es) s u p q h =
    let m = combinations es in
    let some : 0 < m = factor_positive s (length e.realisations) m p in
    let quotients : s / m ≡ u / m = heads_same (s / m) (u / m) (choices_of es (s % m)) (choices_of es (u % m)) h in
    let rests : s % m ≡ u % m = one_combination es (s % m) (u % m) (mod-lt s some) (mod-lt u some) (rests_same (s / m) (u / m) (choices_of es (s % m)) (choices_of es (u % m)) h) in
    sym (div-add-mod s m) ∙ (ap (λ q. m * q + s % m) quotients ∙ (ap (λ r. m * (u / m) + r) rests ∙ div-add-mod u m))

products_apart : (stages : ℕ) (es : List Element) → 1 ≤ stages → All (λ (e : Element). e.period ≤ stages) es → (s u : ℕ) → s < combinations es → u < combinations es → mark_of (product_marks stages es) stages s ≡ mark_of (product_marks stages es) stages u → s ≡ u
products_apart stages es some early s u s_lt u_lt same =
    let same_stage : stages ≤ stages = omega arith in
    let marks : mark_in es (choices_of es s) stages ≡ mark_in es (choices_of es u) stages = sym (product_mark stages es stages s some same_stage s_lt) ∙ same ∙ product_mark stages es stages u some same_stage u_lt in
    let cs = are_choices es s s_lt in
    let ds = are_choices es u u_lt in
    let agree = (marks_agree es (choices_of es s) (choices_of es u) stages cs ds).0 marks in
    let long : length (choices_of es s) ≡ length (choices_of es u) = cs.whole ∙ sym ds.whole in
    let choices = same_lists (choices_of es s) (choices_of es u) long (λ k d lt.
    let there : k < length es = omega (arith, cs.whole, lt) in
    get_or_default (choices_of es s) k d 0 lt ∙ (agree k there (early k no_element there) ∙ get_or_default (choices_of es u) k 0 d (omega (arith, long, lt)))) in
    one_combination es s u s_lt u_lt choices

-- listed scenarios

-- the mark at stage t of the scenario from which a mark comes; 0 stands for the core
abbrev through : List (List ℕ) → ℕ → ℕ → ℕ
through made t zero = 0
through made t (suc s) = mark_of made t s

-- each mark comes from a scenario that has it of its own, or from the core
record IsOwned (stages : ℕ) (made : List (List ℕ)) : Type 0 where
  owned : (t s : ℕ) → 1 ≤ t → t < stages → s < length made → mark_of made t s ≡ through made t (mark_of made (t + 1) s)
  low : (t s : ℕ) → 1 ≤ t → t ≤ stages → s < length made → mark_of made t s ≤ s + 1

pub old_mark : (made : List (List ℕ)) (row : List ℕ) (t s : ℕ) → s < length made → mark_of (made ++ row ∷ []) t s ≡ mark_of made t s
old_mark made row t s lt = ap (λ (r : List ℕ). get_or r (t - 1) 0) (get_or_append_left made (row ∷ []) [] s lt)

pub new_mark : (stages : ℕ) (made : List (List ℕ)) (b : Branch) (t : ℕ) → 1 ≤ t → t ≤ stages → mark_of (with_marks stages made b) t (length made) ≡ mark_beside made b t
new_mark stages made b t first last =
    ap (λ (r : List ℕ). get_or r (t - 1) 0) (get_or-append_seam made (marks_beside stages made b) [] [])
    ∙ get_or-map-range_with_len (mark_beside made b) 1 stages (t - 1) t 0 (omega (arith, first, last)) (omega (arith, first))

old_through : (made : List (List ℕ)) (row : List ℕ) (t m : ℕ) → m ≤ length made → through (made ++ row ∷ []) t m ≡ through made t m
old_through made row t zero h = refl
old_through made row t (suc s) h = old_mark made row t s (omega (arith, h))

-- a mark that is taken over
inherited_owned : (stages : ℕ) (made : List (List ℕ)) (parent : Option ℕ) (t : ℕ) → IsOwned stages made → IsEarlier parent (length made) → 1 ≤ t → t < stages → inherited_mark made parent t ≡ through made t (inherited_mark made parent (t + 1))
inherited_owned stages made None t known earlier first last = refl
inherited_owned stages made (Some parent) t known earlier first last = known.owned t parent first last earlier

inherited_low : (stages : ℕ) (made : List (List ℕ)) (parent : Option ℕ) (t : ℕ) → IsOwned stages made → IsEarlier parent (length made) → 1 ≤ t → t ≤ stages → inherited_mark made parent t ≤ length made
inherited_low stages made None t known earlier first last = omega arith
inherited_low stages made (Some parent) t known earlier first last = omega (arith, known.low t parent first last earlier, earlier)

new_owned : (stages : ℕ) (made : List (List ℕ)) (b : Branch) (t : ℕ) → IsOwned stages made → IsEarlier b.parent (length made) → 1 ≤ t → t < stages → mark_beside made b t ≡ through (with_marks stages made b) t (mark_beside made b (t + 1))
new_owned stages made b t known earlier first last = by_tests (nat_le (max 2 b.period) (t + 1)) refl (nat_le (max 2 b.period) t) refl
  where
    by_tests : (p : Bool) → nat_le (max 2 b.period) (t + 1) ≡ p → (q : Bool) → nat_le (max 2 b.period) t ≡ q → (if q then length made + 1 else inherited_mark made b.parent t) ≡ through (with_marks stages made b) t (if p then length made + 1 else inherited_mark made b.parent (t + 1))
    by_tests true e q f =
        let one : length made + 1 ≡ suc (length made) = omega arith in
        ap (λ r. if r then length made + 1 else inherited_mark made b.parent t) (sym f) ∙ (sym (new_mark stages made b t first (omega (arith, last))) ∙ ap (through (with_marks stages made b) t) (sym one))
    by_tests false e true f = absurd (grind arith)
    by_tests false e false f =
        inherited_owned stages made b.parent t known earlier first last
        ∙ sym (old_through made (marks_beside stages made b) t (inherited_mark made b.parent (t + 1)) (inherited_low stages made b.parent (t + 1) known earlier (omega arith) (omega (arith, last))))

new_low : (stages : ℕ) (made : List (List ℕ)) (b : Branch) (t : ℕ) → IsOwned stages made → IsEarlier b.parent (length made) → 1 ≤ t → t ≤ stages → mark_beside made b t ≤ length made + 1
new_low stages made b t known earlier first last = by_test (nat_le (max 2 b.period) t)
  where
    by_test : (q : Bool) → (if q then length made + 1 else inherited_mark made b.parent t) ≤ length made + 1
    by_test true = omega arith
    by_test false = omega (arith, inherited_low stages made b.parent t known earlier first last)

pub pushed_long : (stages : ℕ) (made : List (List ℕ)) (b : Branch) → length (with_marks stages made b) ≡ length made + 1
pushed_long stages made b = length_push made (marks_beside stages made b)

step_owned : (stages : ℕ) (made : List (List ℕ)) (b : Branch) → IsOwned stages made → IsEarlier b.parent (length made) → IsOwned stages (with_marks stages made b)
step_owned stages made b known earlier = record {
  owned = λ t s first last lt. elim (cases_lt s (length made)) [
    | inl old ↦
        let row = marks_beside stages made b in
        old_mark made row t s old ∙ (known.owned t s first last old
        ∙ (sym (old_through made row t (mark_of made (t + 1) s) (omega (arith, known.low (t + 1) s (omega arith) (omega (arith, last)) old, old)))
        ∙ ap (through (with_marks stages made b) t) (sym (old_mark made row (t + 1) s old))))
    | inr new ↦
        let at : s ≡ length made = omega (arith, lt, new, pushed_long stages made b) in
        ap (mark_of (with_marks stages made b) t) at
        ∙ (new_mark stages made b t first (omega (arith, last))
        ∙ (new_owned stages made b t known earlier first last
        ∙ (ap (through (with_marks stages made b) t) (sym (new_mark stages made b (t + 1) (omega arith) (omega (arith, last))))
        ∙ ap (λ k. through (with_marks stages made b) t (mark_of (with_marks stages made b) (t + 1) k)) (sym at))))
  ];
  low = λ t s first last lt. elim (cases_lt s (length made)) [
    | inl old ↦ omega (arith, old_mark made (marks_beside stages made b) t s old, known.low t s first last old)
    | inr new ↦
        let at : s ≡ length made = omega (arith, lt, new, pushed_long stages made b) in
        omega (arith, at, ap (mark_of (with_marks stages made b) t) at, new_mark stages made b t first last, new_low stages made b t known earlier first last)
  ];
}

all_owned : (stages : ℕ) (made : List (List ℕ)) (bs : List Branch) → IsOwned stages made → ((k : ℕ) → k < length bs → IsEarlier (get_or bs k no_branch).parent (length made + k)) → IsOwned stages (fold (with_marks stages) made bs)
all_owned stages made [] known parents = known
all_owned stages made (b ∷ bs) known parents =
    let P : ℕ → Type 0 = λ n. IsEarlier b.parent n in
    let none : length made + 0 ≡ length made = omega arith in
    all_owned stages (with_marks stages made b) bs (step_owned stages made b known (subst P none (parents 0 (omega arith)))) (λ k lt.
    let Q : ℕ → Type 0 = λ n. IsEarlier (get_or bs k no_branch).parent n in
    let next : length made + suc k ≡ length (with_marks stages made b) + k = omega (arith, pushed_long stages made b) in
    subst Q next (parents (suc k) (omega (arith, lt))))

branches_nested : (stages : ℕ) (bs : List Branch) → HaveParents bs → AreNested stages (branch_marks stages bs)
unfolding branch_marks
branches_nested stages bs parents t s u first last s_lt u_lt same =
    let none : IsOwned stages [] = record { owned = λ t s first last lt. absurd (omega (arith, lt)); low = λ t s first last lt. absurd (omega (arith, lt)) } in
    let known = all_owned stages [] bs none (λ k lt. let P : ℕ → Type 0 = λ n. IsEarlier (get_or bs k no_branch).parent n in let e : k ≡ 0 + k = omega arith in subst P e (parents k lt)) in
    known.owned t s first last s_lt ∙ (ap (through (fold (with_marks stages) [] bs) t) same ∙ sym (known.owned t u first last u_lt))

-- at the last stage each scenario has its own mark
own_last : (stages : ℕ) (made : List (List ℕ)) (bs : List Branch) → 1 ≤ stages → ((s : ℕ) → s < length made → mark_of made stages s ≡ s + 1) → ((k : ℕ) → k < length bs → max 2 (get_or bs k no_branch).period ≤ stages) → (s : ℕ) → s < length (fold (with_marks stages) made bs) → mark_of (fold (with_marks stages) made bs) stages s ≡ s + 1
own_last stages made [] some known early s lt = known s lt
own_last stages made (b ∷ bs) some known early s lt =
    let same_stage : stages ≤ stages = omega arith in
    let own : mark_beside made b stages ≡ length made + 1 = own_mark (nat_le (max 2 b.period) stages) (grind (arith, early 0 (omega arith))) in
    own_last stages (with_marks stages made b) bs some (λ u u_lt. elim (cases_lt u (length made)) [
      | inl old ↦ old_mark made (marks_beside stages made b) stages u old ∙ known u old
      | inr new ↦
          let at : u ≡ length made = omega (arith, u_lt, new, pushed_long stages made b) in
          omega (arith, at, ap (mark_of (with_marks stages made b) stages) at, new_mark stages made b stages some same_stage, own)
    ]) (λ k lt2. early (suc k) (omega (arith, lt2))) s lt
  where
    own_mark : (q : Bool) → q ≡ true → (if q then length made + 1 else inherited_mark made b.parent stages) ≡ length made + 1
    own_mark true e = refl
    own_mark false e = absurd (let x = e in cc)

branches_apart : (stages : ℕ) (bs : List Branch) → 1 ≤ stages → All (λ (b : Branch). max 2 b.period ≤ stages) bs → (s u : ℕ) → s < length (branch_marks stages bs) → u < length (branch_marks stages bs) → mark_of (branch_marks stages bs) stages s ≡ mark_of (branch_marks stages bs) stages u → s ≡ u
unfolding branch_marks
branches_apart stages bs some early s u s_lt u_lt same =
    let own = own_last stages [] bs some (λ k lt. absurd (omega (arith, lt))) (λ k lt. early k no_branch lt) in
    omega (arith, own s s_lt, own u u_lt, same)

branches_long : (stages : ℕ) (made : List (List ℕ)) (bs : List Branch) → length (fold (with_marks stages) made bs) ≡ length made + length bs
branches_long stages made [] = omega arith
branches_long stages made (b ∷ bs) = branches_long stages (with_marks stages made b) bs ∙ omega (arith, pushed_long stages made b)

-- all files

pub marks_long : (stages : ℕ) (stoch : Stoch) → length (marks_of stages stoch) ≡ count_of stoch
unfolding branch_marks
marks_long stages (Product es) = products_long stages es
marks_long stages (Scenarios bs) = branches_long stages [] bs ∙ omega arith

pub marks_nested : (stages : ℕ) (stoch : Stoch) → HaveAllParents stoch → AreNested stages (marks_of stages stoch)
marks_nested stages (Product es) parents = products_nested stages es
marks_nested stages (Scenarios bs) parents = branches_nested stages bs parents

pub last_marks_differ : (stages : ℕ) (stoch : Stoch) → 1 ≤ stages → HavePeriods stages stoch → (s u : ℕ) → s < count_of stoch → u < count_of stoch → mark_of (marks_of stages stoch) stages s ≡ mark_of (marks_of stages stoch) stages u → s ≡ u
last_marks_differ stages (Product es) some early s u s_lt u_lt same = products_apart stages es some early s u s_lt u_lt same
last_marks_differ stages (Scenarios bs) some early s u s_lt u_lt same =
    let long : length (branch_marks stages bs) ≡ length bs = marks_long stages (Scenarios bs) in
    branches_apart stages bs some early s u (omega (arith, long, s_lt)) (omega (arith, long, u_lt)) same
