-- The mark of a listed scenario at a stage is its own from its period on, and before it its parent's.
use Rattle.std.proofs.Common.{arith, refl, sym, subst, ap, ◌∙◌, ◌≡◌, ◌<◌, ◌≤◌, ◌+◌, ℕ, zero, suc, Bool, true, false, if◌then◌else◌, max, nat_le, List, [], ◌∷◌, length, get_or, Option, Some, None}
use Rattle.std.specs.List.{fold}
use Rattle.std.proofs.lemmas.Bool.Decides.{nat_tests}
use Rattle.smps_stoch.specs.StochFacts.{IsEarlier, no_branch}
use Rattle.smps_stoch.specs.declared.stoch.Branch.{Branch}
use Rattle.tree_core.specs.Marks.{mark_of}
use Rattle.scenario_lists.specs.ScenarioList.{HaveParents, branch_marks, inherited_mark, marks_beside, with_marks}
use Rattle.scenario_lists.proofs.Nesting.{new_mark, old_mark, pushed_long}

-- later scenarios leave the marks of those before them
marks_later : (stages : ℕ) (made : List (List ℕ)) (bs : List Branch) (t s : ℕ) → s < length made → mark_of (fold (with_marks stages) made bs) t s ≡ mark_of made t s
marks_later stages made [] t s lt = refl
marks_later stages made (b ∷ bs) t s lt =
    marks_later stages (with_marks stages made b) bs t s (omega (arith, lt, pushed_long stages made b))
    ∙ old_mark made (marks_beside stages made b) t s lt

-- what a scenario takes over is the same in the whole list
inherited_later : (stages : ℕ) (made : List (List ℕ)) (bs : List Branch) (parent : Option ℕ) (t : ℕ) → IsEarlier parent (length made) → inherited_mark made parent t ≡ inherited_mark (fold (with_marks stages) made bs) parent t
inherited_later stages made bs None t earlier = refl
inherited_later stages made bs (Some parent) t earlier = sym (marks_later stages made bs t parent earlier)

-- the mark of scenario i of a whole list
abbrev own_or : List (List ℕ) → Branch → ℕ → ℕ → ℕ
own_or whole b t i = if nat_le (max 2 b.period) t then i + 1 else inherited_mark whole b.parent t

mark_at : (stages : ℕ) (made : List (List ℕ)) (bs : List Branch) (k i t : ℕ) → 1 ≤ t → t ≤ stages → i ≡ length made + k → k < length bs → IsEarlier (get_or bs k no_branch).parent i → mark_of (fold (with_marks stages) made bs) t i ≡ own_or (fold (with_marks stages) made bs) (get_or bs k no_branch) t i
mark_at stages made [] k i t first last at lt earlier = absurd (omega (arith, lt))
mark_at stages made (b ∷ bs) zero i t first last at lt earlier =
    let here : i ≡ length made = omega (arith, at) in
    let before : IsEarlier b.parent (length made) = subst (IsEarlier b.parent) here earlier in
    let own = nat_le (max 2 b.period) t in
    marks_later stages (with_marks stages made b) bs t i (omega (arith, here, pushed_long stages made b))
    ∙ ap (mark_of (with_marks stages made b) t) here
    ∙ new_mark stages made b t first last
    ∙ ap (λ (n : ℕ). if own then n + 1 else inherited_mark made b.parent t) (sym here)
    ∙ ap (λ (m : ℕ). if own then i + 1 else m) (inherited_later stages made (b ∷ bs) b.parent t before)
mark_at stages made (b ∷ bs) (suc k) i t first last at lt earlier =
    mark_at stages (with_marks stages made b) bs k i t first last (omega (arith, at, pushed_long stages made b)) (omega (arith, lt)) earlier

passes : (a t : ℕ) → a ≤ t → nat_le a t ≡ true
passes a t le = grind (arith, nat_tests, le)

fails : (a t : ℕ) → t < a → nat_le a t ≡ false
fails a t lt = grind (arith, nat_tests, lt)

module _ (stages : ℕ) (branches : List Branch) (t k : ℕ) (parents : HaveParents branches) (first : 1 ≤ t) (last : t ≤ stages) (lt : k < length branches) where
  mark_is : mark_of (branch_marks stages branches) t k ≡ own_or (branch_marks stages branches) (get_or branches k no_branch) t k
  unfolding branch_marks
  mark_is = mark_at stages [] branches k k t first last (omega arith) lt (parents k lt)

  pub own_mark : max 2 (get_or branches k no_branch).period ≤ t → mark_of (branch_marks stages branches) t k ≡ k + 1
  own_mark late =
      let b = get_or branches k no_branch in
      mark_is ∙ ap (λ (own : Bool). if own then k + 1 else inherited_mark (branch_marks stages branches) b.parent t) (passes (max 2 b.period) t late)

  pub parents_mark : t < max 2 (get_or branches k no_branch).period → mark_of (branch_marks stages branches) t k ≡ inherited_mark (branch_marks stages branches) (get_or branches k no_branch).parent t
  parents_mark early =
      let b = get_or branches k no_branch in
      mark_is ∙ ap (λ (own : Bool). if own then k + 1 else inherited_mark (branch_marks stages branches) b.parent t) (fails (max 2 b.period) t early)
