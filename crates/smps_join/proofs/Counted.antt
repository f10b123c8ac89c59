-- Steps of the loops that look for early entries and count.
use Rattle.std.proofs.Common.{arith, refl, sym, ap, subst, ◌∙◌, ◌≡◌, ℕ, ◌+◌, ◌<◌, ◌≤◌, min, nat_lt, Bool, true, false, cond, List, [], ◌∷◌, ◌++◌, length, get_or, take, Option, Some, None, add-one}
use Rattle.std.specs.List.{All, Any, count_by, range_with_len}
use Rattle.std.proofs.lemmas.List.{get_or_append_left, length-append, take_more}
use Rattle.std.proofs.lemmas.List.Elements.{All-push}
use Rattle.std.proofs.lemmas.List.Quantifiers.{Any-push}
use Rattle.base_words.proofs.ListSumsByNumber.{range_more}
use Rattle.base_words.proofs.Booleans.{not_both}
use Rattle.smps_words.specs.Stages.{stage_in}
use Rattle.smps_words.specs.declared.core_data.CoreEntry.{CoreEntry}
use Rattle.join_words.specs.Parts.{Firsts, IsFirstEarly, is_early, stages_of}
use Rattle.join_words.specs.RunOf.{nonleaf_in}
use Rattle.smps_join.specs.Lesser.{lesser}
use Rattle.smps_join.proofs.Counts.{count_push}

any_kept : {X : Type 0} (P : X → Type 0) (xs ys : List X) → Any P xs → Any P (xs ++ ys)
any_kept P xs ys (k, x, lt, at, h) = (k, x, omega (arith, lt, length-append xs ys), get_or_append_left xs ys x k lt ∙ at, h)

module _ (firsts : Firsts) where
  -- an early entry of this line, and that no early entry has a lesser one
  abbrev IsAt : ℕ → CoreEntry → Type 0
  IsAt line e = (is_early firsts e ≡ true) × (e.line ≡ line)

  abbrev IsNotBelow : ℕ → CoreEntry → Type 0
  IsNotBelow line e = is_early firsts e ≡ true → line ≤ e.line

  lesser_line : (es : List CoreEntry) (e : CoreEntry) (line : ℕ) (t : Bool) → nat_lt e.line line ≡ t → is_early firsts e ≡ true → Any (IsAt line) es → All (IsNotBelow line) es → IsFirstEarly firsts (es ++ e ∷ []) (Some (min line e.line))
  lesser_line es e line true less early any all =
      let lt : e.line < line = grind arith in
      let least : min line e.line ≡ e.line = omega (arith, lt) in
      let at : Any (IsAt e.line) (es ++ e ∷ []) = Any-push (IsAt e.line) es e (early, refl) in
      let below : All (IsNotBelow e.line) (es ++ e ∷ []) = All-push (IsNotBelow e.line) es e (λ k d k_lt is. omega (arith, all k d k_lt is, lt)) (λ is. omega arith) in
      subst (λ n. IsFirstEarly firsts (es ++ e ∷ []) (Some n)) (sym least) (at, below)
  lesser_line es e line false less early any all =
      let le : line ≤ e.line = grind arith in
      let least : min line e.line ≡ line = omega (arith, le) in
      let at : Any (IsAt line) (es ++ e ∷ []) = any_kept (IsAt line) es (e ∷ []) any in
      let below : All (IsNotBelow line) (es ++ e ∷ []) = All-push (IsNotBelow line) es e all (λ is. le) in
      subst (λ n. IsFirstEarly firsts (es ++ e ∷ []) (Some n)) (sym least) (at, below)

  early_pushed : (es : List CoreEntry) (e : CoreEntry) (least : Option ℕ) → is_early firsts e ≡ true → IsFirstEarly firsts es least → IsFirstEarly firsts (es ++ e ∷ []) (Some (lesser least e.line))
  early_pushed es e None early h =
      (Any-push (IsAt e.line) es e (early, refl), All-push (IsNotBelow e.line) es e (λ k d k_lt is. absurd (not_both (is_early firsts (get_or es k d)) is (h k d k_lt))) (λ is. omega arith))
  early_pushed es e (Some line) early h = lesser_line es e line (nat_lt e.line line) refl early h.0 h.1

  late_pushed : (es : List CoreEntry) (e : CoreEntry) (least : Option ℕ) → is_early firsts e ≡ false → IsFirstEarly firsts es least → IsFirstEarly firsts (es ++ e ∷ []) least
  late_pushed es e None late h = All-push (λ (x : CoreEntry). is_early firsts x ≡ false) es e h late
  late_pushed es e (Some line) late h = (any_kept (IsAt line) es (e ∷ []) h.0, All-push (IsNotBelow line) es e h.1 (λ is. absurd (not_both (is_early firsts e) is late)))

  -- one entry more
  pub early_next : (es : List CoreEntry) (k : ℕ) (e : CoreEntry) (least : Option ℕ) → k < length es → e ≡ get_or es k e → is_early firsts e ≡ true → IsFirstEarly firsts (take k es) least → IsFirstEarly firsts (take (k + 1) es) (Some (lesser least e.line))
  early_next es k e least lt at early h =
      let P : List CoreEntry → Type 0 = λ l. IsFirstEarly firsts l (Some (lesser least e.line)) in
      subst P (ap (λ x. take k es ++ x ∷ []) at ∙ sym (take_more es k e lt)) (early_pushed (take k es) e least early h)

  pub late_next : (es : List CoreEntry) (k : ℕ) (e : CoreEntry) (least : Option ℕ) → k < length es → e ≡ get_or es k e → is_early firsts e ≡ false → IsFirstEarly firsts (take k es) least → IsFirstEarly firsts (take (k + 1) es) least
  late_next es k e least lt at late h =
      let P : List CoreEntry → Type 0 = λ l. IsFirstEarly firsts l least in
      subst P (ap (λ x. take k es ++ x ∷ []) at ∙ sym (take_more es k e lt)) (late_pushed (take k es) e least late h)

  -- one column more
  nonleaf_more : (j : ℕ) → nonleaf_in firsts (j + 1) ≡ nonleaf_in firsts j + cond (nat_lt (stage_in firsts.columns j) (stages_of firsts)) 1 0
  nonleaf_more j =
      let z : 0 + j ≡ j = omega arith in
      ap (nonleaf_in firsts) (add-one j)
      ∙ (ap (count_by (λ k. nat_lt (stage_in firsts.columns k) (stages_of firsts))) (range_more 0 j ∙ ap (λ k. range_with_len 0 j ++ k ∷ []) z)
      ∙ count_push (λ k. nat_lt (stage_in firsts.columns k) (stages_of firsts)) (range_with_len 0 j) j)

  pub nonleaf_yes : (j : ℕ) → nat_lt (stage_in firsts.columns j) (stages_of firsts) ≡ true → nonleaf_in firsts (j + 1) ≡ nonleaf_in firsts j + 1
  nonleaf_yes j h = nonleaf_more j ∙ ap (λ t. nonleaf_in firsts j + cond t 1 0) h

  pub nonleaf_no : (j : ℕ) → nat_lt (stage_in firsts.columns j) (stages_of firsts) ≡ false → nonleaf_in firsts (j + 1) ≡ nonleaf_in firsts j
  nonleaf_no j h = nonleaf_more j ∙ (ap (λ t. nonleaf_in firsts j + cond t 1 0) h ∙ (let e : nonleaf_in firsts j + 0 ≡ nonleaf_in firsts j = omega arith in e))
