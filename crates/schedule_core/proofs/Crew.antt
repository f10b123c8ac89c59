-- What holds of each actor of a list of which one is changed.

use Rattle.std.proofs.Common.{arith, sym, ap, subst, ◌∙◌, ◌≡◌, ◌≢◌, ℕ, ◌<◌, List, ◌++◌, length, set, get_or-set_other, get_or-set_same, length-set}
use Rattle.std.specs.Prelude.{slice_get, Some}
use Rattle.std.specs.List.{All, Contains}
use Rattle.std.proofs.lemmas.List.Elements.{All-weaker, Contains-append_left}
use Rattle.std.proofs.lemmas.Option.{get_or_from_slice_get, slice_get-get_or, slice_get_within}
use mathlib.Core.Logic.{dite}
use native.Mathlib.Decide.{ℕ_discrete}
use Rattle.lagrangian_spoke.specs.declared.spoke.LagrangianSpoke.{LagrangianSpoke}
use Rattle.log_words.specs.declared.log.Answer.{Answer}
use Rattle.log_words.specs.declared.log.Answer.TheVariants.{Reply}
use Rattle.run_log.specs.declared.log.Event.{Event}
use Rattle.run_log.specs.declared.log.Event.TheVariants.{Put, Take}
use Rattle.run_log.specs.declared.log.Source.TheVariants.{Hub, Spoke}
use Rattle.schedule_core.specs.Drivers.{IsReplied}

module _ {X : Type 0} (xs : List X) (i : ℕ) (x : X) where
  -- the one that is changed, and another
  pub changed_there : i < length xs → slice_get (set xs i x) i ≡ Some x
  changed_there l = slice_get-get_or (set xs i x) i x (let same = length-set xs i x in omega (arith, l, same)) ∙ ap Some (get_or-set_same xs i x x l)

  pub other_there : (j : ℕ) (y : X) → j ≢ i → slice_get xs j ≡ Some y → slice_get (set xs i x) j ≡ Some y
  other_there j y other e =
      slice_get-get_or (set xs i x) j y (let same = length-set xs i x in let l = slice_get_within xs j y e in omega (arith, l, same))
      ∙ ap Some (get_or-set_other xs i j x y other ∙ get_or_from_slice_get xs j y y e)

  other_before : (j : ℕ) (y : X) → j ≢ i → slice_get (set xs i x) j ≡ Some y → slice_get xs j ≡ Some y
  other_before j y other e =
      slice_get-get_or xs j y (let same = length-set xs i x in let l = slice_get_within (set xs i x) j y e in omega (arith, l, same))
      ∙ ap Some (sym (get_or-set_other xs i j x y other) ∙ get_or_from_slice_get (set xs i x) j y y e)

  changed_is : (y : X) → slice_get (set xs i x) i ≡ Some y → x ≡ y
  changed_is y e = sym (get_or-set_same xs i x y (let same = length-set xs i x in let l = slice_get_within (set xs i x) i y e in omega (arith, l, same))) ∙ get_or_from_slice_get (set xs i x) i y y e

  pub each_set : (P : ℕ → X → Type 0) → ((j : ℕ) (y : X) → j ≢ i → slice_get xs j ≡ Some y → P j y) → P i x → (j : ℕ) (y : X) → slice_get (set xs i x) j ≡ Some y → P j y
  each_set P others mine j y e = dite (ℕ_discrete j i)
      (λ (same : j ≡ i). subst (λ (z : ℕ × X). P z.0 z.1) (λ t. (sym same t, changed_is y (ap (λ m. slice_get (set xs i x) m) (sym same) ∙ e) t)) mine)
      (λ (other : j ≢ i). others j y other (other_before j y other e))

-- a spoke's answers grow: what was taken stays among them
module _ (spokes : List LagrangianSpoke) (i : ℕ) (s s' : LagrangianSpoke) (at : slice_get spokes i ≡ Some s) (more : List Answer) (longer : s'.answers.items ≡ s.answers.items ++ more) where
  still_replied : (e : Event) → IsReplied spokes e → IsReplied (set spokes i s') e
  still_replied (Put k) h = tt
  still_replied (Take Hub k value lower upper) h = absurd h
  still_replied (Take (Spoke j) k value lower upper) h = dite (ℕ_discrete j i)
      (λ (same : j ≡ i). let mine : h.0 ≡ s = some_same h.0 s (sym h.1 ∙ (ap (λ m. slice_get spokes m) same ∙ at)) in (
        s',
        ap (λ m. slice_get (set spokes i s') m) same ∙ changed_there spokes i s' (slice_get_within spokes i s at),
        subst (λ (xs : List Answer). Contains xs (Reply k value)) (sym longer)
            (Contains-append_left s.answers.items more (Reply k value) (subst (λ (t : LagrangianSpoke). Contains t.answers.items (Reply k value)) mine h.2)),
      ))
      (λ (other : j ≢ i). (h.0, other_there spokes i s' j h.0 other h.1, h.2)) where
        some_same : (a b : LagrangianSpoke) → Some a ≡ Some b → a ≡ b
        some_same a b e = cc

  pub taken_on : (events : List Event) → All (IsReplied spokes) events → All (IsReplied (set spokes i s')) events
  taken_on events all = All-weaker (IsReplied spokes) (IsReplied (set spokes i s')) still_replied events all
