-- The dual value of a put that was read is the reply to it, and a search that is spent is one of its.
use Rattle.std.proofs.Common.{sym, ap, ◌∙◌, subst, ◌≡◌, ℕ, ◌-◌, ◌<◌, Bool, ℤ, Some, if◌then◌else◌}
use Rattle.std.specs.Option.{option_and_then}
use Rattle.branch_bound.specs.PlainSearch.{ref_count}
use Rattle.dual_value.specs.Duals.{priced_in}
use Rattle.wait_and_see.specs.Spending.{IsSpentIn}
use Rattle.run_calls.specs.MultiplierTests.{AreLong, AreSized}
use Rattle.sp_model.specs.Plans.{dual_of}
use Rattle.sp_model.specs.ScenarioPoints.{IsFirstInfeasible}
use Rattle.sp_model.specs.declared.plan.Multipliers.{Multipliers}
use Rattle.sp_model.specs.declared.run.Run.{Run}
use Rattle.put_words.specs.Puts.{Made, put_of}
use Rattle.put_words.proofs.Inside.{put_long}
use Rattle.base_words.proofs.FirstAnswers.{same_some}
use Rattle.base_words.proofs.NumberTests.{test_from_less}
use Rattle.put_words.proofs.Rises.{put_sized}
use Rattle.put_words.proofs.Unpriced.{put_points}
use Rattle.log_words.specs.Replies.{least_price, reply_of, reply_to, tried}
use Rattle.lagrangian_spoke.specs.Answering.{IsPut, IsSpentAt}

module _ (run : Run) (k : ℕ) (made : Made) (m : Multipliers) (made_is : put_of run k ≡ Some made) (same : m ≡ made.put.multipliers) (may : IsPut run k) where
  pub long_read : AreLong run m
  long_read = subst (AreLong run) (sym same) (put_long run k made made_is)

  pub sized_read : AreSized run m
  sized_read = subst (AreSized run) (sym same) (put_sized run k made may.last made_is)

  pub never_none : (s : ℕ) → IsFirstInfeasible run s → ⊥
  never_none s off = let has = put_points run k made made_is s off.there in off.none has.0 has.1

  pub value_is : (i : ℕ) (value : ℤ) → i < run.options.lagrangian → dual_of run m ≡ Some value → reply_of run i k ≡ Some value
  value_is i value kind e =
      ap (λ o. option_and_then (reply_to run i) o) made_is
      ∙ (ap (λ (b : Bool). if b then dual_of run made.put.multipliers else least_price run (tried run made.put.x (i - run.options.lagrangian))) (test_from_less i run.options.lagrangian kind)
      ∙ (ap (dual_of run) (sym same) ∙ e))

  pub spent_is : (s opened : ℕ) → IsSpentIn run (priced_in run m) run.options.budget s opened → IsSpentAt run k s opened
  spent_is s opened h = record {
    opened_is = h.opened_is;
    there = h.there;
    more = λ other e.
        let alike : m ≡ other.put.multipliers = same ∙ ap (λ (z : Made). z.put.multipliers) (same_some (sym made_is ∙ e)) in
        subst (λ z. run.options.budget < ref_count (priced_in run z s)) alike h.more;
  }
