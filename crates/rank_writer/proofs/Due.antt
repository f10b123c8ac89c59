-- The call that a rank makes is the one that is due, and leads where it says.

use Rattle.std.proofs.Common.{sym, ap, subst, ◌∙◌, ◌≡◌, ℕ, ◌+◌, ◌<◌, ◌≤◌, Bool, get_or, if◌then◌else◌}
use Rattle.base_words.proofs.NumberTests.{test_from_less, test_from_not_less}
use Rattle.run_calls.specs.declared.put.Put.{Put}
use Rattle.put_codec.specs.Entries.{part_words}
use Rattle.put_codec.specs.declared.layout.Layout.{Layout}
use Rattle.window_words.specs.Views.{after}
use Rattle.window_words.specs.declared.views.Call.{Call}
use Rattle.window_words.specs.declared.views.Call.TheVariants as call
use Rattle.window_words.specs.declared.views.View.{View}
use Rattle.rank_writer.specs.Writers.{Calls, due_by, due_in, written, written_by}
use Rattle.rank_writer.specs.declared.writer.RankWriter.{RankWriter}
use Rattle.rank_writer.specs.declared.writer.Writing.{Writing}
use Rattle.rank_writer.specs.declared.writer.Writing.TheVariants.{Open, Shut}

-- the call that was made is the one that is due
pub is_due : {X : Type 0} → (leaves : X → Call → ℕ → X → Type 0) (view : X → View) (leaders : ℕ) (b b' : X) (made due : Call) → due ≡ made → leaves b made 0 b' → view b' ≡ after leaders made 0 (view b) → Calls leaves view leaders b b' due 0
is_due leaves view leaders b b' made due e l k = subst (λ c. Calls leaves view leaders b b' c 0) (sym e) (record { leaves_it = l; knows = k })

module _ (layout : Layout) (w : RankWriter) (put : Put) where
  pub due_when : (p : Writing) → w.writing ≡ p → due_in layout w put ≡ due_by layout w put p
  due_when p e = ap (due_by layout w put) e

  pub due_word : (n word : ℕ) → w.writing ≡ Open n → n < w.width → word ≡ get_or (part_words layout w.rank put) n 0 → due_in layout w put ≡ call.Put word
  due_word n word e l is = due_when (Open n) e ∙ (ap (λ (b : Bool). if b then call.Put (get_or (part_words layout w.rank put) n 0) else call.Close) (test_from_less n w.width l) ∙ ap (λ x. call.Put x) (sym is))

  pub due_close : (n : ℕ) → w.writing ≡ Open n → w.width ≤ n → due_in layout w put ≡ call.Close
  due_close n e l = due_when (Open n) e ∙ ap (λ (b : Bool). if b then call.Put (get_or (part_words layout w.rank put) n 0) else call.Close) (test_from_not_less n w.width l)

module _ (w : RankWriter) (k : ℕ) where
  pub leads_when : (p : Writing) → w.writing ≡ p → written_by w k p ≡ written w k
  leads_when p e = ap (written_by w k) (sym e)

  pub leads_on : (n : ℕ) → w.writing ≡ Open n → n < w.width → (record w { writing = Open (n + 1) }) ≡ written w k
  leads_on n e l = sym (ap (λ (b : Bool). if b then record w { writing = Open (n + 1) } else record w { last = k; writing = Shut }) (test_from_less n w.width l)) ∙ leads_when (Open n) e

  pub leads_shut : (n : ℕ) → w.writing ≡ Open n → w.width ≤ n → (record w { last = k; writing = Shut }) ≡ written w k
  leads_shut n e l = sym (ap (λ (b : Bool). if b then record w { writing = Open (n + 1) } else record w { last = k; writing = Shut }) (test_from_not_less n w.width l)) ∙ leads_when (Open n) e
