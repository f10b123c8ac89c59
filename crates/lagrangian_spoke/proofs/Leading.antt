-- Each step that asks or writes is the call that is due, and leads where it says.
use Rattle.std.proofs.Common.{arith, refl, sym, ap, ◌∙◌, subst, ◌≡◌, ℕ, ◌+◌, ◌<◌, nat_eq, Bool, false, [], ◌∷◌, ◌++◌, get_or, Some, if◌then◌else◌}
use Rattle.std.proofs.lemmas.Bool.Decides.{nat_tests}
use Rattle.base_words.proofs.NumberTests.{test_from_less}
use Rattle.word_codec.specs.Spelling.{reply_words}
use Rattle.log_words.specs.declared.log.Answer.TheVariants.{Reply}
use Rattle.log_words.specs.declared.step.SpokeStep.TheVariants as told
use Rattle.window_words.specs.Views.{after}
use Rattle.window_words.specs.declared.views.View.{View}
use Rattle.window_words.specs.declared.views.Call.{Call}
use Rattle.window_words.specs.declared.views.Call.TheVariants as call
use Rattle.lagrangian_spoke.specs.declared.spoke.LagrangianSpoke.{LagrangianSpoke}
use Rattle.lagrangian_spoke.specs.declared.spoke.Phase.{Phase}
use Rattle.lagrangian_spoke.specs.declared.spoke.Phase.TheVariants.{Asks, Reads, Opens, Writes, Ended}
use Rattle.lagrangian_spoke.specs.Spokes.{Calls, Leads, WritesOn, asked, asked_told, due_in, read_last}

-- the call that was made is the one that is due
pub is_due : {X : Type 0} → (leaves : X → Call → ℕ → X → Type 0) (view : X → View) (leaders : ℕ) (b b' : X) (made due : Call) (n : ℕ) → due ≡ made → leaves b made n b' → view b' ≡ after leaders made n (view b) → Calls leaves view leaders b b' due n
is_due leaves view leaders b b' made due n e l k = subst (λ c. Calls leaves view leaders b b' c n) (sym e) (record { leaves_it = l; knows = k })

abbrev pub in_phase : LagrangianSpoke → Phase → LagrangianSpoke
in_phase s p = record s { phase = p }

module _ (s : LagrangianSpoke) where
  pub due_phase : (p : Phase) → s.phase ≡ p → due_in s s.phase ≡ due_in s p
  due_phase p e = ap (due_in s) e

  pub due_word : (m word : ℕ) → s.phase ≡ Writes m → m < 3 → word ≡ get_or (reply_words (Some s.value)) m 0 → due_in s s.phase ≡ call.Put word
  due_word m word e l is = due_phase (Writes m) e ∙ (ap (λ (b : Bool). if b then call.Put (get_or (reply_words (Some s.value)) m 0) else call.Close) (test_from_less m 3 l) ∙ ap (λ w. call.Put w) (sym is))

  pub asked_reads : (n : ℕ) → s.phase ≡ Asks → n ≡ 0 → Leads s (in_phase s Reads) n s.phase told.Asked
  asked_reads n e z = subst (λ p. Leads s (in_phase s Reads) n p told.Asked) (sym e) (sym (ap asked_told z), ap (in_phase s) (sym (ap asked z)))

  pub asked_ends : (n : ℕ) → s.phase ≡ Asks → 0 < n → Leads s (in_phase s Ended) n s.phase told.Ended
  asked_ends n e more = subst (λ p. Leads s (in_phase s Ended) n p told.Ended) (sym e) (sym (ap (λ (b : Bool). if b then told.Asked else told.Ended) test), ap (in_phase s) (sym (ap (λ (b : Bool). if b then Reads else Ended) test)))
    where
      test : nat_eq n 0 ≡ false
      test = grind (arith, nat_tests)

  pub opened_leads : s.phase ≡ Opens → Leads s (in_phase s (Writes 0)) 0 s.phase told.Moved
  opened_leads e = subst (λ p. Leads s (in_phase s (Writes 0)) 0 p told.Moved) (sym e) (refl, refl)

  pub put_leads : (m : ℕ) → s.phase ≡ Writes m → m < 3 → Leads s (in_phase s (Writes (m + 1))) 0 s.phase told.Moved
  put_leads m e l = subst (λ p. Leads s (in_phase s (Writes (m + 1))) 0 p told.Moved) (sym e) (subst (λ (b : Bool). WritesOn b s (in_phase s (Writes (m + 1))) m told.Moved) (sym (test_from_less m 3 l)) (refl, refl))

  pub closed_leads : (s' : LagrangianSpoke) → s.phase ≡ Writes 3 → s'.phase ≡ Asks → s'.number ≡ s.number → s'.reader.reader ≡ s.reader.reader → s'.answers.items ≡ s.answers.items ++ Reply (read_last s) (Some s.value) ∷ [] → Leads s s' 0 s.phase (told.Replied (read_last s))
  closed_leads s' e asks number reader items = subst (λ p. Leads s s' 0 p (told.Replied (read_last s))) (sym e) (refl, record { phase = asks; number = number; reader = reader; answers = items })
