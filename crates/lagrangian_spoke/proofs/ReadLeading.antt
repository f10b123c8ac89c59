-- Where a step of a reading leads, by what it told.
use Rattle.std.proofs.Common.{refl, sym, ap, ◌∙◌, subst, ◌≡◌, ℕ, Bool, true, false, ◌⊎◌, inl, inr}
use Rattle.sp_model.specs.declared.run.Run.{Run}
use Rattle.log_words.specs.declared.step.SpokeStep.TheVariants as told
use Rattle.stamped_read.specs.declared.read.Again.{Again}
use Rattle.stamped_read.specs.declared.read.Read.TheVariants as read
use Rattle.stamped_read.specs.Readers.{due, next, read_told}
use Rattle.put_read.specs.declared.reader.PutReader.{PutReader}
use Rattle.lagrangian_spoke.specs.declared.spoke.LagrangianSpoke.{LagrangianSpoke}
use Rattle.lagrangian_spoke.specs.declared.spoke.Phase.TheVariants.{Asks, Reads}
use Rattle.lagrangian_spoke.specs.Spokes.{HasSkipped, IsRefusedReading, IsWorkedOut, Keeps, Leads, ReadsOn, WillReply}

module _ (s : LagrangianSpoke) (r' : PutReader) (n : ℕ) (phase : s.phase ≡ Reads) (stands : r'.reader ≡ next (due s.reader.reader) s.reader.reader n) where
  pub going_leads : read.Going ≡ read_told (due s.reader.reader) s.reader.reader n → Leads s (record s { reader = r' }) n s.phase told.Moved
  going_leads tells = subst (λ p. Leads s (record s { reader = r' }) n p told.Moved) (sym phase) (stands, subst (λ t. ReadsOn s (record s { reader = r' }) t told.Moved) tells (refl, refl))

  pub again_leads : (again : Again) → read.Again again ≡ read_told (due s.reader.reader) s.reader.reader n → Leads s (record s { reader = r'; phase = Asks }) n s.phase told.Again
  again_leads again tells = subst (λ p. Leads s (record s { reader = r'; phase = Asks }) n p told.Again) (sym phase) (stands, subst (λ t. ReadsOn s (record s { reader = r'; phase = Asks }) t told.Again) tells (refl, refl))

  worked_leads : (k : ℕ) (s' : LagrangianSpoke) → Keeps (record s { reader = r' }) s' → WillReply s s' ⊎ HasSkipped s s' k → read.Reading k ≡ read_told (due s.reader.reader) s.reader.reader n → Leads s s' n s.phase told.Moved
  worked_leads k s' keeps leads tells = subst (λ p. Leads s s' n p told.Moved) (sym phase) (
    ap (λ (z : PutReader). z.reader) keeps.reader ∙ stands,
    subst (λ t. ReadsOn s s' t told.Moved) tells (refl, keeps.best, keeps.number, leads),
  )

  pub answered_leads : (run : Run) (k : ℕ) (s' : LagrangianSpoke) (found : Bool) → IsWorkedOut run (record s { reader = r' }) s' k found → read.Reading k ≡ read_told (due s.reader.reader) s.reader.reader n → Leads s s' n s.phase told.Moved
  answered_leads run k s' true worked tells = let is = worked.1 in worked_leads k s' worked.0 (inl (record { phase = is.phase; answers = is.answers })) tells
  answered_leads run k s' false worked tells = let is = worked.1 in worked_leads k s' worked.0 (inr (record { phase = is.phase; scenario = is.scenario; opened = is.opened; answers = is.answers })) tells

  pub refused_reading : (k : ℕ) (s' : LagrangianSpoke) → read.Reading k ≡ read_told (due s.reader.reader) s.reader.reader n → s' ≡ record s { reader = r' } → IsRefusedReading s s' n
  refused_reading k s' tells same = record {
    phase = phase;
    put = k;
    answered = sym tells;
    reader = ap (λ (z : LagrangianSpoke). z.reader.reader) same ∙ stands;
    keeps = record {
      number = ap (λ (z : LagrangianSpoke). z.number) same;
      phase = ap (λ (z : LagrangianSpoke). z.phase) same;
      answers = ap (λ (z : LagrangianSpoke). z.answers) same;
      best = ap (λ (z : LagrangianSpoke). z.best) same;
    };
  }
