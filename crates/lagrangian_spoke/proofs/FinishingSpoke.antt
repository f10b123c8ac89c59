-- A put that is answered behind the end: the spoke keeps what it keeps, and the put is the last that it answered.
use Rattle.std.proofs.Common.{arith, refl, sym, ap, ◌∙◌, subst, ◌≡◌, ℕ, ◌<◌, [], ◌∷◌, ◌++◌, Some}
use Rattle.run_calls.specs.MultiplierTests.{AreLong}
use Rattle.sp_model.specs.declared.plan.Multipliers.{Multipliers}
use Rattle.sp_model.specs.declared.run.Run.{Run}
use Rattle.run_calls.specs.declared.put.Put.{Put}
use Rattle.log_words.specs.Replies.{reply_of}
use Rattle.log_words.specs.declared.log.Answer.{Answer}
use Rattle.log_words.specs.declared.log.Answer.TheVariants.{Reply, Skip}
use Rattle.wide_num.specs.RoomContents.{Contents}
use Rattle.put_read.specs.declared.reader.PutReader.{PutReader}
use Rattle.lagrangian_spoke.specs.declared.spoke.LagrangianSpoke.{LagrangianSpoke}
use Rattle.lagrangian_spoke.specs.declared.spoke.Phase.TheVariants.{Ended}
use Rattle.lagrangian_spoke.specs.Answering.{last_put}
use Rattle.lagrangian_spoke.specs.Spokes.{HasFinished, IsFound, IsPutOf, IsSkipped, IsSpoke, IsToAnswer, Keeps, Records}
use Rattle.lagrangian_spoke.proofs.Closing.{recorded_spoke}
use Rattle.lagrangian_spoke.proofs.Proceeding.{same_spoke, skipped_spoke}
use Rattle.lagrangian_spoke.proofs.Replying.{last_more}
use Rattle.lagrangian_spoke.proofs.Standing.{keeps_phase}

-- a spoke with the multipliers of a put in its reader
abbrev pub given : LagrangianSpoke → Multipliers → LagrangianSpoke
given s m = record s { reader = record s.reader { put = record s.reader.put { multipliers = m } } }

module _ (run : Run) (s : LagrangianSpoke) (put : Put) (h : IsSpoke run s) (is : IsPutOf run put) (newer : last_put s.answers.items < put.number) (m : Multipliers) (same : m ≡ put.multipliers) where
  -- a put of the run that is newer than the last answered may be answered
  pub may_finish : IsToAnswer run (given s m) put.number
  may_finish =
      let few = h.counted in let room = h.room in let last = is.number.last in
      record {
        made = is.made;
        made_is = is.made_is;
        multipliers = same ∙ ap (λ (z : Put). z.multipliers) is.put_is;
        is_put = is.number;
        room = omega arith;
        kind = h.kind;
      }

  given_spoke : IsSpoke run (given s m)
  given_spoke = same_spoke run s (given s m) refl refl refl h

  never_same : {A : Type 0} → last_put s.answers.items ≡ put.number → A
  never_same e = absurd (omega arith)

  -- there is room for its reply
  room_found : (s1 : LagrangianSpoke) → IsFound run (given s m) s1 put.number → 0 < s1.answers.spare
  room_found s1 found = subst (λ (z : Contents Answer). 0 < z.spare) (sym found.answers) may_finish.room

  -- its reply is recorded
  pub found_finishes : (s1 s2 : LagrangianSpoke) → AreLong run m → Keeps (given s m) s1 → IsFound run (given s m) s1 put.number → Records s1 s2 put.number → HasFinished run s (record s2 { phase = Ended }) put.number
  found_finishes s1 s2 long keeps found r =
      let a = Reply put.number (Some s1.value) in
      let left : s1.reader.put.multipliers ≡ m = ap (λ (z : PutReader). z.put.multipliers) keeps.reader in
      let items = ap (λ (z : Contents Answer). z.items) found.answers in
      let now : last_put s1.answers.items ≡ last_put s.answers.items = ap last_put items in
      let value = ap (λ i. reply_of run i put.number) keeps.number ∙ found.value in
      let one = same_spoke run (given s m) s1 keeps.number found.answers keeps.best given_spoke in
      let two = recorded_spoke run s1 s2 put.number one is.number (omega arith) value (subst (AreLong run) (sym left) long)
      (is.made, is.made_is, left ∙ (same ∙ ap (λ (z : Put). z.multipliers) is.put_is)) r in
      record {
        spoke = keeps_phase run s2 Ended two;
        phase = refl;
        number = r.number ∙ keeps.number;
        last = ap last_put r.items ∙ last_more s1.answers.items a;
        same = never_same;
        more = λ l. (a, r.items ∙ ap (λ z. z ++ a ∷ []) items);
      }

  -- it is skipped
  pub skip_finishes : (s1 : LagrangianSpoke) → Keeps (given s m) s1 → IsSkipped run (given s m) s1 put.number → HasFinished run s (record s1 { phase = Ended }) put.number
  skip_finishes s1 keeps skip =
      let a = Skip put.number skip.scenario skip.opened in
      record {
        spoke = keeps_phase run s1 Ended (skipped_spoke run (given s m) s1 put.number given_spoke is.number newer keeps.number keeps.best skip);
        phase = refl;
        number = keeps.number;
        last = ap last_put skip.answers ∙ last_more s.answers.items a;
        same = never_same;
        more = λ l. (a, skip.answers);
      }

-- a put that was the last is left as it is
pub same_finishes : (run : Run) (s : LagrangianSpoke) (k : ℕ) → IsSpoke run s → s.phase ≡ Ended → last_put s.answers.items ≡ k → HasFinished run s s k
same_finishes run s k h ended last = record {
  spoke = h;
  phase = ended;
  number = refl;
  last = last;
  same = λ e. refl;
  more = λ l. absurd (omega arith);
}
