-- Where a step of a reading leads: it goes on, begins anew, or the put that was read is answered.
use Rattle.std.proofs.Common.{arith, refl, sym, ap, ◌∙◌, subst, ◌≡◌, ℕ, ◌+◌, ◌/◌, ◌<◌, ◌≤◌, nat_eq, Bool, true, false, List, [], ◌∷◌, length, Option, Some, None, if◌then◌else◌}
use Rattle.std.proofs.lemmas.List.{length-append}
use Rattle.run_calls.specs.MultiplierTests.{AreLong}
use Rattle.sp_model.specs.declared.run.Run.{Run}
use Rattle.log_words.specs.Replies.{reply_of}
use Rattle.log_words.specs.declared.log.Answer.{Answer}
use Rattle.log_words.specs.declared.log.Answer.TheVariants.{Skip}
use Rattle.window_words.specs.Views.{accept, after, ended, is_whole, one, with_accepted, with_reading}
use Rattle.window_words.specs.declared.views.View.{View}
use Rattle.window_words.specs.declared.views.Reading.{Reading}
use Rattle.window_words.specs.declared.views.Call.TheVariants as call
use Rattle.stamped_read.specs.declared.read.Again.{Again}
use Rattle.stamped_read.specs.declared.read.Read.{Read}
use Rattle.stamped_read.specs.declared.read.Read.TheVariants as read
use Rattle.stamped_read.specs.Readers.{Reader, begins, begins_told, due, due_begun, follows, follows_told, is_more, next, part, read_told, restarted, unfit, window_of}
use Rattle.stamped_read.specs.declared.read.Again.TheVariants.{Torn}
use Rattle.put_read.specs.Reads.{IsPutAt, KeepsPut, ReadsPuts, TellsPut}
use Rattle.put_read.specs.declared.reader.PutReader.{PutReader}
use Rattle.lagrangian_spoke.specs.declared.spoke.Best.{Best}
use Rattle.lagrangian_spoke.specs.declared.spoke.LagrangianSpoke.{LagrangianSpoke}
use Rattle.lagrangian_spoke.specs.declared.spoke.Phase.TheVariants.{Asks, Reads}
use Rattle.lagrangian_spoke.specs.Answering.{AreAnswers, IsPut, best_reply, last_put, replied}
use Rattle.lagrangian_spoke.specs.Spokes.{IsAtStart, IsBest, IsBestIf, IsFound, IsInPhase, IsSkipped, IsSpoke, IsToAnswer, IsWorkedOut, Keeps, StandsFor, pending_in, read_last}
use Rattle.lagrangian_spoke.proofs.Replying.{answer_more, best_more, last_more, replied_skip}
use Rattle.wide_num.specs.RoomContents.{Contents}
use Rattle.run_calls.specs.declared.put.Put.{Put}

-- a reading changes neither what the seat owns nor what it has open
abbrev OwnsAlike : View → View → Type 0
OwnsAlike v v' = (v'.owned ≡ v.owned) × (v'.pending ≡ v.pending)

ended_keeps : (leaders n : ℕ) (v : View) (o : Option Reading) → OwnsAlike v (ended leaders n v o)
ended_keeps leaders n v None = (refl, refl)
ended_keeps leaders n v (Some r) = by_test (is_whole r.first n)
  where
    by_test : (t : Bool) → OwnsAlike v (if t then with_accepted v (accept leaders r.window (n / 2) v.accepted) else with_reading v None)
    by_test true = (refl, refl)
    by_test false = (refl, refl)

step_keeps : (leaders n : ℕ) (v : View) (r : Reader) (b full : Bool) → OwnsAlike v (after leaders (if b then due_begun full (window_of r) else call.Begin (window_of r)) n v)
step_keeps leaders n v r false full = (refl, refl)
step_keeps leaders n v r true false = (refl, refl)
step_keeps leaders n v r true true = ended_keeps leaders n v v.reading

pub due_keeps : (leaders n : ℕ) (v v' : View) (r : Reader) → v' ≡ after leaders (due r) n v → OwnsAlike v v'
due_keeps leaders n v v' r e = subst (OwnsAlike v) (sym e) (step_keeps leaders n v r r.begun (nat_eq (part r r.rank).spare 0))

-- behind an answer or a refusal no reading is begun
abbrev IsBack : Read → Reader → Type 0
IsBack read.Going s = Unit {0}
IsBack (read.Reading k) s = IsAtStart s
IsBack (read.Again again) s = IsAtStart s

begin_back : (r : Reader) (n : ℕ) (u : Option Again) → IsBack (begins_told u) (begins u r n)
begin_back r n None = tt
begin_back r n (Some again) = record { rank = refl; begun = refl }

end_back : (r : Reader) (torn : Again) (t more : Bool) → IsBack (if t then follows_told more r else read.Again torn) (if t then follows more r else restarted r)
end_back r torn true true = tt
end_back r torn true false = record { rank = refl; begun = refl }
end_back r torn false more = record { rank = refl; begun = refl }

step_back : (r : Reader) (n : ℕ) (b full : Bool) → IsBack (read_told (if b then due_begun full (window_of r) else call.Begin (window_of r)) r n) (next (if b then due_begun full (window_of r) else call.Begin (window_of r)) r n)
step_back r n false full = begin_back r n (unfit r n)
step_back r n true false = tt
step_back r n true true = end_back r (Torn r.rank r.first n) (nat_eq n r.first) (is_more r)

pub told_back : (r r' : Reader) (n : ℕ) (told : Read) → told ≡ read_told (due r) r n → r' ≡ next (due r) r n → IsBack told r'
told_back r r' n told e is = subst (λ (z : Read × Reader). IsBack z.0 z.1) (λ i. (sym e i, sym is i)) (step_back r n r.begun (nat_eq (part r r.rank).spare 0))

-- what a spoke keeps depends on its number, its answers and its best alone
pub same_spoke : (run : Run) (s s' : LagrangianSpoke) → s'.number ≡ s.number → s'.answers ≡ s.answers → s'.best ≡ s.best → IsSpoke run s → IsSpoke run s'
same_spoke run s s' number answers best h =
    let items = ap (λ (z : Contents Answer). z.items) answers in let spare = ap (λ (z : Contents Answer). z.spare) answers in let room = h.room in let few = h.counted in let long = ap (λ (z : List Answer). length z) items in let last = ap last_put items in record {
      kind = subst (λ n. n < run.options.lagrangian) (sym number) h.kind;
      answers = subst (λ (z : ℕ × List Answer). AreAnswers run z.0 z.1) (λ i. (sym number i, sym items i)) h.answers;
      counted = omega arith;
      room = omega arith;
      best = subst (λ (z : List Answer × Best). IsBest run z.0 z.1) (λ i. (sym items i, sym best i)) h.best;
      long = subst (λ (z : Best). AreLong run z.multipliers) (sym best) h.long;
    }

same_best : (run : Run) (items items' : List Answer) (best : Best) → best_reply items' ≡ best_reply items → IsBest run items best → IsBest run items' best
same_best run items items' best e h = by_found best.found h
  where
    by_found : (b : Bool) → IsBestIf b run items best → IsBestIf b run items' best
    by_found true is = (e ∙ is.0, is.1)
    by_found false is = e ∙ is

-- a spoke that has skipped one put more
pub skipped_spoke : (run : Run) (s s' : LagrangianSpoke) (k : ℕ) → IsSpoke run s → IsPut run k → last_put s.answers.items < k → s'.number ≡ s.number → s'.best ≡ s.best → IsSkipped run s s' k → IsSpoke run s'
skipped_spoke run s s' k h may newer number best_is skip =
    let a = Skip k skip.scenario skip.opened in
    let long : length s'.answers.items ≡ length s.answers.items + 1 = ap (λ (z : List Answer). length z) skip.answers ∙ length-append s.answers.items (a ∷ []) in
    let last : last_put s'.answers.items ≡ k = ap last_put skip.answers ∙ last_more s.answers.items a in
    let best : best_reply s'.answers.items ≡ best_reply s.answers.items = ap best_reply skip.answers ∙ best_more s.answers.items a in
    let few = h.counted in let room = h.room in let spare = skip.spare in
    record {
      kind = subst (λ n. n < run.options.lagrangian) (sym number) h.kind;
      answers = subst (λ (z : ℕ × List Answer). AreAnswers run z.0 z.1) (λ i. (sym number i, sym skip.answers i)) (answer_more run s.number s.answers.items a h.answers (may, skip.spent) newer);
      counted = omega arith;
      room = omega arith;
      best = subst (IsBest run s'.answers.items) (sym best_is) (same_best run s.answers.items s'.answers.items s.best best h.best);
      long = subst (λ (z : Best). AreLong run z.multipliers) (sym best_is) h.long;
    }

module _ (run : Run) (v v' : View) (s : LagrangianSpoke) (r' : PutReader) (h : StandsFor run v s) (phase : s.phase ≡ Reads) (alike : OwnsAlike v v') (on : ReadsPuts run v' r') where
  below_read : last_put s.answers.items ≤ read_last s
  below_read = subst (IsInPhase run s) phase h.phase

  nothing_open : v'.pending ≡ None
  nothing_open = alike.1 ∙ (h.opened ∙ ap (λ p. pending_in p (read_last s)) phase)

  -- the reading goes on
  pub going_stands : KeepsPut s.reader r' → StandsFor run v' record s { reader = r' }
  going_stands keeps = let last = keeps.last in let low = below_read in record {
    spoke = same_spoke run s (record s { reader = r' }) refl refl refl h.spoke;
    phase = subst (IsInPhase run (record s { reader = r' })) (sym phase) (omega arith);
    owns = alike.0 ∙ h.owns;
    opened = nothing_open ∙ ap (λ p. pending_in p r'.reader.last) (sym phase);
    reads = on;
  }

  -- the cycle begins anew
  pub again_stands : KeepsPut s.reader r' → IsAtStart r'.reader → StandsFor run v' record s { reader = r'; phase = Asks }
  again_stands keeps start = let last = keeps.last in let low = below_read in record {
    spoke = same_spoke run s (record s { reader = r'; phase = Asks }) refl refl refl h.spoke;
    phase = (omega arith, start);
    owns = alike.0 ∙ h.owns;
    opened = nothing_open;
    reads = on;
  }

  module _ (k : ℕ) (tells : TellsPut run s.reader r' (read.Reading k)) where
    pub may_answer : IsPut run k
    may_answer = let newer = tells.0 in let few = tells.1 in record { first = omega arith; last = few }

    pub newer_put : last_put s.answers.items < k
    newer_put = let low = below_read in let newer = tells.0 in omega arith

    -- the put that was read is to be answered
    pub to_answer : IsToAnswer run (record s { reader = r' }) k
    to_answer =
        let may = may_answer in
        let is = tells.3 in
        let few = h.spoke.counted in let room = h.spoke.room in let newer = newer_put in let last = may.last in
        record {
          made = is.made;
          made_is = is.made_is;
          multipliers = ap (λ (z : Put). z.multipliers) is.put_is;
          is_put = may;
          room = omega arith;
          kind = h.spoke.kind;
        }

    -- its reply is to be written
    pub found_stands : (s' : LagrangianSpoke) → IsAtStart r'.reader → Keeps (record s { reader = r' }) s' → IsFound run (record s { reader = r' }) s' k → StandsFor run v' s'
    found_stands s' start keeps found =
        let same : read_last s' ≡ k = ap (λ (z : PutReader). z.reader.last) keeps.reader ∙ tells.2 in
        let items = ap (λ (z : Contents Answer). z.items) found.answers in
        let newer = newer_put in let last = ap last_put items in
        record {
          spoke = same_spoke run s s' keeps.number found.answers keeps.best h.spoke;
          phase = subst (IsInPhase run s') (sym found.phase) (
            record {
              put = subst (IsPut run) (sym same) may_answer;
              newer = omega arith;
              value = subst (λ (z : ℕ × ℕ). reply_of run z.0 z.1 ≡ Some s'.value) (λ i. (sym keeps.number i, sym same i)) found.value;
              read = subst (λ (z : ℕ × Put). IsPutAt run z.0 z.1) (λ i. (sym same i, (sym keeps.reader i).put)) tells.3;
            },
            subst (λ (z : PutReader). IsAtStart z.reader) (sym keeps.reader) start,
          );
          owns = alike.0 ∙ (h.owns ∙ (λ i. one (run.options.ranks + sym keeps.number i) (replied (sym items i))));
          opened = nothing_open ∙ ap (λ p. pending_in p (read_last s')) (sym found.phase);
          reads = subst (ReadsPuts run v') (sym keeps.reader) on;
        }

    -- it is skipped
    pub skipped_stands : (s' : LagrangianSpoke) → IsAtStart r'.reader → Keeps (record s { reader = r' }) s' → IsSkipped run (record s { reader = r' }) s' k → StandsFor run v' s'
    skipped_stands s' start keeps skip =
        let a = Skip k skip.scenario skip.opened in
        let same : read_last s' ≡ k = ap (λ (z : PutReader). z.reader.last) keeps.reader ∙ tells.2 in
        let last : last_put s'.answers.items ≡ k = ap last_put skip.answers ∙ last_more s.answers.items a in
        record {
          spoke = skipped_spoke run (record s { reader = r' }) s' k (same_spoke run s (record s { reader = r' }) refl refl refl h.spoke) may_answer newer_put keeps.number keeps.best skip;
          phase = subst (IsInPhase run s') (sym skip.phase) (omega arith, subst (λ (z : PutReader). IsAtStart z.reader) (sym keeps.reader) start);
          owns = alike.0 ∙ (h.owns ∙ (λ i. one (run.options.ranks + sym keeps.number i) (sym (ap replied skip.answers ∙ replied_skip s.answers.items k skip.scenario skip.opened) i)));
          opened = nothing_open ∙ ap (λ p. pending_in p (read_last s')) (sym skip.phase);
          reads = subst (ReadsPuts run v') (sym keeps.reader) on;
        }

    -- it is worked out
    pub worked_stands : (s' : LagrangianSpoke) (found : Bool) → IsAtStart r'.reader → IsWorkedOut run (record s { reader = r' }) s' k found → StandsFor run v' s'
    worked_stands s' true start h = found_stands s' start h.0 h.1
    worked_stands s' false start h = skipped_stands s' start h.0 h.1
