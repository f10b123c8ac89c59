-- What a call of a rank or of a spoke at its seat asks and leaves.

use Rattle.std.proofs.Common.{refl, ap, subst, ◌∙◌, ◌≡◌, ℕ, nat_lt, Bool, true, false}
use Rattle.std.specs.Prelude.{slice_index, IfOk, Result, Ok, Err, if◌then◌else◌}
use Rattle.lagrangian_spoke.specs.Spokes as spoke_words
use Rattle.lagrangian_spoke.specs.declared.spoke.LagrangianSpoke.{LagrangianSpoke}
use Rattle.log_words.specs.declared.step.SpokeStep.{SpokeStep}
use Rattle.plain_board.specs.Plain.{selected}
use Rattle.put_codec.specs.Entries.{part_words}
use Rattle.put_codec.specs.declared.layout.Layout.{Layout}
use Rattle.put_codec.specs.declared.run_meaning.RunMeaning.{RunMeaning}
use Rattle.rank_writer.specs.Writers as rank_words
use Rattle.rank_writer.specs.declared.writer.RankWriter.{RankWriter}
use Rattle.rank_writer.specs.declared.writer.Writing.{Writing}
use Rattle.rank_writer.specs.declared.writer.Writing.TheVariants.{Open, Shut}
use Rattle.run_calls.specs.declared.put.Put.{Put}
use Rattle.sp_model.specs.declared.run.Run.{Run}
use Rattle.window_words.specs.Views.{after}
use Rattle.window_words.specs.declared.views.Call.{Call}
use Rattle.window_words.specs.declared.views.Call.TheVariants as call
use Rattle.window_words.specs.declared.views.View.{View}
use Rattle.schedule_core.specs.Seats.{Boards, RankCalls, SpokeCalls, viewed}
use Rattle.schedule_core.proofs.Frames.{Leaves, Selects, answers, here, stays, there}

-- a rank's call leaves what its seat is reading
module _ (layout : Layout) (w : RankWriter) (put : Put) (leaders : ℕ) (v : View) where
  open_keeps : (n : ℕ) (t : Bool) → (after leaders (if t then call.Put (slice_index (part_words layout w.rank put) n) else call.Close) 0 v).reading ≡ v.reading
  open_keeps n true = refl
  open_keeps n false = refl

  due_keeps : (writing : Writing) → (after leaders (rank_words.due_by layout w put writing) 0 v).reading ≡ v.reading
  due_keeps Shut = refl
  due_keeps (Open n) = open_keeps n (nat_lt n w.width)

module _ (of : RunMeaning) (put : Put) (b b1 : Boards) (seat : ℕ) (w : RankWriter) (e1 : Selects seat b b1) where
  pub rank_stands : rank_words.StandsFor of.layout (viewed b seat) w put.number → rank_words.StandsFor of.layout (selected b1) w put.number
  rank_stands = here b b1 seat e1 (λ v. rank_words.StandsFor of.layout v w put.number)

  pub rank_calls : (b2 : Boards) (w' : RankWriter) → rank_words.StandsFor of.layout (selected b2) w' put.number → rank_words.Calls Leaves selected of.layout.ranks b1 b2 (rank_words.due_in of.layout w put) 0 → w' ≡ rank_words.written w put.number → RankCalls of.layout b b2 seat put.number w w'
  rank_calls b2 w' stands made writes = record {
    stays = stays b b1 seat e1 b2 due 0 made.leaves_it;
    stands = there b b1 seat e1 b2 due 0 made.leaves_it (λ v. rank_words.StandsFor of.layout v w' put.number) stands;
    writes = writes;
    reading = there b b1 seat e1 b2 due 0 made.leaves_it (λ v. v.reading ≡ (viewed b seat).reading)
        (ap (λ (v : View). v.reading) made.knows ∙ (due_keeps of.layout w put of.layout.ranks (selected b1) w.writing ∙ ap (λ (z : Boards). (selected z).reading) e1));
  } where
    due : Call
    due = rank_words.due_in of.layout w put

module _ (run : Run) (b b1 : Boards) (seat : ℕ) (s : LagrangianSpoke) (e1 : Selects seat b b1) where
  pub spoke_stands : spoke_words.StandsFor run (viewed b seat) s → spoke_words.StandsFor run (selected b1) s
  spoke_stands = here b b1 seat e1 (λ v. spoke_words.StandsFor run v s)

  module _ (b2 : Boards) (s' : LagrangianSpoke) (n : ℕ) (made : spoke_words.Calls Leaves selected b1.0.layout.ranks b1 b2 (spoke_words.due_in s s.phase) n) where
    spoke_calls : (told : SpokeStep) → spoke_words.StandsFor run (selected b2) s' → spoke_words.Leads s s' n s.phase told → SpokeCalls run b b2 seat s s' told
    spoke_calls told stands leads = record {
      stays = stays b b1 seat e1 b2 due n made.leaves_it;
      stands = there b b1 seat e1 b2 due n made.leaves_it (λ v. spoke_words.StandsFor run v s') stands;
      leads = subst (λ m. spoke_words.Leads s s' m s.phase told) (answers b b1 seat e1 b2 due n made.leaves_it) leads;
    } where
      due : Call
      due = spoke_words.due_in s s.phase

    pub calls_if_ok : {E : Type 0} (result : Result SpokeStep E) → IfOk result (λ told. spoke_words.StandsFor run (selected b2) s') → IfOk result (spoke_words.Leads s s' n s.phase) → IfOk result (SpokeCalls run b b2 seat s s')
    calls_if_ok (Ok told) stands leads = spoke_calls told stands leads
    calls_if_ok (Err fault) stands leads = tt
