-- What a call of the hub's side leaves: its stop, and the next step of its polling.

use Rattle.std.proofs.Common.{refl, sym, ap, subst, ◌∙◌, ◌≡◌, ℕ, ◌/◌, nat_eq, Bool, true, false, Option, Some, None, if◌then◌else◌}
use Rattle.plain_board.specs.Plain.{LeavesAll, selected}
use Rattle.put_codec.specs.Layouts.{width_of}
use Rattle.put_codec.specs.declared.run_meaning.RunMeaning.{RunMeaning}
use Rattle.put_read.specs.SpokeReads.{ReadsSpoke, TellsReply, read_of}
use Rattle.put_read.specs.declared.spokes.ReplyRead.{ReplyRead}
use Rattle.put_read.specs.declared.spokes.SpokeReader.{SpokeReader}
use Rattle.sp_model.specs.declared.run.Run.{Run}
use Rattle.stamped_read.specs.Promises.{Makes}
use Rattle.stamped_read.specs.Readers.{due, due_begun, next, part, read_told, window_of}
use Rattle.window_words.specs.Views.{after, ended, gained, is_whole, with_accepted, with_reading, accept}
use Rattle.window_words.specs.declared.views.Call.TheVariants as call
use Rattle.window_words.specs.declared.views.Reading.{Reading}
use Rattle.window_words.specs.declared.views.View.{View}
use Rattle.schedule_core.specs.Seats.{Boards, HubStops, PollCalls, answer_at, viewed}
use Rattle.schedule_core.proofs.Frames.{Leaves, Selects, answers, here, knows_now, meaning_here, stays, there}

pub stops_at : (b b1 : Boards) → Selects 0 b b1 → (b2 : Boards) (last : ℕ) → Leaves b1 (call.Stop last) 0 b2 → selected b2 ≡ gained (call.Stop last) 0 (selected b1) → HubStops b b2 last
stops_at b b1 e1 b2 last left knows = record {
  stays = stays b b1 0 e1 b2 (call.Stop last) 0 left;
  knows = knows_now b b1 0 e1 b2 (call.Stop last) 0 left knows;
}

-- a reading leaves what the seat writes
abbrev KeepsWriting : View → View → Type 0
KeepsWriting v v' = (v'.owned ≡ v.owned) × (v'.pending ≡ v.pending)

module _ (leaders n : ℕ) (v : View) where
  ended_by : (w : ℕ) (t : Bool) → KeepsWriting v (if t then with_accepted v (accept leaders w (n / 2) v.accepted) else with_reading v None)
  ended_by w true = (refl, refl)
  ended_by w false = (refl, refl)

  ended_keeps : (o : Option Reading) → KeepsWriting v (ended leaders n v o)
  ended_keeps None = (refl, refl)
  ended_keeps (Some q) = ended_by q.window (is_whole q.first n)

  due_keeps : (w : ℕ) (begun full : Bool) → KeepsWriting v (after leaders (if begun then due_begun full w else call.Begin w) n v)
  due_keeps w false full = (refl, refl)
  due_keeps w true false = (refl, refl)
  due_keeps w true true = ended_keeps v.reading

module _ (run : Run) (b b1 : Boards) (r : SpokeReader) (e1 : Selects 1 b b1) (of : b.0.run.value ≡ run) where
  of_here : b1.0.run.value ≡ run
  of_here = ap (λ (m : RunMeaning). m.run.value) (meaning_here b b1 1 e1) ∙ of

  pub may_read : ReadsSpoke run (viewed b 1) r → ReadsSpoke b1.0.run.value (selected b1) r
  may_read reads = subst (λ (x : Run). ReadsSpoke x (selected b1) r) (sym of_here) (here b b1 1 e1 (λ v. ReadsSpoke run v r) reads)

  pub polls_at : (b2 : Boards) (r' : SpokeReader) (told : ReplyRead) (n : ℕ) → Makes (LeavesAll (λ (m : RunMeaning). m.layout.ranks) (λ (m : RunMeaning). width_of m.layout)) selected b1.0.layout.ranks b1 b2 r.reader r'.reader (read_of told) (due r.reader) n
      → r'.reader.window ≡ r.reader.window → ReadsSpoke b1.0.run.value (selected b2) r' → TellsReply b1.0.run.value r r' told → PollCalls run b b2 r r' told
  polls_at b2 r' told n made window reads tells =
      let answer : n ≡ answer_at b 1 (due r.reader) = answers b b1 1 e1 b2 (due r.reader) n made.leaves_it in
      let knows : viewed b2 1 ≡ after b.0.layout.ranks (due r.reader) n (viewed b 1) = knows_now b b1 1 e1 b2 (due r.reader) n made.leaves_it made.knows in
      let keeps = due_keeps b.0.layout.ranks n (viewed b 1) (window_of r.reader) r.reader.begun (nat_eq (part r.reader r.reader.rank).spare 0) in
      record {
        stays = stays b b1 1 e1 b2 (due r.reader) n made.leaves_it;
        owned = ap (λ (v : View). v.owned) knows ∙ keeps.0;
        pending = ap (λ (v : View). v.pending) knows ∙ keeps.1;
        reads = there b b1 1 e1 b2 (due r.reader) n made.leaves_it (λ v. ReadsSpoke run v r') (subst (λ (x : Run). ReadsSpoke x (selected b2) r') of_here reads);
        window = window;
        says = made.tells ∙ ap (read_told (due r.reader) r.reader) answer;
        stands = made.stands ∙ ap (next (due r.reader) r.reader) answer;
        tells = subst (λ (x : Run). TellsReply x r r' told) of_here tells;
      }
