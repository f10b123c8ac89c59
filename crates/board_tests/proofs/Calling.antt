-- What the hub's seat knows behind a step of its reading, and behind its stop.
use Rattle.std.proofs.Common.{refl, sym, ap, subst, ◌∙◌, ◌≡◌, ℕ, Bool, true, false, List}
use Rattle.std.specs.Prelude.{◌/◌, nat_eq, if◌then◌else◌, Option, Some, None}
use Rattle.window_words.specs.Views.{after, accept, ended, gained, is_whole, with_accepted, with_reading}
use Rattle.window_words.specs.declared.views.View.{View}
use Rattle.window_words.specs.declared.views.Reading.{Reading}
use Rattle.window_words.specs.declared.views.Call.TheVariants.{Begin, Stop}
use Rattle.stamped_read.specs.Readers.{Reader, due, due_begun, part, window_of}
use Rattle.put_read.specs.SpokeReads.{ReadsSpoke}
use Rattle.put_read.specs.declared.spokes.SpokeReader.{SpokeReader}
use Rattle.sp_model.specs.declared.run.Run.{Run}
use Rattle.board_tests.specs.Sitting.{SitsHub}
use Rattle.board_tests.specs.declared.actors.HubSeat.{HubSeat}

-- whether a seat is the hub's, and with which number it stopped, are as before
abbrev StaysHub : View → View → Type 0
StaysHub v v' = (v'.hub ≡ v.hub) × (v'.stopped ≡ v.stopped)

ended_by : (whole : Bool) (v : View) (accepted : List (List ℕ)) → StaysHub v (if whole then with_accepted v accepted else with_reading v None)
ended_by true v accepted = (refl, refl)
ended_by false v accepted = (refl, refl)

ended_stays : (leaders n : ℕ) (v : View) (o : Option Reading) → StaysHub v (ended leaders n v o)
ended_stays leaders n v None = (refl, refl)
ended_stays leaders n v (Some r) = ended_by (is_whole r.first n) v (accept leaders r.window (n / 2) v.accepted)

called_stays : (leaders n w : ℕ) (v : View) (begun full : Bool) → StaysHub v (after leaders (if begun then due_begun full w else Begin w) n v)
called_stays leaders n w v false full = (refl, refl)
called_stays leaders n w v true false = (refl, refl)
called_stays leaders n w v true true = ended_stays leaders n v v.reading

read_stays : (leaders n : ℕ) (r : Reader) (v v' : View) → v' ≡ after leaders (due r) n v → StaysHub v v'
read_stays leaders n r v v' e = subst (StaysHub v) (sym e) (called_stays leaders n (window_of r) v r.begun (nat_eq (part r r.rank).spare 0))

-- behind a step of the reading
pub hub_polled : (run : Run) (leaders n : ℕ) (v v' : View) (h : HubSeat) (p' : SpokeReader) → SitsHub run v h → v' ≡ after leaders (due h.poll.reader) n v → ReadsSpoke run v' p' → SitsHub run v' (record h { poll = p' })
hub_polled run leaders n v v' h p' sits knows reads =
    let stays = read_stays leaders n h.poll.reader v v' knows in record {
      reads = reads;
      runs = λ still. let runs = sits.runs still in (stays.0 ∙ runs.0, stays.1 ∙ runs.1);
    }

-- behind its stop
pub hub_stopped : (run : Run) (last : ℕ) (v v' : View) (h : HubSeat) → SitsHub run v h → v' ≡ gained (Stop last) 0 v → SitsHub run v' (record h { has_stopped = true })
hub_stopped run last v v' h sits knows = record {
  reads = record {
    spoke = sits.reads.spoke;
    one = sits.reads.one;
    reads = record {
      laid = sits.reads.reads.laid;
      reading = λ begun. ap (λ (z : View). z.reading) knows ∙ sits.reads.reads.reading begun;
      parts = sits.reads.reads.parts;
    };
    facts = sits.reads.facts;
  };
  runs = λ (still : true ≡ false). absurd (let x = still in cc);
}
