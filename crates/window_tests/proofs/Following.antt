-- What a reader's step, a stop and a question leave of the seat that makes them.
use Rattle.std.proofs.Common.{◌≡◌, ℕ, Bool, true, false, List, get_or, sym, refl, ap, ◌∙◌, subst, arith}
use Rattle.std.specs.Prelude.{◌/◌, nat_eq, if◌then◌else◌, Option, Some, None}
use Rattle.window_words.specs.Views.{after, accept, ended, is_whole, with_accepted, with_reading}
use Rattle.window_words.specs.Seating.{fresh_views, no_view}
use Rattle.window_words.specs.declared.views.View.{View}
use Rattle.window_words.specs.declared.views.Reading.{Reading}
use Rattle.window_words.specs.declared.views.Call.TheVariants.{Begin}
use Rattle.table_board.specs.Tables.{SeatValue}
use Rattle.plain_board.specs.Plain.{PlainValue, fresh_board}
use Rattle.stamped_read.specs.Readers.{Reader, due, due_begun, part, window_of}
use Rattle.stamped_read.specs.Promises.{ReadsFor}
use Rattle.window_tests.specs.declared.tiny.Tiny.{Tiny}
use Rattle.window_tests.specs.Phases.{entry_of, viewed, StaysBut}
use Rattle.window_tests.proofs.Phasing.{wide}
use Rattle.window_tests.specs.Ranks.{IsFreshSeat, IsReadBy, IsRunning, StaysHub}

ended_by : (whole : Bool) (v : View) (accepted : List (List ℕ)) → StaysHub v (if whole then with_accepted v accepted else with_reading v None)
ended_by true v accepted = (refl, refl)
ended_by false v accepted = (refl, refl)

ended_stays : (leaders n : ℕ) (v : View) (o : Option Reading) → StaysHub v (ended leaders n v o)
ended_stays leaders n v None = (refl, refl)
ended_stays leaders n v (Some r) = ended_by (is_whole r.first n) v (accept leaders r.window (n / 2) v.accepted)

called_stays : (leaders n w : ℕ) (v : View) (begun full : Bool) → StaysHub v (after leaders (if begun then due_begun full w else Begin w) n v)
called_stays leaders n w v false full = (refl, refl)
called_stays leaders n w v true false = (refl, refl)
called_stays leaders n w v true true = ended_stays leaders n v v.reading

-- a reader's step
pub read_stays : (leaders n : ℕ) (r : Reader) (v v' : View) → v' ≡ after leaders (due r) n v → StaysHub v v'
read_stays leaders n r v v' e = subst (StaysHub v) (sym e) (called_stays leaders n (window_of r) v r.begun (nat_eq (part r r.rank).spare 0))

pub still_runs : (v v' : View) → StaysHub v v' → IsRunning v → IsRunning v'
still_runs v v' same h = (same.0 ∙ h.0, same.1 ∙ h.1)

-- a reader reads for the seat as before, where what the seat reads is as before
pub reads_still : (s s' : SeatValue Tiny) (r : Reader) → s'.1 ≡ s.1 → s'.2.reading ≡ s.2.reading → IsReadBy s r → IsReadBy s' r
reads_still s s' r same e h = subst (λ (x : Tiny). ReadsFor (entry_of x) (λ w. x.width) x.windows s'.2 r) (sym same)
    record { laid = h.laid; reading = λ begun. e ∙ h.reading begun; parts = h.parts }

-- the hub's seat of a fresh board
pub fresh_runs : (s : SeatValue Tiny) (t : Tiny) (place : ℕ) → IsFreshSeat place t s → place ≡ 0 → IsRunning s.2
fresh_runs s t place is first = subst IsRunning (sym (is.1 ∙ ap (λ (z : ℕ). get_or (fresh_views t.windows) z no_view) first)) (refl, refl)

-- the hub's seat of a fresh board on one thread, and as long as only another seat makes a call
pub fresh_hub : (t : Tiny) (b : PlainValue Tiny) → b ≡ fresh_board wide (λ (x : Tiny). x.windows) t → IsRunning (viewed b 0)
fresh_hub t b e = subst (λ (z : PlainValue Tiny). IsRunning (viewed z 0)) (sym e) (refl, refl)

pub runs_on : (b b' : PlainValue Tiny) → StaysBut 1 b b' → IsRunning (viewed b 0) → IsRunning (viewed b' 0)
runs_on b b' stays h = subst IsRunning (sym (stays.others 0 (λ e. absurd (omega arith)))) h
