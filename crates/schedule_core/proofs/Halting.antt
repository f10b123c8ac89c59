-- What holds behind the hub's stop at its seat.

use Rattle.std.proofs.Common.{arith, ap, ◌∙◌, ◌≢◌, ℕ, true, None}
use Rattle.put_read.specs.declared.spokes.SpokeReader.{SpokeReader}
use Rattle.sp_model.specs.declared.run.Run.{Run}
use Rattle.window_words.specs.declared.views.View.{View}
use Rattle.schedule_core.specs.Drivers.{IsDriver, IsPollAt, put_in}
use Rattle.schedule_core.specs.Seats.{Boards, HubStops, viewed}
use Rattle.schedule_core.specs.declared.driver.Driver.{Driver}
use Rattle.schedule_core.proofs.Frames.{poll_on, rank_on, spoke_on}

module _ (run : Run) (d : Driver) (is : IsDriver run d) (ended : d.hub.end ≢ None) (b' : Boards) (stops : HubStops d.board b' d.hub.hedge.put.number) where
  abbrev halted : Driver
  halted = record d { board = b'; is_stopped = true }

  poll_stays : (i : ℕ) (r : SpokeReader) → IsPollAt run d i r → IsPollAt run halted i r
  poll_stays i r h = record {
    window = h.window;
    reads = poll_on run (viewed d.board 1) (viewed b' 1) r (ap (λ (v : View). v.reading) (stops.stays.others 1 (λ e. omega (arith, e)))) h.reads;
    last = h.last;
    idle = h.idle;
  }

  pub halted_keeps : IsDriver run halted
  halted_keeps = record {
    of = is.of;
    board = stops.stays.meaning ∙ is.board;
    hub = is.hub;
    wrote = is.wrote;
    many_ranks = is.many_ranks;
    ranks = λ i rank at. rank_on run 0 d.board b' stops.stays (put_in d) i rank (λ e. omega (arith, e)) (is.ranks i rank at);
    many_spokes = is.many_spokes;
    spokes = λ i s at. spoke_on run 0 d.board b' stops.stays (put_in d) i s (λ e. omega (arith, e)) (is.spokes i s at);
    many_polls = is.many_polls;
    polls = λ i r at. poll_stays i r (is.polls i r at);
    order = is.order;
    taken = is.taken;
    hub_seat = ap (λ (v : View). v.hub) stops.knows ∙ is.hub_seat;
    free = λ off. absurd (let e = off in cc);
    at_stop = λ on. ap (λ (v : View). v.stopped) stops.knows ∙ is.hub.number;
    going = λ none. absurd (ended none);
    ended = is.ended;
  }
