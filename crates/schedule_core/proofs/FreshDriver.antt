-- A driver whose actors have done nothing behind the making of put 1.

use Rattle.std.proofs.Common.{arith, refl, sym, ap, subst, ◌∙◌, ◌≡◌, ℕ, ◌+◌, ◌<◌, ◌≤◌, false, List, [], length, map, get_or}
use Rattle.std.specs.Prelude.{slice_get, Some, None, if◌then◌else◌}
use Rattle.std.specs.List.{All, range_with_len}
use Rattle.std.proofs.lemmas.List.{get_or_past}
use Rattle.std.proofs.lemmas.List.Elements.{All-cons, All-nil}
use Rattle.std.proofs.lemmas.List.FromFn.{get_or-map-range_with_len, length-map-range_with_len}
use Rattle.std.proofs.lemmas.Option.{slice_get-get_or, slice_get_within}
use mathlib.Core.Logic.{dite}
use native.Mathlib.Decide.{dec_le}
use Rattle.drive_words.specs.Shown.{polling_of, spoke_of}
use Rattle.drive_words.specs.Worlds.{first_world, is_written, new_rank, new_spoke, no_rank}
use Rattle.drive_words.proofs.Fronts.{some_ranks, unwritten}
use Rattle.hub_cylinder.specs.Hubs.{IsFresh, IsHub}
use Rattle.lagrangian_spoke.specs.declared.spoke.LagrangianSpoke.{LagrangianSpoke}
use Rattle.put_codec.specs.declared.run_meaning.RunMeaning.{RunMeaning}
use Rattle.put_read.specs.declared.spokes.SpokeReader.{SpokeReader}
use Rattle.rank_writer.specs.declared.writer.RankWriter.{RankWriter}
use Rattle.run_log.specs.Events.{last_taken, next_spoke, present}
use Rattle.run_log.specs.declared.log.Event.TheVariants.{Put}
use Rattle.sp_model.specs.declared.run.Run.{Run}
use Rattle.stamped_read.specs.Readers.{Reader, words_of}
use Rattle.schedule_core.proofs.NewCrew.{IsNewSpoke, each_new_spoke, each_shows, made_is, made_there, new_spoke_shows}
use Rattle.schedule_core.proofs.NewSeats.{IsFreshBoard, is_hub_seat, new_poll_reads, not_stopped, rank_stands, spoke_seat}
use Rattle.schedule_core.proofs.OneMeaning.{one_meaning}
use Rattle.schedule_core.specs.Drivers.{AreNewPolls, AreNewRanks, AreNewSpokes, IsDriver, IsPollAt, IsRankAt, IsReplied, IsSpokeAt, no_poll, poll_at, put_in, world_of}
use Rattle.schedule_core.specs.Seats.{Boards, viewed}
use Rattle.schedule_core.specs.declared.driver.Driver.{Driver}

-- what was made of a run's actors
pub record IsMade (run : Run) (m : RunMeaning) (d : Driver) : Type 0 where
  pub hub : IsHub run d.hub
  pub fresh : IsFresh d.hub
  pub of : d.of.run.value ≡ run
  pub meaning : m.run.value ≡ run
  pub board : IsFreshBoard m d.board
  pub ranks : AreNewRanks run d.ranks.items
  pub spokes : AreNewSpokes run d.spokes.items
  pub polls : AreNewPolls run d.polls.items
  pub asks : d.asks ≡ 0
  pub going : d.is_stopped ≡ false

module _ (run : Run) (m : RunMeaning) (d : Driver) (is : IsMade run m d) where
  first_put : put_in d ≡ 1
  first_put = ap present is.fresh.events

  board_of : d.board.0 ≡ d.of
  board_of = ap (λ (z : Boards). z.0) is.board ∙ one_meaning m d.of (is.meaning ∙ sym is.of)

  many_new : length d.ranks.items ≡ run.options.ranks
  many_new = ap (λ (z : List RankWriter). length z) is.ranks ∙ length-map-range_with_len (new_rank run) 0 run.options.ranks

  first_is_new : (get_or d.ranks.items 0 no_rank).last ≡ 0
  first_is_new = let some = some_ranks run in
      ap (λ (z : List RankWriter). (get_or z 0 no_rank).last) is.ranks
      ∙ ap (λ (z : RankWriter). z.last) (get_or-map-range_with_len (new_rank run) 0 run.options.ranks 0 0 no_rank (omega (arith, some)) (omega arith))

  not_written : d.hub.wrote ≡ is_written d.ranks.items (put_in d)
  not_written = let some = some_ranks run in let many = many_new in let last = first_is_new in
      is.fresh.wrote ∙ sym (ap (is_written d.ranks.items) first_put ∙ unwritten d.ranks.items 1 0 (omega (arith, some, many)) (omega (arith, last)))

  -- the ranks
  rank_new : (k i : ℕ) (rank : RankWriter) → slice_get (map (new_rank run) (range_with_len 0 run.options.ranks)) i ≡ Some rank → IsRankAt run d.board k i rank
  rank_new k i rank at = subst (IsRankAt run d.board k i) (made_is (new_rank run) run.options.ranks i rank at) (record {
    rank_is = refl;
    stands = rank_stands run m d.board is.board is.meaning i k (made_there (new_rank run) run.options.ranks i rank at);
    within = omega arith;
    shut = λ e. refl;
  })

  rank_at_start : (i : ℕ) (rank : RankWriter) → slice_get d.ranks.items i ≡ Some rank → IsRankAt run d.board (put_in d) i rank
  rank_at_start i rank at = rank_new (put_in d) i rank (sym (ap (λ (z : List RankWriter). slice_get z i) is.ranks) ∙ at)

  -- the spokes
  spoke_there : (i : ℕ) (s : LagrangianSpoke) → slice_get d.spokes.items i ≡ Some s → i < run.options.lagrangian
  spoke_there i s at = let l = slice_get_within d.spokes.items i s at in let many = is.spokes.many in omega (arith, l, many)

  spoke_at_start : (i : ℕ) (s : LagrangianSpoke) → slice_get d.spokes.items i ≡ Some s → IsSpokeAt run d.board (put_in d) i s
  spoke_at_start i s at = record {
    number_is = (is.spokes.fresh i s at).number_is;
    stands = is.spokes.stands i s (viewed d.board (run.options.ranks + 1 + i)) at (spoke_seat run m d.board is.board is.meaning i (spoke_there i s at));
    within = let last : s.reader.reader.last ≡ 0 = ap (λ (z : Reader). z.last) (is.spokes.reader i s at) in omega (arith, last);
  }

  -- the readers of their windows
  poll_there : (i : ℕ) (r : SpokeReader) → slice_get d.polls.items i ≡ Some r → i < run.options.lagrangian
  poll_there i r at = let l = slice_get_within d.polls.items i r at in let many = is.polls.0 in omega (arith, l, many)

  not_begun : (i : ℕ) (r : SpokeReader) → slice_get d.polls.items i ≡ Some r → r.reader.begun ≡ false
  not_begun i r at = ap (λ (z : Reader). z.begun) (is.polls.1 i r at)

  poll_at_start : (i : ℕ) (r : SpokeReader) → slice_get d.polls.items i ≡ Some r → IsPollAt run d i r
  poll_at_start i r at = record {
    window = ap (λ (z : Reader). z.window) (is.polls.1 i r at);
    reads = new_poll_reads run (viewed d.board 1) i r (poll_there i r at) (is.polls.1 i r at);
    last = ap (λ (z : Reader). z.last) (is.polls.1 i r at) ∙ sym (ap (last_taken i) is.fresh.events);
    idle = λ begun. absurd (let none = not_begun i r at in cc);
  }

  none_taken : All (IsReplied d.spokes.items) d.hub.events.items
  none_taken = subst (All (IsReplied d.spokes.items)) (sym is.fresh.events) (All-cons (IsReplied d.spokes.items) (Put 1) [] tt (All-nil (IsReplied d.spokes.items)))

  pub made_driver : IsDriver run d
  made_driver = record {
    of = is.of;
    board = board_of;
    hub = is.hub;
    wrote = not_written;
    many_ranks = many_new;
    ranks = rank_at_start;
    many_spokes = is.spokes.many;
    spokes = spoke_at_start;
    many_polls = is.polls.0;
    polls = poll_at_start;
    order = λ still. let first : next_spoke d.hub.events.items ≡ 0 = ap next_spoke is.fresh.events in omega (arith, first);
    taken = none_taken;
    hub_seat = is_hub_seat run m d.board is.board is.meaning;
    free = λ still. not_stopped run m d.board is.board is.meaning;
    at_stop = λ stopped. absurd (let going = is.going in cc);
    going = λ still. is.going;
    ended = λ ended. absurd (ended is.fresh.end);
  }

  -- WHERE THE ACTORS STAND

  no_polling : (r : Reader) → r.begun ≡ false → polling_of r ≡ None
  no_polling r e = ap (λ t. if t then Some record { first = r.first; words = length (words_of r 0) } else None) e

  first_idle : (poll_at d 0).begun ≡ false
  first_idle = dite (dec_le 1 (length d.polls.items))
      (λ (l : 1 ≤ length d.polls.items). not_begun 0 (get_or d.polls.items 0 no_poll) (slice_get-get_or d.polls.items 0 no_poll (omega arith)))
      (λ none. ap (λ (r : SpokeReader). r.reader.begun) (get_or_past d.polls.items 0 no_poll (omega arith)))

  pub made_world : world_of d ≡ first_world run
  made_world = λ t. record {
    ranks = is.ranks t;
    spokes = (each_shows (IsNewSpoke run) run.options.lagrangian d.spokes.items spoke_of new_spoke (each_new_spoke run d.spokes.items is.spokes) (new_spoke_shows run)) t;
    hub = record {
      events = is.fresh.events t;
      why = is.fresh.end t;
      asks = is.asks t;
      reading = (ap (λ n. polling_of (poll_at d n)) is.asks ∙ no_polling (poll_at d 0) first_idle) t;
      stopped = is.going t;
    };
  }
