-- Each step of the hub's polling lowers the work that is left.

use Rattle.std.proofs.Common.{arith, sym, ap, subst, ◌∙◌, ◌≡◌, inl, inr, ℕ, ◌+◌, ◌-◌, ◌*◌, ◌<◌, ◌≤◌, true, false, List, length, None}
use Rattle.std.specs.List.{All, sum_by}
use Rattle.std.proofs.lemmas.List.Elements.{All-weaker}
use Rattle.rank_writer.specs.declared.writer.RankWriter.{RankWriter}
use Rattle.sp_model.specs.declared.run.Run.{Run}
use Rattle.run_log.specs.Events.{present}
use Rattle.drive_words.specs.Worlds.{HubAt, is_written}
use Rattle.drive_words.specs.Driving.{steps_of_puts}
use Rattle.drive_words.proofs.Fronts.{Front, IsFront, base, base_goes, ended_left, going_left, hub_left, new_unwritten, now, rank_most, same_base, some_ranks, stop_left, work}
use Rattle.drive_words.proofs.Outcomes.{Decides, Ends, Goes, Passes, Polls, ReadsOn, made_few, poll_made}

-- facts of ranks that hold whatever the hub does
pub record AreRanks (run : Run) (k : ℕ) (ranks : List RankWriter) : Type 0 where
  pub many : length ranks ≡ run.options.ranks
  pub most : sum_by rank_most ranks ≡ steps_of_puts run
  pub below : All (λ (r : RankWriter). r.last ≤ k) ranks

pub ranks_of : (run : Run) (f : Front) → IsFront run f → AreRanks run (now f) f.ranks
ranks_of run f is = record { many = is.many; most = is.most; below = is.below }

weaker : (ranks : List RankWriter) (k m : ℕ) → k ≤ m → All (λ (r : RankWriter). r.last ≤ k) ranks → All (λ (r : RankWriter). r.last ≤ m) ranks
weaker ranks k m l all = All-weaker (λ (r : RankWriter). r.last ≤ k) (λ (r : RankWriter). r.last ≤ m) (λ r low. omega (arith, l, low)) ranks all

-- the hub decides where all ranks have closed the present put: the front behind it, and its work
module _ (run : Run) (ranks : List RankWriter) (hub hub' : HubAt) (r : AreRanks run (present hub.events) ranks) (within : present hub.events ≤ run.options.iterations + 1) (why : hub.why ≡ None) (stopped : hub.stopped ≡ false) where
  abbrev f : Front
  f = record { ranks = ranks; hub = hub }

  abbrev f' : Front
  f' = record { ranks = ranks; hub = hub' }

  abbrev p : ℕ
  p = run.options.lagrangian

  below_same : now f' ≡ now f → All (λ (x : RankWriter). x.last ≤ now f') ranks
  below_same e = subst (λ n. All (λ (x : RankWriter). x.last ≤ n) ranks) (sym e) r.below

  written_same : now f' ≡ now f → is_written ranks (now f) ≡ true → is_written ranks (now f') ≡ true
  written_same e written = ap (λ n. is_written ranks n) e ∙ written

  unwritten_goes : Goes run.options.iterations hub hub' → is_written ranks (now f') ≡ false
  unwritten_goes g = ap (λ n. is_written ranks n) g.now ∙ new_unwritten ranks (now f) (let some = some_ranks run in let many = r.many in omega (arith, some, many)) r.below

  pub goes_front : Goes run.options.iterations hub hub' → IsFront run f'
  goes_front g = let n = g.now in let m = g.more in let zero_asks = g.asks in record {
    many = r.many;
    most = r.most;
    within = omega (arith, n, m);
    below = subst (λ k. All (λ (x : RankWriter). x.last ≤ k) ranks) (sym n) (weaker ranks (now f) (now f + 1) (omega arith) r.below);
    asks = λ none some. omega (arith, zero_asks, some);
    alone = λ none zero_spokes. unwritten_goes g;
    ended = λ off. absurd (off (g.why ∙ why));
    going = λ none. g.stopped ∙ stopped;
  }

  pub ends_front : is_written ranks (now f) ≡ true → Ends hub hub' → IsFront run f'
  ends_front written e = let n = e.now in record {
    many = r.many;
    most = r.most;
    within = omega (arith, n, within);
    below = below_same n;
    asks = λ none. absurd (e.why none);
    alone = λ none. absurd (e.why none);
    ended = λ off. written_same n written;
    going = λ none. absurd (e.why none);
  }

  stop_same : hub'.stopped ≡ hub.stopped → stop_left hub'.stopped ≡ stop_left hub.stopped
  stop_same e = ap stop_left e

  -- what the hub has left behind a put, and behind the end
  goes_hub : Goes run.options.iterations hub hub' → hub_left p hub' ≤ 5 * p + stop_left hub.stopped
  goes_hub g = let left = going_left p hub' (g.why ∙ why) in let s = stop_same g.stopped in omega (arith, left, s)

  goes_work : (more : ℕ) → 1 ≤ more → Goes run.options.iterations hub hub' → work run f' < (run.options.iterations + 1 - now f) * (steps_of_puts run + 5 * p) + (more + stop_left hub.stopped)
  goes_work more one g =
      let b = same_base run ranks (now f') (now f + 1) g.now in
      let low = base_goes run (now f) ranks r.most g.more in
      let h = goes_hub g in
      omega (arith, b, low, h, one)

  ends_work : (more : ℕ) → 1 ≤ more → Ends hub hub' → work run f' < base run (now f) ranks + (more + stop_left hub.stopped)
  ends_work more one e =
      let b = same_base run ranks (now f') (now f) e.now in
      let h = ended_left p hub' e.why in
      let s = stop_same e.stopped in
      omega (arith, b, h, s, one)

  pub decides_work : (more : ℕ) → 1 ≤ more → Decides run.options.iterations hub hub' → work run f' < base run (now f) ranks + (more + stop_left hub.stopped)
  decides_work more one (inl g) = let w = goes_work more one g in omega (arith, w)
  decides_work more one (inr e) = ends_work more one e

  pub decides_front : is_written ranks (now f) ≡ true → Decides run.options.iterations hub hub' → IsFront run f'
  decides_front written (inl g) = goes_front g
  decides_front written (inr e) = ends_front written e

  -- a polling
  module _ (written : is_written ranks (now f) ≡ true) (asks : hub.asks < p) where
    here : hub_left p hub ≡ (5 * (p - hub.asks) - poll_made hub.reading) + stop_left hub.stopped
    here = going_left p hub why

    reads_work : ReadsOn hub hub' → work run f' < work run f
    reads_work m =
        let b = same_base run ranks (now f') (now f) m.now in
        let h = going_left p hub' (m.why ∙ why) in
        let s = stop_same m.stopped in
        let few = made_few hub'.reading in
        let same = m.asks in
        let more = m.more in
        let at_hub = here in
        omega (arith, b, h, s, few, same, more, at_hub, asks)

    passes_work : Passes p hub hub' → work run f' < work run f
    passes_work m =
        let b = same_base run ranks (now f') (now f) m.now in
        let h = going_left p hub' (m.why ∙ why) in
        let s = stop_same m.stopped in
        let few = made_few hub.reading in
        let next = m.asks in
        let at_hub = here in
        omega (arith, b, h, s, few, next, at_hub, asks)

    pub polls_work : Polls run.options.iterations p hub hub' → work run f' < work run f
    polls_work (inl m) = reads_work m
    polls_work (inr (inl m)) = passes_work m
    polls_work (inr (inr m)) =
        let few = made_few hub.reading in
        let at_hub = here in
        let d = decides_work (5 * (p - hub.asks) - poll_made hub.reading) (omega (arith, few, asks)) m in
        omega (arith, d, at_hub)

    stays_front : now f' ≡ now f → hub'.why ≡ hub.why → hub'.asks < p → hub'.stopped ≡ hub.stopped → IsFront run f'
    stays_front n same below s = record {
      many = r.many;
      most = r.most;
      within = omega (arith, n, within);
      below = below_same n;
      asks = λ none some. below;
      alone = λ none zero_spokes. absurd (omega (arith, zero_spokes, asks));
      ended = λ off. written_same n written;
      going = λ none. s ∙ stopped;
    }

    pub polls_front : Polls run.options.iterations p hub hub' → IsFront run f'
    polls_front (inl m) = let same = m.asks in stays_front m.now m.why (omega (arith, same, asks)) m.stopped
    polls_front (inr (inl m)) = let next = m.asks in let l = m.left in stays_front m.now m.why (omega (arith, next, l)) m.stopped
    polls_front (inr (inr m)) = decides_front written m
