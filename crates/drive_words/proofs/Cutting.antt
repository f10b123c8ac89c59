-- Where cuts name exactly the searches that were spent, the steps that they give are those made.

use Rattle.std.proofs.Common.{arith, refl, sym, ap, subst, ◌∙◌, ◌≡◌, ◌≢◌, inl, inr, ℕ, zero, suc, ◌+◌, ◌/◌, ◌<◌, ◌≤◌, nat_eq, nat_lt, Bool, true, false, ◌&&◌, List, [], ◌∷◌, ◌++◌, length, set, replicate, ℤ, Option, Some, None, if◌then◌else◌, get_or-set_other, get_or-set_same}
use mathlib.Core.Logic.{dite}
use native.Mathlib.Decide.{ℕ_discrete}
use Rattle.std.specs.List.{All, fold}
use Rattle.std.proofs.lemmas.List.{get_or_append_left, get_or_past, length-append}
use Rattle.std.proofs.lemmas.List.Sums.{fold-append}
use Rattle.std.proofs.lemmas.List.Concat.{flat_map-cons}
use Rattle.std.proofs.Math.Seq.{get_or-append_seam}
use Rattle.base_words.proofs.NumberTests.{less_from_test, not_less_from_test}
use Rattle.lagrangian_spoke.specs.declared.spoke.Phase.{Phase}
use Rattle.lagrangian_spoke.specs.declared.spoke.Phase.TheVariants.{Asks, Reads, Opens, Writes, Ended}
use Rattle.log_words.specs.declared.log.Answer.TheVariants.{Reply, Skip}
use Rattle.log_words.specs.Replies.{reply_of}
use Rattle.sp_model.specs.declared.run.Run.{Run}
use Rattle.run_log.specs.Events.{last_taken, pair_in, present}
use Rattle.run_log.specs.declared.log.End.{End}
use Rattle.run_log.specs.declared.log.Source.TheVariants as source
use Rattle.run_log.specs.declared.log.End.TheVariants.{Spent}
use Rattle.schedule_lines.specs.declared.schedule.Actor.{Actor}
use Rattle.schedule_lines.specs.declared.schedule.Actor.TheVariants.{Hub, Rank, Spoke}
use Rattle.schedule_lines.specs.declared.schedule.Turn.{Turn}
use Rattle.rank_writer.specs.Writers.{written}
use Rattle.drive_words.specs.Worlds.{HubAt, Polling, SpokeAt, World, first_world, is_written, no_spoke, put_at, rank_at, rank_stamp, spoke_at, spoke_stamp, with_hub, with_rank}
use Rattle.drive_words.specs.Steps.{alone_decided, answered, decided, decided_by, has_read, hub_step_by, is_old, is_unfit, may_poll, next_part, may_write, polled, polled_on, read_taken, reads_again, spoke_next, spoke_step, step, taken, test_of}
use Rattle.drive_words.specs.Driving.{Cuts, actors_of, asked_times, last_world, round, rounds, rounds_of, step_of, turned}
use Rattle.drive_words.specs.Leading.{LeadTo, SayOf, SaysOf, SaysPending, rounds_ask, turn_asks, turns_ask}
use Rattle.drive_words.proofs.AtRest.{first_is}
use Rattle.drive_words.proofs.Outcomes.{Polls, decided_leads, itself, polled_leads, present_put, present_taken}
use Rattle.drive_words.proofs.RankMoves.{why}
use Rattle.drive_words.proofs.RoundWork.{IsWorld, stepped}

-- what holds of all items of a list with one more
front_all : {X : Type 0} (P : X → Type 0) → (xs : List X) (x : X) → All P (xs ++ x ∷ []) → All P xs
front_all P xs x all = λ i d l. subst P (get_or_append_left xs (x ∷ []) d i l) (all i d (let n = length-append xs (x ∷ []) in omega (arith, l, n)))

pub last_all : {X : Type 0} (P : X → Type 0) → (xs : List X) (x : X) → All P (xs ++ x ∷ []) → P x
last_all P xs x all = subst P (get_or-append_seam xs x [] x) (all (length xs) x (let n = length-append xs (x ∷ []) in omega (arith, n)))

-- THE SPOKES

-- what cuts say of one spoke
pub record SayOfSpoke (skips : ℕ → Option ℕ) (spoke : SpokeAt) : Type 0 where
  pub answers : All (SaysOf skips) spoke.answers
  pub pending : SaysPending skips spoke.reading.last spoke.phase

-- a step of a spoke in its phase that leads on, and what cuts say of it before
pub record SameSpoke (skips : ℕ → Option ℕ) (spoke by_cuts next : SpokeAt) : Type 0 where
  pub same : by_cuts ≡ next
  pub before : SayOfSpoke skips spoke

module _ (run : Run) (skips : ℕ → Option ℕ) (spoke : SpokeAt) where
  abbrev k : ℕ
  k = spoke.reading.first / 2

  say_reads : spoke.phase ≡ Reads → All (SaysOf skips) spoke.answers → SayOfSpoke skips spoke
  say_reads is all = record { answers = all; pending = subst (λ p. SaysPending skips spoke.reading.last p) (sym is) tt }

  answered_says : spoke.phase ≡ Reads → (spent : Option ℕ) → SayOfSpoke skips (answered run (has_read spoke k) k spent) → SameSpoke skips spoke (answered run (has_read spoke k) k (skips k)) (answered run (has_read spoke k) k spent)
  answered_says is None say = record { same = ap (answered run (has_read spoke k) k) say.pending; before = say_reads is say.answers }
  answered_says is (Some s) say = record {
    same = ap (answered run (has_read spoke k) k) (last_says say.answers);
    before = say_reads is (front_all (SaysOf skips) spoke.answers (Skip k s run.options.budget) say.answers);
  } where
    last_says : All (SaysOf skips) (spoke.answers ++ Skip k s run.options.budget ∷ []) → skips k ≡ Some s
    last_says all = last_all (SaysOf skips) spoke.answers (Skip k s run.options.budget) all

  -- a step of a reading, by what is asked: whether its part is begun, words are left, the stamp is the
  -- first one, ranks are left, the stamp is unfit
  abbrev read_form : ℕ → Bool → Bool → Bool → Bool → Bool → Option ℕ → SpokeAt
  read_form n begun words same more unfit spent = if begun
      then (if words
      then record spoke { reading = record spoke.reading { words = spoke.reading.words + 1 } }
      else (if same
      then (if more
      then next_part spoke
      else answered run (has_read spoke k) k spent)
      else reads_again spoke))
      else (if unfit then reads_again spoke
      else record spoke { reading = record spoke.reading { begun = true; first = n; words = 0 } })

  read_says : spoke.phase ≡ Reads → (n : ℕ) (begun words same more unfit : Bool) (spent : Option ℕ) → SayOfSpoke skips (read_form n begun words same more unfit spent) → SameSpoke skips spoke (read_form n begun words same more unfit (skips k)) (read_form n begun words same more unfit spent)
  read_says is n true true same more unfit spent say = record { same = refl; before = say_reads is say.answers }
  read_says is n true false true true unfit spent say = record { same = refl; before = say_reads is say.answers }
  read_says is n true false true false unfit spent say = answered_says is spent say
  read_says is n true false false more unfit spent say = record { same = refl; before = say_reads is say.answers }
  read_says is n false words same more true spent say = record { same = refl; before = say_reads is say.answers }
  read_says is n false words same more false spent say = record { same = refl; before = say_reads is say.answers }

  -- the close of a reply makes it an answer
  close_says : (i : ℕ) → SayOfSpoke skips (record spoke { phase = Asks; answers = spoke.answers ++ Reply spoke.reading.last (reply_of run i spoke.reading.last) ∷ [] }) → (All (SaysOf skips) spoke.answers) × (skips spoke.reading.last ≡ None)
  close_says i say =
      let a = Reply spoke.reading.last (reply_of run i spoke.reading.last) in
      (front_all (SaysOf skips) spoke.answers a say.answers, last_all (SaysOf skips) spoke.answers a say.answers)

  write_says : (i n : ℕ) → spoke.phase ≡ Writes n → (t : Bool) → SayOfSpoke skips (if t then record spoke { phase = Writes (n + 1) } else record spoke { phase = Asks; answers = spoke.answers ++ Reply spoke.reading.last (reply_of run i spoke.reading.last) ∷ [] }) → SayOfSpoke skips spoke
  write_says i n is true say = record { answers = say.answers; pending = subst (λ p. SaysPending skips spoke.reading.last p) (sym is) say.pending }
  write_says i n is false say = let c = close_says i say in record { answers = c.0; pending = subst (λ p. SaysPending skips spoke.reading.last p) (sym is) c.1 }

module _ (run : Run) (w : World) (skips : ℕ → Option ℕ) (i : ℕ) (spoke : SpokeAt) (spent : Option ℕ) where
  abbrev cut : Option ℕ
  cut = skips (spoke.reading.first / 2)

  next_says : (phase : Phase) → spoke.phase ≡ phase → SayOfSpoke skips (spoke_next run w spent i spoke phase) → SameSpoke skips spoke (spoke_next run w cut i spoke phase) (spoke_next run w spent i spoke phase)
  next_says Asks is say = record { same = refl; before = record { answers = say.answers; pending = subst (λ p. SaysPending skips spoke.reading.last p) (sym is) tt } }
  next_says Reads is say =
      let r = spoke.reading in
      let width = (rank_at w.ranks r.rank).width in
      let n = rank_stamp (rank_at w.ranks r.rank) (put_at w) in
      read_says run skips spoke is n r.begun (nat_lt r.words width) (nat_eq n r.first) (nat_lt (r.rank + 1) (length w.ranks)) (is_unfit r n) spent say
  next_says Opens is say = record { same = refl; before = record { answers = say.answers; pending = subst (λ p. SaysPending skips spoke.reading.last p) (sym is) say.pending } }
  next_says (Writes n) is say = record { same = refl; before = write_says run skips spoke i n is (nat_lt n 3) say }
  next_says Ended is say = record { same = refl; before = say }

  pub spoke_says : SayOfSpoke skips (spoke_next run w spent i spoke spoke.phase) → SameSpoke skips spoke (spoke_next run w cut i spoke spoke.phase) (spoke_next run w spent i spoke spoke.phase)
  spoke_says say = next_says spoke.phase refl say

-- THE HUB

-- what the cut behind put k says of a hub
pub record SayOfHub (cut : Option ℕ) (k : ℕ) (hub : HubAt) : Type 0 where
  pub gone : k < present hub.events → cut ≡ None
  pub ended : (s : ℕ) → hub.why ≡ Some (Spent s) → present hub.events ≡ k → cut ≡ Some s

module _ (run : Run) (first : ℤ) (spokes : ℕ) (cut spent : Option ℕ) where
  goes_says : (k : ℕ) (hub : HubAt) → present hub.events ≡ k → (test : Option End) (made : Option ℕ) → SayOfHub cut k (decided_by k hub made test) → decided_by k hub cut test ≡ decided_by k hub made test
  goes_says k hub is (Some why) made say = refl
  goes_says k hub is None None say = ap (λ c. decided_by k hub c None) (say.gone (let n = present_put hub.events (k + 1) in omega (arith, n)))
  goes_says k hub is None (Some s) say = ap (λ c. decided_by k hub c None) (say.ended s refl is)

  decided_says : (k : ℕ) (hub : HubAt) → present hub.events ≡ k → SayOfHub cut k (decided run first hub spent) → decided run first hub cut ≡ decided run first hub spent
  decided_says k hub is say = goes_says (present hub.events) hub refl (test_of run (present hub.events) (pair_in first hub.events)) spent (subst (λ n. SayOfHub cut n (decided run first hub spent)) (sym is) say)

  on_says : (k : ℕ) (hub : HubAt) → present hub.events ≡ k → (t : Bool) → SayOfHub cut k (if t then record hub { asks = hub.asks + 1; reading = None } else decided run first hub spent) → (if t then record hub { asks = hub.asks + 1; reading = None } else decided run first hub cut) ≡ (if t then record hub { asks = hub.asks + 1; reading = None } else decided run first hub spent)
  on_says k hub is true say = refl
  on_says k hub is false say = decided_says k hub is say

  polled_on_says : (k : ℕ) (hub : HubAt) → present hub.events ≡ k → SayOfHub cut k (polled_on run first spokes hub spent) → polled_on run first spokes hub cut ≡ polled_on run first spokes hub spent
  polled_on_says k hub is say = on_says k hub is (nat_lt (hub.asks + 1) spokes) say

  begun_says : (hub : HubAt) (n : ℕ) (t : Bool) → SayOfHub cut (present hub.events) (if t then polled_on run first spokes hub spent else record hub { reading = Some record { first = n; words = 0 } }) → (if t then polled_on run first spokes hub cut else record hub { reading = Some record { first = n; words = 0 } }) ≡ (if t then polled_on run first spokes hub spent else record hub { reading = Some record { first = n; words = 0 } })
  begun_says hub n true say = polled_on_says (present hub.events) hub refl say
  begun_says hub n false say = refl

  taken_present : (hub : HubAt) (began n : ℕ) (t : Bool) → present (if t then record hub { events = taken first hub.events (source.Spoke hub.asks) (began / 2) (reply_of run hub.asks (began / 2)) } else hub).events ≡ present hub.events
  taken_present hub began n true = present_taken first hub.events (source.Spoke hub.asks) (began / 2) (reply_of run hub.asks (began / 2))
  taken_present hub began n false = refl

  read_hub_says : (hub : HubAt) (n : ℕ) (r : Polling) (t : Bool) → SayOfHub cut (present hub.events) (if t then record hub { reading = Some record r { words = r.words + 1 } } else polled_on run first spokes (read_taken run first hub r.first n) spent) → (if t then record hub { reading = Some record r { words = r.words + 1 } } else polled_on run first spokes (read_taken run first hub r.first n) cut) ≡ (if t then record hub { reading = Some record r { words = r.words + 1 } } else polled_on run first spokes (read_taken run first hub r.first n) spent)
  read_hub_says hub n r true say = refl
  read_hub_says hub n r false say = polled_on_says (present hub.events) (read_taken run first hub r.first n) (taken_present hub r.first n (nat_eq n r.first)) say

  pub polled_says : (hub : HubAt) (n : ℕ) (reading : Option Polling) → SayOfHub cut (present hub.events) (polled run first spokes hub spent n reading) → polled run first spokes hub cut n reading ≡ polled run first spokes hub spent n reading
  polled_says hub n None say = begun_says hub n (is_old n (last_taken hub.asks hub.events)) say
  polled_says hub n (Some r) say = read_hub_says hub n r (nat_lt r.words 3) say

  pub alone_says : (hub : HubAt) → SayOfHub cut (present hub.events) (decided run first hub spent) → decided run first hub cut ≡ decided run first hub spent
  alone_says hub say = decided_says (present hub.events) hub refl say

-- THE WORLD

-- a step by cuts is the one that was made, and the cuts say of the world before it too
pub record SameStep (cuts : Cuts) (w by_cuts next : World) : Type 0 where
  pub same : by_cuts ≡ next
  pub before : SayOf cuts w

module _ (run : Run) (first : ℤ) (cuts : Cuts) (w : World) (spent : Option ℕ) where
  abbrev hub_cut : Option ℕ
  hub_cut = cuts.next (put_at w)

  -- what cuts say of ranks and hub, by what they say behind a step that leaves the spokes
  hub_before : (hub' : HubAt) → SayOf cuts (with_hub w hub') → present w.hub.events ≤ present hub'.events → (w.hub.why ≢ None → hub' ≡ w.hub) → SayOf cuts w
  hub_before hub' say l still = record {
    answers = say.answers;
    pending = say.pending;
    puts = λ k below. say.puts k (omega (arith, below, l));
    ended = λ s e. subst (λ (h : HubAt). (s' : ℕ) → h.why ≡ Some (Spent s') → cuts.next (present h.events) ≡ Some s') (still (λ none. let x = sym e ∙ none in cc)) say.ended s e;
  }

  say_of_hub : (hub' : HubAt) → ((k : ℕ) → k < present hub'.events → cuts.next k ≡ None) → ((s : ℕ) → hub'.why ≡ Some (Spent s) → cuts.next (present hub'.events) ≡ Some s) → SayOfHub hub_cut (put_at w) hub'
  say_of_hub hub' puts ended = record { gone = λ l. puts (put_at w) l; ended = λ s e same. ap cuts.next (sym same) ∙ ended s e }

  polls_grow : (most spokes : ℕ) (hub hub' : HubAt) → Polls most spokes hub hub' → present hub.events ≤ present hub'.events
  polls_grow most spokes hub hub' (inl m) = let n = m.now in omega (arith, n)
  polls_grow most spokes hub hub' (inr (inl m)) = let n = m.now in omega (arith, n)
  polls_grow most spokes hub hub' (inr (inr (inl m))) = let n = m.now in omega (arith, n)
  polls_grow most spokes hub hub' (inr (inr (inr m))) = let n = m.now in omega (arith, n)

  module _ (is : IsWorld run w) where
    abbrev spokes : ℕ
    spokes = length w.spokes

    abbrev n : ℕ
    n = spoke_stamp (spoke_at w w.hub.asks)

    poll_says : w.hub.why ≡ None → (t : Bool) → SayOf cuts (if t then with_hub w (polled run first spokes w.hub spent n w.hub.reading) else w) → SameStep cuts w (if t then with_hub w (polled run first spokes w.hub hub_cut n w.hub.reading) else w) (if t then with_hub w (polled run first spokes w.hub spent n w.hub.reading) else w)
    poll_says none true say =
        let hub' = polled run first spokes w.hub spent n w.hub.reading in
        let leads = polled_leads run first spokes w.hub spent is.front_is.within n w.hub.reading refl in
        record {
          same = ap (with_hub w) (polled_says run first spokes hub_cut spent w.hub n w.hub.reading (say_of_hub hub' say.puts say.ended));
          before = hub_before hub' say (polls_grow run.options.iterations spokes w.hub hub' leads) (λ off. absurd (off none));
        }
    poll_says none false say = record { same = refl; before = say }

    hub_says : (o : Option End) → w.hub.why ≡ o → SayOf cuts (hub_step_by run first w spent o) → SameStep cuts w (hub_step_by run first w hub_cut o) (hub_step_by run first w spent o)
    hub_says None e say = poll_says e (may_poll w) say
    hub_says (Some reason) e say = record { same = refl; before = record { answers = say.answers; pending = say.pending; puts = say.puts; ended = say.ended } }

    abbrev shut : ℕ → World
    shut i = with_rank w i (written (rank_at w.ranks i) (put_at w))

    alone_rank_says : (i : ℕ) → w.hub.why ≡ None → (t : Bool) → SayOf cuts (if t then with_hub (shut i) (decided run first w.hub spent) else shut i) → SameStep cuts w (if t then with_hub (shut i) (decided run first w.hub hub_cut) else shut i) (if t then with_hub (shut i) (decided run first w.hub spent) else shut i)
    alone_rank_says i none true say =
        let hub' = decided run first w.hub spent in
        let leads = decided_leads run first spokes w.hub spent is.front_is.within w.hub (itself w.hub) in
        record {
          same = ap (with_hub (shut i)) (alone_says run first spokes hub_cut spent w.hub (say_of_hub hub' say.puts say.ended));
          before = hub_before hub' (record { answers = say.answers; pending = say.pending; puts = say.puts; ended = say.ended }) (polls_grow run.options.iterations spokes w.hub hub' (inr (inr leads))) (λ off. absurd (off none));
        }
    alone_rank_says i none false say = record { same = refl; before = record { answers = say.answers; pending = say.pending; puts = say.puts; ended = say.ended } }

    rank_says : (i : ℕ) (t : Bool) → may_write w i ≡ t → SayOf cuts (if t then alone_decided run first (shut i) spent else w) → SameStep cuts w (if t then alone_decided run first (shut i) hub_cut else w) (if t then alone_decided run first (shut i) spent else w)
    rank_says i true on say = alone_rank_says i (why run first w spent i is.front_is is.crew on) (nat_eq (length w.spokes) 0 && is_written (shut i).ranks (put_at w)) say
    rank_says i false off say = record { same = refl; before = say }

    -- a spoke's step, where it is there and where it isn't
    module _ (i : ℕ) where
      abbrev s : SpokeAt
      s = spoke_at w i

      abbrev skips : ℕ → Option ℕ
      skips = cuts.skips i

      abbrev s' : SpokeAt
      s' = spoke_next run w spent i s s.phase

      none_says : SayOfSpoke skips no_spoke
      none_says = record { answers = λ j d l. absurd (omega (arith, l)); pending = tt }

      say_next : (t : Bool) → nat_lt i (length w.spokes) ≡ t → SayOf cuts (spoke_step run w spent i) → SayOfSpoke skips s'
      say_next true on say =
          let at : spoke_at (spoke_step run w spent i) i ≡ s' = get_or-set_same w.spokes i s' no_spoke (less_from_test i (length w.spokes) on) in
          subst (SayOfSpoke skips) at (record { answers = say.answers i; pending = say.pending i })
      say_next false off say =
          let past : s ≡ no_spoke = get_or_past w.spokes i no_spoke (not_less_from_test i (length w.spokes) off) in
          subst (λ (x : SpokeAt). SayOfSpoke skips (spoke_next run w spent i x x.phase)) (sym past) none_says

      spoke_before : SayOf cuts (spoke_step run w spent i) → SayOfSpoke skips s → (j : ℕ) → SayOfSpoke (cuts.skips j) (spoke_at w j)
      spoke_before say mine j = dite (ℕ_discrete j i)
          (λ (e : j ≡ i). subst (λ m. SayOfSpoke (cuts.skips m) (spoke_at w m)) (sym e) mine)
          (λ (e : j ≢ i). subst (SayOfSpoke (cuts.skips j)) (get_or-set_other w.spokes i j s' no_spoke e) (record { answers = say.answers j; pending = say.pending j }))

      spoke_step_says : SayOf cuts (spoke_step run w spent i) → SameStep cuts w (spoke_step run w (skips (s.reading.first / 2)) i) (spoke_step run w spent i)
      spoke_step_says say =
          let same_spoke = spoke_says run w skips i s spent (say_next (nat_lt i (length w.spokes)) refl say) in
          let all = spoke_before say same_spoke.before in
          record {
            same = ap (λ (x : SpokeAt). record w { spokes = set w.spokes i x }) same_spoke.same;
            before = record { answers = λ j. (all j).answers; pending = λ j. (all j).pending; puts = say.puts; ended = say.ended };
          }

    pub step_says : (actor : Actor) → SayOf cuts (step run first w spent actor) → SameStep cuts w (step_of run first cuts w actor) (step run first w spent actor)
    step_says Hub say = hub_says w.hub.why refl say
    step_says (Rank i) say = rank_says i (may_write w i) refl say
    step_says (Spoke i) say = spoke_step_says i say

-- the steps that were made are those by cuts that name exactly what was spent
module _ (run : Run) (first : ℤ) (cuts : Cuts) where
  abbrev by_cuts : World → Actor → World
  by_cuts w actor = step_of run first cuts w actor

  pub lead_says : (actors : List Actor) (w w' : World) → IsWorld run w → LeadTo run first actors w w' → SayOf cuts w' → (fold by_cuts w actors ≡ w') × SayOf cuts w
  lead_says [] w w' is e say = (sym e, subst (SayOf cuts) e say)
  lead_says (actor ∷ actors) w w' is l say =
      let rest = lead_says actors (step run first w l.0 actor) w' (stepped run first w is l.0 actor).world l.1 say in
      let one = step_says run first cuts w l.0 is actor rest.1 in
      (ap (λ v. fold by_cuts v actors) one.same ∙ rest.0, one.before)

  fold_asks : (actor : Actor) (n : ℕ) (w : World) → fold by_cuts w (replicate n actor) ≡ asked_times run first cuts actor n w
  fold_asks actor zero w = refl
  fold_asks actor (suc n) w = fold_asks actor n (by_cuts w actor)

  fold_turns : (turns : List Turn) (w : World) → fold by_cuts w (turns_ask turns) ≡ fold (turned run first cuts) w turns
  fold_turns [] w = refl
  fold_turns (turn ∷ turns) w =
      ap (fold by_cuts w) (flat_map-cons turn_asks turn turns)
      ∙ (fold-append by_cuts w (turn_asks turn) (turns_ask turns)
      ∙ (ap (λ v. fold by_cuts v (turns_ask turns)) (fold_asks turn.actor turn.count w)
      ∙ fold_turns turns (turned run first cuts w turn)))

  fold_rounds : (n : ℕ) (w : World) → fold by_cuts w (rounds_ask run n) ≡ rounds run first cuts n w
  fold_rounds zero w = refl
  fold_rounds (suc n) w =
      fold-append by_cuts w (rounds_ask run n) (actors_of run)
      ∙ ap (round run first cuts) (fold_rounds n w)

  pub all_says : (turns : List Turn) (w : World) → LeadTo run first (turns_ask turns ++ rounds_ask run (rounds_of run)) (first_world run) w → SayOf cuts w → last_world run first turns cuts ≡ w
  all_says turns w l say =
      sym (fold-append by_cuts (first_world run) (turns_ask turns) (rounds_ask run (rounds_of run))
      ∙ (fold_rounds (rounds_of run) (fold by_cuts (first_world run) (turns_ask turns))
      ∙ ap (rounds run first cuts (rounds_of run)) (fold_turns turns (first_world run))))
      ∙ (lead_says (turns_ask turns ++ rounds_ask run (rounds_of run)) (first_world run) w (first_is run) l say).0

pub lead_world : (run : Run) (first : ℤ) (actors : List Actor) (w w' : World) → IsWorld run w → LeadTo run first actors w w' → IsWorld run w'
lead_world run first [] w w' is e = subst (IsWorld run) (sym e) is
lead_world run first (actor ∷ actors) w w' is l = lead_world run first actors (step run first w l.0 actor) w' (stepped run first w is l.0 actor).world l.1
