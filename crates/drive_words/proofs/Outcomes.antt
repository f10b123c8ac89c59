-- Where a step of the hub's polling may lead.

use Rattle.std.proofs.Common.{arith, refl, ap, ◌∙◌, ◌≡◌, ◌≢◌, ◌⊎◌, inl, inr, ℕ, ◌+◌, ◌/◌, ◌<◌, ◌≤◌, min, nat_eq, nat_lt, Bool, true, false, List, [], ◌∷◌, ◌++◌, ℤ, Option, Some, None, if◌then◌else◌}
use Rattle.std.proofs.lemmas.List.Sums.{fold-append}
use Rattle.base_words.proofs.NumberTests.{less_from_test}
use Rattle.sp_model.specs.declared.run.Run.{Run}
use Rattle.run_log.specs.Events.{last_taken, pair_in, present, present_with}
use Rattle.run_log.specs.declared.log.End.{End}
use Rattle.run_log.specs.declared.log.Event.{Event}
use Rattle.run_log.specs.declared.log.Event.TheVariants.{Put}
use Rattle.run_log.specs.declared.log.Source.{Source}
use Rattle.run_log.specs.declared.log.Source.TheVariants as source
use Rattle.log_words.specs.Replies.{reply_of}
use Rattle.drive_words.specs.Worlds.{HubAt, Polling}
use Rattle.drive_words.specs.Steps.{decided, decided_by, is_old, polled, polled_on, read_taken, taken, test_by, test_of}

-- behind one event more
pub present_push : (events : List Event) (e : Event) → present (events ++ e ∷ []) ≡ present_with (present events) e
present_push events e = fold-append present_with 0 events (e ∷ [])

pub present_put : (events : List Event) (k : ℕ) → present (events ++ Put k ∷ []) ≡ k
present_put events k = present_push events (Put k)

pub present_taken : (first : ℤ) (events : List Event) (from : Source) (k : ℕ) (value : Option ℤ) → present (taken first events from k value) ≡ present events
present_taken first events from k value = fold-append present_with 0 events _

-- how many steps of the present poll are made
abbrev pub poll_made : Option Polling → ℕ
poll_made None = 0
poll_made (Some p) = min p.words 3 + 1

pub made_few : (o : Option Polling) → poll_made o ≤ 4
made_few None = omega arith
made_few (Some p) = omega arith

-- the hub reads on; it goes on to the next spoke; it makes the next put; the run ends
pub record ReadsOn (hub hub' : HubAt) : Type 0 where
  pub now : present hub'.events ≡ present hub.events
  pub why : hub'.why ≡ hub.why
  pub asks : hub'.asks ≡ hub.asks
  pub stopped : hub'.stopped ≡ hub.stopped
  pub more : poll_made hub.reading < poll_made hub'.reading

pub record Passes (spokes : ℕ) (hub hub' : HubAt) : Type 0 where
  pub now : present hub'.events ≡ present hub.events
  pub why : hub'.why ≡ hub.why
  pub asks : hub'.asks ≡ hub.asks + 1
  pub left : hub.asks + 1 < spokes
  pub stopped : hub'.stopped ≡ hub.stopped

pub record Goes (most : ℕ) (hub hub' : HubAt) : Type 0 where
  pub now : present hub'.events ≡ present hub.events + 1
  pub more : present hub.events ≤ most
  pub why : hub'.why ≡ hub.why
  pub asks : hub'.asks ≡ 0
  pub reading : hub'.reading ≡ None
  pub stopped : hub'.stopped ≡ hub.stopped

pub record Ends (hub hub' : HubAt) : Type 0 where
  pub now : present hub'.events ≡ present hub.events
  pub why : hub'.why ≢ None
  pub stopped : hub'.stopped ≡ hub.stopped

abbrev pub Decides : ℕ → HubAt → HubAt → Type 0
Decides most hub hub' = Goes most hub hub' ⊎ Ends hub hub'

abbrev pub Polls : ℕ → ℕ → HubAt → HubAt → Type 0
Polls most spokes hub hub' = ReadsOn hub hub' ⊎ (Passes spokes hub hub' ⊎ Decides most hub hub')

-- a hub that is as far as another, but for its takes and its reading
pub record Alike (hub hub' : HubAt) : Type 0 where
  pub now : present hub'.events ≡ present hub.events
  pub why : hub'.why ≡ hub.why
  pub asks : hub'.asks ≡ hub.asks
  pub stopped : hub'.stopped ≡ hub.stopped

pub itself : (hub : HubAt) → Alike hub hub
itself hub = record { now = refl; why = refl; asks = refl; stopped = refl }

-- where no test ends the run, put k isn't the last
last_off : (agreed close last : Bool) → test_by agreed close last ≡ None → last ≡ false
last_off true close last e = absurd cc
last_off false true last e = absurd cc
last_off false false true e = absurd cc
last_off false false false e = refl

off_more : (k most : ℕ) → k ≤ most + 1 → nat_eq k (most + 1) ≡ false → k ≤ most
off_more k most l e = grind arith

decide_leads : (most : ℕ) (hub hub' : HubAt) (a : Alike hub hub') (spent : Option ℕ) (test : Option End) → (test ≡ None → present hub'.events ≤ most) → Decides most hub (decided_by (present hub'.events) hub' spent test)
decide_leads most hub hub' a spent (Some why) low = inr record { now = a.now; why = λ e. absurd cc; stopped = a.stopped }
decide_leads most hub hub' a (Some s) None low = inr record { now = a.now; why = λ e. absurd cc; stopped = a.stopped }
decide_leads most hub hub' a None None low = let few = low refl in let same = a.now in inl record {
  now = present_put hub'.events (present hub'.events + 1) ∙ ap (λ n. n + 1) a.now;
  more = omega (arith, few, same);
  why = a.why;
  asks = refl;
  reading = refl;
  stopped = a.stopped;
}

module _ (run : Run) (first : ℤ) (spokes : ℕ) (hub : HubAt) (spent : Option ℕ) (within : present hub.events ≤ run.options.iterations + 1) where
  pub decided_leads : (hub' : HubAt) → Alike hub hub' → Decides run.options.iterations hub (decided run first hub' spent)
  decided_leads hub' a = decide_leads run.options.iterations hub hub' a spent (test_of run (present hub'.events) (pair_in first hub'.events))
      (λ none. off_more (present hub'.events) run.options.iterations (let same = a.now in omega (arith, within, same)) (last_off _ _ _ none))

  on_by : (hub' : HubAt) → Alike hub hub' → (t : Bool) → nat_lt (hub'.asks + 1) spokes ≡ t → Polls run.options.iterations spokes hub (if t then record hub' { asks = hub'.asks + 1; reading = None } else decided run first hub' spent)
  on_by hub' a true e = let l = less_from_test (hub'.asks + 1) spokes e in let same = a.asks in inr (inl record {
    now = a.now;
    why = a.why;
    asks = ap (λ n. n + 1) a.asks;
    left = omega (arith, l, same);
    stopped = a.stopped;
  })
  on_by hub' a false e = inr (inr (decided_leads hub' a))

  on_leads : (hub' : HubAt) → Alike hub hub' → Polls run.options.iterations spokes hub (polled_on run first spokes hub' spent)
  on_leads hub' a = on_by hub' a (nat_lt (hub'.asks + 1) spokes) refl

  begun_by : (n : ℕ) → hub.reading ≡ None → (t : Bool) → Polls run.options.iterations spokes hub (if t then polled_on run first spokes hub spent else record hub { reading = Some record { first = n; words = 0 } })
  begun_by n none true = on_leads hub (itself hub)
  begun_by n none false = let zero_made = ap poll_made none in inl record { now = refl; why = refl; asks = refl; stopped = refl; more = omega (arith, zero_made) }

  taken_alike : (began n : ℕ) (t : Bool) → Alike hub (if t then record hub { events = taken first hub.events (source.Spoke hub.asks) (began / 2) (reply_of run hub.asks (began / 2)) } else hub)
  taken_alike began n true = record { now = present_taken first hub.events _ _ _; why = refl; asks = refl; stopped = refl }
  taken_alike began n false = itself hub

  read_by : (n : ℕ) (r : Polling) → hub.reading ≡ Some r → (t : Bool) → nat_lt r.words 3 ≡ t → Polls run.options.iterations spokes hub (if t then record hub { reading = Some record r { words = r.words + 1 } } else polled_on run first spokes (read_taken run first hub r.first n) spent)
  read_by n r is true e = let l = less_from_test r.words 3 e in let made = ap poll_made is in inl record { now = refl; why = refl; asks = refl; stopped = refl; more = omega (arith, l, made) }
  read_by n r is false e = on_leads (read_taken run first hub r.first n) (taken_alike r.first n (nat_eq n r.first))

  pub polled_leads : (n : ℕ) (reading : Option Polling) → hub.reading ≡ reading → Polls run.options.iterations spokes hub (polled run first spokes hub spent n reading)
  polled_leads n None is = begun_by n is (is_old n (last_taken hub.asks hub.events))
  polled_leads n (Some r) is = read_by n r is (nat_lt r.words 3) refl
