-- The hub and the ranks, what holds of them between steps, and the work that they have left.

use Rattle.std.proofs.Common.{arith, refl, ap, ◌∙◌, ◌≡◌, ◌≢◌, ℕ, suc, ◌+◌, ◌-◌, ◌*◌, ◌<◌, ◌≤◌, nat_lt, Bool, true, false, ◌&&◌, List, [], ◌∷◌, length, get_or, Option, Some, None, if◌then◌else◌}
use Rattle.std.specs.List.{All, list_all, sum_by}
use Rattle.std.proofs.Math.Nat.{suc-mul}
use Rattle.std.proofs.lemmas.List.Folds.{list_all_at}
use Rattle.std.proofs.lemmas.List.Elements.{All-get_or}
use Rattle.std.proofs.lemmas.List.Sums.{sum_by-le-sum_by}
use Rattle.rank_writer.specs.declared.writer.RankWriter.{RankWriter}
use Rattle.rank_writer.specs.declared.writer.Writing.{Writing}
use Rattle.rank_writer.specs.declared.writer.Writing.TheVariants.{Open, Shut}
use Rattle.sp_model.specs.declared.run.Run.{Run}
use Rattle.run_log.specs.Events.{present}
use Rattle.run_log.specs.declared.log.End.{End}
use Rattle.drive_words.specs.Worlds.{HubAt, World, has_closed, is_written, no_rank}
use Rattle.drive_words.specs.Driving.{steps_of_puts}
use Rattle.drive_words.proofs.Outcomes.{poll_made}

pub record Front : Type 0 where
  pub ranks : List RankWriter
  pub hub : HubAt

abbrev pub front : World → Front
front w = record { ranks = w.ranks; hub = w.hub }

abbrev pub now : Front → ℕ
now f = present f.hub.events

-- how many steps a rank has left for put k, and for a put at most
abbrev pub writing_left : ℕ → Writing → ℕ
writing_left width Shut = width + 2
writing_left width (Open n) = (width - n) + 1

abbrev pub rank_left : ℕ → RankWriter → ℕ
rank_left k rank = if nat_lt rank.last k then writing_left rank.width rank.writing else 0

abbrev pub rank_most : RankWriter → ℕ
rank_most rank = rank.width + 2

abbrev pub ranks_left : ℕ → List RankWriter → ℕ
ranks_left k ranks = sum_by (rank_left k) ranks

-- how many steps the hub has left in this polling, and to stop
abbrev pub polls_left : Option End → ℕ → ℕ
polls_left None n = n
polls_left (Some why) n = 0

abbrev pub stop_left : Bool → ℕ
stop_left true = 0
stop_left false = 1

abbrev pub hub_left : ℕ → HubAt → ℕ
hub_left spokes hub =
    polls_left hub.why (5 * (spokes - hub.asks) - poll_made hub.reading) + stop_left hub.stopped

-- how many steps a put takes at most
abbrev pub put_steps : Run → ℕ
put_steps run = steps_of_puts run + 5 * run.options.lagrangian

abbrev pub base : Run → ℕ → List RankWriter → ℕ
base run k ranks = (run.options.iterations + 1 - k) * put_steps run + ranks_left k ranks

abbrev pub work : Run → Front → ℕ
work run f = base run (now f) f.ranks + hub_left run.options.lagrangian f.hub

-- what holds of ranks and hub
pub record IsFront (run : Run) (f : Front) : Type 0 where
  pub many : length f.ranks ≡ run.options.ranks
  pub most : sum_by rank_most f.ranks ≡ steps_of_puts run
  pub within : now f ≤ run.options.iterations + 1
  pub below : All (λ (r : RankWriter). r.last ≤ now f) f.ranks
  pub asks : f.hub.why ≡ None → 0 < run.options.lagrangian → f.hub.asks < run.options.lagrangian
  pub alone : f.hub.why ≡ None → run.options.lagrangian ≡ 0 → is_written f.ranks (now f) ≡ false
  pub ended : f.hub.why ≢ None → is_written f.ranks (now f) ≡ true
  pub going : f.hub.why ≡ None → f.hub.stopped ≡ false

-- there is a rank
pub some_ranks : (run : Run) → 1 ≤ run.options.ranks
some_ranks run = run.facts.options_fit.some_ranks

-- a list of tests that fails
off_by : {X : Type 0} (p : X → Bool) (d x : X) (xs : List X) (t : Bool) → p x ≡ t → (t && list_all p xs) ≡ false → (list_all p xs ≡ false → (i : ℕ) × (i < length xs) × (p (get_or xs i d) ≡ false)) → (i : ℕ) × (i < length (x ∷ xs)) × (p (get_or (x ∷ xs) i d) ≡ false)
off_by p d x xs false is e rest = (0, omega arith, is)
off_by p d x xs true is e rest = let r = rest e in let l = r.1 in (suc r.0, omega (arith, l), r.2)

pub first_off : {X : Type 0} (p : X → Bool) (d : X) (xs : List X) → list_all p xs ≡ false → (i : ℕ) × (i < length xs) × (p (get_or xs i d) ≡ false)
first_off p d [] e = absurd cc
first_off p d (x ∷ xs) e = off_by p d x xs (p x) refl e (λ h. first_off p d xs h)

-- a rank that hasn't closed a put
not_closed : (k : ℕ) (r : RankWriter) → r.last < k → has_closed k r ≡ false
not_closed k r l = grind arith

pub closed_off : (k : ℕ) (r : RankWriter) → has_closed k r ≡ false → r.last < k
closed_off k r e = grind arith

pub unwritten : (ranks : List RankWriter) (k i : ℕ) → i < length ranks → (get_or ranks i no_rank).last < k → is_written ranks k ≡ false
unwritten ranks k i l late = list_all_at (has_closed k) ranks i no_rank l (not_closed k (get_or ranks i no_rank) late)

-- no put is written that is newer than all that ranks closed
pub new_unwritten : (ranks : List RankWriter) (k : ℕ) → 1 ≤ length ranks → All (λ (r : RankWriter). r.last ≤ k) ranks → is_written ranks (k + 1) ≡ false
new_unwritten ranks k some all =
    let low = All-get_or (λ (r : RankWriter). r.last ≤ k) ranks 0 no_rank (omega (arith, some)) all in
    unwritten ranks (k + 1) 0 (omega (arith, some)) (omega (arith, low))

-- what is left for a put is at most what a put takes
left_by : (r : RankWriter) (t : Bool) → (if t then writing_left r.width r.writing else 0) ≤ rank_most r
left_by r false = omega arith
left_by r true = writing_most r.width r.writing where
  writing_most : (width : ℕ) (w : Writing) → writing_left width w ≤ width + 2
  writing_most width Shut = omega arith
  writing_most width (Open n) = omega arith

pub left_most : (k : ℕ) (ranks : List RankWriter) → ranks_left k ranks ≤ sum_by rank_most ranks
left_most k ranks = sum_by-le-sum_by (rank_left k) rank_most ranks (λ r. left_by r (nat_lt r.last k))

-- the work of a put more
one_put : (most k a : ℕ) → k ≤ most → (most + 1 - k) * a ≡ (most + 1 - (k + 1)) * a + a
one_put most k a l = ap (λ n. n * a) (let e : most + 1 - k ≡ suc (most + 1 - (k + 1)) = omega (arith, l) in e) ∙ suc-mul (most + 1 - (k + 1)) a

pub base_goes : (run : Run) (k : ℕ) (ranks : List RankWriter) → sum_by rank_most ranks ≡ steps_of_puts run → k ≤ run.options.iterations → base run (k + 1) ranks + 5 * run.options.lagrangian ≤ (run.options.iterations + 1 - k) * put_steps run
base_goes run k ranks most l = let left = left_most (k + 1) ranks in let more = one_put run.options.iterations k (put_steps run) l in omega (arith, left, most, more)

-- what the hub has left
pub going_left : (spokes : ℕ) (hub : HubAt) → hub.why ≡ None → hub_left spokes hub ≡ (5 * (spokes - hub.asks) - poll_made hub.reading) + stop_left hub.stopped
going_left spokes hub e = ap (λ (o : Option End). polls_left o (5 * (spokes - hub.asks) - poll_made hub.reading) + stop_left hub.stopped) e

none_left : (o : Option End) (n : ℕ) → o ≢ None → polls_left o n ≡ 0
none_left None n off = absurd (off refl)
none_left (Some why) n off = refl

pub ended_left : (spokes : ℕ) (hub : HubAt) → hub.why ≢ None → hub_left spokes hub ≡ stop_left hub.stopped
ended_left spokes hub off = let none = none_left hub.why (5 * (spokes - hub.asks) - poll_made hub.reading) off in omega (arith, none)

pub same_base : (run : Run) (ranks : List RankWriter) (k m : ℕ) → k ≡ m → base run k ranks ≡ base run m ranks
same_base run ranks k m e = ap (λ n. base run n ranks) e
