-- Lists of steps, one behind another, and rounds in which nobody has a step.

use Rattle.std.proofs.Common.{arith, append-nil, refl, sym, ap, subst, ◌∙◌, ◌≡◌, ℕ, zero, suc, ◌+◌, ◌-◌, ◌<◌, ◌≤◌, List, [], ◌∷◌, ◌++◌, length, map, take, get_or, ℤ, None}
use Rattle.std.specs.List.{range_with_len}
use Rattle.std.specs.Option.{unwrap_or}
use Rattle.std.proofs.Math.Seq.{take-suc}
use Rattle.std.proofs.lemmas.Grind.{flat_map-append}
use Rattle.std.proofs.lemmas.List.Concat.{flat_map-cons}
use Rattle.base_words.proofs.Made.{map_next}
use Rattle.drive_words.proofs.AtRest.{step_rests}
use Rattle.drive_words.specs.Driving.{actors_of, rounds_of}
use Rattle.drive_words.specs.Leading.{LeadTo, all_asks, rounds_ask, turn_asks, turns_ask}
use Rattle.drive_words.specs.Resting.{IsAtRest}
use Rattle.drive_words.specs.Steps.{step}
use Rattle.drive_words.specs.Worlds.{World, first_world}
use Rattle.schedule_core.specs.Drivers.{IsDriver, LeadsTo, world_of}
use Rattle.schedule_core.specs.declared.driver.Driver.{Driver}
use Rattle.schedule_lines.specs.declared.schedule.Actor.{Actor}
use Rattle.schedule_lines.specs.declared.schedule.Turn.{Turn}
use Rattle.sp_model.specs.declared.run.Run.{Run}

module _ (run : Run) (first : ℤ) where
  pub lead_on : (xs ys : List Actor) (w v u : World) → LeadTo run first xs w v → LeadTo run first ys v u → LeadTo run first (xs ++ ys) w u
  lead_on [] ys w v u e l = subst (λ t. LeadTo run first ys t u) e l
  lead_on (x ∷ xs) ys w v u f l = (f.0, lead_on xs ys (step run first w f.0 x) v u f.1 l)

  pub lead_nowhere : (xs : List Actor) (w : World) → IsAtRest w → LeadTo run first xs w w
  lead_nowhere [] w rest = refl
  lead_nowhere (x ∷ xs) w rest = (None, subst (λ t. LeadTo run first xs t w) (sym (step_rests run first w rest None x)) (lead_nowhere xs w rest))

  rest_lead : (k n : ℕ) (w v : World) → LeadTo run first (rounds_ask run n) w v → IsAtRest v → LeadTo run first (rounds_ask run (k + n)) w v
  rest_lead zero n w v l rest = let e : n ≡ 0 + n = omega arith in subst (λ m. LeadTo run first (rounds_ask run m) w v) e l
  rest_lead (suc k) n w v l rest =
      let e : suc (k + n) ≡ suc k + n = omega arith in
      subst (λ m. LeadTo run first (rounds_ask run m) w v) e
      (lead_on (rounds_ask run (k + n)) (actors_of run) w v v (rest_lead k n w v l rest) (lead_nowhere (actors_of run) v rest))

  pub rounds_lead : (n most : ℕ) (w v : World) → n ≤ most → LeadTo run first (rounds_ask run n) w v → IsAtRest v → LeadTo run first (rounds_ask run most) w v
  rounds_lead n most w v le l rest =
      let e : (most - n) + n ≡ most = omega (arith, le) in
      subst (λ m. LeadTo run first (rounds_ask run m) w v) e (rest_lead (most - n) n w v l rest)

-- the bound of a run's hub is the run's
pub same_bound : (run : Run) (d e : Driver) → IsDriver run d → IsDriver run e → d.hub.hedge.bound ≡ e.hub.hedge.bound
same_bound run d e is it = ap (λ o. unwrap_or o e.hub.hedge.bound) (sym is.hub.bound ∙ it.hub.bound)

-- steps behind others
pub leads_on : (run : Run) (d e f : Driver) (xs ys : List Actor) → IsDriver run d → IsDriver run e → LeadsTo run d xs e → LeadsTo run e ys f → LeadsTo run d (xs ++ ys) f
leads_on run d e f xs ys is it l m =
    lead_on run d.hub.hedge.bound xs ys (world_of d) (world_of e) (world_of f) l
    (subst (λ b. LeadTo run b ys (world_of e) (world_of f)) (sym (same_bound run d e is it)) m)

-- whom a list of turns asks, and whom a list of ranks or spokes asks, one at a time
pub turns_next : (turns : List Turn) (i : ℕ) (d : Turn) → i < length turns → turns_ask (take (i + 1) turns) ≡ turns_ask (take i turns) ++ turn_asks (get_or turns i d)
turns_next turns i d l =
    let e : i + 1 ≡ suc i = omega arith in
    ap turns_ask (ap (λ n. take n turns) e ∙ take-suc turns i d l)
    ∙ (flat_map-append turn_asks (take i turns) (get_or turns i d ∷ [])
    ∙ ap (λ xs. turns_ask (take i turns) ++ xs) (flat_map-cons turn_asks (get_or turns i d) [] ∙ append-nil (turn_asks (get_or turns i d))))

pub asks_next : (f : ℕ → Actor) (n : ℕ) → map f (range_with_len 0 (n + 1)) ≡ map f (range_with_len 0 n) ++ f n ∷ []
asks_next f n = sym (map_next f n (map f (range_with_len 0 n)) (map f (range_with_len 0 n) ++ f n ∷ []) (f n) refl refl refl)

pub turn_leads : (run : Run) (d e f : Driver) (turns : List Turn) (i : ℕ) (x : Turn) → i < length turns → IsDriver run d → IsDriver run e → LeadsTo run d (turns_ask (take i turns)) e → LeadsTo run e (turn_asks (get_or turns i x)) f → LeadsTo run d (turns_ask (take (i + 1) turns)) f
turn_leads run d e f turns i x l is it first then =
    subst (λ (xs : List Actor). LeadsTo run d xs f) (sym (turns_next turns i x l))
    (leads_on run d e f (turns_ask (take i turns)) (turn_asks (get_or turns i x)) is it first then)

-- the steps of a schedule and of all rounds behind it
pub all_lead : (run : Run) (turns : List Turn) (d e f : Driver) → IsDriver run d → IsDriver run e → IsDriver run f → world_of d ≡ first_world run → LeadsTo run d (turns_ask turns) e → LeadsTo run e (rounds_ask run (rounds_of run)) f → LeadTo run f.hub.hedge.bound (all_asks run turns) (first_world run) (world_of f)
all_lead run turns d e f is it at new l m =
    subst (λ b. LeadTo run b (all_asks run turns) (first_world run) (world_of f)) (same_bound run d f is at)
    (subst (λ w. LeadTo run d.hub.hedge.bound (all_asks run turns) w (world_of f)) new
    (leads_on run d e f (turns_ask turns) (rounds_ask run (rounds_of run)) is it l m))
