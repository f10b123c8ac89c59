-- The log of a run is closed where nobody has a step.

use Rattle.std.proofs.Common.{arith, refl, sym, ap, subst, inl, inr, ◌∙◌, ◌≡◌, ◌⊎◌, ℕ, ◌<◌, Bool, true, false, List, [], ◌∷◌, ◌++◌, length, get_or, map, Option, Some, None, option_map, slice_get, MatchOption, if◌then◌else◌}
use Rattle.std.proofs.Math.Nat.{eq-or-lt_of_le}
use Rattle.std.specs.List.{All, AllZip, Contains}
use Rattle.std.specs.Option.{IsSomeAnd, unwrap_or}
use Rattle.std.proofs.lemmas.List.{length-map, map-append}
use Rattle.std.proofs.lemmas.List.Elements.{Contains-append_left}
use Rattle.std.proofs.lemmas.Option.{get_or_from_slice_get, slice_get-get_or, slice_get-map, slice_get_cases, slice_get_within, unwrap_or-slice_get}
use Rattle.std.proofs.lemmas.Slice.Zip.{AllZip-left, AllZip-long, AllZip-right}
use Rattle.drive_words.proofs.Saying.{finished_more, finished_same}
use Rattle.drive_words.specs.Driving.{finished, no_log, skip_in}
use Rattle.drive_words.specs.Leading.{AreRising, ClosesBehind, IsFinished, IsPendingNewer, IsRising}
use Rattle.drive_words.specs.Resting.{IsAtRest}
use Rattle.drive_words.specs.Shown.{spoke_of}
use Rattle.drive_words.specs.Worlds.{SpokeAt, no_spoke, spoke_at}
use Rattle.base_words.specs.FirstAnswers.{first_some}
use Rattle.hedging.specs.Hedges.{made_of}
use Rattle.hub_cylinder.specs.Hubs.{Closes}
use Rattle.drive_words.proofs.Cutting.{last_all}
use Rattle.window_words.proofs.Listed.{last_push}
use Rattle.window_words.specs.Views.{last_of}
use Rattle.lagrangian_spoke.specs.Answering.{AreAnswers, IsAnswer, IsPut, best_reply, last_put}
use Rattle.lagrangian_spoke.specs.Answering as answering
use Rattle.lagrangian_spoke.specs.Spokes.{HasFinished, IsBestIf, IsEnd, IsInPhase, IsPutOf, IsSpoke, read_last}
use Rattle.lagrangian_spoke.specs.declared.spoke.Best.{Best}
use Rattle.lagrangian_spoke.specs.declared.spoke.LagrangianSpoke.{LagrangianSpoke}
use Rattle.lagrangian_spoke.specs.declared.spoke.Phase.{Phase}
use Rattle.lagrangian_spoke.specs.declared.spoke.Phase.TheVariants.{Asks, Reads, Opens, Writes, Ended}
use Rattle.log_closing.specs.Closings.{AreSpokeEnds, IsBacking, logs_of}
use Rattle.log_words.specs.declared.log.Answer.{Answer}
use Rattle.log_words.specs.declared.log.Answer.TheVariants.{Reply}
use Rattle.log_words.specs.declared.log.Backing.{Backing}
use Rattle.log_words.specs.declared.log.Backing.TheVariants.{Lower}
use Rattle.log_words.specs.declared.log.SpokeEnd.{SpokeEnd}
use Rattle.log_words.specs.declared.log.SpokeLog.{SpokeLog}
use Rattle.put_words.specs.Puts.{Made, put_of}
use Rattle.run_log.specs.Runs.{IsAnswered, IsSpokeLog}
use Rattle.run_log.specs.declared.log.Event.{Event}
use Rattle.run_log.specs.declared.log.Event.TheVariants.{Put, Take}
use Rattle.run_log.specs.declared.log.Log.{Log}
use Rattle.run_log.specs.declared.log.Source.TheVariants as source
use Rattle.schedule_core.specs.Drivers.{IsDriver, IsReplied, put_in, world_of}
use Rattle.schedule_core.specs.Ends.{IsLeft, MayFinish}
use Rattle.schedule_core.specs.declared.driver.Driver.{Driver}
use Rattle.sp_model.specs.declared.run.Run.{Run}

-- two lists place by place
module _ {A B : Type 0} (R : A → B → Type 0) where
  pub zip_push : (xs : List A) (ys : List B) (x : A) (y : B) → AllZip R xs ys → R x y → AllZip R (xs ++ x ∷ []) (ys ++ y ∷ [])
  zip_push [] [] x y z r = (r, tt)
  zip_push [] (b ∷ bs) x y z r = absurd z
  zip_push (a ∷ av) [] x y z r = absurd z
  zip_push (a ∷ av) (b ∷ bs) x y z r = (z.0, zip_push av bs x y z.1 r)

there : {X : Type 0} (o : Option X) (P : X → Type 0) → IsSomeAnd o P → (x : X) × (o ≡ Some x) × P x
there None P h = absurd h
there (Some x) P h = (x, refl, h)

module _ {A B : Type 0} (R : A → B → Type 0) (xs : List A) (ys : List B) (zip : AllZip R xs ys) where
  pub zip_left : (i : ℕ) (x : A) → slice_get xs i ≡ Some x → (y : B) × (slice_get ys i ≡ Some y) × R x y
  zip_left i x e = there (slice_get ys i) (R x) (subst (λ (o : Option A). MatchOption o (Unit {0}) (λ x. IsSomeAnd (slice_get ys i) (R x))) e (AllZip-left R xs ys zip i))

  pub zip_right : (i : ℕ) (y : B) → slice_get ys i ≡ Some y → (x : A) × (slice_get xs i ≡ Some x) × R x y
  zip_right i y e = there (slice_get xs i) (λ x. R x y) (subst (λ (o : Option B). MatchOption o (Unit {0}) (λ y. IsSomeAnd (slice_get xs i) (λ x. R x y))) e (AllZip-right R xs ys zip i))

there_at : {X : Type 0} (xs : List X) (i : ℕ) → i < length xs → (x : X) × (slice_get xs i ≡ Some x)
there_at xs i l = elim ((slice_get_cases xs i).1) [
  | inl h ↦ (h.0, h.2)
  | inr h ↦ absurd (let p = h.0 in omega (arith, l, p))
]

last_more : (answers : List Answer) (a : Answer) → last_put (answers ++ a ∷ []) ≡ answering.put_in a
last_more answers a = ap last_of (map-append answering.put_in answers (a ∷ [])) ∙ last_push (map answering.put_in answers) (answering.put_in a)

-- what backs the best reply
made_once : (run : Run) (k : ℕ) (m n : Made) → put_of run k ≡ Some m → put_of run k ≡ Some n → m ≡ n
made_once run k m n e f = ap (λ o. unwrap_or o n) (sym e ∙ f)

backs_by : (run : Run) (answers : List Answer) (best : Best) (f : Bool) → IsBestIf f run answers best → IsBacking run answers (if f then Some (Lower best.put best.value best.multipliers) else None)
backs_by run answers best true h = (h.0, λ made e. h.1.2 ∙ ap (λ (m : Made). m.put.multipliers) (made_once run best.put h.1.0 made h.1.1 e))
backs_by run answers best false h = h

backs : (run : Run) (s : LagrangianSpoke) (left : SpokeEnd) → IsSpoke run s → IsEnd s left → IsBacking run left.log.answers left.best
backs run s left is end = subst (λ (z : List Answer × Option Backing). IsBacking run z.0 z.1) (λ i. (sym end.answers i, sym end.best i)) (backs_by run s.answers.items s.best s.best.found is.best)

-- what it leaves is a spoke's log of the run
leaves_log : (run : Run) (s ended : LagrangianSpoke) (p : ℕ) (left : SpokeEnd) → HasFinished run s ended p → IsEnd ended left → IsSpokeLog run p s.number left.log
leaves_log run s ended p left h is = record {
  kind = is.kind;
  answers = subst (λ (z : ℕ × List Answer). AreAnswers run z.0 z.1) (λ i. (h.number i, sym is.answers i)) h.spoke.answers;
  last = ap last_put is.answers ∙ h.last;
}

module _ (run : Run) (d : Driver) (is : IsDriver run d) where
  abbrev k : ℕ
  k = put_in d

  abbrev spokes : List LagrangianSpoke
  spokes = d.spokes.items

  pub shown : (i : ℕ) (s : LagrangianSpoke) → slice_get spokes i ≡ Some s → spoke_at (world_of d) i ≡ spoke_of s
  shown i s e = get_or_from_slice_get (map spoke_of spokes) i (spoke_of s) no_spoke (slice_get-map spoke_of spokes i ∙ ap (option_map spoke_of) e)

  -- the hub's put
  pub is_put : IsPutOf run d.hub.hedge.put
  is_put =
      let n = sym is.hub.number in
      record {
        made = made_of d.hub.hedge;
        made_is = subst (λ m. put_of run m ≡ Some (made_of d.hub.hedge)) n is.hub.put;
        put_is = refl;
        number = subst (IsPut run) n (record { first = is.hub.some; last = is.hub.within });
      }

  -- puts rise along the answers of each spoke
  newer_in : (s : LagrangianSpoke) (p : Phase) → IsInPhase run s p → IsPendingNewer (last_put s.answers.items) (read_last s) p
  newer_in s Asks h = tt
  newer_in s Reads h = tt
  newer_in s Opens h = h.0.newer
  newer_in s (Writes n) h = h.0.newer
  newer_in s Ended h = tt

  rises : (i : ℕ) (s : LagrangianSpoke) → slice_get spokes i ≡ Some s → IsRising (spoke_of s)
  rises i s e =
      let stands = (is.spokes i s e).stands in
      record { rising = stands.spoke.answers.rising; pending = newer_in s s.phase stands.phase }

  rises_by : (i : ℕ) (o : Option LagrangianSpoke) → slice_get spokes i ≡ o → (spoke_at (world_of d) i ≡ no_spoke ⊎ ((s : LagrangianSpoke) × (o ≡ Some s))) → IsRising (spoke_at (world_of d) i)
  rises_by i o e (inl past) = subst IsRising (sym past) (record { rising = λ a b x l m. absurd (omega (arith, m)); pending = tt })
  rises_by i o e (inr h) = subst IsRising (sym (shown i h.0 (e ∙ h.1))) (rises i h.0 (e ∙ h.1))

  past_or_there : (i : ℕ) (o : Option LagrangianSpoke) → slice_get spokes i ≡ o → (spoke_at (world_of d) i ≡ no_spoke ⊎ ((s : LagrangianSpoke) × (o ≡ Some s)))
  past_or_there i None e = inl (sym (unwrap_or-slice_get (map spoke_of spokes) i no_spoke) ∙ ap (λ o. unwrap_or o no_spoke) (slice_get-map spoke_of spokes i ∙ ap (option_map spoke_of) e))
  past_or_there i (Some s) e = inr (s, refl)

  pub are_rising : AreRising (world_of d)
  are_rising i = rises_by i (slice_get spokes i) refl (past_or_there i (slice_get spokes i) refl)

  module _ (rest : IsAtRest (world_of d)) where
    may_at : (i : ℕ) (s : LagrangianSpoke) → slice_get spokes i ≡ Some s → MayFinish run k s
    may_at i s e =
        let at = is.spokes i s e in
        let l = slice_get_within spokes i s e in
        let long = length-map spokes spoke_of in
        let ended : s.phase ≡ Ended = sym (ap (λ (a : SpokeAt). a.phase) (shown i s e)) ∙ rest.spokes i (omega (arith, l, long)) in
        let read = (subst (IsInPhase run s) ended at.stands.phase).0 in
        let within = at.within in
        record { ended = ended; spoke = at.stands.spoke; newer = omega (arith, read, within) }

    pub all_may : All (MayFinish run d.hub.hedge.put.number) spokes
    all_may i x l = subst (λ n. MayFinish run n (get_or spokes i x)) (sym is.hub.number) (may_at i (get_or spokes i x) (slice_get-get_or spokes i x l))

    -- what they leave
    module _ (ends : List SpokeEnd) (left : AllZip (IsLeft run k) spokes ends) where
      pub are_ends : AreSpokeEnds run k ends
      are_ends = record {
        many = AllZip-long (IsLeft run k) spokes ends left ∙ is.many_spokes;
        each = λ i end e.
            let at = zip_right (IsLeft run k) spokes ends left i end e in
            let s = at.0 in
            let l = at.2 in
            record {
              log = subst (λ n. IsSpokeLog run k n end.log) (is.spokes i s at.1).number_is (leaves_log run s l.finished k end l.finishes l.leaves);
              backing = backs run l.finished end l.finishes.spoke l.leaves;
            };
      }

      -- what was answered stays
      answered_by : (s : LagrangianSpoke) (end : SpokeEnd) (a : Answer) → MayFinish run k s → (l : IsLeft run k s end) → ((last_put s.answers.items ≡ k) ⊎ (last_put s.answers.items < k)) → Contains s.answers.items a → Contains end.log.answers a
      answered_by s end a may l (inl e) c = subst (λ (t : LagrangianSpoke). Contains t.answers.items a → Contains end.log.answers a) (l.finishes.same e) (λ c. subst (λ (xs : List Answer). Contains xs a) (sym l.leaves.answers) c) c
      answered_by s end a may l (inr m) c = subst (λ (xs : List Answer). Contains xs a) (sym (l.leaves.answers ∙ (l.finishes.more m).1)) (Contains-append_left s.answers.items ((l.finishes.more m).0 ∷ []) a c)

      last_or_before : (s : LagrangianSpoke) → MayFinish run k s → (last_put s.answers.items ≡ k) ⊎ (last_put s.answers.items < k)
      last_or_before s may = eq-or-lt_of_le may.newer

      logged : (i : ℕ) (end : SpokeEnd) → slice_get ends i ≡ Some end → slice_get (logs_of ends) i ≡ Some end.log
      logged i end e = slice_get-map (λ (end : SpokeEnd). end.log) ends i ∙ ap (option_map (λ (end : SpokeEnd). end.log)) e

      answered : (event : Event) → IsReplied spokes event → IsAnswered (logs_of ends) event
      answered (Put n) h = tt
      answered (Take source.Hub n value lower upper) h = h
      answered (Take (source.Spoke i) n value lower upper) h =
          let at = zip_left (IsLeft run k) spokes ends left i h.0 h.1 in
          let may = may_at i h.0 h.1 in
          subst (λ (o : Option SpokeLog). IsSomeAnd o (λ (log : SpokeLog). Contains log.answers (Reply n value))) (sym (logged i at.0 at.1))
          (answered_by h.0 at.0 (Reply n value) may at.2 (last_or_before h.0 may) h.2)

      pub all_answered : All (IsAnswered (logs_of ends)) d.hub.events.items
      all_answered i x l = answered (get_or d.hub.events.items i x) (is.taken i x l)

      -- the log is closed behind the world
      module _ (log : Log) (closes : Closes run d.hub ends log) where
        finished_by : (s : LagrangianSpoke) (i : ℕ) (end : SpokeEnd) → s.number ≡ i → MayFinish run k s → (l : IsLeft run k s end) → ((last_put s.answers.items ≡ k) ⊎ (last_put s.answers.items < k)) → end.log.answers ≡ finished run k i (first_some (skip_in k) end.log.answers) s.answers.items
        finished_by s i end n may l (inl e) = l.leaves.answers ∙ (ap (λ (t : LagrangianSpoke). t.answers.items) (l.finishes.same e) ∙ finished_same run i k (first_some (skip_in k) end.log.answers) s.answers.items (omega (arith, e)))
        finished_by s i end n may l (inr m) =
            let a = (l.finishes.more m).0 in
            let grown = l.leaves.answers ∙ (l.finishes.more m).1 in
            let right : AreAnswers run i (s.answers.items ++ a ∷ []) = subst (λ (z : ℕ × List Answer). AreAnswers run z.0 z.1) (λ j. ((l.finishes.number ∙ n) j, (l.finishes.more m).1 j)) l.finishes.spoke.answers in
            let last = last_all (IsAnswer run i) s.answers.items a right.right in
            let put : answering.put_in a ≡ k = sym (last_more s.answers.items a) ∙ (ap last_put (sym (l.finishes.more m).1) ∙ l.finishes.last) in
            grown
            ∙ (finished_more run i k s.answers.items a right.rising last put m
            ∙ ap (λ (xs : List Answer). finished run k i (first_some (skip_in k) xs) s.answers.items) (sym grown))

        finished_at : (i : ℕ) (s : LagrangianSpoke) → slice_get spokes i ≡ Some s → IsFinished run k log.spokes i s.answers.items
        finished_at i s e =
            let at = zip_left (IsLeft run k) spokes ends left i s e in
            let may = may_at i s e in
            let here : get_or log.spokes i no_log ≡ at.0.log = ap (λ (xs : List SpokeLog). get_or xs i no_log) closes.spokes ∙ get_or_from_slice_get (logs_of ends) i at.0.log no_log (logged i at.0 at.1) in
            subst (λ (g : SpokeLog). g.answers ≡ finished run k i (first_some (skip_in k) g.answers) s.answers.items) (sym here)
            (finished_by s i at.0 (is.spokes i s e).number_is may at.2 (last_or_before s may))

        pub closes_behind : ClosesBehind run (world_of d) log
        closes_behind = record {
          why = closes.end;
          many = ap length closes.spokes ∙ (length-map ends (λ (end : SpokeEnd). end.log) ∙ (AllZip-long (IsLeft run k) spokes ends left ∙ is.many_spokes));
          finished_is = λ i l.
              let at = there_at spokes i (let n = is.many_spokes in omega (arith, l, n)) in
              subst (λ (a : SpokeAt). IsFinished run k log.spokes i a.answers) (sym (shown i at.0 at.1)) (finished_at i at.0 at.1);
          closing = closes.closing;
          events = closes.events;
          claims = closes.rest;
        }
