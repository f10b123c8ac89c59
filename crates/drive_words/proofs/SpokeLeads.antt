-- A step of a spoke is that of the world.

use Rattle.std.proofs.Common.{arith, refl, sym, ap, subst, ◌∙◌, ◌≡◌, ◌⊎◌, inl, inr, ℕ, ◌+◌, ◌/◌, ◌%◌, ◌<◌, nat_eq, nat_le, nat_lt, Bool, true, false, not, List, [], ◌∷◌, ◌++◌, length, Option, Some, None, if◌then◌else◌, get_or-set_same}
use Rattle.std.specs.List.{All}
use Rattle.std.proofs.lemmas.List.{length-append}
use Rattle.base_words.proofs.NumberTests.{test_from_less, test_from_not_less}
use Rattle.wide_num.specs.RoomContents.{Contents, room_of, with_room}
use Rattle.sp_model.specs.declared.run.Run.{Run}
use Rattle.log_words.specs.Replies.{reply_of}
use Rattle.log_words.specs.declared.log.Answer.{Answer}
use Rattle.log_words.specs.declared.log.Answer.TheVariants.{Reply, Skip}
use Rattle.log_words.specs.declared.step.SpokeStep.{SpokeStep}
use Rattle.lagrangian_spoke.specs.Answering.{AreAnswers, IsAnswer}
use Rattle.lagrangian_spoke.specs.Spokes.{HasSkipped, IsReply, Leads, ReadsOn, WillReply, WritesOn, asked, read_last}
use Rattle.lagrangian_spoke.specs.declared.spoke.LagrangianSpoke.{LagrangianSpoke}
use Rattle.lagrangian_spoke.specs.declared.spoke.Phase.{Phase}
use Rattle.lagrangian_spoke.specs.declared.spoke.Phase.TheVariants.{Asks, Reads, Opens, Writes, Ended}
use Rattle.stamped_read.specs.Readers.{Reader, begins, begins_told, due_begun, emptied, ends, follows, follows_told, is_more, longer_part, next, part, read_told, reads, restarted, unfit, window_of, words_of}
use Rattle.stamped_read.specs.declared.read.Again.{Again}
use Rattle.stamped_read.specs.declared.read.Again.TheVariants.{Odd, Old, Torn, Mixed}
use Rattle.stamped_read.specs.declared.read.Read.TheVariants as read
use Rattle.drive_words.specs.Worlds.{SpokeAt, World, put_at, rank_at, rank_stamp}
use Rattle.drive_words.specs.Steps as steps
use Rattle.drive_words.specs.Shown.{reading_of, spoke_of}
use Rattle.window_words.specs.declared.views.Call.TheVariants as call
use Rattle.drive_words.proofs.Cutting.{last_all}

-- the spoke's step in the world, whatever came of its search
abbrev pub IsWorldStep : Run → World → ℕ → SpokeAt → Phase → SpokeAt → Type 0
IsWorldStep run w i spoke phase spoke' = (spent : Option ℕ) × (spoke' ≡ steps.spoke_next run w spent i spoke phase)

-- THE READING

-- a reader that stands as the world's spoke does: its part has the width of the rank that is read, and
-- it reads as many ranks as there are
pub record IsReaderOf (ranks width : ℕ) (r : Reader) : Type 0 where
  pub many : length r.parts ≡ ranks
  pub below : r.rank < length r.parts
  pub room : room_of (part r r.rank) ≡ width

-- why no reading begins, and whether one begins, by the same tests
abbrev Fits : Option Again → Bool → Type 0
Fits o unfit = ((o ≡ None) × (unfit ≡ false)) ⊎ ((a : Again) × (o ≡ Some a) × (unfit ≡ true))

fits_by : (a b c : Again) (odd zero late same : Bool) → Fits (if odd then Some a else (if zero then (if late then Some b else None) else (if same then None else Some c))) (if odd then true else (if zero then late else (if same then false else true)))
fits_by a b c true zero late same = inr (a, refl, refl)
fits_by a b c false true true same = inr (b, refl, refl)
fits_by a b c false true false same = inl (refl, refl)
fits_by a b c false false late true = inl (refl, refl)
fits_by a b c false false late false = inr (c, refl, refl)

fits : (r : Reader) (n : ℕ) → Fits (unfit r n) (steps.is_unfit (reading_of r) n)
fits r n = fits_by (Odd r.rank n) (Old n r.last) (Mixed r.rank r.first n) (nat_eq (n % 2) 1) (nat_eq r.rank 0) (nat_le (n / 2) r.last) (nat_eq n r.first)

-- how many words are read of a part
words_begun : (r : Reader) → r.begun ≡ true → (reading_of r).words ≡ length (words_of r r.rank)
words_begun r e = ap (λ t. if t then length (words_of r r.rank) else 0) e

module _ (run : Run) (w : World) (i : ℕ) (s s' : LagrangianSpoke) (n : ℕ) (step : SpokeStep) (phase : s.phase ≡ Reads) (right : AreAnswers run i s'.answers.items) where
  abbrev r : Reader
  r = s.reader.reader

  abbrev r' : Reader
  r' = s'.reader.reader

  abbrev spoke : SpokeAt
  spoke = spoke_of s

  abbrev ranks : ℕ
  ranks = length w.ranks

  abbrev width : ℕ
  width = (rank_at w.ranks r.rank).width

  abbrev stamp : ℕ
  stamp = rank_stamp (rank_at w.ranks r.rank) (put_at w)

  shown_by : (p : Phase) (new : Reader) (answers : List Answer) → s'.phase ≡ p → r' ≡ new → s'.answers.items ≡ answers → spoke_of s' ≡ record { phase = p; reading = reading_of new; answers = answers }
  shown_by p new answers a b c = λ j. record { phase = a j; reading = reading_of (b j); answers = c j }

  goes : s' ≡ record s { reader = s'.reader } → (new : Reader) → r' ≡ new → spoke_of s' ≡ record spoke { reading = reading_of new }
  goes e new is = shown_by s.phase new s.answers.items (ap (λ (x : LagrangianSpoke). x.phase) e) is (ap (λ (x : LagrangianSpoke). x.answers.items) e)

  again : s' ≡ record s { reader = s'.reader; phase = Asks } → r' ≡ restarted r → spoke_of s' ≡ steps.reads_again spoke
  again e is = shown_by Asks (restarted r) s.answers.items (ap (λ (x : LagrangianSpoke). x.phase) e) is (ap (λ (x : LagrangianSpoke). x.answers.items) e)

  -- the next step of the world's spoke, by what is asked
  abbrev goal : Type 0
  goal = IsWorldStep run w i spoke Reads (spoke_of s')

  world_begins : r.begun ≡ false → n ≡ stamp → (x : SpokeAt) → spoke_of s' ≡ x → x ≡ steps.part_begun spoke n → goal
  world_begins off at x is same = (None, is ∙ (same ∙ (ap (steps.part_begun spoke) at ∙ sym (ap (λ t. if t then (if nat_lt spoke.reading.words width then record spoke { reading = record spoke.reading { words = spoke.reading.words + 1 } } else steps.part_ended run ranks spoke None stamp) else steps.part_begun spoke stamp) off))))

  begin_by : r.begun ≡ false → n ≡ stamp → IsReaderOf ranks width r → Fits (unfit r n) (steps.is_unfit (reading_of r) n) → r' ≡ begins (unfit r n) r n → ReadsOn s s' (begins_told (unfit r n)) step → goal
  begin_by off at is (inl none) to on =
      let new : r' ≡ begins None r n = to ∙ ap (λ o. begins o r n) none.0 in
      let moved : ReadsOn s s' read.Going step = subst (λ o. ReadsOn s s' (begins_told o) step) none.0 on in
      let empty : (reading_of (begins None r n)).words ≡ 0 = ap (λ (c : Contents ℕ). length c.items) (get_or-set_same r.parts r.rank (emptied (part r r.rank)) (with_room 0) is.below) in
      world_begins off at (record spoke { reading = record spoke.reading { begun = true; first = n; words = 0 } })
      (goes moved.1 (begins None r n) new ∙ (λ j. record spoke { reading = record (reading_of (begins None r n)) { words = empty j } }))
      (sym (ap (λ t. if t then steps.reads_again spoke else record spoke { reading = record spoke.reading { begun = true; first = n; words = 0 } }) none.1))
  begin_by off at is (inr some) to on =
      let new : r' ≡ restarted r = to ∙ ap (λ o. begins o r n) some.1 in
      let moved : ReadsOn s s' (read.Again some.0) step = subst (λ o. ReadsOn s s' (begins_told o) step) some.1 on in
      world_begins off at (steps.reads_again spoke) (again moved.1 new)
      (sym (ap (λ t. if t then steps.reads_again spoke else record spoke { reading = record spoke.reading { begun = true; first = n; words = 0 } }) some.2))

  -- while its part is begun
  module _ (on : r.begun ≡ true) (is : IsReaderOf ranks width r) where
    begun_world : (spent : Option ℕ) → steps.read_on run ranks spoke spent width stamp ≡ (if nat_lt spoke.reading.words width then record spoke { reading = record spoke.reading { words = spoke.reading.words + 1 } } else steps.part_ended run ranks spoke spent stamp)
    begun_world spent = ap (λ t. if t then (if nat_lt spoke.reading.words width then record spoke { reading = record spoke.reading { words = spoke.reading.words + 1 } } else steps.part_ended run ranks spoke spent stamp) else steps.part_begun spoke stamp) on

    count : spoke.reading.words ≡ length (words_of r r.rank)
    count = words_begun r on

    reads_leads : nat_eq (part r r.rank).spare 0 ≡ false → r' ≡ reads r n → ReadsOn s s' read.Going step → goal
    reads_leads off to moved =
        let room = is.room in
        let left : nat_lt spoke.reading.words width ≡ true = test_from_less spoke.reading.words width (let c = count in left_less (part r r.rank).spare off (λ some. omega (arith, c, room, some))) in
        let longer : (reading_of (reads r n)).words ≡ spoke.reading.words + 1
        = words_begun (reads r n) on ∙ (ap (λ (c : Contents ℕ). length c.items) (get_or-set_same r.parts r.rank (longer_part (part r r.rank) n) (with_room 0) is.below)
        ∙ (length-append (words_of r r.rank) (n ∷ []) ∙ ap (λ m. m + 1) (sym count))) in (
          None,
          goes moved.1 (reads r n) to
              ∙ ((λ j. record spoke { reading = record (reading_of (reads r n)) { words = longer j } })
              ∙ sym (begun_world None ∙ ap (λ t. if t then record spoke { reading = record spoke.reading { words = spoke.reading.words + 1 } } else steps.part_ended run ranks spoke None stamp) left)),
        ) where
          left_less : {X : Type 0} (spare : ℕ) → nat_eq spare 0 ≡ false → (0 < spare → X) → X
          left_less spare off f = f (grind arith)

    -- its end
    module _ (full : (part r r.rank).spare ≡ 0) (at : n ≡ stamp) where
      none_left : nat_lt spoke.reading.words width ≡ false
      none_left = test_from_not_less spoke.reading.words width (let c = count in let room = is.room in omega (arith, c, room, full))

      ended_world : (spent : Option ℕ) → steps.part_ended run ranks spoke spent n ≡ steps.read_on run ranks spoke spent width stamp
      ended_world spent = ap (steps.part_ended run ranks spoke spent) at ∙ sym (begun_world spent ∙ ap (λ t. if t then record spoke { reading = record spoke.reading { words = spoke.reading.words + 1 } } else steps.part_ended run ranks spoke spent stamp) none_left)

      abbrev k : ℕ
      k = r.first / 2

      abbrev behind : Option ℕ → Bool → Bool → SpokeAt
      behind spent same more = if same then (if more then steps.next_part spoke else steps.answered run (steps.has_read spoke k) k spent) else steps.reads_again spoke

      ends_in : (spent : Option ℕ) (same more : Bool) → nat_eq n r.first ≡ same → nat_lt (r.rank + 1) ranks ≡ more → spoke_of s' ≡ behind spent same more → goal
      ends_in spent same more e f shown = (spent, shown ∙ (sym (λ j. behind spent (e j) (f j)) ∙ ended_world spent))

      whole_leads : nat_eq n r.first ≡ true → nat_lt (r.rank + 1) ranks ≡ false → r' ≡ follows false r → ReadsOn s s' (read.Reading k) step → goal
      whole_leads e f to tells = answers_lead tells.3 where
        answers_lead : WillReply s s' ⊎ HasSkipped s s' k → goal
        answers_lead (inl reply) = ends_in None true false e f (shown_by Opens (follows false r) s.answers.items reply.phase to (ap (λ a. a.items) reply.answers))
        answers_lead (inr skipped) =
            let all : All (IsAnswer run i) (s.answers.items ++ Skip k skipped.scenario skipped.opened ∷ []) = subst (All (IsAnswer run i)) skipped.answers right.right in
            let budget : skipped.opened ≡ run.options.budget = (last_all (IsAnswer run i) s.answers.items (Skip k skipped.scenario skipped.opened) all).1.opened_is in
            ends_in (Some skipped.scenario) true false e f (shown_by Asks (follows false r) (s.answers.items ++ Skip k skipped.scenario run.options.budget ∷ []) skipped.phase to (skipped.answers ∙ ap (λ m. s.answers.items ++ Skip k skipped.scenario m ∷ []) budget))

      more_by : nat_eq n r.first ≡ true → (more : Bool) → is_more r ≡ more → r' ≡ follows more r → ReadsOn s s' (follows_told more r) step → goal
      more_by e true f to tells = ends_in None true true e (ap (λ m. nat_lt (r.rank + 1) m) (sym is.many) ∙ f) (goes tells.1 (follows true r) to)
      more_by e false f to tells = whole_leads e (ap (λ m. nat_lt (r.rank + 1) m) (sym is.many) ∙ f) to tells

      ends_by : (same : Bool) → nat_eq n r.first ≡ same → r' ≡ (if same then follows (is_more r) r else restarted r) → ReadsOn s s' (if same then follows_told (is_more r) r else read.Again (Torn r.rank r.first n)) step → goal
      ends_by true e to tells = more_by e (is_more r) refl to tells
      ends_by false e to tells = ends_in None false (nat_lt (r.rank + 1) ranks) e refl (again tells.1 to)

    begun_by : (full : Bool) → nat_eq (part r r.rank).spare 0 ≡ full → ((part r r.rank).spare ≡ 0 → n ≡ stamp) → r' ≡ next (due_begun full (window_of r)) r n → ReadsOn s s' (read_told (due_begun full (window_of r)) r n) step → goal
    begun_by true e at to tells = let zero_left = spare_none (part r r.rank).spare e in ends_by zero_left (at zero_left) (nat_eq n r.first) refl to tells where
      spare_none : (spare : ℕ) → nat_eq spare 0 ≡ true → spare ≡ 0
      spare_none spare e = grind arith
    begun_by false e at to tells = reads_leads e to tells

  reading_by : (begun : Bool) → r.begun ≡ begun → IsReaderOf ranks width r → (r.begun ≡ false → n ≡ stamp) → (r.begun ≡ true → (part r r.rank).spare ≡ 0 → n ≡ stamp) → r' ≡ next (if begun then due_begun (nat_eq (part r r.rank).spare 0) (window_of r) else call.Begin (window_of r)) r n → ReadsOn s s' (read_told (if begun then due_begun (nat_eq (part r r.rank).spare 0) (window_of r) else call.Begin (window_of r)) r n) step → goal
  reading_by true e is begins ends to tells = begun_by e is (nat_eq (part r r.rank).spare 0) refl (ends e) to tells
  reading_by false e is begins ends to tells = begin_by e (begins e) is (fits r n) to tells

  pub reading_leads : IsReaderOf ranks width r → (r.begun ≡ false → n ≡ stamp) → (r.begun ≡ true → (part r r.rank).spare ≡ 0 → n ≡ stamp) → Leads s s' n Reads step → goal
  reading_leads is begins ends l = reading_by r.begun refl is begins ends l.0 l.1

-- THE OTHER PHASES

module _ (run : Run) (w : World) (i : ℕ) (s s' : LagrangianSpoke) (n : ℕ) (step : SpokeStep) where
  same_shown : (x : LagrangianSpoke) → s' ≡ x → spoke_of s' ≡ spoke_of x
  same_shown x e = ap spoke_of e

  asks_lead : (t : Bool) → nat_eq n 0 ≡ t → w.hub.stopped ≡ not t → s' ≡ record s { phase = asked n } → IsWorldStep run w i (spoke_of s) Asks (spoke_of s')
  asks_lead true e stopped is = (None, same_shown (record s { phase = asked n }) is ∙ λ j. record (spoke_of s) { phase = (ap (λ t. if t then Reads else Ended) e ∙ sym (ap steps.phase_asked stopped)) j })
  asks_lead false e stopped is = (None, same_shown (record s { phase = asked n }) is ∙ λ j. record (spoke_of s) { phase = (ap (λ t. if t then Reads else Ended) e ∙ sym (ap steps.phase_asked stopped)) j })

  writes_lead : (m : ℕ) (t : Bool) → nat_lt m 3 ≡ t → s.number ≡ i → IsReply run s → WritesOn t s s' m step → IsWorldStep run w i (spoke_of s) (Writes m) (spoke_of s')
  writes_lead m true e number reply on = (None, same_shown (record s { phase = Writes (m + 1) }) on.1 ∙ sym (ap (λ t. if t then record (spoke_of s) { phase = Writes (m + 1) } else closed) e)) where
    closed : SpokeAt
    closed = record (spoke_of s) { phase = Asks; answers = s.answers.items ++ Reply (read_last s) (reply_of run i (read_last s)) ∷ [] }
  writes_lead m false e number reply on =
      let value : reply_of run i (read_last s) ≡ Some s.value = ap (λ j. reply_of run j (read_last s)) (sym number) ∙ reply.value in
      let h = on.1 in (
        None,
        (λ j. record { phase = h.phase j; reading = reading_of (h.reader j); answers = (h.answers ∙ ap (λ v. s.answers.items ++ Reply (read_last s) v ∷ []) (sym value)) j })
            ∙ sym (ap (λ t. if t then record (spoke_of s) { phase = Writes (m + 1) } else record (spoke_of s) { phase = Asks; answers = s.answers.items ++ Reply (read_last s) (reply_of run i (read_last s)) ∷ [] }) e),
      )

  -- what the answer of a call says of the world
  pub record IsAnswerOf (phase : Phase) : Type 0 where
    pub stops : phase ≡ Asks → w.hub.stopped ≡ not (nat_eq n 0)
    pub begins : phase ≡ Reads → s.reader.reader.begun ≡ false → n ≡ rank_stamp (rank_at w.ranks s.reader.reader.rank) (put_at w)
    pub ends : phase ≡ Reads → s.reader.reader.begun ≡ true → (part s.reader.reader s.reader.reader.rank).spare ≡ 0 → n ≡ rank_stamp (rank_at w.ranks s.reader.reader.rank) (put_at w)

  -- each step of a spoke is one of the world's spoke
  pub spoke_leads : (phase : Phase) → s.phase ≡ phase → s.number ≡ i → AreAnswers run i s'.answers.items → ((m : ℕ) → phase ≡ Writes m → IsReply run s) → IsReaderOf (length w.ranks) (rank_at w.ranks s.reader.reader.rank).width s.reader.reader → IsAnswerOf phase → Leads s s' n phase step → IsWorldStep run w i (spoke_of s) phase (spoke_of s')
  spoke_leads Asks e number right reply is told l = asks_lead (nat_eq n 0) refl (told.stops refl) l.1
  spoke_leads Reads e number right reply is told l = reading_leads run w i s s' n step e right is (told.begins refl) (told.ends refl) l
  spoke_leads Opens e number right reply is told l = (None, same_shown (record s { phase = Writes 0 }) l.1)
  spoke_leads (Writes m) e number right reply is told l = writes_lead m (nat_lt m 3) refl number (reply m refl) l
  spoke_leads Ended e number right reply is told l = absurd l
