-- A step of a reader of a spoke's window is a step of the hub's polling.

use Rattle.std.proofs.Common.{arith, refl, sym, ap, subst, ◌∙◌, ◌≡◌, ◌⊎◌, inl, inr, ℕ, ◌+◌, ◌*◌, ◌/◌, ◌%◌, ◌≤◌, nat_eq, nat_le, nat_lt, Bool, true, false, [], ◌∷◌, length, ℤ, Option, Some, None, if◌then◌else◌, get_or-set_same}
use Rattle.std.proofs.lemmas.List.{length-append}
use Rattle.base_words.proofs.NumberTests.{same_from_test, test_from_less, test_from_not_less}
use Rattle.wide_num.specs.RoomContents.{Contents, room_of, with_room}
use Rattle.sp_model.specs.declared.run.Run.{Run}
use Rattle.log_words.specs.Replies.{reply_of}
use Rattle.run_log.specs.Events.{last_taken, pair_in, present}
use Rattle.run_log.specs.declared.log.End.{End}
use Rattle.run_log.specs.declared.log.Source.TheVariants as source
use Rattle.stamped_read.specs.Readers.{IsReader, Reader, begins, begins_told, due, due_begun, emptied, ends, follows, follows_told, is_more, longer_part, mixed, next, part, read_told, reads, restarted, unfit, window_of, words_of}
use Rattle.stamped_read.specs.declared.read.Again.{Again}
use Rattle.stamped_read.specs.declared.read.Again.TheVariants.{Odd, Old, Torn}
use Rattle.stamped_read.specs.declared.read.Read.{Read}
use Rattle.stamped_read.specs.declared.read.Read.TheVariants as read
use Rattle.window_words.specs.declared.views.Call.TheVariants as call
use Rattle.drive_words.specs.Shown.{polling_of}
use Rattle.drive_words.specs.Steps.{decided, decided_by, goes_on, is_old, polled, polled_on, read_taken, taken, test_of}
use Rattle.drive_words.specs.Worlds.{HubAt, Polling}

-- what is polled next doesn't ask for the reading that has ended
module _ (run : Run) (first : ℤ) (spokes : ℕ) (hub : HubAt) (reading : Option Polling) (spent : Option ℕ) where
  abbrev hub_but : HubAt
  hub_but = record hub { reading = reading }

  decided_but : (k : ℕ) (test : Option End) → decided_by k hub_but spent test ≡ decided_by k hub spent test
  decided_but k (Some why) = refl
  decided_but k None = goes_but spent where
    goes_but : (spent : Option ℕ) → goes_on k hub_but spent ≡ goes_on k hub spent
    goes_but None = refl
    goes_but (Some s) = refl

  on_by : (t : Bool) → (if t then record hub_but { asks = hub.asks + 1; reading = None } else decided run first hub_but spent) ≡ (if t then record hub { asks = hub.asks + 1; reading = None } else decided run first hub spent)
  on_by true = refl
  on_by false = decided_but (present hub.events) (test_of run (present hub.events) (pair_in first hub.events))

  pub polled_but : polled_on run first spokes hub_but spent ≡ polled_on run first spokes hub spent
  polled_but = on_by (nat_lt (hub.asks + 1) spokes)

half_twice : (n : ℕ) → n % 2 ≡ 0 → n ≡ 2 * (n / 2)
half_twice n e = omega (arith, e)

some_left : (n : ℕ) → nat_eq n 0 ≡ false → 1 ≤ n
some_left n e = grind arith

-- why no reading begins, and whether the world passes the spoke over, by the same tests
abbrev Fits : Option Again → Bool → Type 0
Fits o old = ((o ≡ None) × (old ≡ false)) ⊎ ((a : Again) × (o ≡ Some a) × (old ≡ true))

fits_by : (a b : Again) (later : Option Again) (odd zero late : Bool) → zero ≡ true → Fits (if odd then Some a else (if zero then (if late then Some b else None) else later)) (if odd then true else late)
fits_by a b later true zero late e = inr (a, refl, refl)
fits_by a b later false true true e = inr (b, refl, refl)
fits_by a b later false true false e = inl (refl, refl)
fits_by a b later false false late e = absurd cc

module _ (run : Run) (first : ℤ) (spokes : ℕ) (hub : HubAt) (r r' : Reader) (n stamp : ℕ) (facts : IsReader r) (one : length r.parts ≡ 1) (room : room_of (part r 0) ≡ 3) (last : r.last ≡ last_taken hub.asks hub.events) (reading : hub.reading ≡ polling_of r) (stands : r' ≡ next (due r) r n) where
  first_part : r.rank ≡ 0
  first_part = let below = facts.below in omega (arith, below, one)

  none_more : is_more r ≡ false
  none_more = test_from_not_less (r.rank + 1) (length r.parts) (omega (arith, first_part, one))

  -- what the world's hub does, whatever comes of a search
  abbrev world : Option ℕ → HubAt
  world spent = polled run first spokes hub spent stamp hub.reading

  -- a spoke that is passed over, or whose reply is taken first
  pub record IsPassed : Type 0 where
    pub idle : r'.begun ≡ false
    pub leads : (spent : Option ℕ) → world spent ≡ polled_on run first spokes hub spent

  pub record IsRead (k : ℕ) : Type 0 where
    pub idle : r'.begun ≡ false
    pub stamped : stamp ≡ 2 * k
    pub leads : (spent : Option ℕ) → world spent ≡ polled_on run first spokes (record hub { events = taken first hub.events (source.Spoke hub.asks) k (reply_of run hub.asks k) }) spent

  abbrev pub Leads : Read → Type 0
  Leads read.Going = (spent : Option ℕ) → world spent ≡ record hub { reading = polling_of r' }
  Leads (read.Reading k) = IsRead k
  Leads (read.Again again) = IsPassed

  abbrev begun_at : Reader → Polling
  begun_at s = record { first = s.first; words = length (words_of s 0) }

  shown_begun : (s : Reader) → s.begun ≡ true → polling_of s ≡ Some (begun_at s)
  shown_begun s e = ap (λ t. if t then Some (begun_at s) else None) e

  -- THE FIRST STAMP

  module _ (off : r.begun ≡ false) (at : n ≡ stamp) where
    none_read : hub.reading ≡ None
    none_read = reading ∙ ap (λ t. if t then Some (begun_at r) else None) off

    old_is : is_old stamp (last_taken hub.asks hub.events) ≡ is_old n r.last
    old_is = λ j. is_old (sym at j) (sym last j)

    begins_world : (spent : Option ℕ) (t : Bool) → is_old n r.last ≡ t → world spent ≡ (if t then polled_on run first spokes hub spent else record hub { reading = Some record { first = stamp; words = 0 } })
    begins_world spent t e = ap (polled run first spokes hub spent stamp) none_read
        ∙ ap (λ t. if t then polled_on run first spokes hub spent else record hub { reading = Some record { first = stamp; words = 0 } }) (old_is ∙ e)

    empty : length (words_of (begins None r n) 0) ≡ 0
    empty = ap (λ (m : ℕ). length (words_of (begins None r n) m)) (sym first_part)
        ∙ ap (λ (c : Contents ℕ). length c.items) (get_or-set_same r.parts r.rank (emptied (part r r.rank)) (with_room 0) facts.below)

    begun_by : Fits (unfit r n) (is_old n r.last) → r' ≡ begins (unfit r n) r n → Leads (begins_told (unfit r n))
    begun_by (inl none) to =
        let new : r' ≡ begins None r n = to ∙ ap (λ o. begins o r n) none.0 in
        subst (λ o. Leads (begins_told o)) (sym none.0)
        (λ spent. begins_world spent false none.1
        ∙ λ j. record hub { reading = ((λ i. Some record { first = sym at i; words = sym empty i }) ∙ (sym (shown_begun (begins None r n) refl) ∙ ap polling_of (sym new))) j })
    begun_by (inr some) to =
        let new : r' ≡ restarted r = to ∙ ap (λ o. begins o r n) some.1 in
        subst (λ o. Leads (begins_told o)) (sym some.1)
        (record { idle = ap (λ (s : Reader). s.begun) new; leads = λ spent. begins_world spent true some.2 })

    fits : Fits (unfit r n) (is_old n r.last)
    fits = fits_by (Odd r.rank n) (Old n r.last) (mixed r n) (nat_eq (n % 2) 1) (nat_eq r.rank 0) (nat_le (n / 2) r.last) (ap (λ m. nat_eq m 0) first_part)

  -- A READING THAT IS BEGUN

  module _ (on : r.begun ≡ true) where
    read_here : hub.reading ≡ Some (begun_at r)
    read_here = reading ∙ shown_begun r on

    begun_world : (spent : Option ℕ) → world spent ≡ (if nat_lt (length (words_of r 0)) 3 then record hub { reading = Some record (begun_at r) { words = length (words_of r 0) + 1 } } else polled_on run first spokes (read_taken run first hub r.first stamp) spent)
    begun_world spent = ap (polled run first spokes hub spent stamp) read_here

    words_by : (part r r.rank).spare ≡ (part r 0).spare
    words_by = ap (λ m. (part r m).spare) first_part

    -- a word of it
    reads_by : nat_eq (part r r.rank).spare 0 ≡ false → r' ≡ reads r n → Leads read.Going
    reads_by left to =
        let some = some_left (part r r.rank).spare left in
        let same = words_by in
        let few : nat_lt (length (words_of r 0)) 3 ≡ true = test_from_less (length (words_of r 0)) 3 (omega (arith, some, same, room)) in
        let longer : length (words_of (reads r n) 0) ≡ length (words_of r 0) + 1
        = ap (λ (m : ℕ). length (words_of (reads r n) m)) (sym first_part)
        ∙ (ap (λ (c : Contents ℕ). length c.items) (get_or-set_same r.parts r.rank (longer_part (part r r.rank) n) (with_room 0) facts.below)
        ∙ (length-append (words_of r r.rank) (n ∷ []) ∙ ap (λ m. length (words_of r m) + 1) first_part)) in
        λ spent. begun_world spent
        ∙ (ap (λ t. if t then record hub { reading = Some record (begun_at r) { words = length (words_of r 0) + 1 } } else polled_on run first spokes (read_taken run first hub r.first stamp) spent) few
        ∙ λ j. record hub { reading = ((λ i. Some record { first = r.first; words = sym longer i }) ∙ (sym (shown_begun (reads r n) on) ∙ ap polling_of (sym to))) j })

    -- its end
    module _ (full : (part r r.rank).spare ≡ 0) (at : n ≡ stamp) where
      ended_world : (spent : Option ℕ) (t : Bool) → nat_eq n r.first ≡ t → world spent ≡ polled_on run first spokes (if t then record hub { events = taken first hub.events (source.Spoke hub.asks) (r.first / 2) (reply_of run hub.asks (r.first / 2)) } else hub) spent
      ended_world spent t e =
          let same = words_by in
          let whole : nat_lt (length (words_of r 0)) 3 ≡ false = test_from_not_less (length (words_of r 0)) 3 (omega (arith, full, same, room)) in
          begun_world spent
          ∙ (ap (λ t. if t then record hub { reading = Some record (begun_at r) { words = length (words_of r 0) + 1 } } else polled_on run first spokes (read_taken run first hub r.first stamp) spent) whole
          ∙ ap (λ t. polled_on run first spokes (if t then record hub { events = taken first hub.events (source.Spoke hub.asks) (r.first / 2) (reply_of run hub.asks (r.first / 2)) } else hub) spent) (ap (λ m. nat_eq m r.first) (sym at) ∙ e))

      whole_by : nat_eq n r.first ≡ true → (more : Bool) → more ≡ false → r' ≡ follows more r → Leads (follows_told more r)
      whole_by e true none to = absurd cc
      whole_by e false none to = record {
        idle = ap (λ (s : Reader). s.begun) to;
        stamped = sym at ∙ (same_from_test n r.first e ∙ half_twice r.first (facts.begins_newer on).even);
        leads = λ spent. ended_world spent true e;
      }

      ends_by : (t : Bool) → nat_eq n r.first ≡ t → r' ≡ (if t then follows (is_more r) r else restarted r) → Leads (if t then follows_told (is_more r) r else read.Again (Torn r.rank r.first n))
      ends_by true e to = whole_by e (is_more r) none_more to
      ends_by false e to = record { idle = ap (λ (s : Reader). s.begun) to; leads = λ spent. ended_world spent false e }

    full_by : (full : Bool) → nat_eq (part r r.rank).spare 0 ≡ full → ((part r r.rank).spare ≡ 0 → n ≡ stamp) → r' ≡ next (due_begun full (window_of r)) r n → Leads (read_told (due_begun full (window_of r)) r n)
    full_by true e at to = let none = same_from_test (part r r.rank).spare 0 e in ends_by none (at none) (nat_eq n r.first) refl to
    full_by false e at to = reads_by e to

  due_by : (begun : Bool) → r.begun ≡ begun → (r.begun ≡ false → n ≡ stamp) → (r.begun ≡ true → (part r r.rank).spare ≡ 0 → n ≡ stamp) → r' ≡ next (if begun then due_begun (nat_eq (part r r.rank).spare 0) (window_of r) else call.Begin (window_of r)) r n
      → Leads (read_told (if begun then due_begun (nat_eq (part r r.rank).spare 0) (window_of r) else call.Begin (window_of r)) r n)
  due_by true e begins ends to = full_by e (nat_eq (part r r.rank).spare 0) refl (ends e) to
  due_by false e begins ends to = begun_by e (begins e) (fits e (begins e)) to

  pub poll_leads : (told : Read) → told ≡ read_told (due r) r n → (r.begun ≡ false → n ≡ stamp) → (r.begun ≡ true → (part r r.rank).spare ≡ 0 → n ≡ stamp) → Leads told
  poll_leads told tells begins ends = subst Leads (sym tells) (due_by r.begun refl begins ends stands)
