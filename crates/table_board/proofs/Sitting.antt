-- What a seat may do at its table, and what it keeps, call by call.
use Rattle.std.proofs.Common.{◌≡◌, ℕ, ◌+◌, ◌-◌, ◌*◌, ◌/◌, ◌<◌, ◌≤◌, ◌^◌, Bool, true, false, if◌then◌else◌, List, [], ◌∷◌, ◌++◌, length, get_or, sym, refl, ap, ◌∙◌, subst, arith}
use Rattle.std.specs.Prelude.{All, Option, Some, None}
use Rattle.std.specs.Option.{unwrap_or, option_or}
use Rattle.std.proofs.lemmas.List.Elements.{All-append, All-cons, All-nil, All-head, All-tail}
use mathlib.Core.Option.{none}
use Rattle.atomic_table.specs.Table.{Me, step, Allows, Splits, Joins}
use Rattle.atomic_table.specs.Seated.{TableId}
use Rattle.base_words.proofs.FirstAnswers.{no_some, same_some}
use Rattle.window_words.specs.Views.{one, OwnsOne, pending, begun, entry_of, one_more, longer, close_first, accept, after, ended, is_whole, with_reading, with_accepted}
use Rattle.window_words.specs.Conditions.{AcceptedBelow, IsNotAhead, OwnStamp, MayOpen, IsNextWord, IsAllPut, ReadsOn, HasReadAll, IsEntryWhole}
use Rattle.window_words.specs.Rule.{start, Windows}
use Rattle.window_words.specs.Steps.{Gains, opens, puts, closes, begins, reads, ends, stops, asks}
use Rattle.window_words.specs.Seating.{TellsOwn, one_more_dealt, united, deals, dealt_out, joined, leaders_of, nobody}
use Rattle.window_words.specs.declared.views.View.{View}
use Rattle.window_words.specs.declared.views.Known.{Known}
use Rattle.window_words.specs.declared.views.Owned.{Owned}
use Rattle.window_words.specs.declared.views.Pending.{Pending}
use Rattle.window_words.specs.declared.views.Reading.{Reading}
use Rattle.window_words.specs.declared.views.Call.{Call}
use Rattle.window_words.specs.declared.views.Call.TheVariants.{Open, Put, Close, Begin, Read, End, Stop, Stopped}
use Rattle.window_words.proofs.WindowPlaces.{start_above_zero, lies_inside}
use Rattle.window_words.proofs.Writers.{opening_keeps, putting_keeps, closing_keeps}
use Rattle.window_words.proofs.Readers.{beginning_keeps, ending_keeps, owned_stays, reading_keeps}
use Rattle.window_words.proofs.Stopping.{stopping_keeps, asking_keeps}
use Rattle.window_words.proofs.Sharing.{dealing_keeps, joining_keeps}
use Rattle.window_words.proofs.Listed.{length_push}
use Rattle.table_board.specs.Tables.{SeatValue, seated}
use Rattle.table_board.specs.Seats.{first_owned, Sits, Leaves}

-- closing an entry changes no window
closed_first : (k : ℕ) (l : List Owned) → first_owned (close_first k l) ≡ first_owned l
closed_first k [] = refl
closed_first k (a ∷ others) = refl

closed_below : (n k : ℕ) (l : List Owned) → All (λ a. a.window < n) l → All (λ a. a.window < n) (close_first k l)
closed_below n k [] all = all
closed_below n k (a ∷ others) all = All-cons (λ b. b.window < n) record { window = a.window; closed = a.closed ++ k ∷ [] } others (All-head (λ b. b.window < n) a others all) (All-tail (λ b. b.window < n) a others all)

first_of_both : (l m : List Owned) → option_or (first_owned l) (first_owned m) ≡ first_owned (l ++ m)
first_of_both [] m = refl
first_of_both (a ∷ others) m = refl

-- the end of a reading changes neither windows nor the open entry, and nothing is read after it

ended_pending : (leaders n : ℕ) (v : View) (o : Option Reading) → (ended leaders n v o).pending ≡ v.pending
ended_pending leaders n v None = refl
ended_pending leaders n v (Some r) = by_test (is_whole r.first n)
  where
    by_test : (b : Bool) → (if b then with_accepted v (accept leaders r.window (n / 2) v.accepted) else with_reading v None).pending ≡ v.pending
    by_test true = refl
    by_test false = refl

ended_reading : (leaders n : ℕ) (v : View) (r : Reading) → (ended leaders n v (Some r)).reading ≡ None
ended_reading leaders n v r = by_test (is_whole r.first n)
  where
    by_test : (b : Bool) → (if b then with_accepted v (accept leaders r.window (n / 2) v.accepted) else with_reading v None).reading ≡ None
    by_test true = refl
    by_test false = refl

-- the clauses of a call: what it leaves, the same meaning, what the seat knows
abbrev pub Told : {M : Type 0} → (M → ℕ) → SeatValue M → Call → ℕ → SeatValue M → Type 0
Told Ld old call n new = Leaves Ld old call n new × (new.1 ≡ old.1) × (new.2 ≡ after (Ld old.1) call n old.2)

module _ {M : Type 0} (E : M → ℕ → ℕ → List ℕ) (W : M → ℕ → ℕ) (C Ld L : M → ℕ) (fits : (m : M) (w k : ℕ) → w < C m → 1 ≤ k → k ≤ L m → length (E m w k) ≡ W m w) (small : (m : M) → L m < 2 ^ 62)
    (table : TableId) (key : M) (id : TableId) (seat : ℕ) (me : Me ℕ (Known M)) (of : M) (starts : List ℕ) (window : Option ℕ) (entry put read : ℕ) (sits : Sits W C L table key id me of starts window entry put read)
    (old : SeatValue M) (e : (id, of, me.0.view) ≡ old) where
  -- what a step asks of a seat: it is of the table, the word is there, and the rule allows it
  abbrev Steps : ℕ → (ℕ → ℕ) → (ℕ → Me ℕ (Known M) → Type 0) → Type 0
  Steps p f tells = (id ≡ table) × (p < table.words) × Allows (Windows (E key) (W key) (C key) (Ld key) (L key) key) table.slots seat me p f tells

  abbrev After : TableId → Me ℕ (Known M) → Option ℕ → ℕ → ℕ → ℕ → Type 0
  After id' me' window' entry' put' read' = Sits W C L table key id' me' of starts window' entry' put' read'

  abbrev with_view : View → Me ℕ (Known M)
  with_view v = (record { of = me.0.of; view = v }, me.1)

  -- a fact on the caller's seat is one on the fields, and the other way round
  inwards : (P : M → View → Type 0) → P old.1 old.2 → P of me.0.view
  inwards P h = subst (λ (z : SeatValue M). P z.1 z.2) (sym e) h

  outwards : (P : M → View → Type 0) → P of me.0.view → P old.1 old.2
  outwards P h = subst (λ (z : SeatValue M). P z.1 z.2) e h

  steps : (p : ℕ) (f : ℕ → ℕ) (tells : ℕ → Me ℕ (Known M) → Type 0) → p < table.words → Allows (Windows (E of) (W of) (C of) (Ld of) (L of) of) table.slots seat me p f tells → Steps p f tells
  steps p f tells low allows = (sits.same_table, low, subst (λ (m : M). Allows (Windows (E m) (W m) (C m) (Ld m) (L m) m) table.slots seat me p f tells) (sym sits.same_key) allows)

  told : (call : Call) (n : ℕ) (id' : TableId) (me' : Me ℕ (Known M)) → id' ≡ id → me' ≡ with_view (after (Ld of) call n me.0.view) → TellsOwn (Ld of) call n me.0.view → Told Ld old call n (id', of, me'.0.view)
  told call n id' me' same gains tells = subst (λ (z : SeatValue M). Told Ld z call n (id', of, me'.0.view)) e (((λ i. (same i, of, (gains i).0.view)), tells), refl, ap (λ (m : Me ℕ (Known M)). m.0.view) gains)

  sits_with : (v : View) (id' : TableId) (me' : Me ℕ (Known M)) (window' : Option ℕ) (entry' put' read' : ℕ) → id' ≡ id → me' ≡ with_view v → window' ≡ first_owned v.owned → All (λ a. a.window < C of) v.owned
      → ((k c : ℕ) → v.pending ≡ Some (pending k c) → (entry' ≡ k) × (put' ≡ c) × (k ≤ L of)) → ((q : Reading) → v.reading ≡ Some q → (read' ≡ length q.words) × (q.window < C of)) → After id' me' window' entry' put' read'
  sits_with v id' me' window' entry' put' read' same gains own below writing reading = subst (λ (m : Me ℕ (Known M)). After id' m window' entry' put' read') (sym gains) record {
    same_table = same ∙ sits.same_table;
    same_key = sits.same_key;
    same_of = sits.same_of;
    holds_none = sits.holds_none;
    laid = sits.laid;
    own = own;
    below = below;
    writing = writing;
    reading = reading;
  }

  -- the seat's one window
  own_window : (w : ℕ) (closed : List ℕ) (o : ℕ) → OwnsOne me.0.view w closed → o ≡ unwrap_or window 0 → (o ≡ w) × (w < C of)
  own_window w closed o owned is = (
    is ∙ ap (λ (z : Option ℕ). unwrap_or z 0) (sits.own ∙ ap first_owned owned),
    All-head (λ (a : Owned). a.window < C of) record { window = w; closed = closed } [] (subst (All (λ (a : Owned). a.window < C of)) owned sits.below),
  )

  -- where a window begins
  start_at : (w o p : ℕ) → o ≡ w → w < C of → p ≡ get_or starts o 0 → p ≡ start (W of) w
  start_at w o p same low place = place ∙ (ap (λ (z : ℕ). get_or starts z 0) same ∙ sits.laid.0.1 w low)

  in_table : (w x p : ℕ) → w < C of → x ≤ W of w → p ≡ start (W of) w + x → p < table.words
  in_table w x p low fit place = let all = sits.laid.0.2 in let inside = lies_inside (W of) w (C of) x low fit in omega arith

  index_below : (o : ℕ) → o < C of → o < length starts
  index_below o low = let many = sits.laid.0.0 in omega arith

  -- OPEN
  open_may : (k : ℕ) → MayOpen (L old.1) old.2 k → MayOpen (L of) me.0.view k
  open_may k m = inwards (λ o v. MayOpen (L o) v k) m

  pub open_index : (k o : ℕ) → MayOpen (L old.1) old.2 k → o ≡ unwrap_or window 0 → o < length starts
  open_index k o m is = let m' = open_may k m in let w = own_window m'.0 m'.1 o m'.2 is in let one = w.0 in let two = w.1 in index_below o (omega arith)

  pub open_fits : (k : ℕ) → MayOpen (L old.1) old.2 k → (1 ≤ k) × (2 * k < 2 ^ 64)
  open_fits k m = let m' = open_may k m in let pos = m'.4 in let top = m'.5 in let few = small of in (pos, omega arith)

  pub open_steps : (k o p : ℕ) → MayOpen (L old.1) old.2 k → IsNotAhead (Ld old.1) old.2 k → o ≡ unwrap_or window 0 → p ≡ get_or starts o 0
      → Steps p (λ _. 2 * k - 1) (λ _ m. opens (step table.slots p (2 * k - 1) 0 none) me (2 * k - 1) m)
  open_steps k o p m led is place = let m' = open_may k m in let w = own_window m'.0 m'.1 o m'.2 is in let at = start_at m'.0 o p w.0 w.1 place in let pos = m'.4 in
      steps p (λ _. 2 * k - 1) (λ _ m. opens (step table.slots p (2 * k - 1) 0 none) me (2 * k - 1) m) (in_table m'.0 0 p w.1 (omega arith) (omega arith))
      (opening_keeps (E of) (W of) (C of) (Ld of) (L of) of table.slots seat m'.0 k (2 * k - 1) p m'.1 me m'.2 m'.3 m'.4 m'.5 m'.6 (λ past. inwards (λ o v. IsNotAhead (Ld o) v k) led m'.0 m'.1 m'.2 past) (omega arith) at)

  opened : (k p : ℕ) (me' : Me ℕ (Known M)) → 1 ≤ k → opens (step table.slots p (2 * k - 1) 0 none) me (2 * k - 1) me' → Gains 0 (Open k) 0 me me'
  opened k p me' pos gains = let half : (2 * k - 1 + 1) / 2 ≡ k = omega arith in subst (λ (z : ℕ). Gains 0 (Open z) 0 me me') half gains

  pub open_keeps : (k p : ℕ) (id' : TableId) (me' : Me ℕ (Known M)) → MayOpen (L old.1) old.2 k → id' ≡ id → opens (step table.slots p (2 * k - 1) 0 none) me (2 * k - 1) me' → After id' me' window k 0 read
  open_keeps k p id' me' m same gains = let m' = open_may k m in sits_with (after 0 (Open k) 0 me.0.view) id' me' window k 0 read same (opened k p me' m'.4 gains) sits.own sits.below
      (λ k' c' is. let one : pending k 0 ≡ pending k' c' = same_some is in let top = m'.5 in let same_k : k ≡ k' = ap (λ (z : Pending). z.entry) one in (same_k, ap (λ (z : Pending). z.put) one, omega arith)) sits.reading

  pub open_tells : (k p : ℕ) (id' : TableId) (me' : Me ℕ (Known M)) → MayOpen (L old.1) old.2 k → id' ≡ id → opens (step table.slots p (2 * k - 1) 0 none) me (2 * k - 1) me' → Told Ld old (Open k) 0 (id', of, me'.0.view)
  open_tells k p id' me' m same gains = told (Open k) 0 id' me' same (opened k p me' (open_may k m).4 gains) tt

  -- PUT
  put_may : (n : ℕ) → IsNextWord E W old.1 old.2 n → IsNextWord E W of me.0.view n
  put_may n m = inwards (λ o v. IsNextWord E W o v n) m

  pub put_index : (n o : ℕ) → IsNextWord E W old.1 old.2 n → o ≡ unwrap_or window 0 → o < length starts
  put_index n o m is = let m' = put_may n m in let w = own_window m'.0 m'.1 o m'.3 is in let one = w.0 in let two = w.1 in index_below o (omega arith)

  put_place : (n o q p : ℕ) → IsNextWord E W old.1 old.2 n → o ≡ unwrap_or window 0 → q ≡ get_or starts o 0 → p ≡ q + 1 + put → (m' : IsNextWord E W of me.0.view n) × (p ≡ start (W of) m'.0 + 1 + m'.2.put) × (p < table.words) × (put < W of m'.0)
  put_place n o q p m is place sum = let m' = put_may n m in let w = own_window m'.0 m'.1 o m'.3 is in let at = start_at m'.0 o q w.0 w.1 place in
      let count : put ≡ m'.2.put = (sits.writing m'.2.entry m'.2.put m'.4).1 in let more = m'.5 in let here : p ≡ start (W of) m'.0 + (1 + m'.2.put) = omega arith in
      (m', omega arith, in_table m'.0 (1 + m'.2.put) p w.1 (omega arith) here, omega arith)

  pub put_fits : (n o q p : ℕ) → IsNextWord E W old.1 old.2 n → o ≡ unwrap_or window 0 → q ≡ get_or starts o 0 → p ≡ q + 1 + put → (p < table.words) × (p < 2 ^ 64) × (put + 1 < 2 ^ 64)
  put_fits n o q p m is place sum = let t = put_place n o q p m is place sum in let low = t.2 in let few = sits.laid.1 in (low, omega arith, omega arith)

  pub put_steps : (n o q p : ℕ) → IsNextWord E W old.1 old.2 n → o ≡ unwrap_or window 0 → q ≡ get_or starts o 0 → p ≡ q + 1 + put → Steps p (λ _. n) (λ _ m. puts (step table.slots p n 0 none) me n m)
  put_steps n o q p m is place sum = let t = put_place n o q p m is place sum in let m' = t.0 in
      steps p (λ _. n) (λ _ m. puts (step table.slots p n 0 none) me n m) t.2
      (putting_keeps (E of) (W of) (C of) (Ld of) (L of) of table.slots seat m'.0 m'.2.entry m'.2.put n p m'.1 me m'.3 m'.4 m'.5 m'.6 t.1)

  pub put_keeps : (n p : ℕ) (id' : TableId) (me' : Me ℕ (Known M)) → IsNextWord E W old.1 old.2 n → id' ≡ id → puts (step table.slots p n 0 none) me n me' → After id' me' window entry (put + 1) read
  put_keeps n p id' me' m same gains = let m' = put_may n m in let known = sits.writing m'.2.entry m'.2.put m'.4 in sits_with (after 0 (Put n) 0 me.0.view) id' me' window entry (put + 1) read same gains sits.own sits.below
      (λ k' c' is. let one : pending m'.2.entry (m'.2.put + 1) ≡ pending k' c' = same_some (sym (ap one_more m'.4) ∙ is) in let same_k : m'.2.entry ≡ k' = ap (λ (z : Pending). z.entry) one in let same_c : m'.2.put + 1 ≡ c' = ap (λ (z : Pending). z.put) one in
      let a = known.0 in let b = known.1 in let top = known.2 in (omega arith, omega arith, omega arith)) sits.reading

  pub put_tells : (n p : ℕ) (id' : TableId) (me' : Me ℕ (Known M)) → id' ≡ id → puts (step table.slots p n 0 none) me n me' → Told Ld old (Put n) 0 (id', of, me'.0.view)
  put_tells n p id' me' same gains = told (Put n) 0 id' me' same gains tt

  -- CLOSE
  close_may : IsAllPut (W old.1) old.2 → IsAllPut (W of) me.0.view
  close_may m = inwards (λ o v. IsAllPut (W o) v) m

  pub close_index : (o : ℕ) → IsAllPut (W old.1) old.2 → o ≡ unwrap_or window 0 → o < length starts
  close_index o m is = let m' = close_may m in let w = own_window m'.0 m'.1 o m'.3 is in let one = w.0 in let two = w.1 in index_below o (omega arith)

  pub close_fits : IsAllPut (W old.1) old.2 → 2 * entry < 2 ^ 64
  close_fits m = let m' = close_may m in let known = sits.writing m'.2.entry m'.2.put m'.4 in let a = known.0 in let top = known.2 in let few = small of in omega arith

  pub close_steps : (o p : ℕ) → IsAllPut (W old.1) old.2 → o ≡ unwrap_or window 0 → p ≡ get_or starts o 0 → Steps p (λ _. 2 * entry) (λ _ m. closes (step table.slots p (2 * entry) 0 none) me (2 * entry) m)
  close_steps o p m is place = let m' = close_may m in let w = own_window m'.0 m'.1 o m'.3 is in let at = start_at m'.0 o p w.0 w.1 place in let known = sits.writing m'.2.entry m'.2.put m'.4 in let a = known.0 in
      steps p (λ _. 2 * entry) (λ _ m. closes (step table.slots p (2 * entry) 0 none) me (2 * entry) m) (in_table m'.0 0 p w.1 (omega arith) (omega arith))
      (closing_keeps (E of) (W of) (C of) (Ld of) (L of) of table.slots seat m'.0 m'.2.entry m'.2.put (2 * entry) p m'.1 me m'.3 m'.4 m'.5 (omega arith) at)

  pub close_keeps : (p : ℕ) (id' : TableId) (me' : Me ℕ (Known M)) → id' ≡ id → closes (step table.slots p (2 * entry) 0 none) me (2 * entry) me' → After id' me' window entry put read
  close_keeps p id' me' same gains = let k : ℕ = entry_of me.0.view.pending in sits_with (after 0 Close 0 me.0.view) id' me' window entry put read same gains
      (sits.own ∙ sym (closed_first k me.0.view.owned)) (closed_below (C of) k me.0.view.owned sits.below) (λ k' c' is. no_some (pending k' c') is) sits.reading

  pub close_tells : (p : ℕ) (id' : TableId) (me' : Me ℕ (Known M)) → id' ≡ id → closes (step table.slots p (2 * entry) 0 none) me (2 * entry) me' → Told Ld old Close 0 (id', of, me'.0.view)
  close_tells p id' me' same gains = told Close 0 id' me' same gains tt

  -- BEGIN
  abbrev Begins : ℕ → ℕ → Me ℕ (Known M) → Type 0
  Begins p n me' = begins W (step table.slots p 0 0 none) me n me'

  begin_low : (w : ℕ) → w < C old.1 → w < C of
  begin_low w low = inwards (λ o v. w < C o) low

  pub begin_index : (w : ℕ) → w < C old.1 → w < length starts
  begin_index w low = index_below w (begin_low w low)

  begin_at : (w p : ℕ) → w < C old.1 → p ≡ get_or starts w 0 → p ≡ start (W of) w
  begin_at w p low place = start_at w w p refl (begin_low w low) place

  pub begin_steps : (w p : ℕ) → w < C old.1 → p ≡ get_or starts w 0 → Steps p (λ n. n) (Begins p)
  begin_steps w p low place = let at = begin_at w p low place in let l = begin_low w low in
      steps p (λ n. n) (Begins p) (in_table w 0 p l (omega arith) (omega arith)) (beginning_keeps E W C Ld L of (fits of) table.slots seat p w me at l)

  begin_gains : (w p n : ℕ) (me' : Me ℕ (Known M)) → w < C old.1 → p ≡ get_or starts w 0 → Begins p n me' → Gains 0 (Begin w) n me me' × AcceptedBelow me.0.view w n × OwnStamp me.0.view w n × TellsOwn (Ld of) (Begin w) n me.0.view
  begin_gains w p n me' low place gains = gains of w sits.same_of (begin_at w p low place)

  pub begin_keeps : (w p n : ℕ) (id' : TableId) (me' : Me ℕ (Known M)) → w < C old.1 → p ≡ get_or starts w 0 → id' ≡ id → Begins p n me' → After id' me' window entry put 0
  begin_keeps w p n id' me' low place same gains = let l = begin_low w low in sits_with (after 0 (Begin w) n me.0.view) id' me' window entry put 0 same (begin_gains w p n me' low place gains).0 sits.own sits.below sits.writing
      (λ q is. let one : begun w n ≡ q = same_some is in (ap (λ (z : Reading). length z.words) one, subst (λ (z : Reading). z.window < C of) one l))

  pub begin_tells : (w p n : ℕ) (id' : TableId) (me' : Me ℕ (Known M)) → w < C old.1 → p ≡ get_or starts w 0 → id' ≡ id → Begins p n me' → Told Ld old (Begin w) n (id', of, me'.0.view) × AcceptedBelow old.2 w n × OwnStamp old.2 w n
  begin_tells w p n id' me' low place same gains = let t = begin_gains w p n me' low place gains in
      (told (Begin w) n id' me' same t.0 t.3, outwards (λ o v. AcceptedBelow v w n) t.1, outwards (λ o v. OwnStamp v w n) t.2)

  -- READ
  read_may : (w : ℕ) → ReadsOn (W old.1) old.2 w → ReadsOn (W of) me.0.view w
  read_may w m = inwards (λ o v. ReadsOn (W o) v w) m

  pub read_index : (w : ℕ) → ReadsOn (W old.1) old.2 w → w < length starts
  read_index w m = let m' = read_may w m in let low = (sits.reading m'.0 m'.1).1 in let same = m'.2 in index_below w (omega arith)

  read_place : (w q p : ℕ) → ReadsOn (W old.1) old.2 w → q ≡ get_or starts w 0 → p ≡ q + 1 + read → (m' : ReadsOn (W of) me.0.view w) × (p ≡ start (W of) m'.0.window + 1 + length m'.0.words) × (p < table.words) × (length m'.0.words < W of m'.0.window)
  read_place w q p m place sum = let m' = read_may w m in let known = sits.reading m'.0 m'.1 in let low = known.1 in let count = known.0 in let same = m'.2 in
      let at = start_at m'.0.window w q (sym same) low place in let more : length m'.0.words < W of m'.0.window = subst (λ (z : ℕ). length m'.0.words < W of z) (sym same) m'.3 in
      let here : p ≡ start (W of) m'.0.window + (1 + length m'.0.words) = omega arith in
      (m', omega arith, in_table m'.0.window (1 + length m'.0.words) p low (omega arith) here, more)

  pub read_fits : (w q p : ℕ) → ReadsOn (W old.1) old.2 w → q ≡ get_or starts w 0 → p ≡ q + 1 + read → (p < table.words) × (p < 2 ^ 64) × (read + 1 < 2 ^ 64)
  read_fits w q p m place sum = let t = read_place w q p m place sum in let low = t.2 in let few = sits.laid.1 in (low, omega arith, omega arith)

  pub read_steps : (w q p : ℕ) → ReadsOn (W old.1) old.2 w → q ≡ get_or starts w 0 → p ≡ q + 1 + read → Steps p (λ n. n) (λ n m. reads (step table.slots p 0 0 none) me n m)
  read_steps w q p m place sum = let t = read_place w q p m place sum in let m' = t.0 in
      steps p (λ n. n) (λ n m. reads (step table.slots p 0 0 none) me n m) t.2 (reading_keeps E W C Ld L of (fits of) table.slots seat p me m'.0 m'.1 t.3 t.1)

  pub read_keeps : (w p n : ℕ) (id' : TableId) (me' : Me ℕ (Known M)) → ReadsOn (W old.1) old.2 w → id' ≡ id → reads (step table.slots p 0 0 none) me n me' → After id' me' window entry put (read + 1)
  read_keeps w p n id' me' m same gains = let m' = read_may w m in let known = sits.reading m'.0 m'.1 in let count = known.0 in let grown = length_push m'.0.words n in
      let r : Reading = record { window = m'.0.window; first = m'.0.first; words = m'.0.words ++ n ∷ [] } in
      sits_with (after 0 (Read 0) n me.0.view) id' me' window entry put (read + 1) same gains sits.own sits.below sits.writing
      (λ q is. let one : r ≡ q = same_some (sym (ap (longer n) m'.1) ∙ is) in (subst (λ (z : Reading). read + 1 ≡ length z.words) one (omega arith), subst (λ (z : Reading). z.window < C of) one known.1))

  pub read_tells : (w p n : ℕ) (id' : TableId) (me' : Me ℕ (Known M)) → id' ≡ id → reads (step table.slots p 0 0 none) me n me' → Told Ld old (Read w) n (id', of, me'.0.view)
  read_tells w p n id' me' same gains = told (Read w) n id' me' same gains tt

  -- END
  abbrev Ends : ℕ → ℕ → Me ℕ (Known M) → Type 0
  Ends p n me' = ends E W Ld L (step table.slots p 0 0 none) me n me'

  end_may : (w : ℕ) → HasReadAll (W old.1) old.2 w → HasReadAll (W of) me.0.view w
  end_may w m = inwards (λ o v. HasReadAll (W o) v w) m

  pub end_index : (w : ℕ) → HasReadAll (W old.1) old.2 w → w < length starts
  end_index w m = let m' = end_may w m in let low = (sits.reading m'.0 m'.1).1 in let same = m'.2 in index_below w (omega arith)

  pub end_steps : (w p : ℕ) → HasReadAll (W old.1) old.2 w → p ≡ get_or starts w 0 → Steps p (λ n. n) (Ends p)
  end_steps w p m place = let m' = end_may w m in let low = (sits.reading m'.0 m'.1).1 in let at = start_at m'.0.window w p (sym m'.2) low place in
      steps p (λ n. n) (Ends p) (in_table m'.0.window 0 p low (omega arith) (omega arith)) (ending_keeps E W C Ld L of (fits of) table.slots seat p me m'.0 m'.1 at)

  pub end_keeps : (w p n : ℕ) (id' : TableId) (me' : Me ℕ (Known M)) → HasReadAll (W old.1) old.2 w → id' ≡ id → Ends p n me' → After id' me' window entry put read
  end_keeps w p n id' me' m same gains = let m' = end_may w m in let t = gains of m'.0 sits.same_of m'.1 in let v : View = after (Ld of) (End m'.0.window) n me.0.view in
      let owned : v.owned ≡ me.0.view.owned = owned_stays (Ld of) n me.0.view me.0.view.reading in
      let free : v.pending ≡ me.0.view.pending = ended_pending (Ld of) n me.0.view me.0.view.reading in
      let over : v.reading ≡ None = subst (λ (o : Option Reading). (ended (Ld of) n me.0.view o).reading ≡ None) (sym m'.1) (ended_reading (Ld of) n me.0.view m'.0) in
      sits_with v id' me' window entry put read same t.0 (sits.own ∙ sym (ap first_owned owned)) (subst (All (λ (a : Owned). a.window < C of)) (sym owned) sits.below)
      (λ k c is. sits.writing k c (sym free ∙ is)) (λ q is. no_some q (sym over ∙ is))

  pub end_tells : (w p n : ℕ) (id' : TableId) (me' : Me ℕ (Known M)) → HasReadAll (W old.1) old.2 w → id' ≡ id → Ends p n me' → Told Ld old (End w) n (id', of, me'.0.view) × IsEntryWhole E L old.1 old.2 w n
  end_tells w p n id' me' m same gains = let m' = end_may w m in let t = gains of m'.0 sits.same_of m'.1 in
      let whole : IsEntryWhole E L of me.0.view w n = λ r k is pos first last. subst (λ (z : Reading). z.first ≡ 2 * k → n ≡ z.first → (k ≤ L of) × (z.words ≡ E of w k)) (same_some (sym m'.1 ∙ is))
      (λ first last. let h = t.1 k pos first last in (h.0, subst (λ (z : ℕ). m'.0.words ≡ E of z k) m'.2 (h.1 (m'.3 ∙ ap (W of) (sym m'.2))))) first last in (
        told (End w) n id' me' same t.0 (subst (λ (z : ℕ). TellsOwn (Ld of) (End z) n me.0.view) m'.2 t.2),
        outwards (λ o v. IsEntryWhole E L o v w n) whole,
      )

  -- STOP
  zero_inside : 0 < table.words
  zero_inside = let all = sits.laid.0.2 in let first = start_above_zero (W of) (C of) in omega arith

  pub stop_steps : (last : ℕ) → old.2.hub ≡ true → Steps 0 (λ _. last) (λ _ m. stops (step table.slots 0 last 0 none) me last m)
  stop_steps last hub = steps 0 (λ _. last) (λ _ m. stops (step table.slots 0 last 0 none) me last m) zero_inside
      (stopping_keeps (E of) (W of) (C of) (Ld of) (L of) of table.slots seat last 0 me (inwards (λ o v. v.hub ≡ true) hub) refl)

  pub stop_keeps : (last : ℕ) (id' : TableId) (me' : Me ℕ (Known M)) → id' ≡ id → stops (step table.slots 0 last 0 none) me last me' → After id' me' window entry put read
  stop_keeps last id' me' same gains = sits_with (after 0 (Stop last) 0 me.0.view) id' me' window entry put read same gains sits.own sits.below sits.writing sits.reading

  pub stop_tells : (last : ℕ) (id' : TableId) (me' : Me ℕ (Known M)) → id' ≡ id → stops (step table.slots 0 last 0 none) me last me' → Told Ld old (Stop last) 0 (id', of, me'.0.view)
  stop_tells last id' me' same gains = told (Stop last) 0 id' me' same gains tt

  pub ask_steps : Steps 0 (λ n. n) (λ n m. asks (step table.slots 0 0 0 none) me n m)
  ask_steps = steps 0 (λ n. n) (λ n m. asks (step table.slots 0 0 0 none) me n m) zero_inside (asking_keeps (E of) (W of) (C of) (Ld of) (L of) of table.slots seat 0 me refl)

  pub ask_keeps : (n : ℕ) (id' : TableId) (me' : Me ℕ (Known M)) → id' ≡ id → asks (step table.slots 0 0 0 none) me n me' → After id' me' window entry put read
  ask_keeps n id' me' same gains = sits_with me.0.view id' me' window entry put read same gains.0 sits.own sits.below sits.writing sits.reading

  pub ask_tells : (n : ℕ) (id' : TableId) (me' : Me ℕ (Known M)) → id' ≡ id → asks (step table.slots 0 0 0 none) me n me' → Told Ld old Stopped n (id', of, me'.0.view) × (old.2.hub ≡ true → n ≡ old.2.stopped)
  ask_tells n id' me' same gains = (told Stopped n id' me' same gains.0 tt, outwards (λ o v. v.hub ≡ true → n ≡ v.stopped) gains.1)

  -- DEAL
  pub deal_steps : (w : ℕ) → old.2.hub ≡ true → w ≡ old.2.dealt → w < C old.1 → (id ≡ table) × (0 < table.words) × Splits (Windows (E key) (W key) (C key) (Ld key) (L key) key) seat me.0 (deals me.0) (dealt_out me.0)
  deal_steps w hub next low = let l : w < C of = inwards (λ o v. w < C o) low in let n : w ≡ me.0.view.dealt = inwards (λ o v. w ≡ v.dealt) next in (
    sits.same_table,
    zero_inside,
    subst (λ (m : M). Splits (Windows (E m) (W m) (C m) (Ld m) (L m) m) seat me.0 (deals me.0) (dealt_out me.0)) (sym sits.same_key)
        (dealing_keeps (E of) (W of) (C of) (Ld of) (L of) of seat me.0 (inwards (λ o v. v.hub ≡ true) hub) (omega arith)),
  )

  pub deal_keeps : (id' : TableId) (me' : Me ℕ (Known M)) → id' ≡ id → me' ≡ (deals me.0, me.1) → After id' me' window entry put read
  deal_keeps id' me' same gains = sits_with (one_more_dealt me.0.view) id' me' window entry put read same gains sits.own sits.below sits.writing sits.reading

  pub owner_sits : (w : ℕ) (id' : TableId) (me' : Me ℕ (Known M)) → w ≡ old.2.dealt → w < C old.1 → id' ≡ id → me' ≡ (dealt_out me.0, []) → After id' me' (Some w) 0 0 0
  owner_sits w id' me' next low same gains = let l : w < C of = inwards (λ o v. w < C o) low in let n : w ≡ me.0.view.dealt = inwards (λ o v. w ≡ v.dealt) next in
      subst (λ (m : Me ℕ (Known M)). After id' m (Some w) 0 0 0) (sym gains) record {
        same_table = same ∙ sits.same_table;
        same_key = sits.same_key;
        same_of = sits.same_of;
        holds_none = refl;
        laid = sits.laid;
        own = ap (λ (z : ℕ). Some z) n;
        below = All-cons (λ (a : Owned). a.window < C of) record { window = me.0.view.dealt; closed = [] } [] (omega arith) (All-nil (λ (a : Owned). a.window < C of));
        writing = λ k c is. no_some (pending k c) is;
        reading = λ q is. no_some q is;
      }

  pub shows : (f : View → View) (id' : TableId) (v : View) → id' ≡ id → v ≡ f me.0.view → seated id' of v ≡ seated old.0 old.1 (f old.2)
  shows f id' v same is = subst (λ (z : SeatValue M). seated id' of v ≡ seated z.0 z.1 (f z.2)) e (λ i. (same i, of, is i))

  -- JOIN
  module _ (key2 : M) (id2 : TableId) (seat2 : ℕ) (me2 : Me ℕ (Known M)) (of2 : M) (table2 : TableId) (starts2 : List ℕ) (window2 : Option ℕ) (entry2 put2 read2 : ℕ) (sits2 : Sits W C L table2 key2 id2 me2 of2 starts2 window2 entry2 put2 read2) (old2 : SeatValue M) (e2 : (id2, of2, me2.0.view) ≡ old2)
      (one_table : old2.0 ≡ old.0) (one_meaning : old2.1 ≡ old.1) where
    same_id : id2 ≡ id
    same_id = ap (λ (z : SeatValue M). z.0) e2 ∙ (one_table ∙ sym (ap (λ (z : SeatValue M). z.0) e))

    same_meaning : of2 ≡ of
    same_meaning = ap (λ (z : SeatValue M). z.1) e2 ∙ (one_meaning ∙ sym (ap (λ (z : SeatValue M). z.1) e))

    pub join_steps : old.2.pending ≡ None → old2.2.pending ≡ None → (id ≡ table) × (id2 ≡ table) × (me2.1 ≡ []) × (0 < table.words) × Joins (Windows (E key) (W key) (C key) (Ld key) (L key) key) seat me.0 seat2 me2.0 (joined Ld me.0 me2.0) nobody
    join_steps free free2 = (
      sits.same_table,
      same_id ∙ sits.same_table,
      sits2.holds_none,
      zero_inside,
      joining_keeps (E key) (W key) (C key) (Ld key) (L key) key Ld seat seat2 me.0 me2.0 (inwards (λ o v. v.pending ≡ None) free) (subst (λ (z : SeatValue M). z.2.pending ≡ None) (sym e2) free2),
    )

    join_leaders : leaders_of Ld me.0.of ≡ Ld of
    join_leaders = ap (leaders_of Ld) sits.same_of

    pub join_keeps : (id' : TableId) (me' : Me ℕ (Known M)) (window' : Option ℕ) → id' ≡ id → me' ≡ (joined Ld me.0 me2.0, me.1) → window' ≡ option_or window window2 → After id' me' window' 0 0 0
    join_keeps id' me' window' same gains is = sits_with (united (leaders_of Ld me.0.of) me.0.view me2.0.view) id' me' window' 0 0 0 same gains
        (is ∙ ((λ i. option_or (sits.own i) (sits2.own i)) ∙ first_of_both me.0.view.owned me2.0.view.owned))
        (All-append (λ (a : Owned). a.window < C of) me.0.view.owned me2.0.view.owned sits.below (subst (λ (m : M). All (λ (a : Owned). a.window < C m) me2.0.view.owned) same_meaning sits2.below))
        (λ k c none_open. no_some (pending k c) none_open) (λ q none_read. no_some q none_read)

    pub join_shows : (id' : TableId) (me' : Me ℕ (Known M)) → id' ≡ id → me' ≡ (joined Ld me.0 me2.0, me.1) → seated id' of me'.0.view ≡ seated old.0 old.1 (united (Ld old.1) old.2 old2.2)
    join_shows id' me' same gains = subst (λ (z : SeatValue M × SeatValue M). seated id' of me'.0.view ≡ seated z.0.0 z.0.1 (united (Ld z.0.1) z.0.2 z.1.2)) (λ i. (e i, e2 i))
        (λ i. (same i, of, ((ap (λ (m : Me ℕ (Known M)). m.0.view) gains) ∙ ap (λ (n : ℕ). united n me.0.view me2.0.view) join_leaders) i))
