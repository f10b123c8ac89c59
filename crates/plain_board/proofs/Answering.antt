-- What each call of the plain board may do and leaves, over the board as its caller sees it.
use Rattle.std.proofs.Common.{◌≡◌, ℕ, ◌+◌, ◌-◌, ◌*◌, ◌<◌, ◌≤◌, ◌^◌, true, List, map, length, get_or, set, sym, refl, ap, ◌∙◌, subst, arith}
use Rattle.std.specs.Prelude.{Some, None}
use Rattle.std.proofs.lemmas.List.{get_or_read, length-map, set-get_or}
use Rattle.window_words.specs.Views.{after, gained, entry_of, ended}
use Rattle.window_words.specs.Conditions.{AcceptedBelow, IsNotAhead, OwnStamp, MayOpen, IsNextWord, IsAllPut, ReadsOn, HasReadAll, IsEntryWhole}
use Rattle.window_words.specs.Rule.{start, stamp, word}
use Rattle.window_words.specs.Steps.{known}
use Rattle.window_words.specs.declared.views.View.{View}
use Rattle.window_words.specs.declared.views.Call.{Call}
use Rattle.window_words.specs.declared.views.Call.TheVariants.{Open, Put, Close, Begin, Read, End, Stop, Stopped}
use Rattle.plain_board.specs.declared.seat.PlainSeat.{PlainSeat}
use Rattle.plain_board.specs.Seats.{shown, own_window, put_count, read_count, KeepsRoom, HasRoomToEnd}
use Rattle.plain_board.specs.Plain.{no_view, selected, PlainValue, words_after, answer_of, TellsOwn, LeavesAll, PlainRule}
use Rattle.window_words.proofs.WindowPlaces.{start_above_zero}
use Rattle.plain_board.proofs.PlainSteps.{at_known}
use Rattle.plain_board.proofs.Boards.{seen, leaves_all, view_after}
use Rattle.plain_board.proofs.Roominess.{read_words}
use Rattle.plain_board.proofs.PlainCalls.{open_place, opened, put_place, put_now, close_place, closed_now, stop_word_inside, stopped_now, stamp_place, began, read_place, read_now, end_place, ended_now, own_start, read_start, all_read_below}

-- the clauses of a call: the whole board, the same meaning, the seat's view
abbrev pub Told : {M : Type 0} → (M → ℕ) → (M → ℕ → ℕ) → PlainValue M → Call → ℕ → PlainValue M → Type 0
Told Ld W old call n new = LeavesAll Ld W old call n new × (new.0 ≡ old.0) × (selected new ≡ after (Ld old.0) call n (selected old))

module _ {M : Type 0} (E : M → ℕ → ℕ → List ℕ) (W : M → ℕ → ℕ) (C Ld L : M → ℕ) (fits : (m : M) (w k : ℕ) → w < C m → 1 ≤ k → k ≤ L m → length (E m w k) ≡ W m w) (small : (m : M) → L m < 2 ^ 62) (of : M) (words starts : List ℕ) (seats : List PlainSeat) (at : ℕ) (r : PlainRule E W C Ld L of words starts seats at) (s : PlainSeat) (is : s ≡ get_or seats at s)
    (old : PlainValue M) (e : (of, words, map shown seats, at) ≡ old) where
  abbrev After : List ℕ → PlainSeat → Type 0
  After ws s' = PlainRule E W C Ld L of ws starts (set seats at s') at

  abbrev now : List ℕ → PlainSeat → PlainValue M
  now ws s' = (of, ws, map shown (set seats at s'), at)

  -- a fact on the caller's board is one on the fields, and the other way round
  inwards : (P : M → View → Type 0) → P old.0 (selected old) → P of (shown s)
  inwards P h = subst (P of) (seen E W C Ld L of words starts seats at r s is) (subst (λ (z : PlainValue M). P z.0 (selected z)) (sym e) h)

  outwards : (P : M → View → Type 0) → P of (shown s) → P old.0 (selected old)
  outwards P h = subst (λ (z : PlainValue M). P z.0 (selected z)) e (subst (P of) (sym (seen E W C Ld L of words starts seats at r s is)) h)

  told : (call : Call) (n : ℕ) (ws : List ℕ) (s' : PlainSeat) → shown s' ≡ after (Ld of) call n (shown s) → ws ≡ words_after (W of) call (shown s) words → n ≡ answer_of (W of) call (shown s) words → TellsOwn (Ld of) call n (shown s) → Told Ld W old call n (now ws s')
  told call n ws s' shows stored answers tells = subst (λ (z : PlainValue M). Told Ld W z call n (now ws s')) e (
    leaves_all E W C Ld L of words starts seats at r s is call n ws s' shows stored answers tells,
    refl,
    view_after E W C Ld L of words starts seats at r s is call n s' shows,
  )

  -- OPEN
  open_may : (k : ℕ) → MayOpen (L old.0) (selected old) k → MayOpen (L of) (shown s) k
  open_may k m = inwards (λ o v. MayOpen (L o) v k) m

  open_place_is : (k o p : ℕ) → MayOpen (L old.0) (selected old) k → o ≡ own_window (shown s) → p ≡ get_or starts o p → p ≡ get_or starts (own_window (shown s)) 0
  open_place_is k o p m own place = let b = open_place E W C Ld L of (fits of) words starts seats at r s is k (open_may k m) in let low = b.0 in
      get_or_read starts o p (omega arith) place 0 ∙ ap (λ (z : ℕ). get_or starts z 0) own

  pub open_index : (k o : ℕ) → MayOpen (L old.0) (selected old) k → o ≡ own_window (shown s) → o < length starts
  open_index k o m own = let b = open_place E W C Ld L of (fits of) words starts seats at r s is k (open_may k m) in let low = b.0 in omega arith

  pub open_store : (k o p : ℕ) → MayOpen (L old.0) (selected old) k → o ≡ own_window (shown s) → p ≡ get_or starts o p → p < length words
  open_store k o p m own place = let b = open_place E W C Ld L of (fits of) words starts seats at r s is k (open_may k m) in let inside = b.1 in let e = open_place_is k o p m own place in omega arith

  pub open_fits : (k : ℕ) → MayOpen (L old.0) (selected old) k → (1 ≤ k) × (2 * k < 2 ^ 64)
  open_fits k m = let m' = open_may k m in let pos = m'.4 in let top = m'.5 in let few = small of in (pos, omega arith)

  pub open_keeps : (k o p : ℕ) (s' : PlainSeat) → MayOpen (L old.0) (selected old) k → IsNotAhead (Ld old.0) (selected old) k → o ≡ own_window (shown s) → p ≡ get_or starts o p → shown s' ≡ gained (Open k) 0 (shown s) → KeepsRoom s s' → After (set words p (2 * k - 1)) s'
  open_keeps k o p s' m led own place shows keeps =
      opened E W C Ld L of (fits of) words starts seats at r s is k p s' (open_may k m) (inwards (λ o v. IsNotAhead (Ld o) v k) led) (open_place_is k o p m own place) (open_fits k m).1 shows keeps

  pub open_tells : (k o p : ℕ) (s' : PlainSeat) → MayOpen (L old.0) (selected old) k → o ≡ own_window (shown s) → p ≡ get_or starts o p → shown s' ≡ gained (Open k) 0 (shown s) → Told Ld W old (Open k) 0 (now (set words p (2 * k - 1)) s')
  open_tells k o p s' m own place shows = let m' = open_may k m in
      told (Open k) 0 (set words p (2 * k - 1)) s' shows
      (ap (λ (z : ℕ). set words z (2 * k - 1)) (open_place_is k o p m own place ∙ own_start E W C Ld L of (fits of) words starts seats at r s is m'.0 m'.1 None m'.2 m'.3)) refl tt

  -- PUT
  put_may : (n : ℕ) → IsNextWord E W old.0 (selected old) n → IsNextWord E W of (shown s) n
  put_may n m = inwards (λ o v. IsNextWord E W o v n) m

  pub put_index : (n o : ℕ) → IsNextWord E W old.0 (selected old) n → o ≡ own_window (shown s) → o < length starts
  put_index n o m own = let b = put_place E W C Ld L of (fits of) words starts seats at r s is n (put_may n m) in let low = b.0 in omega arith

  put_place_is : (n o q c p : ℕ) → IsNextWord E W old.0 (selected old) n → o ≡ own_window (shown s) → q ≡ get_or starts o q → c ≡ put_count s.pending → p ≡ q + 1 + c → p ≡ get_or starts (own_window (shown s)) 0 + 1 + put_count s.pending
  put_place_is n o q c p m own place count add = let q' : q ≡ get_or starts (own_window (shown s)) 0 = get_or_read starts o q (put_index n o m own) place 0 ∙ ap (λ (z : ℕ). get_or starts z 0) own in omega arith

  pub put_store : (n o q c : ℕ) → IsNextWord E W old.0 (selected old) n → o ≡ own_window (shown s) → q ≡ get_or starts o q → c ≡ put_count s.pending → q + 1 + c < length words
  put_store n o q c m own place count = let b = put_place E W C Ld L of (fits of) words starts seats at r s is n (put_may n m) in let inside = b.1 in let e = put_place_is n o q c (q + 1 + c) m own place count refl in omega arith

  pub put_keeps : (n o q c p : ℕ) (s' : PlainSeat) → IsNextWord E W old.0 (selected old) n → o ≡ own_window (shown s) → q ≡ get_or starts o q → c ≡ put_count s.pending → p ≡ q + 1 + c → n < 2 ^ 64 → shown s' ≡ gained (Put n) 0 (shown s) → KeepsRoom s s' → After (set words p n) s'
  put_keeps n o q c p s' m own place count add fit shows keeps = put_now E W C Ld L of (fits of) words starts seats at r s is n p s' (put_may n m) (put_place_is n o q c p m own place count add) fit shows keeps

  pub put_tells : (n o q c p : ℕ) (s' : PlainSeat) → IsNextWord E W old.0 (selected old) n → o ≡ own_window (shown s) → q ≡ get_or starts o q → c ≡ put_count s.pending → p ≡ q + 1 + c → shown s' ≡ gained (Put n) 0 (shown s) → Told Ld W old (Put n) 0 (now (set words p n) s')
  put_tells n o q c p s' m own place count add shows = let m' = put_may n m in
      told (Put n) 0 (set words p n) s' shows
      (ap (λ (z : ℕ). set words z n) (put_place_is n o q c p m own place count add ∙ ap (λ (z : ℕ). z + 1 + put_count s.pending) (own_start E W C Ld L of (fits of) words starts seats at r s is m'.0 m'.1 (Some m'.2) m'.3 m'.4))) refl tt

  -- CLOSE
  close_may : IsAllPut (W old.0) (selected old) → IsAllPut (W of) (shown s)
  close_may m = inwards (λ o v. IsAllPut (W o) v) m

  pub close_index : (o : ℕ) → IsAllPut (W old.0) (selected old) → o ≡ own_window (shown s) → o < length starts
  close_index o m own = let b = close_place E W C Ld L of (fits of) words starts seats at r s is (close_may m) in let low = b.0 in omega arith

  close_place_is : (o p : ℕ) → IsAllPut (W old.0) (selected old) → o ≡ own_window (shown s) → p ≡ get_or starts o p → p ≡ get_or starts (own_window (shown s)) 0
  close_place_is o p m own place = get_or_read starts o p (close_index o m own) place 0 ∙ ap (λ (z : ℕ). get_or starts z 0) own

  pub close_store : (o p : ℕ) → IsAllPut (W old.0) (selected old) → o ≡ own_window (shown s) → p ≡ get_or starts o p → p < length words
  close_store o p m own place = let b = close_place E W C Ld L of (fits of) words starts seats at r s is (close_may m) in let inside = b.1 in let e = close_place_is o p m own place in omega arith

  pub close_fits : (k : ℕ) → IsAllPut (W old.0) (selected old) → k ≡ entry_of s.pending → 2 * k < 2 ^ 64
  close_fits k m entry = let b = close_place E W C Ld L of (fits of) words starts seats at r s is (close_may m) in let top = b.2 in let few = small of in omega arith

  pub close_room : IsAllPut (W old.0) (selected old) → 0 < s.closed.spare
  close_room m = (close_place E W C Ld L of (fits of) words starts seats at r s is (close_may m)).3

  pub close_keeps : (k o p : ℕ) (s' : PlainSeat) → IsAllPut (W old.0) (selected old) → k ≡ entry_of s.pending → o ≡ own_window (shown s) → p ≡ get_or starts o p → shown s' ≡ gained Close 0 (shown s) → KeepsRoom s s' → After (set words p (2 * k)) s'
  close_keeps k o p s' m entry own place shows keeps = closed_now E W C Ld L of (fits of) words starts seats at r s is k p s' (close_may m) entry (close_place_is o p m own place) (close_fits k m entry) shows keeps

  pub close_tells : (k o p : ℕ) (s' : PlainSeat) → IsAllPut (W old.0) (selected old) → k ≡ entry_of s.pending → o ≡ own_window (shown s) → p ≡ get_or starts o p → shown s' ≡ gained Close 0 (shown s) → Told Ld W old Close 0 (now (set words p (2 * k)) s')
  close_tells k o p s' m entry own place shows = let m' = close_may m in
      let p' = close_place_is o p m own place ∙ own_start E W C Ld L of (fits of) words starts seats at r s is m'.0 m'.1 (Some m'.2) m'.3 m'.4 in
      told Close 0 (set words p (2 * k)) s' shows (λ i. set words (p' i) (2 * entry i)) refl tt

  -- STOP
  pub stop_bounds : 0 < length words
  stop_bounds = stop_word_inside E W C Ld L of (fits of) words starts seats at r s is

  pub stop_keeps : (n : ℕ) (s' : PlainSeat) → (selected old).hub ≡ true → n < 2 ^ 64 → shown s' ≡ gained (Stop n) 0 (shown s) → KeepsRoom s s' → After (set words 0 n) s'
  stop_keeps n s' hub fit shows keeps = stopped_now E W C Ld L of (fits of) words starts seats at r s is n s' (inwards (λ o v. v.hub ≡ true) hub) fit shows keeps

  pub stop_tells : (n : ℕ) (s' : PlainSeat) → shown s' ≡ gained (Stop n) 0 (shown s) → Told Ld W old (Stop n) 0 (now (set words 0 n) s')
  stop_tells n s' shows = told (Stop n) 0 (set words 0 n) s' shows refl refl tt

  -- BEGIN
  stamp_bounds : (w : ℕ) → w < C old.0 → (w < length starts) × (get_or starts w 0 ≡ start (W of) w) × (start (W of) w < length words)
  stamp_bounds w l = stamp_place E W C Ld L of (fits of) words starts seats at r s is w (inwards (λ o v. w < C o) l)

  pub stamp_index : (w : ℕ) → w < C old.0 → w < length starts
  stamp_index w l = (stamp_bounds w l).0

  pub stamp_load : (w p : ℕ) → w < C old.0 → p ≡ get_or starts w p → p < length words
  stamp_load w p l place = let b = stamp_bounds w l in let begin = b.1 in let inside = b.2 in let e : p ≡ get_or starts w 0 = get_or_read starts w p b.0 place 0 in omega arith

  -- what is loaded at the place of a window's stamp is its stamp
  stamp_loaded : (w p n : ℕ) → w < C old.0 → p ≡ get_or starts w p → n ≡ get_or words p n → n ≡ stamp (W of) words w
  stamp_loaded w p n l place load = let b = stamp_bounds w l in let p' : p ≡ start (W of) w = get_or_read starts w p b.0 place 0 ∙ b.1 in let in_words = b.2 in
      get_or_read words p n (omega arith) load 0 ∙ ap (λ (z : ℕ). get_or words z 0) p'

  pub begin_keeps : (w p n : ℕ) (s' : PlainSeat) → w < C old.0 → p ≡ get_or starts w p → n ≡ get_or words p n → shown s' ≡ gained (Begin w) n (shown s) → KeepsRoom s s' → After words s'
  begin_keeps w p n s' l place load shows keeps = (began E W C Ld L of (fits of) words starts seats at r s is w n s' (inwards (λ o v. w < C o) l) (stamp_loaded w p n l place load) shows keeps).0

  pub begin_tells : (w p n : ℕ) (s' : PlainSeat) → w < C old.0 → p ≡ get_or starts w p → n ≡ get_or words p n → shown s' ≡ gained (Begin w) n (shown s) → KeepsRoom s s' → Told Ld W old (Begin w) n (now words s') × AcceptedBelow (selected old) w n × OwnStamp (selected old) w n
  begin_tells w p n s' l place load shows keeps = let is_stamp = stamp_loaded w p n l place load in
      let t = began E W C Ld L of (fits of) words starts seats at r s is w n s' (inwards (λ o v. w < C o) l) is_stamp shows keeps in
      (told (Begin w) n words s' shows refl is_stamp t.3, outwards (λ o v. AcceptedBelow v w n) t.1, outwards (λ o v. OwnStamp v w n) t.2)

  -- READ
  read_bounds : (w : ℕ) → ReadsOn (W old.0) (selected old) w → (w < length starts) × (get_or starts w 0 + 1 + read_count (shown s).reading < length words) × (0 < s.words.spare) × (length s.words.items ≡ read_count (shown s).reading)
  read_bounds w m = let m' = inwards (λ o v. ReadsOn (W o) v w) m in let b = read_place E W C Ld L of (fits of) words starts seats at r s is w m' in
      (b.0, b.1, b.2, read_words s m'.0 m'.1)

  pub read_index : (w : ℕ) → ReadsOn (W old.0) (selected old) w → w < length starts
  read_index w m = (read_bounds w m).0

  pub read_load : (w q c : ℕ) → ReadsOn (W old.0) (selected old) w → q ≡ get_or starts w q → c ≡ length s.words.items → q + 1 + c < length words
  read_load w q c m place count = let b = read_bounds w m in let inside = b.1 in let same = b.3 in let e : q ≡ get_or starts w 0 = get_or_read starts w q b.0 place 0 in omega arith

  pub read_room : (w : ℕ) → ReadsOn (W old.0) (selected old) w → 0 < s.words.spare
  read_room w m = (read_bounds w m).2

  word_loaded : (w q c p n : ℕ) → ReadsOn (W old.0) (selected old) w → q ≡ get_or starts w q → c ≡ length s.words.items → p ≡ q + 1 + c → n ≡ get_or words p n → n ≡ word (W of) words w (read_count (shown s).reading)
  word_loaded w q c p n m place counted add load = let b = read_bounds w m in let in_words = b.1 in let count = b.3 in let q' : q ≡ get_or starts w 0 = get_or_read starts w q b.0 place 0 in
      let m' = inwards (λ o v. ReadsOn (W o) v w) m in let begin : get_or starts w 0 ≡ start (W of) w = read_start E W C Ld L of (fits of) words starts seats at r s is w m' in
      let p' : p ≡ start (W of) w + 1 + read_count (shown s).reading = omega arith in
      get_or_read words p n (omega arith) load 0 ∙ ap (λ (z : ℕ). get_or words z 0) p'

  pub read_keeps : (w q c p n : ℕ) (s' : PlainSeat) → ReadsOn (W old.0) (selected old) w → q ≡ get_or starts w q → c ≡ length s.words.items → p ≡ q + 1 + c → n ≡ get_or words p n → shown s' ≡ gained (Read w) n (shown s) → KeepsRoom s s' → After words s'
  read_keeps w q c p n s' m place counted add load shows keeps = read_now E W C Ld L of (fits of) words starts seats at r s is w n s' (inwards (λ o v. ReadsOn (W o) v w) m) (word_loaded w q c p n m place counted add load) shows keeps

  pub read_tells : (w q c p n : ℕ) (s' : PlainSeat) → ReadsOn (W old.0) (selected old) w → q ≡ get_or starts w q → c ≡ length s.words.items → p ≡ q + 1 + c → n ≡ get_or words p n → shown s' ≡ gained (Read w) n (shown s) → Told Ld W old (Read w) n (now words s')
  read_tells w q c p n s' m place counted add load shows = told (Read w) n words s' shows refl (word_loaded w q c p n m place counted add load) tt

  -- END
  reads_there : (w : ℕ) → HasReadAll (W old.0) (selected old) w → w < C old.0
  reads_there w m = let m' = inwards (λ o v. HasReadAll (W o) v w) m in outwards (λ o v. w < C o) (all_read_below E W C Ld L of (fits of) words starts seats at r s is w m')

  pub end_index : (w : ℕ) → HasReadAll (W old.0) (selected old) w → w < length starts
  end_index w m = (stamp_bounds w (reads_there w m)).0

  pub end_load : (w p : ℕ) → HasReadAll (W old.0) (selected old) w → p ≡ get_or starts w p → p < length words
  end_load w p m place = stamp_load w p (reads_there w m) place

  pub end_room : (w p n leaders : ℕ) → HasReadAll (W old.0) (selected old) w → p ≡ get_or starts w p → n ≡ get_or words p n → leaders ≡ Ld of → HasRoomToEnd leaders n s
  end_room w p n leaders m place load lead = subst (λ (z : ℕ). HasRoomToEnd z n s) (sym lead)
      (end_place E W C Ld L of (fits of) words starts seats at r s is w n (inwards (λ o v. HasReadAll (W o) v w) m) (stamp_loaded w p n (reads_there w m) place load))

  ends_so : (w n leaders : ℕ) (s' : PlainSeat) → leaders ≡ Ld of → shown s' ≡ ended leaders n (shown s) (shown s).reading → shown s' ≡ after (Ld of) (End w) n (shown s)
  ends_so w n leaders s' lead shows = shows ∙ ap (λ (z : ℕ). ended z n (shown s) (shown s).reading) lead

  pub end_keeps : (w p n leaders : ℕ) (s' : PlainSeat) → HasReadAll (W old.0) (selected old) w → p ≡ get_or starts w p → n ≡ get_or words p n → leaders ≡ Ld of → shown s' ≡ ended leaders n (shown s) (shown s).reading → KeepsRoom s s' → After words s'
  end_keeps w p n leaders s' m place load lead shows keeps =
      (ended_now E W C Ld L of (fits of) words starts seats at r s is w n s' (inwards (λ o v. HasReadAll (W o) v w) m) (stamp_loaded w p n (reads_there w m) place load) (ends_so w n leaders s' lead shows) keeps).0

  pub end_tells : (w p n leaders : ℕ) (s' : PlainSeat) → HasReadAll (W old.0) (selected old) w → p ≡ get_or starts w p → n ≡ get_or words p n → leaders ≡ Ld of → shown s' ≡ ended leaders n (shown s) (shown s).reading → KeepsRoom s s'
      → Told Ld W old (End w) n (now words s') × IsEntryWhole E L old.0 (selected old) w n
  end_tells w p n leaders s' m place load lead shows keeps = let is_stamp = stamp_loaded w p n (reads_there w m) place load in let shows' = ends_so w n leaders s' lead shows in
      let t = ended_now E W C Ld L of (fits of) words starts seats at r s is w n s' (inwards (λ o v. HasReadAll (W o) v w) m) is_stamp shows' keeps in
      (told (End w) n words s' shows' refl is_stamp t.2, outwards (λ o v. IsEntryWhole E L o v w n) t.1)

-- the first word is there
pub stop_word_there : {M : Type 0} (E : M → ℕ → ℕ → List ℕ) (W : M → ℕ → ℕ) (C Ld L : M → ℕ) (of : M) (words starts : List ℕ) (seats : List PlainSeat) (at : ℕ) → PlainRule E W C Ld L of words starts seats at → 0 < length words
stop_word_there E W C Ld L of words starts seats at r = let p = start_above_zero (W of) (C of) in let long = r.rule.long in omega arith

-- asking changes nothing, and answers the hub's seat its own number
pub stopped_tells : {M : Type 0} (E : M → ℕ → ℕ → List ℕ) (W : M → ℕ → ℕ) (C Ld L : M → ℕ) (of : M) (words starts : List ℕ) (seats : List PlainSeat) (at : ℕ) (r : PlainRule E W C Ld L of words starts seats at) (old : PlainValue M) (e : (of, words, map shown seats, at) ≡ old)
    (n : ℕ) → n ≡ get_or words 0 n → LeavesAll Ld W old Stopped n old × ((selected old).hub ≡ true → n ≡ (selected old).stopped)
stopped_tells {M} E W C Ld L of words starts seats at r old e n load =
    let is_word = get_or_read words 0 n (stop_word_there E W C Ld L of words starts seats at r) load 0 in let same = set-get_or old.2 old.3 no_view in
    let v : View = get_or (map shown seats) at no_view in let l = length-map seats shown in let a = r.at_seat in
    let known_so = r.rule.each at (known of v) (at_known of (map shown seats) at v (omega arith) refl) in (
      (is_word ∙ ap (λ (z : PlainValue M). get_or z.1 0 0) e, λ i. (old.0, old.1, sym same i, old.3), tt),
      subst (λ (z : PlainValue M). (selected z).hub ≡ true → n ≡ (selected z).stopped) e (λ hub. is_word ∙ sym (known_so.hubs hub).2),
    )
