-- Each call of the plain board keeps what the board keeps, and where the words that it reads or stores lie.
use Rattle.std.proofs.Common.{◌≡◌, ℕ, ◌+◌, ◌-◌, ◌*◌, ◌/◌, ◌<◌, ◌≤◌, ◌^◌, true, List, [], map, length, get_or, set, sym, refl, ap, ◌∙◌, subst, arith}
use Rattle.std.specs.Prelude.{All, Option, Some, None}
use mathlib.Core.Option.{none}
use Rattle.base_words.proofs.FirstAnswers.{same_some}
use Rattle.atomic_table.specs.Table.{State, step, Allows}
use Rattle.window_words.specs.Views.{one, pending, after, entry_of}
use Rattle.window_words.specs.Conditions.{AcceptedBelow, AcceptedOwn, IsBehindOwn, IsNotAhead, OwnStamp, MayOpen, IsNextWord, IsAllPut, ReadsOn, HasReadAll, IsEntryWhole}
use Rattle.window_words.specs.Rule.{start, stamp, word, HasRead, Account, Knows, Windows}
use Rattle.window_words.specs.Steps.{known, Gains, begins, ends, IsEntry}
use Rattle.window_words.specs.declared.views.View.{View}
use Rattle.window_words.specs.declared.views.Known.{Known}
use Rattle.window_words.specs.declared.views.Reading.{Reading}
use Rattle.window_words.specs.declared.views.Pending.{Pending}
use Rattle.window_words.specs.declared.views.Call.TheVariants.{Open, Put, Close, Begin, Read, End, Stop}
use Rattle.window_words.proofs.WindowPlaces.{start_above_zero, lies_inside}
use Rattle.window_words.proofs.Keeping.{own_account}
use Rattle.window_words.proofs.Writers.{opening_keeps, putting_keeps, closing_keeps}
use Rattle.window_words.proofs.Readers.{beginning_keeps, reading_keeps, ending_keeps}
use Rattle.window_words.proofs.Stopping.{stopping_keeps}
use Rattle.plain_board.specs.declared.seat.Begun.{Begun}
use Rattle.plain_board.specs.declared.seat.PlainSeat.{PlainSeat}
use Rattle.plain_board.specs.Seats.{shown, own_window, first_window, put_count, read_count, reading_of, KeepsRoom, HasRoomToEnd}
use Rattle.plain_board.specs.Plain.{no_view, state, PlainRule}
use Rattle.plain_board.proofs.Fewness.{few_opened, few_put, few_closed, few_reading, few_stopped, few_ended}
use Rattle.plain_board.proofs.Roominess.{room_to_close, room_to_read, room_to_end}
use Rattle.plain_board.proofs.PlainSteps.{at_known, plain_store, plain_load}
use Rattle.plain_board.proofs.Boards.{seen, low, few, roomy, keeps_on, short_after}

module _ {M : Type 0} (E : M → ℕ → ℕ → List ℕ) (W : M → ℕ → ℕ) (C Ld L : M → ℕ) (of : M) (fits : (w k : ℕ) → w < C of → 1 ≤ k → k ≤ L of → length (E of w k) ≡ W of w) (words starts : List ℕ) (seats : List PlainSeat) (at : ℕ) (r : PlainRule E W C Ld L of words starts seats at) (s : PlainSeat) (is : s ≡ get_or seats at s) where
  abbrev views : List View
  views = map shown seats

  abbrev v : View
  v = shown s

  abbrev Rule : State ℕ (Known M) → Type 0
  Rule = Windows (E of) (W of) (C of) (Ld of) (L of) of

  abbrev Next : List ℕ → View → Type 0
  Next ws v' = Rule (state of ws (set views at v'))

  abbrev After : List ℕ → PlainSeat → Type 0
  After ws s' = PlainRule E W C Ld L of ws starts (set seats at s') at

  here : get_or views at no_view ≡ v
  here = seen E W C Ld L of words starts seats at r s is

  inside : at < length views
  inside = low E W C Ld L of words starts seats at r s is

  knows : Knows (E of) (W of) (C of) words r.rule.hub r.rule.dealt r.rule.owner at v
  knows = r.rule.each at (known of v) (at_known of views at v inside here)

  account : (w : ℕ) (closed : List ℕ) (o : Option Pending) → v.owned ≡ one w closed → v.pending ≡ o → Account (E of) (W of) r.rule.dealt words r.rule.owner at o record { window = w; closed = closed }
  account w closed o owned is_open = own_account (E of) (W of) (C of) (Ld of) (L of) of (state of words views) r.rule at (known of v) w closed o (at_known of views at v inside here) owned is_open

  -- the one window that the seat owns is one of the board's
  own_below : (w : ℕ) (closed : List ℕ) (o : Option Pending) → v.owned ≡ one w closed → v.pending ≡ o → w < C of
  own_below w closed o owned is_open = let a = account w closed o owned is_open in let b = a.below in let range = r.rule.in_range in omega arith

  -- and the place of its stamp is at hand
  own_place : (w : ℕ) (closed : List ℕ) (o : Option Pending) → v.owned ≡ one w closed → v.pending ≡ o → (own_window v < length starts) × (get_or starts (own_window v) 0 ≡ start (W of) w)
  own_place w closed o owned is_open = let b = own_below w closed o owned is_open in let many = r.many in let e : own_window v ≡ w = ap first_window owned in
      (omega arith, ap (λ (z : ℕ). get_or starts z 0) e ∙ r.begin w b)

  pub own_start : (w : ℕ) (closed : List ℕ) (o : Option Pending) → v.owned ≡ one w closed → v.pending ≡ o → get_or starts (own_window v) 0 ≡ start (W of) (own_window v)
  own_start w closed o owned is_open = let e : own_window v ≡ w = ap first_window owned in (own_place w closed o owned is_open).1 ∙ ap (start (W of)) (sym e)

  -- a word of a window is one of the board's
  word_inside : (w x : ℕ) → w < C of → x ≤ W of w → start (W of) w + x < length words
  word_inside w x l b = let i = lies_inside (W of) w (C of) x l b in let long = r.rule.long in omega arith

  pub stop_word_inside : 0 < length words
  stop_word_inside = let p = start_above_zero (W of) (C of) in let long = r.rule.long in omega arith

  -- the stamp of any window
  pub stamp_place : (w : ℕ) → w < C of → (w < length starts) × (get_or starts w 0 ≡ start (W of) w) × (start (W of) w < length words)
  stamp_place w l = let many = r.many in let i = word_inside w 0 l (omega arith) in (omega arith, r.begin w l, omega arith)

  -- OPEN
  pub open_place : (k : ℕ) → MayOpen (L of) v k → (own_window v < length starts) × (get_or starts (own_window v) 0 < length words)
  open_place k m = let p = own_place m.0 m.1 None m.2 m.3 in let i = word_inside m.0 0 (own_below m.0 m.1 None m.2 m.3) (omega arith) in let e = p.1 in (p.0, omega arith)

  pub opened : (k p : ℕ) (s' : PlainSeat) → MayOpen (L of) v k → IsNotAhead (Ld of) v k → p ≡ get_or starts (own_window v) 0 → 2 * k < 2 ^ 64 → shown s' ≡ after 0 (Open k) 0 v → KeepsRoom s s' → After (set words p (2 * k - 1)) s'
  opened k p s' m led place fit shows keeps = let w : ℕ = m.0 in let at_stamp : start (W of) w ≡ p = sym (place ∙ (own_place w m.1 None m.2 m.3).1) in
      let pos = m.4 in let top = m.5 in let half : (2 * k - 1 + 1) / 2 ≡ k = omega arith in
      let rule : Next (set words p (2 * k - 1)) (after 0 (Open k) 0 v) = plain_store (E of) (W of) (C of) (Ld of) (L of) of words views at v r.rule inside here p (2 * k - 1) 0 0 (Open k) (r.short p)
      (subst (λ (z : ℕ). Allows Rule 0 at (known of v, []) p (λ _. 2 * k - 1) (λ _ m. Gains 0 (Open z) 0 (known of v, []) m)) half
      (opening_keeps (E of) (W of) (C of) (Ld of) (L of) of 0 at w k (2 * k - 1) p m.1 (known of v, []) m.2 m.3 m.4 m.5 m.6 (led w m.1 m.2) (omega arith) (sym at_stamp))) in
      keeps_on E W C Ld L of words starts seats at r s is (set words p (2 * k - 1)) s' (after 0 (Open k) 0 v) shows keeps rule
      (few_opened (Ld of) k w m.1 v (few E W C Ld L of words starts seats at r s is) m.2 m.6) (short_after words p (2 * k - 1) r.short (omega arith))

  -- PUT
  pub put_place : (n : ℕ) → IsNextWord E W of v n → (own_window v < length starts) × (get_or starts (own_window v) 0 + 1 + put_count v.pending < length words)
  put_place n m = let p : Pending = m.2 in let t = own_place m.0 m.1 (Some p) m.3 m.4 in let more = m.5 in let i = word_inside m.0 (1 + p.put) (own_below m.0 m.1 (Some p) m.3 m.4) (omega arith) in
      let e = t.1 in let c : put_count v.pending ≡ p.put = ap put_count m.4 in (t.0, omega arith)

  pub put_now : (n p : ℕ) (s' : PlainSeat) → IsNextWord E W of v n → p ≡ get_or starts (own_window v) 0 + 1 + put_count v.pending → n < 2 ^ 64 → shown s' ≡ after 0 (Put n) 0 v → KeepsRoom s s' → After (set words p n) s'
  put_now n p s' m place fit shows keeps = let w : ℕ = m.0 in let q : Pending = m.2 in let t = own_place w m.1 (Some q) m.3 m.4 in let e = t.1 in let c : put_count v.pending ≡ q.put = ap put_count m.4 in
      let at_word : p ≡ start (W of) w + 1 + q.put = omega arith in
      let rule : Next (set words p n) (after 0 (Put n) 0 v) = plain_store (E of) (W of) (C of) (Ld of) (L of) of words views at v r.rule inside here p n 0 0 (Put n) (r.short p)
      (putting_keeps (E of) (W of) (C of) (Ld of) (L of) of 0 at w q.entry q.put n p m.1 (known of v, []) m.3 m.4 m.5 m.6 at_word) in
      keeps_on E W C Ld L of words starts seats at r s is (set words p n) s' (after 0 (Put n) 0 v) shows keeps rule
      (few_put (Ld of) q.entry q.put w m.1 v (few E W C Ld L of words starts seats at r s is) m.3 m.4) (short_after words p n r.short fit)

  -- CLOSE
  top_entry : (w k c : ℕ) (closed : List ℕ) → v.owned ≡ one w closed → v.pending ≡ Some (pending k c) → k ≤ L of
  top_entry w k c closed owned writes = let a = account w closed (Some (pending k c)) owned writes in let stamped : stamp (W of) words w ≡ 2 * k - 1 = a.stamped in
      let part = a.part in let pos : 1 ≤ k = part.0 in let top = r.rule.top w (own_below w closed (Some (pending k c)) owned writes) in omega arith

  pub close_place : IsAllPut (W of) v → (own_window v < length starts) × (get_or starts (own_window v) 0 < length words) × (entry_of v.pending ≤ L of) × (0 < s.closed.spare)
  close_place m = let p : Pending = m.2 in let t = own_place m.0 m.1 (Some p) m.3 m.4 in let i = word_inside m.0 0 (own_below m.0 m.1 (Some p) m.3 m.4) (omega arith) in let e = t.1 in
      let top : p.entry ≤ L of = top_entry m.0 p.entry p.put m.1 m.3 m.4 in let same : entry_of v.pending ≡ p.entry = ap entry_of m.4 in (
        t.0,
        omega arith,
        omega arith,
        room_to_close (Ld of) (C of) r.widest (L of) p.entry p.put m.0 m.1 s (roomy E W C Ld L of words starts seats at r s is) (few E W C Ld L of words starts seats at r s is) m.3 m.4 top,
      )

  pub closed_now : (k p : ℕ) (s' : PlainSeat) → IsAllPut (W of) v → k ≡ entry_of v.pending → p ≡ get_or starts (own_window v) 0 → 2 * k < 2 ^ 64 → shown s' ≡ after 0 Close 0 v → KeepsRoom s s' → After (set words p (2 * k)) s'
  closed_now k p s' m entry place fit shows keeps = let w : ℕ = m.0 in let q : Pending = m.2 in let t = own_place w m.1 (Some q) m.3 m.4 in
      let at_stamp : p ≡ start (W of) w = place ∙ t.1 in let same : k ≡ q.entry = entry ∙ ap entry_of m.4 in
      let rule : Next (set words p (2 * k)) (after 0 Close 0 v) = plain_store (E of) (W of) (C of) (Ld of) (L of) of words views at v r.rule inside here p (2 * k) 0 0 Close (r.short p)
      (closing_keeps (E of) (W of) (C of) (Ld of) (L of) of 0 at w q.entry q.put (2 * k) p m.1 (known of v, []) m.3 m.4 m.5 (omega arith) at_stamp) in
      keeps_on E W C Ld L of words starts seats at r s is (set words p (2 * k)) s' (after 0 Close 0 v) shows keeps rule
      (few_closed (Ld of) q.entry q.put w m.1 v (few E W C Ld L of words starts seats at r s is) m.3 m.4) (short_after words p (2 * k) r.short fit)

  -- STOP
  pub stopped_now : (n : ℕ) (s' : PlainSeat) → v.hub ≡ true → n < 2 ^ 64 → shown s' ≡ after 0 (Stop n) 0 v → KeepsRoom s s' → After (set words 0 n) s'
  stopped_now n s' hub fit shows keeps = keeps_on E W C Ld L of words starts seats at r s is (set words 0 n) s' (after 0 (Stop n) 0 v) shows keeps
      (plain_store (E of) (W of) (C of) (Ld of) (L of) of words views at v r.rule inside here 0 n 0 0 (Stop n) (r.short 0) (stopping_keeps (E of) (W of) (C of) (Ld of) (L of) of 0 at n 0 (known of v, []) hub refl))
      (few_stopped (Ld of) n v (few E W C Ld L of words starts seats at r s is)) (short_after words 0 n r.short fit)

  -- BEGIN
  pub began : (w n : ℕ) (s' : PlainSeat) → w < C of → n ≡ stamp (W of) words w → shown s' ≡ after 0 (Begin w) n v → KeepsRoom s s' → After words s' × AcceptedBelow v w n × OwnStamp v w n × AcceptedOwn v w
  began w n s' l same shows keeps = let p : ℕ = start (W of) w in let m : ℕ = stamp (W of) words w in
      let t = plain_load (E of) (W of) (C of) (Ld of) (L of) of words views at v r.rule inside here p 0 (Begin w) (begins W (step 0 p 0 0 none) (known of v, [])) (r.short p) (λ m h. (h of w refl refl).0)
      (beginning_keeps E W C Ld L of fits 0 at p w (known of v, []) refl l) in let told = t.0.1 of w refl refl in
      let shows' : shown s' ≡ after 0 (Begin w) m v = shows ∙ ap (λ (z : ℕ). after 0 (Begin w) z v) same in (
        keeps_on E W C Ld L of words starts seats at r s is words s' (after 0 (Begin w) m v) shows' keeps t.1 (few_reading (Ld of) v _ (few E W C Ld L of words starts seats at r s is)) r.short,
        subst (AcceptedBelow v w) (sym same) told.1,
        subst (OwnStamp v w) (sym same) told.2,
        told.3,
      )

  -- the window that is being read is one of the board's
  reads_below : (q : Reading) → v.reading ≡ Some q → q.window < C of
  reads_below q reading = (subst (HasRead (E of) (W of) (C of) (stamp (W of) words)) reading knows.reads).0

  -- READ
  pub read_place : (w : ℕ) → ReadsOn (W of) v w → (w < length starts) × (get_or starts w 0 + 1 + read_count v.reading < length words) × (0 < s.words.spare)
  read_place w m = let q : Reading = m.0 in let same = m.2 in let l = reads_below q m.1 in let below : w < C of = omega arith in let t = stamp_place w below in let c : read_count v.reading ≡ length q.words = ap read_count m.1 in
      let more = m.3 in let i = word_inside w (1 + length q.words) below (omega arith) in let e = t.1 in let wide = r.wide_most.0 w below in (
        t.0,
        omega arith,
        room_to_read (Ld of) (C of) r.widest (L of) s (roomy E W C Ld L of words starts seats at r s is) q m.1 (omega arith),
      )

  pub read_start : (w : ℕ) → ReadsOn (W of) v w → get_or starts w 0 ≡ start (W of) w
  read_start w m = let l = reads_below m.0 m.1 in let same = m.2 in r.begin w (omega arith)

  pub all_read_below : (w : ℕ) → HasReadAll (W of) v w → w < C of
  all_read_below w m = let l = reads_below m.0 m.1 in let same = m.2 in omega arith

  pub read_now : (w n : ℕ) (s' : PlainSeat) → ReadsOn (W of) v w → n ≡ word (W of) words w (read_count v.reading) → shown s' ≡ after 0 (Read w) n v → KeepsRoom s s' → After words s'
  read_now w n s' m same shows keeps = let q : Reading = m.0 in let c : read_count v.reading ≡ length q.words = ap read_count m.1 in let p : ℕ = start (W of) q.window + 1 + length q.words in let k : ℕ = get_or words p 0 in
      let same' : n ≡ k = same ∙ ap (λ (z : ℕ × ℕ). word (W of) words z.0 z.1) (λ i. (sym m.2 i, c i)) in
      let t = plain_load (E of) (W of) (C of) (Ld of) (L of) of words views at v r.rule inside here p 0 (Read 0) (λ n m. Gains 0 (Read 0) n (known of v, []) m) (r.short p) (λ m h. h)
      (reading_keeps E W C Ld L of fits 0 at p (known of v, []) q m.1 (let e = m.2 in let more = m.3 in let wide : W of q.window ≡ W of w = ap (W of) m.2 in omega arith) refl) in
      let shows' : shown s' ≡ after 0 (Read 0) k v = shows ∙ ap (λ (z : ℕ). after 0 (Read w) z v) same' in
      keeps_on E W C Ld L of words starts seats at r s is words s' (after 0 (Read 0) k v) shows' keeps t.1 (few_reading (Ld of) v _ (few E W C Ld L of words starts seats at r s is)) r.short

  -- END
  accepted_low : (w : ℕ) → All (λ k. 2 * k ≤ stamp (W of) words w) (get_or v.accepted w [])
  accepted_low w = knows.accepted w

  begun_reads : (o : Option Begun) (ws : List ℕ) (b : Begun) → o ≡ Some b → reading_of o ws ≡ Some record { window = b.window; first = b.first; words = ws }
  begun_reads o ws b e = ap (λ (z : Option Begun). reading_of z ws) e

  pub end_place : (w n : ℕ) → HasReadAll (W of) v w → n ≡ stamp (W of) words w → HasRoomToEnd (Ld of) n s
  end_place w n m same = room_to_end (Ld of) (C of) r.widest (L of) n s (roomy E W C Ld L of words starts seats at r s is) (few E W C Ld L of words starts seats at r s is) (λ b is_begun.
      let q : Reading = record { window = b.window; first = b.first; words = s.words.items } in let read : v.reading ≡ Some q = begun_reads s.reading s.words.items b is_begun in
      let l : b.window < C of = reads_below q read in let one : m.0 ≡ q = same_some (sym m.1 ∙ read) in let at_w : b.window ≡ w = sym (ap (λ (z : Reading). z.window) one) ∙ m.2 in
      let top = r.rule.top b.window l in let now : n ≡ stamp (W of) words b.window = same ∙ ap (stamp (W of) words) (sym at_w) in
      (l, omega arith, subst (λ (z : ℕ). All (λ j. 2 * j ≤ z) (get_or v.accepted b.window [])) (sym now) (accepted_low b.window)))

  pub ended_now : (w n : ℕ) (s' : PlainSeat) → HasReadAll (W of) v w → n ≡ stamp (W of) words w → shown s' ≡ after (Ld of) (End w) n v → KeepsRoom s s' → After words s' × IsEntryWhole E L of v w n × IsBehindOwn (Ld of) v w n
  ended_now w n s' m same shows keeps = let q : Reading = m.0 in let p : ℕ = start (W of) q.window in let k : ℕ = get_or words p 0 in
      let same' : n ≡ k = same ∙ ap (stamp (W of) words) (sym m.2) in
      let t = plain_load (E of) (W of) (C of) (Ld of) (L of) of words views at v r.rule inside here p (Ld of) (End q.window) (ends E W Ld L (step 0 p 0 0 none) (known of v, [])) (r.short p) (λ m' h. (h of q refl m.1).0)
      (ending_keeps E W C Ld L of fits 0 at p (known of v, []) q m.1 refl) in
      let told : IsEntry E W L of k q = (t.0.1 of q refl m.1).1 in let behind : IsBehindOwn (Ld of) v q.window k = (t.0.1 of q refl m.1).2 in
      let shows' : shown s' ≡ after (Ld of) (End q.window) k v = shows ∙ ap (λ (z : ℕ). after (Ld of) (End w) z v) same' in
      let full : length q.words ≡ W of q.window = m.3 ∙ ap (W of) (sym m.2) in (
        keeps_on E W C Ld L of words starts seats at r s is words s' (after (Ld of) (End q.window) k v) shows' keeps t.1 (few_ended (Ld of) k v q m.1 (accepted_low q.window) (few E W C Ld L of words starts seats at r s is)) r.short,
        λ q' j read pos first last. let one : q ≡ q' = same_some (sym m.1 ∙ read) in
            let e = told j pos (ap (λ (z : Reading). z.first) one ∙ first) (sym same' ∙ (last ∙ ap (λ (z : Reading). z.first) (sym one))) in
            (e.0, ap (λ (z : Reading). z.words) (sym one) ∙ (e.1 full ∙ ap (λ (z : ℕ). E of z j) m.2)),
        subst (λ (z : ℕ × ℕ). IsBehindOwn (Ld of) v z.0 z.1) (λ i. (m.2 i, sym same' i)) behind,
      )
