-- What each step of a rank asks of its seat and where it leaves it, and what the seats of a fresh board are.
use Rattle.std.proofs.Common.{◌≡◌, ℕ, suc, true≢false, ◌+◌, ◌-◌, ◌<◌, ◌≤◌, ◌≢◌, ◌^◌, Bool, true, false, List, [], ◌∷◌, ◌++◌, sym, refl, ap, ◌∙◌, subst, arith, map, length, get_or, length-append}
use Rattle.std.specs.Prelude.{None}
use Rattle.std.specs.List.{range_with_len}
use Rattle.std.proofs.Math.Seq.{get_or-append_seam}
use Rattle.std.proofs.lemmas.List.{get_or-map, get_or_append_left, length-map}
use Rattle.std.proofs.lemmas.List.FromFn.{length-map-range_with_len}
use mathlib.Core.Logic.{dite}
use native.Mathlib.Decide.{ℕ_discrete}
use Rattle.base_words.proofs.FirstAnswers.{same_some}
use Rattle.atomic_table.specs.Seated.{TableId}
use Rattle.window_words.specs.Views.{gained, pending}
use Rattle.window_words.specs.declared.views.Call.TheVariants.{Stop}
use Rattle.window_words.specs.Conditions.{MayOpen, IsNotAhead, IsNextWord, IsAllPut}
use Rattle.window_words.specs.Seating.{fresh_views, hub_view, no_view, owner_view, united}
use Rattle.window_words.specs.declared.views.View.{View}
use Rattle.table_board.specs.Tables.{SeatValue, seated, all_seats}
use Rattle.table_board.specs.Seats.{first_owned}
use Rattle.stamped_read.specs.Readers.{Reader, fresh_part, fresh_reader}
use Rattle.stamped_read.specs.Promises.{ReadsFor}
use Rattle.window_tests.specs.declared.tiny.Tiny.{Tiny}
use Rattle.window_tests.specs.Words.{word_at}
use Rattle.window_tests.specs.Phases.{entry_of, HasPut, IsPutting, WritesAt}
use Rattle.window_tests.specs.Ranks.{AreFreshSeats, AreOf, IsFreshRank, IsFreshSeat, IsLeaderSeat, IsRank, IsReadBy, IsRunning, IsSameSeat}
use Rattle.window_tests.proofs.Following.{still_runs}
use Rattle.window_tests.proofs.Phasing.{fresh_owner, wide, word_stands, wrote_none}

module _ (s : SeatValue Tiny) where
  pub rank_may_open : (w k : ℕ) → HasPut w k s.2 → k + 1 ≤ s.1.most → MayOpen s.1.most s.2 (k + 1)
  rank_may_open w k h top = let low = h.2 in (w, h.0, h.1, h.3, omega arith, top, omega arith)

  pub rank_leads : (w k n : ℕ) → HasPut w k s.2 → w < s.1.leaders → IsNotAhead s.1.leaders s.2 n
  rank_leads w k n h leads w' closed owned past = let same : w ≡ w' = same_some (ap first_owned (sym h.1 ∙ owned)) in absurd (omega arith)

  pub rank_next_word : (w k c n : ℕ) → IsPutting w k c s.2 → c < s.1.width → n ≡ word_at w (k + 1) c → IsNextWord entry_of wide s.1 s.2 n
  rank_next_word w k c n h more is = (w, h.0, pending (k + 1) c, h.1, h.2, more, is ∙ sym (word_stands s.1.width w (k + 1) c more))

  pub rank_all_put : (w k : ℕ) → IsPutting w k s.1.width s.2 → IsAllPut (wide s.1) s.2
  rank_all_put w k h = (w, h.0, pending (k + 1) s.1.width, h.1, h.2, refl)

-- a seat of the same table and meaning is a leader's as before
pub same_leads : (w k : ℕ) (s s' : SeatValue Tiny) → IsSameSeat s s' → IsLeaderSeat w k s → IsLeaderSeat w k s'
same_leads w k s s' same h = subst (λ (t : Tiny). (w < t.leaders) × (k ≤ t.most)) (sym same.1) h

-- a rank that has put nothing
pub fresh_rank : (s : SeatValue Tiny) (w width most : ℕ) → (runs : Bool) → IsFreshRank w width most s → (runs ≡ true → IsRunning s.2) → IsRank s w width most 0 0 runs
fresh_rank s w width most runs h running = record {
  leads = h.0;
  wide = h.1;
  small = h.2;
  top = h.3;
  low = omega arith;
  few = omega arith;
  writes = wrote_none width w 0 s.2 h.4;
  running = running;
}

-- what the next step asks
pub rank_asks : (s : SeatValue Tiny) (w width most last step : ℕ) (runs : Bool) → IsRank s w width most last step runs → last ≢ most → IsLeaderSeat w (last + 1) s × (last < 2 ^ 62)
rank_asks s w width most last step runs h more = let low = h.low in let top = h.top in let few = s.1.is_small in ((h.leads, omega arith), omega arith)

-- after one more step, counted
pub rank_stepped : (s s' : SeatValue Tiny) (w width most last step last' step' : ℕ) (runs : Bool) → IsRank s w width most last step runs → last ≢ most → IsSameSeat s s' → (step ≡ width + 1 → (last' ≡ last + 1) × (step' ≡ 0)) → (step < width + 1 → (last' ≡ last) × (step' ≡ step + 1))
    → WritesAt width w last (step + 1) s'.2 → IsRank s' w width most last' step' runs
rank_stepped s s' w width most last step last' step' runs h more same closed goes writes = let low = h.low in let few = h.few in dite (ℕ_discrete step (width + 1))
    (λ (e : step ≡ width + 1). let c = closed e in let is = c.0 in let none = c.1 in now (omega arith) (omega arith)
    (subst (λ (z : ℕ × ℕ). WritesAt width w z.0 z.1 s'.2) (λ i. (sym is i, sym none i)) (wrote_none width w (last + 1) s'.2 (writes.behind (omega arith)))))
    (λ (e : step ≢ width + 1). let c = goes (omega arith) in let is = c.0 in let one = c.1 in now (omega arith) (omega arith)
    (subst (λ (z : ℕ × ℕ). WritesAt width w z.0 z.1 s'.2) (λ i. (sym is i, sym one i)) writes))
  where
    now : last' ≤ most → step' < width + 2 → WritesAt width w last' step' s'.2 → IsRank s' w width most last' step' runs
    now low' few' writes' = record {
      leads = subst (λ (t : Tiny). w < t.leaders) (sym same.1) h.leads;
      wide = h.wide ∙ ap (λ (t : Tiny). t.width) (sym same.1);
      small = h.small;
      top = h.top ∙ ap (λ (t : Tiny). t.most) (sym same.1);
      low = low';
      few = few';
      writes = writes';
      running = λ is. still_runs s.2 s'.2 same.2 (h.running is);
    }

-- the seat at a leader's place is the one of its window's owner
pub seat_ranks : (s : SeatValue Tiny) (t : Tiny) (place : ℕ) → IsFreshSeat place t s → 0 < place → place ≤ t.leaders → t.width < 2 ^ 32 → IsFreshRank (place - 1) t.width t.most s
seat_ranks s t place is behind below small = let fewer = t.are_fewer in let here : place - 1 + 1 ≡ place = omega arith in
    subst (λ (x : Tiny). (place - 1 < x.leaders) × (t.width ≡ x.width) × (t.width < 2 ^ 32) × (t.most ≡ x.most) × HasPut (place - 1) 0 s.2) (sym is.0)
    (omega arith, refl, small, refl, subst (HasPut (place - 1) 0) (sym (is.1 ∙ (ap (λ (z : ℕ). get_or (fresh_views t.windows) z no_view) (sym here) ∙ fresh_owner t.windows (place - 1) (omega arith)))) ([], refl, omega arith, refl))

-- a reader that reads for every seat reads for this one
pub seat_reads : (s : SeatValue Tiny) (t : Tiny) (place : ℕ) (r : Reader) → IsFreshSeat place t s → ((v : View) → ReadsFor (entry_of t) (wide t) t.windows v r) → IsReadBy s r
seat_reads s t place r is reads = subst (λ (x : Tiny). ReadsFor (entry_of x) (wide x) x.windows s.2 r) (sym is.0) (reads s.2)

pub reads_leaders : (t : Tiny) (r : Reader) → r ≡ fresh_reader 0 (map (fresh_part (wide t)) (range_with_len 0 t.leaders)) → length r.parts ≡ t.leaders
reads_leaders t r e = ap (λ (z : Reader). length z.parts) e ∙ length-map-range_with_len (fresh_part (wide t)) 0 t.leaders

-- the seats that a fresh board gives out
pub fresh_seats : (table : TableId) (u t : Tiny) (seats : List (SeatValue Tiny)) → u ≡ t → seats ≡ all_seats table u u.windows → AreFreshSeats t seats
fresh_seats table u t seats same all place d below = let many = ap length all in let long = length-map (fresh_views u.windows) (seated table u) in
    let is : get_or seats place d ≡ seated table u (get_or (fresh_views u.windows) place no_view) = ap (λ (z : List (SeatValue Tiny)). get_or z place d) all ∙ get_or-map (seated table u) (fresh_views u.windows) place no_view d (omega arith) in
    (ap (λ (z : SeatValue Tiny). z.1) is ∙ same, ap (λ (z : SeatValue Tiny). z.2) is ∙ ap (λ (x : Tiny). get_or (fresh_views x.windows) place no_view) same)

-- the last of them, and the others
pub last_seat : (t : Tiny) (seats rest : List (SeatValue Tiny)) (s : SeatValue Tiny) → AreFreshSeats t seats → seats ≡ rest ++ s ∷ [] → IsFreshSeat (length rest) t s × AreFreshSeats t rest
last_seat t seats rest s fresh e = let long = length-append rest (s ∷ []) in let many = ap length e in (
  subst (IsFreshSeat (length rest) t) (ap (λ (z : List (SeatValue Tiny)). get_or z (length rest) s) e ∙ get_or-append_seam rest s [] s) (fresh (length rest) s (omega arith)),
  λ place d below. subst (IsFreshSeat place t) (ap (λ (z : List (SeatValue Tiny)). get_or z place d) e ∙ get_or_append_left rest (s ∷ []) d place below) (fresh place d (omega arith)),
)

-- they are of one table
pub of_table : (table : TableId) (u : Tiny) (seats : List (SeatValue Tiny)) → seats ≡ all_seats table u u.windows → AreOf table seats
of_table table u seats all place d below = let many = ap length all in let long = length-map (fresh_views u.windows) (seated table u) in
    ap (λ (z : List (SeatValue Tiny)). (get_or z place d).0) all ∙ ap (λ (z : SeatValue Tiny). z.0) (get_or-map (seated table u) (fresh_views u.windows) place no_view d (omega arith))

pub last_of_table : (table : TableId) (seats rest : List (SeatValue Tiny)) (s : SeatValue Tiny) → AreOf table seats → seats ≡ rest ++ s ∷ [] → (s.0 ≡ table) × AreOf table rest
last_of_table table seats rest s of e = let long = length-append rest (s ∷ []) in let many = ap length e in (
  sym (ap (λ (z : SeatValue Tiny). z.0) (ap (λ (z : List (SeatValue Tiny)). get_or z (length rest) s) e ∙ get_or-append_seam rest s [] s)) ∙ of (length rest) s (omega arith),
  λ place d below. sym (ap (λ (z : SeatValue Tiny). z.0) (ap (λ (z : List (SeatValue Tiny)). get_or z place d) e ∙ get_or_append_left rest (s ∷ []) d place below)) ∙ of place d (omega arith),
)

-- how many seats a fresh board of two windows gives out
pub three_seats : (table : TableId) (u t : Tiny) (seats : List (SeatValue Tiny)) → u ≡ t → t.windows ≡ 2 → seats ≡ all_seats table u u.windows → length seats ≡ 3
three_seats table u t seats same two all = ap length all ∙ (length-map (fresh_views u.windows) (seated table u) ∙ (ap suc (length-map-range_with_len (owner_view u.windows) 0 u.windows) ∙ ap (λ (x : Tiny). suc x.windows) same ∙ ap suc two))

one_less : (seats rest : List (SeatValue Tiny)) (s : SeatValue Tiny) (n : ℕ) → seats ≡ rest ++ s ∷ [] → length seats ≡ suc n → length rest ≡ n
one_less seats rest s n e long = let both = length-append rest (s ∷ []) in let many = ap length e in omega arith

-- the three, taken from the last on
pub taken_apart : (table : TableId) (u t : Tiny) (seats rest1 rest2 rest3 : List (SeatValue Tiny)) (last owner hub : SeatValue Tiny) → u ≡ t → t.windows ≡ 2 → seats ≡ all_seats table u u.windows → seats ≡ rest1 ++ last ∷ [] → rest1 ≡ rest2 ++ owner ∷ [] → rest2 ≡ rest3 ++ hub ∷ []
    → IsFreshSeat 2 t last × IsFreshSeat 1 t owner × IsFreshSeat 0 t hub × (owner.0 ≡ table) × (hub.0 ≡ table)
taken_apart table u t seats rest1 rest2 rest3 last owner hub same two all e1 e2 e3 =
    let n1 = one_less seats rest1 last 2 e1 (three_seats table u t seats same two all) in
    let n2 = one_less rest1 rest2 owner 1 e2 n1 in
    let n3 = one_less rest2 rest3 hub 0 e3 n2 in
    let t1 = last_seat t seats rest1 last (fresh_seats table u t seats same all) e1 in
    let t2 = last_seat t rest1 rest2 owner t1.1 e2 in
    let t3 = last_seat t rest2 rest3 hub t2.1 e3 in
    let o1 = last_of_table table seats rest1 last (of_table table u seats all) e1 in
    let o2 = last_of_table table rest1 rest2 owner o1.1 e2 in
    let o3 = last_of_table table rest2 rest3 hub o2.1 e3 in (
      subst (λ (z : ℕ). IsFreshSeat z t last) n1 t1.0,
      subst (λ (z : ℕ). IsFreshSeat z t owner) n2 t2.0,
      subst (λ (z : ℕ). IsFreshSeat z t hub) n3 t3.0,
      o2.0,
      o3.0,
    )

-- the hub's seat that takes in the seat of the first window's owner
pub hub_joins : (s o j : SeatValue Tiny) (t : Tiny) → IsFreshSeat 0 t s → IsFreshSeat 1 t o → 0 < t.leaders → t.width < 2 ^ 32 → j ≡ (s.0, s.1, united s.1.leaders s.2 o.2) → IsFreshRank 0 t.width t.most j × IsRunning j.2
hub_joins s o j t hub owner leads small e = let fewer = t.are_fewer in
    let is : j ≡ (s.0, t, united t.leaders (hub_view t.windows) (owner_view t.windows 0)) = e ∙ (λ i. (s.0, hub.0 i, united (hub.0 i).leaders (hub.1 i) ((owner.1 ∙ fresh_owner t.windows 0 (omega arith)) i))) in
    subst (λ (z : SeatValue Tiny). ((0 < z.1.leaders) × (t.width ≡ z.1.width) × (t.width < 2 ^ 32) × (t.most ≡ z.1.most) × HasPut 0 0 z.2) × IsRunning z.2) (sym is) ((leads, refl, small, refl, ([], refl, omega arith, refl)), (refl, refl))

-- no fresh seat has an entry open
pub fresh_free : (s : SeatValue Tiny) (t : Tiny) → IsFreshSeat 0 t s → s.2.pending ≡ None
fresh_free s t is = ap (λ (v : View). v.pending) is.1

pub owner_free : (s : SeatValue Tiny) (t : Tiny) → IsFreshSeat 1 t s → 0 < t.windows → s.2.pending ≡ None
owner_free s t is below = ap (λ (v : View). v.pending) (is.1 ∙ fresh_owner t.windows 0 below)

-- a rank whose seat, the hub's too, stops
pub rank_stops : (s s' : SeatValue Tiny) (w width most last step n : ℕ) (runs : Bool) → s'.1 ≡ s.1 → s'.2 ≡ gained (Stop n) 0 s.2 → IsRank s w width most last step runs → IsRank s' w width most last step false
rank_stops s s' w width most last step n runs same e h = record {
  leads = subst (λ (t : Tiny). w < t.leaders) (sym same) h.leads;
  wide = h.wide ∙ ap (λ (t : Tiny). t.width) (sym same);
  small = h.small;
  top = h.top ∙ ap (λ (t : Tiny). t.most) (sym same);
  low = h.low;
  few = h.few;
  writes = subst (WritesAt width w last step) (sym e) record { before = h.writes.before; between = h.writes.between; behind = h.writes.behind };
  running = λ is. absurd (true≢false (sym is));
}
