-- The seats of a fresh board, and who stands there that has done nothing.

use Rattle.std.proofs.Common.{arith, refl, sym, ap, subst, ◌∙◌, ◌≡◌, ℕ, suc, ◌+◌, ◌*◌, ◌<◌, ◌≤◌, true, List, [], ◌∷◌, length, get_or, if◌then◌else◌}
use Rattle.std.proofs.lemmas.List.{length-replicate}
use Rattle.std.proofs.lemmas.List.FromFn.{get_or-map-range_with_len}
use Rattle.base_words.proofs.NumberTests.{test_from_not_less}
use Rattle.wide_num.specs.RoomContents.{room_of, with_room}
use Rattle.drive_words.specs.Worlds.{new_rank}
use Rattle.lagrangian_spoke.specs.Spokes as spoke_words
use Rattle.plain_board.specs.Plain.{fresh_board, fresh_views, no_view, owner_view}
use Rattle.put_codec.specs.Entries.{entry_of}
use Rattle.put_codec.specs.Layouts.{cells_of, layout_in, width_of, windows_of}
use Rattle.put_codec.specs.declared.run_meaning.RunMeaning.{RunMeaning}
use Rattle.put_read.specs.SpokeReads.{IsSpokeWindow, ReadsSpoke}
use Rattle.put_read.specs.declared.spokes.SpokeReader.{SpokeReader}
use Rattle.rank_writer.specs.Writers as rank_words
use Rattle.sp_model.specs.declared.run.Run.{Run}
use Rattle.stamped_read.specs.Promises.{ReadsFor}
use Rattle.stamped_read.specs.Readers.{IsReader, Reader, fresh_reader}
use Rattle.window_words.specs.Views.{OwnsOne}
use Rattle.window_words.specs.declared.views.View.{View}
use Rattle.schedule_core.proofs.NewCrew.{IsNewPoll}
use Rattle.schedule_core.proofs.OneMeaning.{layout_of_run}
use Rattle.schedule_core.specs.Seats.{Boards, viewed}

-- a fresh board of a run
abbrev pub IsFreshBoard : RunMeaning → Boards → Type 0
IsFreshBoard m b = b ≡ fresh_board (λ (z : RunMeaning). width_of z.layout) (λ (z : RunMeaning). windows_of z.layout) m

module _ (run : Run) (m : RunMeaning) (b : Boards) (e : IsFreshBoard m b) (of : m.run.value ≡ run) where
  count : windows_of m.layout ≡ windows_of (layout_in run)
  count = ap windows_of (layout_of_run m run of)

  owner : (w : ℕ) → w < windows_of m.layout → viewed b (w + 1) ≡ owner_view (windows_of m.layout) w
  owner w below = let next : w + 1 ≡ suc w = omega arith in
      ap (λ (z : Boards). get_or z.2 (w + 1) no_view) e
      ∙ (ap (λ (z : ℕ). get_or (fresh_views (windows_of m.layout)) z no_view) next ∙ get_or-map-range_with_len (owner_view (windows_of m.layout)) 0 (windows_of m.layout) w w no_view below (omega arith))

  -- the owner of any window
  at_owner : (P : View → Type 0) (w : ℕ) → w < windows_of m.layout → P (owner_view (windows_of m.layout) w) → P (viewed b (w + 1))
  at_owner P w below h = subst P (sym (owner w below)) h

  -- a rank's seat
  stands_new : (i k : ℕ) (v : View) → i < run.options.ranks → OwnsOne v i [] → v.pending ≡ rank_words.pending_in (new_rank run i).writing k → rank_words.StandsFor (layout_in run) v (new_rank run i) k
  stands_new i k v l owns free = record { there = l; width = refl; within = tt; closed = []; owns = owns; last = refl; writes = free }

  pub rank_stands : (i k : ℕ) → i < run.options.ranks → rank_words.StandsFor (layout_in run) (viewed b (i + 1)) (new_rank run i) k
  rank_stands i k l = at_owner (λ v. rank_words.StandsFor (layout_in run) v (new_rank run i) k) i (let same = count in omega (arith, l, same)) (stands_new i k (owner_view (windows_of m.layout) i) l refl refl)

  -- a spoke's seat
  wide_view : (w : ℕ) → run.options.ranks ≤ length (owner_view (windows_of m.layout) w).accepted
  wide_view w = let same = count in let none : List ℕ = [] in let long = length-replicate (windows_of m.layout) none in omega (arith, same, long)

  pub spoke_seat : (i : ℕ) → i < run.options.lagrangian → spoke_words.IsNewSeat run.options.ranks (run.options.ranks + i) (viewed b (run.options.ranks + 1 + i))
  spoke_seat i l = let next : run.options.ranks + i + 1 ≡ run.options.ranks + 1 + i = omega arith in
      subst (λ (z : ℕ). spoke_words.IsNewSeat run.options.ranks (run.options.ranks + i) (viewed b z)) next
      (at_owner (spoke_words.IsNewSeat run.options.ranks (run.options.ranks + i)) (run.options.ranks + i) (let same = count in omega (arith, l, same))
      (record { owns = refl; free = refl; wide = wide_view (run.options.ranks + i) }))

  -- the hub's seat
  pub is_hub_seat : (viewed b 0).hub ≡ true
  is_hub_seat = ap (λ (z : Boards). (get_or z.2 0 no_view).hub) e

  pub not_stopped : (viewed b 0).stopped ≡ 0
  not_stopped = ap (λ (z : Boards). (get_or z.2 0 no_view).stopped) e

-- a reader of a spoke's window that has read nothing
spoke_window : (run : Run) (i : ℕ) → i < run.options.lagrangian → IsSpokeWindow run (run.options.ranks + i)
spoke_window run i l = record { behind = omega arith; there = omega (arith, l) }

spoke_width : (run : Run) (w : ℕ) → IsSpokeWindow run w → width_of (layout_in run) w ≡ 3
spoke_width run w is = ap (λ t. if t then 3 * cells_of (layout_in run) w else 3) (test_from_not_less w run.options.ranks is.behind)

fresh_reads : (entry : ℕ → ℕ → List ℕ) (wide : ℕ → ℕ) (count : ℕ) (v : View) (w : ℕ) → w < count → wide w ≡ 3 → ReadsFor entry wide count v (fresh_reader w (with_room 3 ∷ []))
fresh_reads entry wide count v w below three = record {
  laid = λ i l. first i (omega arith);
  reading = λ b. absurd (cc);
  parts = λ i l. absurd (omega arith);
}
  where
    first : (i : ℕ) → i ≡ 0 → (w + i < count) × (room_of (get_or (with_room 3 ∷ []) i (with_room 0)) ≡ wide (w + i))
    first i e = let same : w ≡ w + i = omega arith in (omega arith, ap (λ (z : ℕ). room_of (get_or (with_room 3 ∷ []) z (with_room 0))) e ∙ (sym three ∙ ap wide same))

fresh_facts : (w : ℕ) → IsReader (fresh_reader w (with_room 3 ∷ []))
fresh_facts w = record { below = omega arith; begins_newer = λ b. absurd (cc); follows_newer = λ l. absurd (omega arith) }

record Reads (run : Run) (v : View) (s : Reader) : Type 0 where
  spoke : IsSpokeWindow run s.window
  long : length s.parts ≡ 1
  reads : ReadsFor (entry_of run) (width_of (layout_in run)) (windows_of (layout_in run)) v s
  facts : IsReader s

pub new_poll_reads : (run : Run) (v : View) (i : ℕ) (r : SpokeReader) → i < run.options.lagrangian → IsNewPoll run i r → ReadsSpoke run v r
new_poll_reads run v i r l new =
    let w = run.options.ranks + i in
    let is = spoke_window run i l in
    let all : Reads run v r.reader = subst (Reads run v) (sym new) (record {
      spoke = is;
      long = refl;
      reads = fresh_reads (entry_of run) (width_of (layout_in run)) (windows_of (layout_in run)) v w is.there (spoke_width run w is);
      facts = fresh_facts w;
    }) in
    record { spoke = all.spoke; one = all.long; reads = all.reads; facts = all.facts }
