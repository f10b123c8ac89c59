-- The seat stands for the spoke after each of the steps that ask and write.
use Rattle.std.proofs.Common.{arith, refl, sym, ap, ◌∙◌, subst, ◌≡◌, ℕ, ◌+◌, ◌-◌, ◌*◌, ◌<◌, nat_lt, Bool, false, List, get_or, Some, if◌then◌else◌, ℤ, to_z, of_z, FitsSigned}
use Rattle.std.specs.Int.{w128}
use Rattle.std.proofs.lemmas.Int.{to_z-of_z}
use Rattle.base_words.proofs.NumberTests.{test_from_not_less}
use Rattle.lagrangian_spoke.proofs.Leading.{in_phase}
use Rattle.word_codec.specs.Spelling.{reply_words}
use Rattle.sp_model.specs.declared.run.Run.{Run}
use Rattle.log_words.specs.Replies.{reply_of}
use Rattle.window_words.specs.Conditions.{HasFollowed, IsAllPut, IsNotAhead, MayOpen}
use Rattle.window_words.specs.Views.{OwnsOne, after, one_more, pending, with_owned}
use Rattle.window_words.specs.declared.views.View.{View}
use Rattle.window_words.specs.declared.views.Pending.{Pending}
use Rattle.window_words.specs.declared.views.Call.TheVariants as call
use Rattle.put_codec.specs.Entries.{entry_of, part_of}
use Rattle.put_codec.specs.Layouts.{cells_of, layout_in, width_of}
use Rattle.lagrangian_spoke.specs.declared.spoke.LagrangianSpoke.{LagrangianSpoke}
use Rattle.lagrangian_spoke.specs.declared.spoke.Phase.{Phase}
use Rattle.lagrangian_spoke.specs.declared.spoke.Phase.TheVariants.{Asks, Reads, Opens, Writes, Ended}
use Rattle.lagrangian_spoke.specs.Answering.{replied}
use Rattle.lagrangian_spoke.specs.Spokes.{IsInPhase, IsReply, IsSpoke, StandsFor, pending_in, read_last}
use Rattle.put_read.specs.Reads.{Accepts, ReadsPuts}
use Rattle.put_read.specs.declared.reader.PutReader.{PutReader}
use Rattle.lagrangian_spoke.proofs.Replying.{replied_below}
use Rattle.put_codec.specs.declared.layout.Layout.{Layout}

-- a reader reads on for a seat with the same reading that has accepted the same
pub same_reads : (run : Run) (v v' : View) (r : PutReader) → ReadsPuts run v r → v'.reading ≡ v.reading → v'.accepted ≡ v.accepted → ReadsPuts run v' r
same_reads run v v' r h reading accepted = record {
  layout_is = h.layout_is;
  begins = h.begins;
  many = h.many;
  room = h.room;
  reads = record { laid = h.reads.laid; reading = λ b. reading ∙ h.reads.reading b; parts = h.reads.parts };
  facts = h.facts;
  accepts = subst (λ z. Accepts run.options.ranks z r.reader) (sym accepted) h.accepts;
}

not_rank : (a b : ℕ) → nat_lt (a + b) a ≡ false
not_rank a b = test_from_not_less (a + b) a (omega arith)

-- what a spoke keeps doesn't depend on its phase
pub keeps_phase : (run : Run) (s : LagrangianSpoke) (p : Phase) → IsSpoke run s → IsSpoke run (in_phase s p)
keeps_phase run s p h = record { kind = h.kind; answers = h.answers; counted = h.counted; room = h.room; best = h.best; long = h.long }

reply_in : (run : Run) (s : LagrangianSpoke) (p : Phase) → IsReply run s → IsReply run (in_phase s p)
reply_in run s p h = record { put = h.put; newer = h.newer; value = h.value; read = h.read }

module _ (run : Run) (v : View) (s : LagrangianSpoke) (h : StandsFor run v s) where
  now_in : (p : Phase) → s.phase ≡ p → IsInPhase run s p
  now_in p e = subst (IsInPhase run s) e h.phase

  pending_now : (p : Phase) → s.phase ≡ p → v.pending ≡ pending_in p (read_last s)
  pending_now p e = subst (λ q. v.pending ≡ pending_in q (read_last s)) e h.opened

  -- asked: a reading begins, or the spoke has ended
  pub asks_reads : s.phase ≡ Asks → StandsFor run v (in_phase s Reads)
  asks_reads e = let now = now_in Asks e in record {
    spoke = keeps_phase run s Reads h.spoke;
    phase = now.0;
    owns = h.owns;
    opened = pending_now Asks e;
    reads = h.reads;
  }

  pub asks_ended : s.phase ≡ Asks → StandsFor run v (in_phase s Ended)
  asks_ended e = let now = now_in Asks e in record {
    spoke = keeps_phase run s Ended h.spoke;
    phase = now;
    owns = h.owns;
    opened = pending_now Asks e;
    reads = h.reads;
  }

  -- the reply may be opened
  pub may_open : (most : ℕ) → most ≡ run.options.iterations + 1 → s.phase ≡ Opens → MayOpen most v (read_last s)
  may_open most last e =
      let now = now_in Opens e in let put = now.0.put in let low = put.first in let high = put.last in let newer = now.0.newer in
      let below = replied_below run s.number s.answers.items h.spoke.answers in
      (run.options.ranks + s.number, replied s.answers.items, h.owns, pending_now Opens e, low, omega arith, omega arith)

  pub not_ahead : (ranks : ℕ) → ranks ≡ run.options.ranks → IsNotAhead ranks v (read_last s)
  not_ahead ranks e w closed owns low = subst (λ n. HasFollowed n v (read_last s)) (sym e) h.reads.accepts.followed

  pub opens_writes : s.phase ≡ Opens → StandsFor run (after run.options.ranks (call.Open (read_last s)) 0 v) (in_phase s (Writes 0))
  opens_writes e = let now = now_in Opens e in record {
    spoke = keeps_phase run s (Writes 0) h.spoke;
    phase = (reply_in run s (Writes 0) now.0, now.1, omega arith);
    owns = h.owns;
    opened = refl;
    reads = same_reads run v (with_owned v v.owned (Some (pending (read_last s) 0))) s.reader h.reads refl refl;
  }

  -- the next word of the reply
  spoke_width : width_of (layout_in run) (run.options.ranks + s.number) ≡ 3
  spoke_width = ap (λ (b : Bool). if b then 3 * cells_of (layout_in run) (run.options.ranks + s.number) else 3) (not_rank run.options.ranks s.number)

  spoke_entry : (k : ℕ) → entry_of run (run.options.ranks + s.number) k ≡ reply_words (reply_of run s.number k)
  unfolding entry_of
  spoke_entry k =
      let at : run.options.ranks + s.number - run.options.ranks ≡ s.number = omega arith in
      ap (λ (b : Bool). if b then part_of run (run.options.ranks + s.number) k else reply_words (reply_of run (run.options.ranks + s.number - run.options.ranks) k)) (not_rank run.options.ranks s.number)
      ∙ ap (λ n. reply_words (reply_of run n k)) at

  pub next_word : (n : ℕ) (layout : _) (word : ℕ) → layout ≡ layout_in run → s.phase ≡ Writes n → n < 3 → word ≡ get_or (reply_words (Some s.value)) n 0
      → (w : ℕ) × (closed : List ℕ) × (p : Pending) × OwnsOne v w closed × (v.pending ≡ Some p) × (p.put < width_of layout w) × (word ≡ get_or (entry_of run w p.entry) p.put 0)
  next_word n layout word l e left is =
      let now = now_in (Writes n) e in
      let wide : width_of layout (run.options.ranks + s.number) ≡ 3 = ap (λ (z : Layout). width_of z (run.options.ranks + s.number)) l ∙ spoke_width in (
        run.options.ranks + s.number,
        replied s.answers.items,
        pending (read_last s) n,
        h.owns,
        pending_now (Writes n) e,
        omega arith,
        is ∙ (ap (λ o. get_or (reply_words o) n 0) (sym now.0.value) ∙ ap (λ z. get_or z n 0) (sym (spoke_entry (read_last s)))),
      )

  pub writes_more : (n : ℕ) (word : ℕ) → s.phase ≡ Writes n → n < 3 → StandsFor run (after run.options.ranks (call.Put word) 0 v) (in_phase s (Writes (n + 1)))
  writes_more n word e left = let now = now_in (Writes n) e in record {
    spoke = keeps_phase run s (Writes (n + 1)) h.spoke;
    phase = (reply_in run s (Writes (n + 1)) now.0, now.1, omega arith);
    owns = h.owns;
    opened = ap one_more (pending_now (Writes n) e);
    reads = same_reads run v (with_owned v v.owned (one_more v.pending)) s.reader h.reads refl refl;
  }

  pub all_put : (layout : _) → layout ≡ layout_in run → s.phase ≡ Writes 3 → IsAllPut (width_of layout) v
  all_put layout l e =
      let wide : width_of layout (run.options.ranks + s.number) ≡ 3 = ap (λ (z : Layout). width_of z (run.options.ranks + s.number)) l ∙ spoke_width in
      (run.options.ranks + s.number, replied s.answers.items, pending (read_last s) 3, h.owns, pending_now (Writes 3) e, sym wide)

-- the word of a reply whose value went through its bits
pub reply_at : (value : ℤ) (n word : ℕ) → FitsSigned w128 value → word ≡ get_or (reply_words (Some (to_z w128 (of_z w128 value)))) n 0 → word ≡ get_or (reply_words (Some value)) n 0
reply_at value n word fits e = e ∙ ap (λ (v : ℤ). get_or (reply_words (Some v)) n 0) (to_z-of_z w128 value fits)
