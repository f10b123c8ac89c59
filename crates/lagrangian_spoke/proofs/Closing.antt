-- The reply that is closed is an answer, and the seat stands for the spoke.
use Rattle.std.proofs.Common.{arith, refl, sym, ap, ◌∙◌, subst, ◌≡◌, ℕ, ◌+◌, ◌<◌, Bool, true, false, List, [], ◌∷◌, ◌++◌, length, ℤ, Option, Some, if◌then◌else◌}
use Rattle.std.specs.Prelude.{int_lt}
use Rattle.std.proofs.lemmas.List.{length-append}
use Rattle.run_calls.specs.MultiplierTests.{AreLong}
use Rattle.sp_model.specs.declared.run.Run.{Run}
use Rattle.log_words.specs.Replies.{reply_of}
use Rattle.log_words.specs.declared.log.Answer.{Answer}
use Rattle.log_words.specs.declared.log.Answer.TheVariants.{Reply}
use Rattle.window_words.specs.Views.{after, close_first, entry_of, one, pending}
use Rattle.window_words.specs.declared.views.View.{View}
use Rattle.window_words.specs.declared.views.Owned.{Owned}
use Rattle.window_words.specs.declared.views.Pending.{Pending}
use Rattle.window_words.specs.declared.views.Call.TheVariants as call
use Rattle.put_codec.specs.Layouts.{all_cells, layout_in, width_of, windows_of}
use Rattle.put_codec.specs.Entries.{FitsLayout}
use Rattle.put_codec.specs.Entries as codec
use Rattle.stamped_read.specs.Promises.{ReadsFor}
use Rattle.put_read.specs.Reads.{Accepts, ReadsPuts}
use Rattle.put_read.specs.declared.reader.PutReader.{PutReader}
use Rattle.stamped_read.specs.Readers.{IsReader, Reader}
use Rattle.lagrangian_spoke.specs.declared.spoke.Best.{Best}
use Rattle.lagrangian_spoke.specs.declared.spoke.LagrangianSpoke.{LagrangianSpoke}
use Rattle.lagrangian_spoke.specs.declared.spoke.Phase.TheVariants.{Asks, Writes}
use Rattle.lagrangian_spoke.specs.Answering.{AreAnswers, IsPut, better_value, last_put, replied}
use Rattle.lagrangian_spoke.specs.Spokes.{AreOfPut, IsAtStart, IsBest, IsBestIf, IsInPhase, IsSpoke, Records, StandsFor, best_after, is_better, left_after, pending_in, read_last}
use Rattle.lagrangian_spoke.proofs.Standing.{keeps_phase, same_reads}
use Rattle.lagrangian_spoke.proofs.Replying.{answer_more, best_more, last_more, replied_reply}
use Rattle.run_calls.specs.declared.put.Put.{Put}
use Rattle.put_codec.specs.declared.layout.Layout.{Layout}

-- the best after one reply more
module _ (run : Run) (s : LagrangianSpoke) (k : ℕ) (items : List Answer) (backs : AreOfPut run k s.reader.put.multipliers) where
  abbrev items' : List Answer
  items' = items ++ Reply k (Some s.value) ∷ []

  by_tests : (b t : Bool) → s.best.found ≡ b → int_lt s.best.value s.value ≡ t → IsBestIf b run items s.best → IsBest run items' (best_after (if b then t else true) s k)
  by_tests false t e l is = (best_more items (Reply k (Some s.value)) ∙ ap (λ o. better_value o k (Some s.value)) is, backs)
  by_tests true true e l is = (best_more items (Reply k (Some s.value)) ∙ (ap (λ o. better_value o k (Some s.value)) is.0 ∙ ap (λ (c : Bool). if c then Some (k, s.value) else Some (s.best.put, s.best.value)) l), backs)
  by_tests true false e l is = subst (λ (c : Bool). IsBestIf c run items' s.best) (sym e)
      (best_more items (Reply k (Some s.value)) ∙ (ap (λ o. better_value o k (Some s.value)) is.0 ∙ ap (λ (c : Bool). if c then Some (k, s.value) else Some (s.best.put, s.best.value)) l), is.1)

  best_stays : IsBest run items s.best → IsBest run items' (best_after (is_better s.best s.value) s k)
  best_stays is = by_tests s.best.found (int_lt s.best.value s.value) refl refl is

-- multipliers that change places are as long as before
long_best : (run : Run) (s : LagrangianSpoke) (k : ℕ) (b : Bool) → AreLong run s.best.multipliers → AreLong run s.reader.put.multipliers → AreLong run (best_after b s k).multipliers
long_best run s k true old new = new
long_best run s k false old new = old

long_left : (run : Run) (s : LagrangianSpoke) (b : Bool) → AreLong run s.best.multipliers → AreLong run s.reader.put.multipliers → AreLong run (left_after b s)
long_left run s true old new = old
long_left run s false old new = new

-- the reader reads on, with multipliers of the same length in its put
swapped_reads : (run : Run) (v : View) (r r' : PutReader) → ReadsPuts run v r → r'.layout ≡ r.layout → r'.reader ≡ r.reader → r'.put.x ≡ r.put.x → AreLong run r'.put.multipliers → ReadsPuts run v r'
swapped_reads run v r r' h layout reader x left = record {
  layout_is = layout ∙ h.layout_is;
  begins = ap (λ (z : Reader). z.window) reader ∙ h.begins;
  many = ap (λ (z : Reader). length z.parts) reader ∙ h.many;
  room = subst (λ (z : Layout). FitsLayout z r'.put) (sym (layout ∙ h.layout_is)) (record { multipliers = left; x = ap (λ (z : List ℤ). length z) x ∙ (h.room.x ∙ ap all_cells h.layout_is) });
  reads = subst (ReadsFor (codec.entry_of run) (width_of (layout_in run)) (windows_of (layout_in run)) v) (sym reader) h.reads;
  facts = subst IsReader (sym reader) h.facts;
  accepts = subst (Accepts run.options.ranks v.accepted) (sym reader) h.accepts;
}

-- a spoke that took one reply more
pub recorded_spoke : (run : Run) (s s' : LagrangianSpoke) (k : ℕ) → IsSpoke run s → IsPut run k → last_put s.answers.items < k → reply_of run s.number k ≡ Some s.value → AreLong run s.reader.put.multipliers
    → AreOfPut run k s.reader.put.multipliers → Records s s' k → IsSpoke run s'
recorded_spoke run s s' k h may newer value read_long backs r =
    let last : last_put s'.answers.items ≡ k = ap last_put r.items ∙ last_more s.answers.items (Reply k (Some s.value)) in
    let long : length s'.answers.items ≡ length s.answers.items + 1 = ap (λ (z : List Answer). length z) r.items ∙ length-append s.answers.items (Reply k (Some s.value) ∷ []) in
    record {
      kind = subst (λ n. n < run.options.lagrangian) (sym r.number) h.kind;
      answers = subst (λ (z : ℕ × List Answer). AreAnswers run z.0 z.1) (λ i. (sym r.number i, sym r.items i)) (answer_more run s.number s.answers.items (Reply k (Some s.value)) h.answers (may, sym value) newer);
      counted = let few = h.counted in omega arith;
      room = let room = h.room in let spare = r.spare in omega arith;
      best = subst (λ (z : List Answer × Best). IsBest run z.0 z.1) (λ i. (sym r.items i, sym r.best i)) (best_stays run s k s.answers.items backs h.best);
      long = subst (λ (z : Best). AreLong run z.multipliers) (sym r.best) (long_best run s k (is_better s.best s.value) h.long read_long);
    }

-- room for the answer is left
pub room_left : (run : Run) (v : View) (s : LagrangianSpoke) → StandsFor run v s → s.phase ≡ Writes 3 → 0 < s.answers.spare
room_left run v s h e =
    let now = subst (IsInPhase run s) e h.phase in
    let few = h.spoke.counted in let room = h.spoke.room in let newer = now.0.newer in let last = now.0.put.last in omega arith

pub closes : (run : Run) (v : View) (s s' : LagrangianSpoke) → StandsFor run v s → s.phase ≡ Writes 3 → Records (record s { phase = Asks }) s' (read_last s) → StandsFor run (after run.options.ranks call.Close 0 v) s'
closes run v s s' h e r =
    let now = subst (IsInPhase run s) e h.phase in
    let reply = now.0 in
    let k = read_last s in
    let opened : v.pending ≡ Some (pending k 3) = subst (λ q. v.pending ≡ pending_in q k) e h.opened in
    let newer = reply.newer in
    let last : last_put s'.answers.items ≡ k = ap last_put r.items ∙ last_more s.answers.items (Reply k (Some s.value)) in
    let same_last : read_last s' ≡ k = ap (λ (z : Reader). z.last) r.reader in
    let wide : all_cells s.reader.layout ≡ all_cells (layout_in run) = ap all_cells h.reads.layout_is in
    let read_long : AreLong run s.reader.put.multipliers = h.reads.room.multipliers ∙ wide in
    let left : AreLong run s'.reader.put.multipliers = subst (AreLong run) (sym r.left) (long_left run s (is_better s.best s.value) h.spoke.long read_long) in
    record {
      spoke = recorded_spoke run (record s { phase = Asks }) s' k (keeps_phase run s Asks h.spoke) reply.put newer reply.value read_long (reply.read.made, reply.read.made_is, ap (λ (z : Put). z.multipliers) reply.read.put_is) r;
      phase = subst (IsInPhase run s') (sym r.phase) (omega arith, subst IsAtStart (sym r.reader) now.1);
      owns = ap (λ (z : Option Pending × List Owned). close_first (entry_of z.0) z.1) (λ i. (opened i, h.owns i)) ∙ (λ i. one (run.options.ranks + sym r.number i) (sym (ap replied r.items ∙ replied_reply s.answers.items k (Some s.value)) i));
      opened = ap (λ q. pending_in q (read_last s')) (sym r.phase);
      reads = swapped_reads run (after run.options.ranks call.Close 0 v) s.reader s'.reader (same_reads run v (after run.options.ranks call.Close 0 v) s.reader h.reads refl refl) r.layout r.reader r.x left;
    }
