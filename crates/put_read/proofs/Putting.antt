-- A put is filled part after part, and a reading of a run's windows is one of its puts.
use Rattle.std.proofs.Common.{arith, refl, sym, ap, ◌∙◌, subst, ◌≡◌, ◌≢◌, ℕ, ◌+◌, ◌-◌, ◌*◌, ◌/◌, ◌<◌, ◌≤◌, ◌^◌, Bool, false, List, [], length, ℤ, Option, Some, None, if◌then◌else◌}
use Rattle.std.specs.Option.{option_map_or}
use Rattle.std.proofs.Math.Nat.{zero-div}
use Rattle.word_codec.specs.Spelling.{reply_words}
use Rattle.run_calls.specs.declared.put.Put.{Put}
use Rattle.sp_model.specs.declared.run.Run.{Run}
use Rattle.put_words.specs.Puts.{Made, put_of}
use Rattle.put_words.proofs.Inside.{put_number}
use Rattle.log_words.specs.Replies.{reply_of}
use Rattle.window_words.specs.Views.{after}
use Rattle.window_words.specs.declared.views.View.{View}
use Rattle.stamped_read.specs.Promises.{ReadsFor, TellsWhole, IsSameGroup}
use Rattle.stamped_read.specs.Readers.{IsReader, Reader, due, fresh_part, next, words_of}
use Rattle.stamped_read.specs.declared.read.Read.TheVariants as read
use Rattle.std.proofs.lemmas.List.FromFn.{length-map-range_with_len}
use Rattle.base_words.proofs.NumberTests.{test_from_less}
use Rattle.put_read.specs.declared.reader.PutReader.{PutReader}
use Rattle.put_codec.specs.declared.layout.Layout.{Layout}
use Rattle.put_codec.specs.Entries.{AgreeBelow, FitsLayout, IsSpelled, entry_of, part_of, part_words}
use Rattle.put_codec.specs.Layouts.{all_cells, cells_of, layout_in, start_of, width_of, windows_of}
use Rattle.put_codec.proofs.Fitting.{part_length}
use Rattle.put_codec.proofs.Places.{rank_width, start_inside, start_last, start_rises}
use Rattle.put_codec.proofs.Spellable.{put_fits, put_spelled}
use Rattle.put_read.specs.Cells.{HasCells, HasPlaces, KeepsShape}
use Rattle.put_read.specs.Reads.{Accepts, AreRanks, AreShort, HasParts, ReadsPuts, TellsPut, fresh_in, no_entry}
use Rattle.put_read.proofs.Accepting.{stays_accepted, stays_reader}
use Rattle.put_read.proofs.Taking.{part_cells, same_put}

-- while parts are taken
pub record IsFilling (layout : Layout) (s : Reader) (number : ℕ) (put : Put) (rank : ℕ) : Type 0 where
  pub room : FitsLayout layout put
  pub number_is : put.number ≡ number
  pub agrees : (given : Put) → IsSpelled given → HasParts layout s given → AgreeBelow (start_of layout rank) put given

pub filling_begins : (layout : Layout) (s : Reader) (number : ℕ) (old put : Put) → FitsLayout layout old → put.number ≡ number → put.multipliers ≡ old.multipliers → put.x ≡ old.x → IsFilling layout s number put 0
filling_begins layout s number old put room n m x = record {
  room = record { multipliers = ap (λ (z : _). length z.values) m ∙ room.multipliers; x = ap (λ (z : List ℤ). length z) x ∙ room.x };
  number_is = n;
  agrees = λ given spelled has. record { multipliers = λ c l. absurd (none c l); x = λ c l. absurd (none c l) };
}
  where
    none : (c : ℕ) → c < start_of layout 0 → ⊥
    none c l =
        let zero : 0 * layout.scenarios ≡ 0 = omega arith in
        let first : 0 * layout.scenarios / layout.ranks ≡ 0 = ap (λ n. n / layout.ranks) zero ∙ zero-div layout.ranks in
        let same : start_of layout 0 ≡ 0 * layout.nonleaf = ap (λ n. n * layout.nonleaf) first in
        absurd (omega arith)

module _ (layout : Layout) (s : Reader) (number : ℕ) (put : Put) (rank : ℕ) (l : rank < layout.ranks) (short : AreShort layout s) (f : IsFilling layout s number put rank) where
  pub places_free : (words : List ℕ) (start : ℕ) → words ≡ words_of s rank → start ≡ start_of layout rank → HasPlaces put start (length words / 3)
  places_free words start e at =
      let few = short rank l in let wide = rank_width layout rank l in let same = ap (λ (z : List ℕ). length z) e in
      let rises = start_rises layout rank (omega arith) in let inside = start_inside layout (rank + 1) (omega arith) in
      let rm = f.room.multipliers in let rx = f.room.x in record { multipliers = omega arith; x = omega arith }

  pub part_inside : (words : List ℕ) (start : ℕ) → words ≡ words_of s rank → start ≡ start_of layout rank → all_cells layout < 2 ^ 64 → start + length words / 3 < 2 ^ 64
  part_inside words start e at few = let free = places_free words start e at in let end = free.x in let long = f.room.x in omega arith

  pub filling_more : (words : List ℕ) (start : ℕ) (put' : Put) → words ≡ words_of s rank → start ≡ start_of layout rank → KeepsShape put put'
      → ((given : Put) → IsSpelled given → HasCells words start given → AgreeBelow start put given → AgreeBelow (start + length words / 3) put' given) → IsFilling layout s number put' (rank + 1)
  filling_more words start put' e at shape more = record {
    room = record { multipliers = shape.multipliers ∙ f.room.multipliers; x = shape.x ∙ f.room.x };
    number_is = shape.number ∙ f.number_is;
    agrees = λ given spelled has.
        let is : words ≡ part_words layout rank given = e ∙ has rank l in
        let long : length words ≡ 3 * cells_of layout rank = ap (λ (z : List ℕ). length z) is ∙ part_length layout rank given in
        let rises = start_rises layout rank (omega arith) in
        let cells = subst (λ n. HasCells words n given) (sym at) (part_cells layout rank given words is) in
        let before = subst (λ n. AgreeBelow n put given) (sym at) (f.agrees given spelled has) in
        let end : start + length words / 3 ≡ start_of layout (rank + 1) = omega arith in
        subst (λ n. AgreeBelow n put' given) end (more given spelled cells before);
  }

pub filling_ends : (layout : Layout) (s : Reader) (number : ℕ) (put : Put) (rank : ℕ) → rank ≡ layout.ranks → 0 < layout.ranks → IsFilling layout s number put rank
    → (given : Put) → IsSpelled given → FitsLayout layout given → given.number ≡ number → HasParts layout s given → put ≡ given
filling_ends layout s number put rank e some f given spelled fits n has =
    let all : start_of layout rank ≡ all_cells layout = ap (start_of layout) e ∙ start_last layout some in
    same_put put given (all_cells layout) (f.number_is ∙ sym n) f.room.multipliers fits.multipliers f.room.x fits.x (subst (λ k. AgreeBelow k put given) all (f.agrees given spelled has))

-- the entry of a rank's window
pub rank_entry : (run : Run) (w k : ℕ) (made : Made) → w < run.options.ranks → put_of run k ≡ Some made → entry_of run w k ≡ part_words (layout_in run) w made.put
unfolding entry_of
rank_entry run w k made l e =
    ap (λ (b : Bool). if b then part_of run w k else reply_words (reply_of run (w - run.options.ranks) k)) (test_from_less w run.options.ranks l)
    ∙ ap (λ o. option_map_or (λ (m : Made). part_words (layout_in run) w m.put) o []) e

-- parts are never longer than their windows
pub short_parts : (run : Run) (v : View) (s : Reader) → s.window ≡ 0 → length s.parts ≡ run.options.ranks → ReadsFor (entry_of run) (width_of (layout_in run)) (windows_of (layout_in run)) v s → AreShort (layout_in run) s
short_parts run v s first many reads i l =
    let laid = reads.laid i (omega arith) in
    let at : s.window + i ≡ i = omega arith in
    let wide = ap (width_of (layout_in run)) at in
    omega (arith, laid.1, wide)

-- what a reader of a run's windows asks for, by the layout that its meaning has
pub by_layout : (run : Run) (layout : Layout) (v : View) (s : Reader) → layout ≡ layout_in run → ReadsFor (entry_of run) (width_of (layout_in run)) (windows_of (layout_in run)) v s → ReadsFor (entry_of run) (width_of layout) (windows_of layout) v s
by_layout run layout v s e reads = subst (λ z. ReadsFor (entry_of run) (width_of z) (windows_of z) v s) (sym e) reads

pub from_layout : (run : Run) (layout : Layout) (v : View) (s : Reader) → layout ≡ layout_in run → ReadsFor (entry_of run) (width_of layout) (windows_of layout) v s → ReadsFor (entry_of run) (width_of (layout_in run)) (windows_of (layout_in run)) v s
from_layout run layout v s e reads = subst (λ z. ReadsFor (entry_of run) (width_of z) (windows_of z) v s) e reads

-- a reader that has read nothing has no reading and no parts, whatever the entries are
fresh_any : (entry entry' : ℕ → ℕ → List ℕ) (wide : ℕ → ℕ) (count count' : ℕ) (v : View) (s : Reader) → count ≤ count' → s.begun ≡ false → s.rank ≡ 0 → ReadsFor entry wide count v s → ReadsFor entry' wide count' v s
fresh_any entry entry' wide count count' v s more b z h = record {
  laid = λ i l. let old = h.laid i l in let under = old.0 in (omega arith, old.1);
  reading = λ t. absurd (cc);
  parts = λ i l. absurd (omega arith);
}

pub fresh_facts : (s : Reader) → 0 < length s.parts → s.begun ≡ false → s.rank ≡ 0 → IsReader s
fresh_facts s some b z = record { below = omega arith; begins_newer = λ t. absurd (cc); follows_newer = λ l. absurd (omega arith) }

fresh_accepts : (leaders : ℕ) (v : View) (s : Reader) → leaders ≤ length v.accepted → s.rank ≡ 0 → s.last ≡ 0 → Accepts leaders v.accepted s
fresh_accepts leaders v s wide z none = record { wide = wide; followed = λ i l. omega arith; parts = λ i l. absurd (omega arith) }

pub new_reads : (run : Run) (layout : Layout) (s : Reader) (put : Put) → layout ≡ layout_in run → FitsLayout layout put → s ≡ fresh_in layout → ((v : View) → ReadsFor no_entry (width_of layout) layout.ranks v s) → (v : View) → run.options.ranks ≤ length v.accepted → ReadsPuts run v record { reader = s; layout = layout; put = put }
new_reads run layout s put e room fresh reads v wide =
    let many : length s.parts ≡ run.options.ranks = ap (λ (z : Reader). length z.parts) fresh ∙ (length-map-range_with_len (fresh_part (width_of layout)) 0 layout.ranks ∙ ap (λ (z : Layout). z.ranks) e) in
    let some = run.facts.options_fit.some_ranks in
    let begun : s.begun ≡ false = ap (λ (z : Reader). z.begun) fresh in
    let rank : s.rank ≡ 0 = ap (λ (z : Reader). z.rank) fresh in
    record {
      layout_is = e;
      begins = ap (λ (z : Reader). z.window) fresh;
      many = many;
      room = room;
      reads = from_layout run layout v s e (fresh_any no_entry (entry_of run) (width_of layout) layout.ranks (windows_of layout) v s (omega arith) begun rank (reads v));
      facts = fresh_facts s (omega arith) begun rank;
      accepts = fresh_accepts run.options.ranks v s wide rank (ap (λ (z : Reader). z.last) fresh);
    }

-- the ranks' windows of a run
pub run_ranks : (run : Run) (layout : Layout) → layout ≡ layout_in run → AreRanks layout
run_ranks run layout e = let some = run.facts.options_fit.some_ranks in let same = ap (λ (z : Layout). z.ranks) e in record {
  some = omega arith;
  narrow = λ i l.
      let rises = start_rises layout i (omega arith) in
      let inside = start_inside layout (i + 1) (omega arith) in
      let few = run.facts.counts.nonleaf_cells in
      let all = ap all_cells e in
      omega arith;
  wide = λ w k l low high. absurd (omega arith);
  few = omega arith;
  led = omega arith;
}

-- a reader that made a step reads on
pub steps_on : (run : Run) (v v' : View) (r : PutReader) (s' : Reader) (put' : Put) (layout : Layout) (n : ℕ) → layout ≡ layout_in run → ReadsPuts run v r → IsSameGroup r.reader s' → v' ≡ after layout.ranks (due r.reader) n v → s' ≡ next (due r.reader) r.reader n
    → ReadsFor (entry_of run) (width_of layout) (windows_of layout) v' s' → FitsLayout r.layout put' → ReadsPuts run v' record { reader = s'; layout = r.layout; put = put' }
steps_on run v v' r s' put' layout n e h group knows stands reads room =
    let ranks : layout.ranks ≡ run.options.ranks = ap (λ (z : Layout). z.ranks) e in
    let view : after run.options.ranks (due r.reader) n v ≡ v' = ap (λ z. after z (due r.reader) n v) (sym ranks) ∙ sym knows in
    record {
      layout_is = h.layout_is;
      begins = group.0 ∙ h.begins;
      many = group.1 ∙ h.many;
      room = room;
      reads = from_layout run layout v' s' e reads;
      facts = subst IsReader (sym stands) (stays_reader r.reader n h.facts);
      accepts = subst (λ (z : View × Reader). Accepts run.options.ranks z.0.accepted z.1) (λ i. (view i, sym stands i)) (stays_accepted run.options.ranks v r.reader n h.accepts h.facts h.begins h.many h.reads.reading);
    }

pub step_short : (run : Run) (v v' : View) (r : PutReader) (s' : Reader) (layout : Layout) → layout ≡ layout_in run → ReadsPuts run v r → IsSameGroup r.reader s' → ReadsFor (entry_of run) (width_of layout) (windows_of layout) v' s' → AreShort r.layout s'
step_short run v v' r s' layout e h group reads = subst (λ z. AreShort z s') (sym h.layout_is) (short_parts run v' s' (group.0 ∙ h.begins) (group.1 ∙ h.many) (from_layout run layout v' s' e reads))

pub ranks_there : (run : Run) (r : PutReader) (v : View) → ReadsPuts run v r → (0 < r.layout.ranks) × (r.layout.ranks ≡ length r.reader.parts)
ranks_there run r v h = let some = run.facts.options_fit.some_ranks in let same = ap (λ (z : Layout). z.ranks) h.layout_is in let many = h.many in (omega arith, omega arith)

-- the put that was read
made_there : (o : Option Made) → o ≢ None → (made : Made) × (o ≡ Some made)
made_there None some = absurd (some refl)
made_there (Some made) some = (made, refl)

pub reading_tells : (run : Run) (v : View) (r : PutReader) (s' : Reader) (put' : Put) (most k : ℕ) → ReadsPuts run v r → most ≡ run.options.iterations + 1 → ((k : ℕ) → 1 ≤ k → put_of run k ≢ None) → TellsWhole (entry_of run) most r.reader s' (read.Reading k)
    → ((given : Put) → IsSpelled given → FitsLayout r.layout given → given.number ≡ k → HasParts r.layout s' given → put' ≡ given) → TellsPut run r record { reader = s'; layout = r.layout; put = put' } (read.Reading k)
reading_tells run v r s' put' most k h last some whole filled =
    let few : k ≤ run.options.iterations + 1 = omega (arith, whole.1) in
    let newer = whole.0 in
    let there = made_there (put_of run k) (some k (omega arith)) in
    let made = there.0 in
    let parts : HasParts (layout_in run) s' made.put = λ i l.
    let window : i < length r.reader.parts = let many = h.many in omega arith in
    let at : r.reader.window + i ≡ i = let begins = h.begins in omega arith in
    whole.3 i window ∙ (ap (λ w. entry_of run w k) at ∙ rank_entry run i k made l there.1) in
    let number = put_number run k made there.1 in
    let same = filled made.put (put_spelled run k made few there.1) (subst (λ z. FitsLayout z made.put) (sym h.layout_is) (put_fits run k made there.1)) number (subst (λ z. HasParts z s' made.put) (sym h.layout_is) parts) in (
      newer,
      few,
      whole.2,
      record { number = ap (λ (z : Put). z.number) same ∙ number; made = made; made_is = there.1; put_is = same },
    )

pub cells_few : (run : Run) (v : View) (r : PutReader) → ReadsPuts run v r → all_cells r.layout < 2 ^ 64
cells_few run v r h = let few = run.facts.counts.nonleaf_cells in let same = ap all_cells h.layout_is in omega arith
