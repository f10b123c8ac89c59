-- A reading of a spoke's window is one of its replies, and what a step of it leaves.
use Rattle.std.proofs.Common.{arith, refl, sym, ap, ◌∙◌, subst, ◌≡◌, ℕ, ◌+◌, ◌-◌, ◌*◌, ◌/◌, ◌%◌, nat_eq, nat_le, Bool, true, false, List, [], ◌∷◌, length, ℤ, Option, Some, None, FitsSigned, if◌then◌else◌, inl, inr}
use Rattle.std.specs.Int.{w128}
use Rattle.std.specs.Option.{IfSome}
use Rattle.std.proofs.lemmas.Bool.{eqb-true}
use Rattle.base_words.proofs.NumberTests.{test_from_not_less}
use Rattle.wide_num.specs.RoomContents.{with_room}
use Rattle.word_codec.specs.Spelling.{AreReplyWords, IsFirstOff, reply_words}
use Rattle.sp_model.specs.declared.run.Run.{Run}
use Rattle.log_words.specs.Replies.{reply_of}
use Rattle.window_words.specs.Views.{accept, after, ended, is_whole, with_accepted, with_reading}
use Rattle.window_words.specs.declared.views.View.{View}
use Rattle.window_words.specs.declared.views.Reading.{Reading}
use Rattle.window_words.specs.declared.views.Call.TheVariants as call
use Rattle.stamped_read.specs.declared.read.Again.{Again}
use Rattle.stamped_read.specs.declared.read.Again.TheVariants.{Odd, Old, Torn}
use Rattle.stamped_read.specs.declared.read.Read.{Read}
use Rattle.stamped_read.specs.declared.read.Read.TheVariants as read
use Rattle.stamped_read.specs.Promises.{IsSameGroup, ReadsFor, ReadsReplies, TellsWhole}
use Rattle.stamped_read.specs.Readers.{IsReader, Reader, begins_told, due, due_begun, ends_told, follows_told, fresh_reader, is_more, mixed, next, part, read_told, unfit, window_of, words_of}
use Rattle.put_codec.specs.declared.layout.Layout.{Layout}
use Rattle.put_codec.specs.Entries.{entry_of}
use Rattle.put_codec.specs.Layouts.{cells_of, layout_in, width_of, windows_of}
use Rattle.put_codec.proofs.Fitting.{reply_length}
use Rattle.put_codec.proofs.ReplyWords.{reply_entry, reply_fits}
use Rattle.put_read.specs.SpokeReads.{IsOfOne, IsSpokeWindow, ReadsSpoke}
use Rattle.put_read.specs.declared.spokes.SpokeReader.{SpokeReader}
use Rattle.put_read.proofs.Accepting.{stays_reader, whole_test}
use Rattle.put_read.proofs.Putting.{fresh_facts, from_layout}

-- words that a reply has aren't off anywhere
reply_has : (reply : Option ℤ) (words : List ℕ) → IfSome reply (FitsSigned w128) → words ≡ reply_words reply → AreReplyWords words
reply_has None words fits e = inl e
reply_has (Some v) words fits e = inr (v, fits, e)

pub never_off : (reply : Option ℤ) (words : List ℕ) (at : ℕ) → IfSome reply (FitsSigned w128) → words ≡ reply_words reply → IsFirstOff AreReplyWords words at → ⊥
never_off reply words at fits e off = off.1 (words, reply_has reply words fits e, refl)

-- a spoke's window has three words
spoke_width : (run : Run) (w : ℕ) → IsSpokeWindow run w → width_of (layout_in run) w ≡ 3
spoke_width run w is = ap (λ (b : Bool). if b then 3 * cells_of (layout_in run) w else 3) (test_from_not_less w run.options.ranks is.behind)

-- a new reader
pub new_reads : (run : Run) (v : View) (window : ℕ) (s : Reader) → s ≡ fresh_reader window (with_room 3 ∷ []) → ReadsReplies window s → IsSpokeWindow run window → ReadsSpoke run v record { reader = s }
new_reads run v window s fresh reads is =
    let one : length s.parts ≡ 1 = ap (λ (z : Reader). length z.parts) fresh in
    record {
      spoke = subst (IsSpokeWindow run) (sym (ap (λ (z : Reader). z.window) fresh)) is;
      one = one;
      reads = reads (entry_of run) (width_of (layout_in run)) (windows_of (layout_in run)) v is.there (spoke_width run window is);
      facts = fresh_facts s (omega arith) (ap (λ (z : Reader). z.begun) fresh) (ap (λ (z : Reader). z.rank) fresh);
    }

-- a reader that made a step reads on
pub spoke_on : (run : Run) (v v' : View) (r : SpokeReader) (s' : Reader) (layout : Layout) (n : ℕ) → layout ≡ layout_in run → ReadsSpoke run v r → IsSameGroup r.reader s' → s' ≡ next (due r.reader) r.reader n
    → ReadsFor (entry_of run) (width_of layout) (windows_of layout) v' s' → ReadsSpoke run v' record { reader = s' }
spoke_on run v v' r s' layout n e h group stands reads = record {
  spoke = subst (IsSpokeWindow run) (sym group.0) h.spoke;
  one = group.1 ∙ h.one;
  reads = from_layout run layout v' s' e reads;
  facts = subst IsReader (sym stands) (stays_reader r.reader n h.facts);
}

-- the words that were read are those of the spoke's reply
spoke_words : (run : Run) (r : SpokeReader) (words : List ℕ) (i k : ℕ) → words ≡ entry_of run (r.reader.window + 0) k → r.reader.window ≡ run.options.ranks + i → words ≡ reply_words (reply_of run i k)
spoke_words run r words i k e at =
    let place : r.reader.window + 0 ≡ run.options.ranks + i = omega arith in
    e ∙ (ap (λ w. entry_of run w k) place ∙ reply_entry run i k)

module _ (run : Run) (v : View) (r : SpokeReader) (s' : Reader) (most k : ℕ) (h : ReadsSpoke run v r) (last : most ≡ run.options.iterations + 1) (whole : TellsWhole (entry_of run) most r.reader s' (read.Reading k)) where
  words_read : words_of s' 0 ≡ entry_of run (r.reader.window + 0) k
  words_read = let one = h.one in whole.3 0 (omega arith)

  pub three_words : length (words_of s' 0) ≡ 3
  three_words =
      let behind = h.spoke.behind in
      let i = r.reader.window - run.options.ranks in
      let at : r.reader.window ≡ run.options.ranks + i = omega arith in
      ap (λ (z : List ℕ). length z) (spoke_words run r (words_of s' 0) i k words_read at) ∙ reply_length (reply_of run i k)

  pub value_read : (value : Option ℤ) → ((reply : Option ℤ) → IfSome reply (FitsSigned w128) → words_of s' 0 ≡ reply_words reply → value ≡ reply) → (i : ℕ) → r.reader.window ≡ run.options.ranks + i → value ≡ reply_of run i k
  value_read value decoded i at = decoded (reply_of run i k) (reply_fits run i k (omega (arith, whole.1))) (spoke_words run r (words_of s' 0) i k words_read at)

-- what a step of a reader of one window tells, and what the seat has accepted behind it
abbrev ToldOfOne : Read → Type 0
ToldOfOne read.Going = Unit {0}
ToldOfOne (read.Reading k) = Unit {0}
ToldOfOne (read.Again again) = IsOfOne again

abbrev AcceptsBy : ℕ → View → Reader → Read → View → Type 0
AcceptsBy leaders v r read.Going v' = v'.accepted ≡ v.accepted
AcceptsBy leaders v r (read.Reading k) v' = v'.accepted ≡ accept leaders r.window k v.accepted
AcceptsBy leaders v r (read.Again again) v' = v'.accepted ≡ v.accepted

module _ (r : Reader) (n : ℕ) (facts : IsReader r) (one : length r.parts ≡ 1) where
  first_rank : r.rank ≡ 0
  first_rank = let some = facts.below in omega arith

  begin_of_one : (odd first late : Bool) → first ≡ true → ToldOfOne (begins_told (if odd then Some (Odd r.rank n) else (if first then (if late then Some (Old n r.last) else None) else mixed r n)))
  begin_of_one true first late e = first_rank
  begin_of_one false true true e = tt
  begin_of_one false true false e = tt
  begin_of_one false false late e = absurd (cc)

  end_of_one : (t more : Bool) → ToldOfOne (if t then follows_told more r else read.Again (Torn r.rank r.first n))
  end_of_one true true = tt
  end_of_one true false = tt
  end_of_one false more = first_rank

  step_of_one : (b full : Bool) → ToldOfOne (read_told (if b then due_begun full (window_of r) else call.Begin (window_of r)) r n)
  step_of_one false full = begin_of_one (nat_eq (n % 2) 1) (nat_eq r.rank 0) (nat_le (n / 2) r.last) (ap (λ k. nat_eq k 0) first_rank)
  step_of_one true false = tt
  step_of_one true true = end_of_one (nat_eq n r.first) (is_more r)

  pub told_of_one : (told : Read) → told ≡ read_told (due r) r n → ToldOfOne told
  told_of_one told e = subst ToldOfOne (sym e) (step_of_one r.begun (nat_eq (part r r.rank).spare 0))

  module _ (leaders : ℕ) (v : View) (reading : r.begun ≡ true → v.reading ≡ Some record { window = window_of r; first = r.first; words = words_of r r.rank }) where
    begin_accepts : (u : Option Again) (v' : View) → v'.accepted ≡ v.accepted → AcceptsBy leaders v r (begins_told u) v'
    begin_accepts None v' e = e
    begin_accepts (Some again) v' e = e

    none_more : is_more r ≡ false
    none_more = test_from_not_less (r.rank + 1) (length r.parts) (omega (arith, first_rank))

    end_accepts : (t whole more : Bool) → (t ≡ true → n ≡ r.first) → whole ≡ t → more ≡ false
        → AcceptsBy leaders v r (if t then follows_told more r else read.Again (Torn r.rank r.first n)) (if whole then with_accepted v (accept leaders (window_of r) (n / 2) v.accepted) else with_reading v None)
    end_accepts true true false same w m =
        let at : window_of r ≡ r.window = omega (arith, first_rank) in
        let half : n / 2 ≡ r.first / 2 = ap (λ k. k / 2) (same refl) in
        λ i. accept leaders (at i) (half i) v.accepted
    end_accepts false false more same w m = refl
    end_accepts true true true same w m = absurd (cc)
    end_accepts true false more same w m = absurd (cc)
    end_accepts false true more same w m = absurd (cc)

    step_accepts : (b full : Bool) → r.begun ≡ b → AcceptsBy leaders v r (read_told (if b then due_begun full (window_of r) else call.Begin (window_of r)) r n) (after leaders (if b then due_begun full (window_of r) else call.Begin (window_of r)) n v)
    step_accepts false full e = begin_accepts (unfit r n) (after leaders (call.Begin (window_of r)) n v) refl
    step_accepts true false e = refl
    step_accepts true true e =
        subst (λ (o : Option Reading). AcceptsBy leaders v r (ends_told r n) (ended leaders n v o)) (sym (reading e))
        (end_accepts (nat_eq n r.first) (is_whole r.first n) (is_more r) (eqb-true n r.first) (whole_test r n (nat_eq n r.first) (facts.begins_newer e) refl) none_more)

    pub told_accepts : (told : Read) (v' : View) → told ≡ read_told (due r) r n → v' ≡ after leaders (due r) n v → AcceptsBy leaders v r told v'
    told_accepts told v' e knows = subst (λ (z : Read × View). AcceptsBy leaders v r z.0 z.1) (λ i. (sym e i, sym knows i)) (step_accepts r.begun (nat_eq (part r r.rank).spare 0) refl)
