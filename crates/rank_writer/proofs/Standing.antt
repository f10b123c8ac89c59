-- The call that a rank makes may be made, and the seat stands for the rank behind it.

use Rattle.std.proofs.Common.{arith, refl, sym, ap, subst, ◌∙◌, ◌≡◌, ℕ, ◌+◌, ◌-◌, ◌<◌, ◌≤◌, nat_lt, Bool, true, List, [], ◌∷◌, ◌++◌, length, get_or, Option, Some, if◌then◌else◌}
use Rattle.std.proofs.lemmas.List.{length-append}
use Rattle.std.proofs.Math.Seq.{get_or-append_seam}
use Rattle.std.specs.Option.{option_map_or}
use Rattle.base_words.proofs.NumberTests.{test_from_less}
use Rattle.word_codec.specs.Spelling.{reply_words}
use Rattle.sp_model.specs.declared.run.Run.{Run}
use Rattle.run_calls.specs.declared.put.Put.{Put}
use Rattle.put_words.specs.Puts.{Made, put_of}
use Rattle.put_words.proofs.Inside.{put_inside, put_long}
use Rattle.log_words.specs.Replies.{reply_of}
use Rattle.put_codec.specs.Entries.{FitsLayout, part_of, part_words}
use Rattle.put_codec.specs.Entries as codec
use Rattle.put_codec.specs.Layouts.{layout_in, width_of}
use Rattle.put_codec.specs.declared.layout.Layout.{Layout}
use Rattle.window_words.specs.Conditions.{IsAllPut, IsNotAhead, MayOpen}
use Rattle.window_words.specs.Views.{OwnsOne, after, close_first, entry_of, last_of, one_more, pending}
use Rattle.window_words.specs.declared.views.Call.TheVariants as call
use Rattle.window_words.specs.declared.views.Owned.{Owned}
use Rattle.window_words.specs.declared.views.Pending.{Pending}
use Rattle.window_words.specs.declared.views.View.{View}
use Rattle.rank_writer.specs.Writers.{IsWithin, StandsFor, pending_in}
use Rattle.rank_writer.specs.declared.writer.RankWriter.{RankWriter}
use Rattle.rank_writer.specs.declared.writer.Writing.{Writing}
use Rattle.rank_writer.specs.declared.writer.Writing.TheVariants.{Open, Shut}

abbrev in_writing : RankWriter → Writing → RankWriter
in_writing w p = record w { writing = p }

abbrev no_window : Owned
no_window = record { window = 0; closed = [] }

last_push : (ks : List ℕ) (k : ℕ) → last_of (ks ++ k ∷ []) ≡ k
last_push ks k =
    let long : length (ks ++ k ∷ []) ≡ length ks + 1 = length-append ks (k ∷ []) in
    let at : length (ks ++ k ∷ []) - 1 ≡ length ks = omega (arith, long) in
    ap (λ n. get_or (ks ++ k ∷ []) n 0) at ∙ get_or-append_seam ks k [] 0

module _ (layout : Layout) (v : View) (w : RankWriter) (k : ℕ) (s : StandsFor layout v w k) where
  pending_now : (p : Writing) → w.writing ≡ p → v.pending ≡ pending_in p k
  pending_now p e = s.writes ∙ ap (λ q. pending_in q k) e

  within_now : (p : Writing) → w.writing ≡ p → IsWithin w.width p
  within_now p e = subst (IsWithin w.width) e s.within

  -- the put may be opened
  pub may_open : (most : ℕ) → w.writing ≡ Shut → w.last < k → k ≤ most → MayOpen most v k
  may_open most e l top = (w.rank, s.closed, s.owns, pending_now Shut e, omega arith, top, omega (arith, s.last))

  same_window : (u : ℕ) (closed : List ℕ) → OwnsOne v u closed → w.rank ≡ u
  same_window u closed owns = ap (λ (xs : List Owned). (get_or xs 0 no_window).window) (sym s.owns ∙ owns)

  -- a rank's window is a leader's
  pub not_ahead : IsNotAhead layout.ranks v k
  not_ahead u closed owns l = absurd (let same = same_window u closed owns in omega (arith, s.there, same))

  pub opened : w.writing ≡ Shut → StandsFor layout (after layout.ranks (call.Open k) 0 v) (in_writing w (Open 0)) k
  opened e = record {
    there = s.there;
    width = s.width;
    within = omega arith;
    closed = s.closed;
    owns = s.owns;
    last = s.last;
    writes = refl;
  }

  -- the next word of the part
  pub next_word : (n word : ℕ) (entry : ℕ → ℕ → List ℕ) (words : List ℕ) → w.writing ≡ Open n → n < w.width → entry w.rank k ≡ words → word ≡ get_or words n 0
      → (u : ℕ) × (closed : List ℕ) × (p : Pending) × OwnsOne v u closed × (v.pending ≡ Some p) × (p.put < width_of layout u) × (word ≡ get_or (entry u p.entry) p.put 0)
  next_word n word entry words e left is at = (
    w.rank,
    s.closed,
    pending k n,
    s.owns,
    pending_now (Open n) e,
    omega (arith, s.width),
    at ∙ ap (λ z. get_or z n 0) (sym is),
  )

  pub one_word : (n word : ℕ) → w.writing ≡ Open n → n < w.width → StandsFor layout (after layout.ranks (call.Put word) 0 v) (in_writing w (Open (n + 1))) k
  one_word n word e left = record {
    there = s.there;
    width = s.width;
    within = omega arith;
    closed = s.closed;
    owns = s.owns;
    last = s.last;
    writes = ap one_more (pending_now (Open n) e);
  }

  -- all words are put
  pub all_put : (n : ℕ) → w.writing ≡ Open n → w.width ≤ n → IsAllPut (width_of layout) v
  all_put n e full = let within : n ≤ w.width = within_now (Open n) e in (w.rank, s.closed, pending k n, s.owns, pending_now (Open n) e, omega (arith, s.width))

  pub shut : (n : ℕ) → w.writing ≡ Open n → StandsFor layout (after layout.ranks call.Close 0 v) (record w { last = k; writing = Shut }) k
  shut n e = record {
    there = s.there;
    width = s.width;
    within = tt;
    closed = s.closed ++ k ∷ [];
    owns = ap (λ (x : ℕ × List Owned). close_first x.0 x.1) (λ j. (ap entry_of (pending_now (Open n) e) j, s.owns j));
    last = last_push s.closed k;
    writes = refl;
  }

module _ (run : Run) (layout : Layout) (put : Put) (made : Made) (laid : layout ≡ layout_in run) (made_is : put_of run put.number ≡ Some made) (put_is : put ≡ made.put) where
  part_is : (i : ℕ) → part_of run i put.number ≡ part_words layout i put
  part_is i = ap (λ (o : Option Made). option_map_or (λ (m : Made). part_words (layout_in run) i m.put) o []) made_is ∙ ap (λ (x : Layout × Put). part_words x.0 i x.1) (λ j. (sym laid j, sym put_is j))

  -- the entry of the put in a rank's window is the rank's part of it
  pub entry_is : (i : ℕ) → i < layout.ranks → codec.entry_of run i put.number ≡ part_words layout i put
  unfolding codec.entry_of
  entry_is i l =
      let test : nat_lt i run.options.ranks ≡ true = test_from_less i run.options.ranks (subst (λ (x : Layout). i < x.ranks) laid l) in
      ap (λ (b : Bool). if b then part_of run i put.number else reply_words (reply_of run (i - run.options.ranks) put.number)) test ∙ part_is i

  pub put_fits : FitsLayout layout put
  put_fits = subst (λ (x : Layout × Put). FitsLayout x.0 x.1) (λ j. (sym laid j, sym put_is j)) (record { multipliers = put_long run put.number made made_is; x = (put_inside run put.number made made_is).long })
