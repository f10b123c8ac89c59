-- Lists of actors that have done nothing, made one after another.

use Rattle.std.proofs.Common.{arith, refl, sym, ap, subst, inl, inr, ◌∙◌, ◌≡◌, ℕ, zero, suc, ◌+◌, ◌<◌, List, [], ◌∷◌, ◌++◌, length, map, option_map}
use Rattle.std.specs.Prelude.{slice_get, Some}
use Rattle.std.specs.List.{range_with_len}
use Rattle.std.proofs.lemmas.List.{length-append, length-map}
use Rattle.std.proofs.lemmas.List.FromFn.{get_or-map-range_with_len, length-map-range_with_len}
use Rattle.std.proofs.lemmas.Option.{get_or_from_slice_get, slice_get-map, slice_get_cases, slice_get_within}
use Rattle.base_words.proofs.Made.{is_made}
use Rattle.wide_num.specs.RoomContents.{with_room}
use Rattle.drive_words.specs.Shown.{reading_of, spoke_of}
use Rattle.drive_words.specs.Worlds.{new_rank, new_spoke, no_reading}
use Rattle.lagrangian_spoke.specs.Spokes as spoke_words
use Rattle.lagrangian_spoke.specs.declared.spoke.LagrangianSpoke.{LagrangianSpoke}
use Rattle.put_codec.specs.Layouts.{layout_in, width_of}
use Rattle.put_codec.specs.declared.layout.Layout.{Layout}
use Rattle.put_read.specs.Reads.{fresh_in}
use Rattle.put_read.specs.declared.spokes.SpokeReader.{SpokeReader}
use Rattle.rank_writer.specs.Writers as rank_words
use Rattle.rank_writer.specs.declared.writer.RankWriter.{RankWriter}
use Rattle.sp_model.specs.declared.run.Run.{Run}
use Rattle.stamped_read.specs.Readers.{Reader, fresh_reader}
use Rattle.window_words.specs.declared.views.View.{View}
use Rattle.schedule_core.specs.Drivers.{AreNewPolls, AreNewSpokes}

-- a list of n items, each of which has a property by its place
pub record AreEach {X : Type 0} (P : ℕ → X → Type 0) (n : ℕ) (xs : List X) : Type 0 where
  pub many : length xs ≡ n
  pub each : (i : ℕ) (x : X) → slice_get xs i ≡ Some x → P i x

module _ {X : Type 0} where
  no_item : (i : ℕ) (x : X) → slice_get [] i ≡ Some x → ⊥
  no_item i x e = cc

  same_item : (x y : X) → Some x ≡ Some y → x ≡ y
  same_item x y e = cc

  each_push : (P : ℕ → X → Type 0) (xs : List X) (x : X) → ((i : ℕ) (y : X) → slice_get xs i ≡ Some y → P i y) → P (length xs) x → (i : ℕ) (y : X) → slice_get (xs ++ x ∷ []) i ≡ Some y → P i y
  each_push P [] x each last zero y e = subst (P 0) (same_item x y e) last
  each_push P [] x each last (suc i) y e = absurd (no_item i y e)
  each_push P (z ∷ zs) x each last zero y e = each zero y e
  each_push P (z ∷ zs) x each last (suc i) y e = each_push (λ k. P (suc k)) zs x (λ k. each (suc k)) last i y e

  there_at : (xs : List X) (i : ℕ) → i < length xs → (x : X) × (slice_get xs i ≡ Some x)
  there_at xs i l = elim ((slice_get_cases xs i).1) [
    | inl h ↦ (h.0, h.2)
    | inr h ↦ absurd (let p = h.0 in omega (arith, l, p))
  ]

  -- none yet, and one more
  pub none_yet : (P : ℕ → X → Type 0) (xs : List X) → xs ≡ [] → AreEach P 0 xs
  none_yet P xs e = subst (AreEach P 0) (sym e) (record { many = refl; each = λ i x h. absurd (no_item i x h) })

  pub one_more : (P : ℕ → X → Type 0) (n : ℕ) (xs xs' : List X) (x : X) → xs' ≡ xs ++ x ∷ [] → AreEach P n xs → P n x → AreEach P (n + 1) xs'
  one_more P n xs xs' x pushed are is = subst (AreEach P (n + 1)) (sym pushed) (record {
    many = length-append xs (x ∷ []) ∙ ap (λ m. m + 1) are.many;
    each = each_push P xs x are.each (subst (λ m. P m x) (sym are.many) is);
  })

  -- what each shows is what its place makes
  pub each_shows : {Y : Type 0} (P : ℕ → X → Type 0) (n : ℕ) (xs : List X) (f : X → Y) (g : ℕ → Y) → AreEach P n xs → ((i : ℕ) (x : X) → P i x → f x ≡ g i) → map f xs ≡ map g (range_with_len 0 n)
  each_shows P n xs f g are same = is_made (map f xs) g n (length-map xs f ∙ are.many) (λ i d l.
      let at = there_at xs i (let many = are.many in omega (arith, l, many)) in
      get_or_from_slice_get (map f xs) i (f at.0) d (slice_get-map f xs i ∙ ap (λ o. option_map f o) at.1) ∙ same i at.0 (are.each i at.0 at.1))

  -- an item of those that places make
  pub made_there : (f : ℕ → X) (n i : ℕ) (x : X) → slice_get (map f (range_with_len 0 n)) i ≡ Some x → i < n
  made_there f n i x e = let l = slice_get_within (map f (range_with_len 0 n)) i x e in let many = length-map-range_with_len f 0 n in omega (arith, l, many)

  pub made_is : (f : ℕ → X) (n i : ℕ) (x : X) → slice_get (map f (range_with_len 0 n)) i ≡ Some x → f i ≡ x
  made_is f n i x e = sym (get_or-map-range_with_len f 0 n i i x (made_there f n i x e) (omega arith)) ∙ get_or_from_slice_get (map f (range_with_len 0 n)) i x x e

-- a rank that has written nothing
pub new_rank_is : (run : Run) (layout : Layout) (i : ℕ) (w : RankWriter) → layout ≡ layout_in run → rank_words.IsFresh layout i w → w ≡ new_rank run i
new_rank_is run layout i w e fresh = λ t. record {
  rank = fresh.rank_is t;
  width = (fresh.width ∙ ap (λ (z : Layout). width_of z i) e) t;
  last = fresh.last t;
  writing = fresh.writing t;
}

-- a spoke that has answered nothing
pub record IsNewSpoke (run : Run) (i : ℕ) (s : LagrangianSpoke) : Type 0 where
  pub fresh : spoke_words.IsFresh i s
  pub reader : s.reader.reader ≡ fresh_in (layout_in run)
  pub stands : (v : View) → spoke_words.IsNewSeat run.options.ranks (run.options.ranks + i) v → spoke_words.StandsFor run v s

pub new_spokes_are : (run : Run) (n : ℕ) (spokes : List LagrangianSpoke) → n ≡ run.options.lagrangian → AreEach (IsNewSpoke run) n spokes → AreNewSpokes run spokes
new_spokes_are run n spokes all are = record {
  many = are.many ∙ all;
  fresh = λ i s at. (are.each i s at).fresh;
  reader = λ i s at. (are.each i s at).reader;
  stands = λ i s v at seat. (are.each i s at).stands v seat;
}

pub each_new_spoke : (run : Run) (spokes : List LagrangianSpoke) → AreNewSpokes run spokes → AreEach (IsNewSpoke run) run.options.lagrangian spokes
each_new_spoke run spokes new = record {
  many = new.many;
  each = λ i s at. record { fresh = new.fresh i s at; reader = new.reader i s at; stands = λ v seat. new.stands i s v at seat };
}

new_reading : (layout : Layout) (r : Reader) → r ≡ fresh_in layout → reading_of r ≡ no_reading
new_reading layout r e = ap reading_of e

pub new_spoke_shows : (run : Run) (i : ℕ) (s : LagrangianSpoke) → IsNewSpoke run i s → spoke_of s ≡ new_spoke i
new_spoke_shows run i s new = λ t. record {
  phase = new.fresh.phase t;
  reading = new_reading (layout_in run) s.reader.reader new.reader t;
  answers = new.fresh.answers t;
}

-- a reader of a spoke's window that has read nothing
abbrev pub IsNewPoll : Run → ℕ → SpokeReader → Type 0
IsNewPoll run i r = r.reader ≡ fresh_reader (run.options.ranks + i) (with_room 3 ∷ [])

pub new_polls_are : (run : Run) (n : ℕ) (polls : List SpokeReader) → n ≡ run.options.lagrangian → AreEach (IsNewPoll run) n polls → AreNewPolls run polls
new_polls_are run n polls all are = (are.many ∙ all, are.each)
