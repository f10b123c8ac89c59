-- What each step of a rank asks of a board, and where it leaves the rank.
use Rattle.std.proofs.Common.{sym, ap, ◌∙◌, subst, arith, ◌≡◌, ℕ, ◌+◌, ◌<◌, ◌≤◌, ◌^◌, List, [], ◌∷◌, ◌++◌, get_or}
use Rattle.std.specs.Prelude.{Option}
use Rattle.window_words.specs.Views.{gained, pending}
use Rattle.window_words.specs.Conditions.{IsAllPut, IsNextWord, IsNotAhead, MayOpen}
use Rattle.window_words.specs.declared.views.View.{View}
use Rattle.window_words.specs.declared.views.Pending.{Pending}
use Rattle.window_words.specs.declared.views.Call.TheVariants.{Open, Put, Close}
use Rattle.window_words.proofs.Listed.{last_push}
use Rattle.plain_board.specs.Plain.{selected}
use Rattle.plain_board.specs.Seats.{first_window}
use Rattle.sp_model.specs.declared.run.Run.{Run}
use Rattle.run_calls.specs.declared.put.Put.{Put as AnyPut}
use Rattle.put_codec.specs.Entries as codec
use Rattle.put_codec.specs.Layouts.{layout_in, width_of, windows_of}
use Rattle.put_codec.specs.declared.layout.Layout.{Layout}
use Rattle.put_codec.specs.declared.run_meaning.RunMeaning.{RunMeaning}
use Rattle.put_codec.proofs.Places.{rank_width, start_inside}
use Rattle.put_codec.proofs.Spellable.{put_fits}
use Rattle.put_read.proofs.Putting.{rank_entry}
use Rattle.lagrangian_spoke.specs.Spokes.{IsPutOf}
use Rattle.spoke_tests.specs.Seats.{IsBoard, IsFree, IsPutting, WritesAt, viewed}
use Rattle.spoke_tests.proofs.Seating.{Boards, Selects}

-- the layout of the board is the run's
pub layout_is : (run : Run) (b : Boards) → IsBoard run b → b.0.layout ≡ layout_in run
layout_is run b h = b.0.facts.layout_is ∙ ap layout_in h

-- the seats of the ranks and of the spokes are there
pub seat_there : (run : Run) (b : Boards) (seat : ℕ) → IsBoard run b → seat ≤ run.options.ranks + run.options.lagrangian → seat ≤ windows_of b.0.layout
seat_there run b seat h low =
    let all : windows_of b.0.layout ≡ windows_of (layout_in run) = ap windows_of (layout_is run b h) in
    omega arith

-- a rank's part has few words
pub few_words : (run : Run) (w : ℕ) → w < run.options.ranks → width_of (layout_in run) w < 2 ^ 32
few_words run w below =
    let inside = start_inside (layout_in run) (w + 1) (omega arith) in
    let few = run.facts.counts.nonleaf_cells in
    let is = rank_width (layout_in run) w below in
    omega arith

-- what the put has in its lists fits the layout
pub fits : (run : Run) (layout : Layout) (put : AnyPut) → IsPutOf run put → layout ≡ layout_in run → codec.FitsLayout layout put
fits run layout put is l = subst (λ (z : Layout × AnyPut). codec.FitsLayout z.0 z.1) (λ i. (sym l i, sym is.put_is i)) (put_fits run put.number is.made is.made_is)

module _ (run : Run) (put : AnyPut) (is : IsPutOf run put) (b b1 : Boards) (w : ℕ) (board : IsBoard run b) (below : w < run.options.ranks) (e1 : Selects (w + 1) b b1) where
  pub may_open : IsFree w put.number (viewed b (w + 1)) → MayOpen b1.0.most (selected b1) put.number
  may_open h =
      let most : b.0.most ≡ run.options.iterations + 1 = b.0.facts.most_is ∙ ap (λ (r : Run). r.options.iterations + 1) board in
      let low = is.number.first in let high = is.number.last in
      subst (λ (z : Boards). MayOpen z.0.most (selected z) put.number) (sym e1) (w, h.0, h.1, h.3, low, omega arith, h.2)

  pub not_ahead : IsFree w put.number (viewed b (w + 1)) → IsNotAhead b1.0.layout.ranks (selected b1) put.number
  not_ahead h =
      let ranks : b.0.layout.ranks ≡ run.options.ranks = ap (λ (z : Layout). z.ranks) (layout_is run b board) in
      subst (λ (z : Boards). IsNotAhead z.0.layout.ranks (selected z) put.number) (sym e1)
      (λ w' closed owned past. let same : w ≡ w' = ap first_window (sym h.1 ∙ owned) in absurd (omega arith))

  pub next_word : (c : ℕ) (layout : Layout) (word : ℕ) → IsPutting w put.number c (viewed b (w + 1)) → layout ≡ layout_in run → c < width_of (layout_in run) w → word ≡ get_or (codec.part_words layout w put) c 0
      → IsNextWord (λ (m : RunMeaning). codec.entry_of m.run.value) (λ (m : RunMeaning). width_of m.layout) b1.0 (selected b1) word
  next_word c layout word h l few word_is =
      let part : codec.part_words layout w put ≡ codec.entry_of run w put.number =
      (λ i. codec.part_words (l i) w (is.put_is i)) ∙ sym (rank_entry run w put.number is.made below is.made_is) in
      subst (λ (z : Boards). IsNextWord (λ (m : RunMeaning). codec.entry_of m.run.value) (λ (m : RunMeaning). width_of m.layout) z.0 (selected z) word) (sym e1) (
        w,
        h.0,
        pending put.number c,
        h.1,
        h.2,
        subst (λ (z : Layout). c < width_of z w) (sym (layout_is run b board)) few,
        word_is ∙ ap (λ (z : List ℕ). get_or z c 0) (part ∙ ap (λ (r : Run). codec.entry_of r w put.number) (sym board)),
      )

  pub all_put : IsPutting w put.number (width_of (layout_in run) w) (viewed b (w + 1)) → IsAllPut (width_of b1.0.layout) (selected b1)
  all_put h = subst (λ (z : Boards). IsAllPut (width_of z.0.layout) (selected z)) (sym e1)
      (w, h.0, pending put.number (width_of (layout_in run) w), h.1, h.2, ap (λ (z : Layout). width_of z w) (sym (layout_is run b board)))

-- the views after each step
pub part_opened : (w k : ℕ) (v v' : View) → IsFree w k v → v' ≡ gained (Open k) 0 v → IsPutting w k 0 v'
part_opened w k v v' h e = (h.0, ap (λ (z : View). z.owned) e ∙ h.1, ap (λ (z : View). z.pending) e)

pub word_put : (w k c n : ℕ) (v v' : View) → IsPutting w k c v → v' ≡ gained (Put n) 0 v → IsPutting w k (c + 1) v'
word_put w k c n v v' h e = (h.0, ap (λ (z : View). z.owned) e ∙ h.1, ap (λ (z : View). z.pending) e ∙ ap (λ (z : Option Pending). (gained (Put n) 0 record v { pending = z }).pending) h.2)

pub part_closed : (w k c : ℕ) (v v' : View) → IsPutting w k c v → v' ≡ gained Close 0 v → IsFree w (k + 1) v'
part_closed w k c v v' h e = let last = last_push h.0 k in (
  h.0 ++ k ∷ [],
  ap (λ (z : View). z.owned) e ∙ (λ i. (gained Close 0 record v { owned = h.1 i; pending = h.2 i }).owned),
  omega arith,
  ap (λ (z : View). z.pending) e,
)

-- steps counted
pub wrote_first : (width w k step : ℕ) (v : View) → step ≡ 0 → IsPutting w k 0 v → WritesAt width w k (step + 1) v
wrote_first width w k step v e h = record {
  before = λ z. absurd (omega arith);
  between = λ c is l. let same : 0 ≡ c = omega arith in subst (λ (z : ℕ). IsPutting w k z v) same h;
  behind = λ is. absurd (omega arith);
}

pub wrote_next : (width w k step c : ℕ) (v : View) → step ≡ c + 1 → c + 1 ≤ width → IsPutting w k (c + 1) v → WritesAt width w k (step + 1) v
wrote_next width w k step c v e l h = record {
  before = λ z. absurd (omega arith);
  between = λ d is m. let same : c + 1 ≡ d = omega arith in subst (λ (z : ℕ). IsPutting w k z v) same h;
  behind = λ is. absurd (omega arith);
}

pub wrote_last : (width w k step : ℕ) (v : View) → step ≡ width + 1 → IsFree w (k + 1) v → WritesAt width w k (step + 1) v
wrote_last width w k step v e h = record {
  before = λ z. absurd (omega arith);
  between = λ d is m. absurd (omega arith);
  behind = λ is. h;
}

pub wrote_none : (width w k : ℕ) (v : View) → IsFree w k v → WritesAt width w k 0 v
wrote_none width w k v h = record {
  before = λ z. h;
  between = λ c is l. absurd (omega arith);
  behind = λ is. absurd (omega arith);
}
