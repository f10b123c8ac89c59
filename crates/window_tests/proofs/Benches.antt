-- A bench after each step of a rank.
use Rattle.std.proofs.Common.{◌≡◌, ◌≢◌, ◌^◌, ℕ, zero, suc, ◌+◌, ◌<◌, ◌≤◌, List, [], ◌∷◌, map, length, get_or, set, sym, refl, ap, ◌∙◌, subst, arith, get_or-set_other, get_or-set_same}
use mathlib.Core.Logic.{dite}
use native.Mathlib.Decide.{ℕ_discrete}
use Rattle.std.specs.List.{range_with_len}
use Rattle.std.proofs.lemmas.List.FromFn.{length-map-range_with_len}
use Rattle.stamped_read.specs.Readers.{Reader, fresh_part, fresh_reader}
use Rattle.stamped_read.specs.Promises.{ReadsFor}
use Rattle.plain_board.specs.Plain.{PlainValue, fresh_board}
use Rattle.window_tests.specs.declared.tiny.Tiny.{Tiny}
use Rattle.window_tests.specs.Phases.{viewed, entry_of, IsBench, IsLeaders, StaysBut, WritesAt}
use Rattle.window_tests.proofs.Phasing.{fresh_put, wide, wrote_none}

-- a fact of each writer, where one is changed
each_writer : (ranks : ℕ) (P : ℕ → ℕ → ℕ → Type 0) (lasts steps : List ℕ) (w last step : ℕ) → w < length lasts → w < length steps → ((u : ℕ) → u < ranks → u ≢ w → P u (get_or lasts u 0) (get_or steps u 0)) → P w last step → (u : ℕ) → u < ranks → P u (get_or (set lasts w last) u 0) (get_or (set steps w step) u 0)
each_writer ranks P lasts steps w last step l m others mine u below = dite (ℕ_discrete u w)
    (λ (e : u ≡ w). subst (λ (z : ℕ). P z (get_or (set lasts w last) z 0) (get_or (set steps w step) z 0)) (sym e)
    (subst (λ (z : ℕ × ℕ). P w z.0 z.1) (λ i. (sym (get_or-set_same lasts w last 0 l) i, sym (get_or-set_same steps w step 0 m) i)) mine))
    (λ (e : u ≢ w). subst (λ (z : ℕ × ℕ). P u z.0 z.1) (λ i. (sym (get_or-set_other lasts w u last 0 e) i, sym (get_or-set_other steps w u step 0 e) i)) (others u below e))

module _ (b b' : PlainValue Tiny) (s : Reader) (lasts steps : List ℕ) (ranks width most w : ℕ) (h : IsBench b s lasts steps ranks width most) (below : w < ranks) where
  -- what the rank's next step asks
  pub leads : get_or lasts w 0 ≢ most → IsLeaders w (get_or lasts w 0 + 1) b
  leads more = let made = h.made w below in let low = made.0 in let two = h.few in let leaders = h.leaders in let top = h.top in let fewer = b.0.are_fewer in let small = b.0.is_small in
      record { leads = omega arith; below = omega arith; most = omega arith; low = omega arith; small = omega arith }

  module _ (l : w < length lasts) (m : w < length steps) (stays : StaysBut (w + 1) b b') where
    wrote : (last step : ℕ) → last ≤ most → step < width + 2 → WritesAt width w last step (viewed b' (w + 1)) → IsBench b' s (set lasts w last) (set steps w step) ranks width most
    wrote last step low fits writes = record {
      leaders = ap (λ (t : Tiny). t.leaders) stays.meaning ∙ h.leaders;
      wide = h.wide ∙ ap (λ (t : Tiny). t.width) (sym stays.meaning);
      few = h.few;
      small = h.small;
      top = h.top ∙ ap (λ (t : Tiny). t.most) (sym stays.meaning);
      parts = h.parts;
      made = each_writer ranks (λ (u last' step' : ℕ). (last' ≤ most) × (step' < width + 2)) lasts steps w last step l m (λ u under other. h.made u under) (low, fits);
      writes = each_writer ranks (λ (u last' step' : ℕ). WritesAt width u last' step' (viewed b' (u + 1))) lasts steps w last step l m
          (λ u under other. subst (WritesAt width u (get_or lasts u 0) (get_or steps u 0)) (sym (stays.others (u + 1) (λ e. other (omega arith)))) (h.writes u under)) writes;
      reads = subst (λ (z : PlainValue Tiny). ReadsFor (entry_of z.0) (λ w. z.0.width) z.0.windows (viewed b' 0) s) (λ i. (sym stays.meaning i, b.1, b.2, b.3))
          (subst (λ v. ReadsFor (entry_of b.0) (λ w. b.0.width) b.0.windows v s) (sym (stays.others 0 (λ e. omega arith))) h.reads);
    }

    -- after one more step of the rank, counted
    pub stepped : (last' step' : ℕ) → get_or lasts w 0 < most → (get_or steps w 0 ≡ width + 1 → (last' ≡ get_or lasts w 0 + 1) × (step' ≡ 0)) → (get_or steps w 0 < width + 1 → (last' ≡ get_or lasts w 0) × (step' ≡ get_or steps w 0 + 1))
        → WritesAt width w (get_or lasts w 0) (get_or steps w 0 + 1) (viewed b' (w + 1)) → IsBench b' s (set lasts w last') (set steps w step') ranks width most
    stepped last' step' more closed goes writes = let fits = (h.made w below).1 in dite (ℕ_discrete (get_or steps w 0) (width + 1))
        (λ (e : get_or steps w 0 ≡ width + 1). let c = closed e in let is = c.0 in let none = c.1 in wrote last' step' (omega arith) (omega arith)
        (subst (λ (z : ℕ × ℕ). WritesAt width w z.0 z.1 (viewed b' (w + 1))) (λ i. (sym is i, sym none i)) (wrote_none width w (get_or lasts w 0 + 1) (viewed b' (w + 1)) (writes.behind (omega arith)))))
        (λ (e : get_or steps w 0 ≢ width + 1). let c = goes (omega arith) in let is = c.0 in let one = c.1 in wrote last' step' (omega arith) (omega arith)
        (subst (λ (z : ℕ × ℕ). WritesAt width w z.0 z.1 (viewed b' (w + 1))) (λ i. (sym is i, sym one i)) writes))

-- two writers that have made nothing
abbrev none_made : List ℕ
none_made = 0 ∷ 0 ∷ []

none : (w : ℕ) → w < 2 → get_or none_made w 0 ≡ 0
none zero below = refl
none (suc zero) below = refl
none (suc (suc w)) below = absurd (omega arith)

-- a bench on which nothing is made
pub fresh_bench : (t : Tiny) (b : PlainValue Tiny) (s : Reader) → b ≡ fresh_board wide (λ (x : Tiny). x.windows) t → t.leaders ≤ 2 → t.width < 2 ^ 32 → s ≡ fresh_reader 0 (map (fresh_part (wide t)) (range_with_len 0 t.leaders))
    → ReadsFor (entry_of t) (wide t) t.windows (viewed b 0) s → IsBench b s none_made none_made t.leaders t.width t.most
fresh_bench t b s e few small fresh reads = let is : b.0 ≡ t = ap (λ (z : PlainValue Tiny). z.0) e in let fewer = t.are_fewer in record {
  leaders = ap (λ (x : Tiny). x.leaders) is;
  few = few;
  wide = sym (ap (λ (x : Tiny). x.width) is);
  small = small;
  top = sym (ap (λ (x : Tiny). x.most) is);
  parts = ap (λ (z : Reader). length z.parts) fresh ∙ length-map-range_with_len (fresh_part (wide t)) 0 t.leaders;
  made = λ w below. let z = none w (omega arith) in (omega arith, omega arith);
  writes = λ w below. subst (λ (z : ℕ). WritesAt t.width w z z (viewed b (w + 1))) (sym (none w (omega arith))) (wrote_none t.width w 0 (viewed b (w + 1)) (fresh_put t b w e (omega arith)));
  reads = subst (λ (x : Tiny). ReadsFor (entry_of x) (λ w. x.width) x.windows (viewed b 0) s) (sym is) reads;
}
