-- What a rank's step asks of what holds between two steps.

use Rattle.std.proofs.Common.{arith, refl, sym, ap, subst, ◌∙◌, ◌≡◌, ℕ, ◌+◌, ◌<◌, ◌≤◌, Bool, true, false, length, get_or}
use Rattle.std.specs.Prelude.{slice_get, IsTrue, ◌↔◌, Some}
use Rattle.std.proofs.lemmas.Option.{get_or_from_slice_get, slice_get_read}
use mathlib.Core.Logic.{dite}
use native.Mathlib.Decide.{dec_le}
use Rattle.drive_words.specs.Worlds.{no_rank, rank_at}
use Rattle.hedging.specs.Hedges.{made_of}
use Rattle.put_codec.specs.Layouts.{layout_in}
use Rattle.put_codec.specs.declared.layout.Layout.{Layout}
use Rattle.put_words.specs.Puts.{put_of}
use Rattle.rank_writer.specs.Writers.{IsPresent, StandsFor}
use Rattle.rank_writer.specs.declared.writer.RankWriter.{RankWriter}
use Rattle.run_calls.specs.declared.put.Put.{Put}
use Rattle.schedule_lines.specs.declared.schedule.Actor.TheVariants.{Rank}
use Rattle.sp_model.specs.declared.run.Run.{Run}
use Rattle.schedule_core.specs.Drivers.{IsDriver, Steps, put_in}
use Rattle.schedule_core.specs.Seats.{Boards, RankCalls, viewed}
use Rattle.schedule_core.specs.declared.driver.Driver.{Driver}
use Rattle.schedule_core.proofs.Ranking.{rank_rests}

-- a test of two numbers that fails
not_closed : (t : Bool) (k last : ℕ) → (IsTrue t ↔ (k ≤ last)) → t ≡ false → last < k
not_closed t k last test off = dite (dec_le k last)
    (λ closed. absurd (let on : t ≡ true = test.1 closed in let both : true ≡ false = sym on ∙ off in cc))
    (λ past. omega (arith, past))

module _ (run : Run) (d : Driver) (is : IsDriver run d) (i : ℕ) (there : i < run.options.ranks) where
  layout_is : d.of.layout ≡ layout_in run
  layout_is = d.of.facts.layout_is ∙ ap layout_in is.of

  pub put_present : IsPresent d.of d.hub.hedge.put
  put_present = record {
    made = made_of d.hub.hedge;
    made_is = (λ j. put_of (is.of j) (is.hub.number j)) ∙ is.hub.put;
    put_is = refl;
    number = let number = is.hub.number in let within : put_in d ≤ run.options.iterations + 1 = is.hub.within in
        let most : d.of.most ≡ run.options.iterations + 1 = d.of.facts.most_is ∙ ap (λ (r : Run). r.options.iterations + 1) is.of in omega (arith, number, within, most);
  }

  there_is : i < length d.ranks.items
  there_is = let many = is.many_ranks in omega (arith, there, many)

  -- the rank that is found
  module _ (w : RankWriter) (found : w ≡ get_or d.ranks.items i w) where
    pub rank_found : slice_get d.ranks.items i ≡ Some w
    rank_found = slice_get_read d.ranks.items (length d.ranks.items) i w refl there_is found

    last_is : (rank_at d.ranks.items i).last ≡ w.last
    last_is = ap (λ (x : RankWriter). x.last) (get_or_from_slice_get d.ranks.items i w no_rank rank_found)

    pub late_there : (rank_at d.ranks.items i).last < put_in d → w.last < put_in d
    late_there l = let same = last_is in omega (arith, l, same)

    pub late_now : (rank_at d.ranks.items i).last < put_in d → w.last < d.hub.hedge.put.number
    late_now l = let here = late_there l in let number = is.hub.number in omega (arith, here, number)

    pub stands_now : StandsFor d.of.layout (viewed d.board (i + 1)) w d.hub.hedge.put.number
    stands_now = subst (λ (z : Layout × ℕ). StandsFor z.0 (viewed d.board (i + 1)) w z.1) (λ j. (sym layout_is j, sym is.hub.number j)) (is.ranks i w rank_found).stands

    pub calls_now : (b' : Boards) (w' : RankWriter) → RankCalls d.of.layout d.board b' (i + 1) d.hub.hedge.put.number w w' → RankCalls (layout_in run) d.board b' (i + 1) (put_in d) w w'
    calls_now b' w' calls = subst (λ (z : Layout × ℕ). RankCalls z.0 d.board b' (i + 1) z.1 w w') (λ j. (layout_is j, is.hub.number j)) calls

    -- whether it has closed the present put
    module _ (t : Bool) (p : Put) (same : p ≡ d.hub.hedge.put) (test : IsTrue t ↔ (p.number ≤ w.last)) where
      number_is : p.number ≡ put_in d
      number_is = ap (λ (q : Put). q.number) same ∙ is.hub.number

      pub rests_now : t ≡ true → Steps run d (Rank i) d
      rests_now on = rank_rests run d i (let closed : p.number ≤ w.last = test.0 on in let number = number_is in let last = last_is in omega (arith, closed, number, last))

      pub late_then : t ≡ false → (rank_at d.ranks.items i).last < put_in d
      late_then off = let late = not_closed t p.number w.last test off in let number = number_is in let last = last_is in omega (arith, late, number, last)
