-- Each step of a rank lowers the work that is left.

use Rattle.std.proofs.Common.{arith, refl, sym, ap, subst, ◌∙◌, ◌≡◌, ℕ, ◌+◌, ◌-◌, ◌<◌, ◌≤◌, nat_eq, nat_lt, Bool, true, false, ◌&&◌, List, length, set, ℤ, Option, Some, None, if◌then◌else◌}
use Rattle.std.proofs.lemmas.List.{length-set}
use Rattle.std.proofs.lemmas.List.Elements.{All-set}
use Rattle.std.proofs.lemmas.List.Sums.{sum_by-set}
use Rattle.base_words.proofs.Booleans.{not_both}
use Rattle.base_words.proofs.Comparisons.{both_left, both_right}
use Rattle.base_words.proofs.NumberTests.{less_from_test, test_from_less, test_from_not_less}
use Rattle.rank_writer.specs.Writers.{written, written_by}
use Rattle.rank_writer.specs.declared.writer.RankWriter.{RankWriter}
use Rattle.rank_writer.specs.declared.writer.Writing.{Writing}
use Rattle.rank_writer.specs.declared.writer.Writing.TheVariants.{Open, Shut}
use Rattle.sp_model.specs.declared.run.Run.{Run}
use Rattle.run_log.specs.declared.log.End.{End}
use Rattle.drive_words.specs.Worlds.{World, is_written, no_rank, put_at, rank_at, with_hub, with_rank}
use Rattle.drive_words.specs.Steps.{alone_decided, decided, may_write, rank_step}
use Rattle.drive_words.proofs.Fronts.{IsFront, front, going_left, rank_left, rank_most, ranks_left, unwritten, work, writing_left}
use Rattle.drive_words.proofs.HubMoves.{AreRanks, decides_front, decides_work}
use Rattle.drive_words.proofs.Outcomes.{decided_leads, itself}

-- what a step of a rank changes
pub record Writes (k : ℕ) (r r' : RankWriter) : Type 0 where
  pub less : rank_left k r' + 1 ≤ rank_left k r
  pub most : rank_most r' ≡ rank_most r
  pub last : r.last ≤ k → r'.last ≤ k

left_on : (last k width : ℕ) (w : Writing) → last < k → (if nat_lt last k then writing_left width w else 0) ≡ writing_left width w
left_on last k width w l = ap (λ t. if t then writing_left width w else 0) (test_from_less last k l)

left_off : (last k width : ℕ) (w : Writing) → k ≤ last → (if nat_lt last k then writing_left width w else 0) ≡ 0
left_off last k width w l = ap (λ t. if t then writing_left width w else 0) (test_from_not_less last k l)

module _ (k : ℕ) (r : RankWriter) (late : r.last < k) where
  old_left : (w : Writing) → r.writing ≡ w → rank_left k r ≡ writing_left r.width w
  old_left w is = left_on r.last k r.width r.writing late ∙ ap (writing_left r.width) is

  open_by : (n : ℕ) → r.writing ≡ Open n → (t : Bool) → nat_lt n r.width ≡ t → Writes k r (if t then record r { writing = Open (n + 1) } else record r { last = k; writing = Shut })
  open_by n is true e =
      let old : rank_left k r ≡ (r.width - n) + 1 = old_left (Open n) is in
      let new : rank_left k (record r { writing = Open (n + 1) }) ≡ (r.width - (n + 1)) + 1 = left_on r.last k r.width (Open (n + 1)) late in
      let more = less_from_test n r.width e in
      record { less = omega (arith, old, new, more); most = refl; last = λ l. l }
  open_by n is false e =
      let old : rank_left k r ≡ (r.width - n) + 1 = old_left (Open n) is in
      let new : rank_left k (record r { last = k; writing = Shut }) ≡ 0 = left_off k k r.width Shut (omega arith) in
      record { less = omega (arith, old, new); most = refl; last = λ l. omega arith }

  writes_by : (w : Writing) → r.writing ≡ w → Writes k r (written_by r k w)
  writes_by Shut is =
      let old : rank_left k r ≡ r.width + 2 = old_left Shut is in
      let new : rank_left k (record r { writing = Open 0 }) ≡ (r.width - 0) + 1 = left_on r.last k r.width (Open 0) late in
      record { less = omega (arith, old, new); most = refl; last = λ l. l }
  writes_by (Open n) is = open_by n is (nat_lt n r.width) refl

  pub writes : Writes k r (written r k)
  writes = writes_by r.writing refl

-- where both are asked and the first holds, the second doesn't
and_off : (a b : Bool) → (a && b) ≡ false → a ≡ true → b ≡ false
and_off true b e on = e
and_off false b e on = absurd cc

same_number : (a b : ℕ) → a ≡ b → nat_eq a b ≡ true
same_number a b e = grind arith

number_same : (a b : ℕ) → nat_eq a b ≡ true → a ≡ b
number_same a b e = grind arith

module _ (run : Run) (first : ℤ) (w : World) (spent : Option ℕ) (i : ℕ) (is : IsFront run (front w)) (crew : length w.spokes ≡ run.options.lagrangian) (may : may_write w i ≡ true) where
  abbrev k : ℕ
  k = put_at w

  abbrev r : RankWriter
  r = rank_at w.ranks i

  abbrev ranks' : List RankWriter
  ranks' = set w.ranks i (written r k)

  abbrev p : ℕ
  p = run.options.lagrangian

  there : i < length w.ranks
  there = less_from_test i (length w.ranks) (both_left (nat_lt i (length w.ranks)) (nat_lt r.last k) may)

  late : r.last < k
  late = less_from_test r.last k (both_right (nat_lt i (length w.ranks)) (nat_lt r.last k) may)

  step : Writes k r (written r k)
  step = writes k r late

  not_yet : is_written w.ranks k ≡ false
  not_yet = unwritten w.ranks k i there late

  off_end : (o : Option End) → w.hub.why ≡ o → w.hub.why ≡ None
  off_end None e = e
  off_end (Some why) e = absurd (not_both (is_written w.ranks k) (is.ended (λ none. let x = sym e ∙ none in cc)) not_yet)

  pub why : w.hub.why ≡ None
  why = off_end w.hub.why refl

  all_ranks : AreRanks run k ranks'
  all_ranks = let most = step.most in let sums = sum_by-set rank_most w.ranks i (written r k) no_rank there in let all = is.most in record {
    many = length-set w.ranks i (written r k) ∙ is.many;
    most = omega (arith, most, sums, all);
    below = All-set (λ (x : RankWriter). x.last ≤ k) w.ranks i (written r k) (step.last (omega (arith, late))) is.below;
  }

  less_left : ranks_left k ranks' + 1 ≤ ranks_left k w.ranks
  less_left = let sums = sum_by-set (rank_left k) w.ranks i (written r k) no_rank there in let less = step.less in omega (arith, sums, less)

  abbrev shut : World
  shut = with_rank w i (written r k)

  pub record Lowers (w' : World) : Type 0 where
    pub front_is : IsFront run (front w')
    pub lower : work run (front w') < work run (front w)

  alone_by : (t : Bool) → (nat_eq (length w.spokes) 0 && is_written ranks' k) ≡ t → Lowers (if t then with_hub shut (decided run first w.hub spent) else shut)
  alone_by true e =
      let written = both_right (nat_eq (length w.spokes) 0) (is_written ranks' k) e in
      let leads = decided_leads run first p w.hub spent is.within w.hub (itself w.hub) in
      let low = decides_work run ranks' w.hub (decided run first w.hub spent) all_ranks is.within why (is.going why) 1 (omega arith) leads in
      let less = less_left in
      let left = going_left p w.hub why in
      record {
        front_is = decides_front run ranks' w.hub (decided run first w.hub spent) all_ranks is.within why (is.going why) written leads;
        lower = omega (arith, low, less, left);
      }
  alone_by false e = let less = less_left in let a = all_ranks in record {
    front_is = record {
      many = a.many;
      most = a.most;
      within = is.within;
      below = a.below;
      asks = is.asks;
      alone = λ none zero_spokes. and_off (nat_eq (length w.spokes) 0) (is_written ranks' k) e (same_number (length w.spokes) 0 (crew ∙ zero_spokes));
      ended = λ off. absurd (off why);
      going = is.going;
    };
    lower = omega (arith, less);
  }

  pub rank_lowers : Lowers (rank_step run first w spent i)
  rank_lowers = subst (λ t. Lowers (if t then alone_decided run first shut spent else w)) (sym may) (alone_by (nat_eq (length w.spokes) 0 && is_written ranks' k) refl)

  -- a rank's step leaves the spokes
  rank_spokes_by : (t : Bool) → (if t then with_hub shut (decided run first w.hub spent) else shut).spokes ≡ w.spokes
  rank_spokes_by true = refl
  rank_spokes_by false = refl

  pub rank_spokes : (rank_step run first w spent i).spokes ≡ w.spokes
  rank_spokes = subst (λ t. (if t then alone_decided run first shut spent else w).spokes ≡ w.spokes) (sym may) (rank_spokes_by (nat_eq (length w.spokes) 0 && is_written ranks' k))
