-- When nobody has a step, and how many rounds there are.

use Rattle.std.proofs.Common.{arith, sym, ap, true≢false, ◌∙◌, ◌≡◌, ℕ, suc, ◌+◌, ◌-◌, ◌*◌, ◌<◌, ◌≤◌, true, [], ◌∷◌, None}
use Rattle.std.specs.List.{All, range_with_len, sum_by}
use Rattle.std.proofs.lemmas.List.Elements.{All-map}
use Rattle.std.proofs.lemmas.List.Sums.{sum_by-append, sum_by-cons}
use Rattle.base_words.proofs.ListSumsByNumber.{range_more}
use Rattle.drive_words.specs.Resting.{IsAtRest}
use Rattle.drive_words.specs.Shown.{spoke_of}
use Rattle.drive_words.specs.Worlds.{SpokeAt, no_spoke, part_width}
use Rattle.lagrangian_spoke.specs.declared.spoke.LagrangianSpoke.{LagrangianSpoke}
use Rattle.lagrangian_spoke.specs.declared.spoke.Phase.TheVariants.{Ended}
use Rattle.put_codec.proofs.Places.{rank_width, start_inside}
use Rattle.put_codec.specs.Layouts.{all_cells, cells_of, layout_in, start_of}
use Rattle.schedule_core.specs.Drivers.{IsDriver, world_of}
use Rattle.schedule_core.specs.declared.driver.Driver.{Driver}
use Rattle.sp_model.specs.declared.run.Run.{Run}

pub at_rest : (run : Run) (d : Driver) → IsDriver run d → d.is_stopped ≡ true → All (λ (s : LagrangianSpoke). s.phase ≡ Ended) d.spokes.items → IsAtRest (world_of d)
at_rest run d is stopped ended =
    let why = λ (e : d.hub.end ≡ None). true≢false (sym stopped ∙ is.going e) in
    record {
      why = why;
      stopped = stopped;
      written = sym is.wrote ∙ is.ended why;
      spokes = λ i l. All-map (λ (s : SpokeAt). s.phase ≡ Ended) spoke_of d.spokes.items ended i no_spoke l;
    }

-- the steps of a rank that writes its part of a put
abbrev pub step_words : Run → ℕ → ℕ
step_words run k = part_width run k + 2

few_by : (a b all : ℕ) → b ≤ all → all ≤ 1048576 → 3 * (b - a) + 2 ≤ 3145730
few_by a b all most few = omega (arith, most, few)

pub few_words : (run : Run) (i : ℕ) → i < run.options.ranks → 3 * cells_of (layout_in run) i + 2 ≤ 3145730
few_words run i l =
    let few : all_cells (layout_in run) ≤ 1048576 = run.facts.counts.nonleaf_cells in
    few_by (start_of (layout_in run) i) (start_of (layout_in run) (i + 1)) (all_cells (layout_in run)) (start_inside (layout_in run) (i + 1) (omega (arith, l))) few

one_more : (k w n : ℕ) → k ≡ w + 2 → w ≡ n → k + 0 ≡ n + 2
one_more k w n e f = omega (arith, e, f)

pub steps_next : (run : Run) (i : ℕ) → i < run.options.ranks → sum_by (step_words run) (range_with_len 0 (i + 1)) ≡ sum_by (step_words run) (range_with_len 0 i) + (3 * cells_of (layout_in run) i + 2)
steps_next run i l =
    let e : i + 1 ≡ suc i = omega arith in
    let o : 0 + i ≡ i = omega arith in
    ap (λ n. sum_by (step_words run) (range_with_len 0 n)) e
    ∙ (ap (sum_by (step_words run)) (range_more 0 i)
    ∙ (sum_by-append (step_words run) (range_with_len 0 i) ((0 + i) ∷ [])
    ∙ ap (λ n. sum_by (step_words run) (range_with_len 0 i) + n) (sum_by-cons (step_words run) (0 + i) [] ∙ one_more (step_words run (0 + i)) (part_width run i) (3 * cells_of (layout_in run) i) (ap (step_words run) o) (rank_width (layout_in run) i l))))
