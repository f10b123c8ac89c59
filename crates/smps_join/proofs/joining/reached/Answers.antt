use Rattle.std.proofs.Common.{arith, sym, subst, ap, ◌≡◌, ◌≤◌, ◌<◌, ◌^◌, ◌∙◌, FitsSigned}
use Rattle.std.proofs.lemmas.Int.{to_z-of_z}
use Rattle.std.specs.Int.{w128}
use Rattle.std.specs.List.{All}
use Rattle.capped_num.specs.Capped.{capped}
use Rattle.sp_model.specs.RunFacts.{IsScenario}
use Rattle.sp_model.specs.Reaching.{run_reach}
use Rattle.sp_model.specs.declared.program.Program.{Program}
use Rattle.reach_core.specs.Places.{AreOrdered, AreThere}
use Rattle.join_words.specs.Framing.{frame_of}
use Rattle.join_words.specs.Joining.{source_of}
use Rattle.join_words.specs.RunOf.{options_of, total_of}
use Rattle.smps_join.specs.Cutting.{cut_options}
use Rattle.smps_join.proofs.EntriesKept.{entries_ascend}
use Rattle.smps_join.proofs.Refusing.{memory_refused, nonleaf_there, not_wide, options_cut, reach_kept, reach_refused, reach_same, run_same}
use Rattle.smps_join.proofs.RunIs.{has_reach, program_is, run_is}
use Rattle.smps_join.proofs.joining.reached.Goals as goal

pub run_reach-requires-clause-there : goal.run_reach-requires-clause-there
run_reach-requires-clause-there c = subst (λ (p : Program). AreThere p) (sym c.requires.program) (has_reach c.args.core.now c.args.periods.now c.args.stoch.now c.args.options.now c.requires.can).there

pub run_reach-requires-clause-ordered : goal.run_reach-requires-clause-ordered
run_reach-requires-clause-ordered c =
    let source = source_of c.args.core.now c.args.periods.now c.args.stoch.now c.args.options.now in
    subst AreOrdered (sym (c.requires.program ∙ program_is c.args.core.now c.args.periods.now c.args.stoch.now c.args.options.now)) (entries_ascend c.args.core.now (frame_of source))

pub run_reach-requires-clause-scenarios : goal.run_reach-requires-clause-scenarios
run_reach-requires-clause-scenarios c =
    subst (λ (p : Program). All (IsScenario p) p.scenarios) (sym c.requires.program)
    (has_reach c.args.core.now c.args.periods.now c.args.stoch.now c.args.options.now c.requires.can).scenarios

pub run_reach-requires-clause-nonleaf : goal.run_reach-requires-clause-nonleaf
run_reach-requires-clause-nonleaf c = nonleaf_there c.args.core.now c.args.periods.now c.args.stoch.now c.args.options.now c.args.program c.args.nonleaf c.requires.program c.requires.nonleaf

pub returns-in_default : goal.returns-in_default
returns-in_default c = memory_refused c.args.core.now c.args.periods.now c.args.stoch.now c.args.options.now c.requires.timely c.requires.few c.requires.cells

pub returns-then-reach-gt-MAX_REACH : goal.returns-then-reach-gt-MAX_REACH
returns-then-reach-gt-MAX_REACH c =
    let ft : FitsSigned w128 c.args.total = c.ranges.total in
    let total : c.args.total ≡ total_of (source_of c.args.core.now c.args.periods.now c.args.stoch.now c.args.options.now) = c.requires.total in
    let options : c.cut_options-options.result ≡ options_of (source_of c.args.core.now c.args.periods.now c.args.stoch.now c.args.options.now) c.args.options.now = c.cut_options-options.ensures ∙ (ap (cut_options c.args.options.now) c.len.ensures ∙ options_cut c.args.core.now c.args.periods.now c.args.stoch.now c.args.options.now c.args.program c.requires.program) in
    let reach : c.in-Ok.reach ≡ capped (run_reach c.args.program c.cut_options-options.result c.args.total c.args.nonleaf) = simp to_z-of_z at c.in-Ok.ensures in
    let same = reach_same c.args.core.now c.args.periods.now c.args.stoch.now c.args.options.now c.args.program c.cut_options-options.result c.args.total c.args.nonleaf c.in-Ok.reach c.requires.program options total c.requires.nonleaf reach in
    let above : 2 ^ 120 < c.in-Ok.reach = omega arith in
    reach_refused c.args.core.now c.args.periods.now c.args.stoch.now c.args.options.now c.in-Ok.reach c.requires.timely c.requires.few c.requires.cells same above

pub invariant_of-result : goal.invariant_of-result
invariant_of-result c =
    let ft : FitsSigned w128 c.args.total = c.ranges.total in
    let total : c.args.total ≡ total_of (source_of c.args.core.now c.args.periods.now c.args.stoch.now c.args.options.now) = c.requires.total in
    let options : c.cut_options-options.result ≡ options_of (source_of c.args.core.now c.args.periods.now c.args.stoch.now c.args.options.now) c.args.options.now = c.cut_options-options.ensures ∙ (ap (cut_options c.args.options.now) c.len.ensures ∙ options_cut c.args.core.now c.args.periods.now c.args.stoch.now c.args.options.now c.args.program c.requires.program) in
    let reach : c.in-Ok.reach ≡ capped (run_reach c.args.program c.cut_options-options.result c.args.total c.args.nonleaf) = simp to_z-of_z at c.in-Ok.ensures in
    let same = reach_same c.args.core.now c.args.periods.now c.args.stoch.now c.args.options.now c.args.program c.cut_options-options.result c.args.total c.args.nonleaf c.in-Ok.reach c.requires.program options total c.requires.nonleaf reach in
    let below : c.in-Ok.reach ≤ 2 ^ 120 = omega arith in
    let kept = reach_kept c.args.core.now c.args.periods.now c.args.stoch.now c.args.options.now c.in-Ok.reach same below in
    record { facts = simp to_z-of_z (run_same c.args.core.now c.args.periods.now c.args.stoch.now c.args.options.now c.args.program c.cut_options-options.result c.args.total c.args.nonleaf c.requires.program options total c.requires.nonleaf (run_is c.args.core.now c.args.periods.now c.args.stoch.now c.args.options.now c.requires.can c.requires.few c.requires.cells kept)) }

pub returns : goal.returns
returns c =
    let ft : FitsSigned w128 c.args.total = c.ranges.total in
    let total : c.args.total ≡ total_of (source_of c.args.core.now c.args.periods.now c.args.stoch.now c.args.options.now) = c.requires.total in
    let options : c.cut_options-options.result ≡ options_of (source_of c.args.core.now c.args.periods.now c.args.stoch.now c.args.options.now) c.args.options.now = c.cut_options-options.ensures ∙ (ap (cut_options c.args.options.now) c.len.ensures ∙ options_cut c.args.core.now c.args.periods.now c.args.stoch.now c.args.options.now c.args.program c.requires.program) in
    let reach : c.in-Ok.reach ≡ capped (run_reach c.args.program c.cut_options-options.result c.args.total c.args.nonleaf) = simp to_z-of_z at c.in-Ok.ensures in
    let same = reach_same c.args.core.now c.args.periods.now c.args.stoch.now c.args.options.now c.args.program c.cut_options-options.result c.args.total c.args.nonleaf c.in-Ok.reach c.requires.program options total c.requires.nonleaf reach in
    let below : c.in-Ok.reach ≤ 2 ^ 120 = omega arith in
    let kept = reach_kept c.args.core.now c.args.periods.now c.args.stoch.now c.args.options.now c.in-Ok.reach same below in
    record {
      timely = c.requires.timely;
      few_scenarios = c.requires.few;
      few_cells = c.requires.cells;
      narrow = not_wide c.args.core.now c.args.periods.now c.args.stoch.now c.args.options.now kept;
      program = c.requires.program;
      options_are = options;
      total = simp to_z-of_z c.requires.total;
      nonleaf = c.requires.nonleaf;
    }
