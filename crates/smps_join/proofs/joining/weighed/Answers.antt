use Rattle.std.proofs.Common.{rules, arith, sym, subst, ap, ◌≡◌, ◌≤◌, ◌<◌, ◌^◌, ◌∙◌, length, List, pos, FitsSigned}
use Rattle.std.proofs.lemmas.Int.{to_z-of_z}
use Rattle.std.specs.Int.{w128}
use Rattle.std.specs.List.{All}
use Rattle.base_words.proofs.NumberTests.{not_less_from_test}
use Rattle.smps_stoch.specs.StochFacts.{IsPlace}
use Rattle.stoch_lines.specs.declared.places.StochEntry.{StochEntry}
use Rattle.scenario_lists.specs.ScenarioList.{count_of, scenarios_of}
use Rattle.scenario_lists.specs.declared.data.ScenarioData.{ScenarioData}
use Rattle.join_numbers.specs.Changing.{IsFrameOf}
use Rattle.join_numbers.specs.UnfitNumbers.{ByUnfit}
use Rattle.join_numbers.specs.declared.fault.MakeFault.{MakeFault}
use Rattle.join_words.specs.declared.frame.Frame.{Frame}
use Rattle.sp_model.specs.declared.program.Program.{Program}
use Rattle.smps_join.specs.Counting.{live_of}
use Rattle.smps_join.specs.Unfit.{HasUnfit, program_with}
use Rattle.smps_join.specs.Weights.{weight_sum}
use Rattle.smps_join.proofs.FrameIs.{frame_facts}
use Rattle.smps_join.proofs.Living.{all_live, long_live, program_live, weights_live}
use Rattle.smps_join.proofs.Refusing.{large_reach, large_total, memory_refused, wide_refused}
use Rattle.smps_join.proofs.RunIs.{listed_is, program_is, total_is}
use Rattle.smps_join.proofs.joining.weighed.Goals as goal

pub returns-in_default : goal.returns-in_default
returns-in_default c =
    let large : 2 ^ 127 ≤ weight_sum c.as_slice.result.now = c.in_default.ensures in
    let sum = ap (λ (l : List ScenarioData). weight_sum l) (c.as_slice.ensures ∙ c.requires.listed) ∙ weights_live (live_of c.args.frame.now.sides) (scenarios_of c.args.stoch.now) in
    wide_refused c.args.core.now c.args.periods.now c.args.stoch.now c.args.options.now c.requires.timely c.requires.few c.requires.cells (large_total c.args.core.now c.args.periods.now c.args.stoch.now c.args.options.now c.requires.can (omega (arith, sum, large)))

pub program-requires-clause-frame : goal.program-requires-clause-frame
program-requires-clause-frame c = subst (λ (f : Frame). IsFrameOf c.args.core.now f) (sym c.requires.frame) (frame_facts c.args.core.now c.args.periods.now c.args.stoch.now c.args.options.now c.requires.can)

pub program-requires-clause-there : goal.program-requires-clause-there
program-requires-clause-there c = subst (λ (l : List ScenarioData). All (λ (s : ScenarioData). All (λ (e : StochEntry). IsPlace c.args.core.now e.place) s.entries) l) (sym c.requires.listed) (all_live (live_of c.args.frame.now.sides) (λ (e : StochEntry). IsPlace c.args.core.now e.place) (scenarios_of c.args.stoch.now) (listed_is c.args.core.now c.args.periods.now c.args.stoch.now c.args.options.now c.requires.can).there)

pub program-requires-clause-all : goal.program-requires-clause-all
program-requires-clause-all c = ap length c.requires.listed ∙ long_live (live_of c.args.frame.now.sides) c.args.stoch.now

pub program-requires-clause-few : goal.program-requires-clause-few
program-requires-clause-few c =
    let few = not_less_from_test 4096 (count_of c.args.stoch.now) c.requires.few in
    omega (arith, few, ap length c.requires.listed, long_live (live_of c.args.frame.now.sides) c.args.stoch.now)

pub reached-requires-clause-program : goal.reached-requires-clause-program
reached-requires-clause-program c =
    let core = c.args.core.now in
    let periods = c.args.periods.now in
    let stoch = c.args.stoch.now in
    c.in-Ok.ensures.ok
    ∙ (ap (program_with core periods stoch c.args.frame.now) c.requires.listed
    ∙ (program_live core periods stoch c.args.frame.now (scenarios_of stoch)
    ∙ (ap (λ (f : Frame). program_with core periods stoch f (scenarios_of stoch)) c.requires.frame
    ∙ sym (program_is core periods stoch c.args.options.now))))

pub reached-requires-clause-total : goal.reached-requires-clause-total
reached-requires-clause-total c =
    let ft : FitsSigned w128 c.in-Some.total = search rules in
    let both : (c.in-Some.total ≡ pos (weight_sum c.as_slice.result.now)) × (weight_sum c.as_slice.result.now < 2 ^ 127) = c.in-Some.ensures in
    simp to_z-of_z (both.0 ∙ (ap (λ (l : List ScenarioData). pos (weight_sum l)) (c.as_slice.ensures ∙ c.requires.listed) ∙ ap pos (weights_live (live_of c.args.frame.now.sides) (scenarios_of c.args.stoch.now)) ∙ sym (total_is c.args.core.now c.args.periods.now c.args.stoch.now c.args.options.now)))

pub returns-in-Err-Unfit : goal.returns-in-Err-Unfit
returns-in-Err-Unfit c =
    let core = c.args.core.now in
    let periods = c.args.periods.now in
    let stoch = c.args.stoch.now in
    let P : Program → Type 0 = λ p. HasUnfit p in
    let listed = program_with core periods stoch c.args.frame.now c.args.listed.now in
    let unfit : P listed = subst (λ (f : MakeFault). ByUnfit (P listed) f) c.in-Err-Unfit.field-0-is c.in-Err-Unfit.ensures.err in
    let same = ap (program_with core periods stoch c.args.frame.now) c.requires.listed ∙ program_live core periods stoch c.args.frame.now (scenarios_of stoch) ∙ ap (λ (f : Frame). program_with core periods stoch f (scenarios_of stoch)) c.requires.frame in
    wide_refused core periods stoch c.args.options.now c.requires.timely c.requires.few c.requires.cells (large_reach core periods stoch c.args.options.now c.requires.can (subst P same unfit))

pub returns-in-Err-Memory : goal.returns-in-Err-Memory
returns-in-Err-Memory c = memory_refused c.args.core.now c.args.periods.now c.args.stoch.now c.args.options.now c.requires.timely c.requires.few c.requires.cells
