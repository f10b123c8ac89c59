use Rattle.std.proofs.Common.{arith, subst, ◌≡◌, ◌<◌, ℕ, length, get_or, FitsSigned, w64}
use Rattle.std.proofs.lemmas.Int.{to_z-of_z}
use Rattle.sp_model.specs.Problems.{scenarios}
use Rattle.candidates.specs.Filling.{IsPut}
use Rattle.candidates.proofs.FilledIn.{put_next, put_none}
use Rattle.candidates.proofs.filling.put.Goals as goal

pub loop-scenario-init : goal.loop-scenario-init
loop-scenario-init c =
    let fits : FitsSigned w64 c.args.value = c.ranges.value in
    record {
      within = omega arith;
      put = simp to_z-of_z (put_none c.args.run.now c.args.values.now c.args.members.now c.args.column c.args.value);
    }

pub loop-scenario-preserved : goal.loop-scenario-preserved
loop-scenario-preserved c =
    let k = c.loop-scenario.scenario-index in
    let own : get_or c.args.members.now k 0 < scenarios c.args.run.now = c.requires.members.there k 0 c.loop-scenario-test.true in
    record {
      within = omega (arith, c.loop-scenario-test.true);
      put = put_next c.args.run.now c.args.values.now c.loop-scenario.values c.put_in.new.values c.args.members.now k c.args.column _ c.requires.whole c.requires.column own c.loop-scenario.invariant.put c.put_in.ensures;
    }

pub returns : goal.returns
returns c =
    let fits : FitsSigned w64 c.args.value = c.ranges.value in
    let all : c.loop-scenario.scenario-index ≡ length c.args.members.now = omega (arith, c.loop-scenario-test.false, c.loop-scenario.invariant.within) in
    let put : IsPut c.args.run.now c.args.values.now c.args.members.now c.loop-scenario.scenario-index c.args.column c.args.value c.loop-scenario.values = simp to_z-of_z at c.loop-scenario.invariant.put in
    subst (λ (n : ℕ). IsPut c.args.run.now c.args.values.now c.args.members.now n c.args.column c.args.value c.loop-scenario.values) all put
