use Rattle.std.proofs.Common.{rules, arith, refl, ap, subst, ◌∙◌, ◌≡◌, ◌≤ℤ◌, ◌↔◌, IsTrue, ℤ, FitsSigned, w64}
use Rattle.std.proofs.lemmas.Int.{to_z-of_z}
use Rattle.boxed_problem.specs.Fixing.{IsFixed}
use Rattle.boxed_problem.specs.Sides.{side_at}
use Rattle.candidates.specs.Fixing.{fixed_below}
use Rattle.candidates.specs.Values.{given}
use Rattle.candidates.proofs.Fixed.{fits_lies, fixed_next, lie_next, next_side, next_there, none_fixed, refused_none}
use Rattle.candidates.proofs.fixing.fixed.Goals as goal

pub loop-column-init : goal.loop-column-init
loop-column-init c = record {
  fixed = c.in-Ok.ensures ∙ none_fixed c.args.run.now (given c.args.run.now c.args.candidate.now) c.args.scenario;
  lie = λ j l. absurd (omega arith);
}

pub fix-requires : goal.fix-requires
fix-requires c = next_there c.args.run.now (given c.args.run.now c.args.candidate.now) c.args.scenario c.loop-column.column c.loop-column.problem c.loop-column-test.true c.loop-column.invariant.fixed

pub returns-then-not-fix-clause-err : goal.returns-then-not-fix-clause-err
returns-then-not-fix-clause-err c =
    let run = c.args.run.now in
    let values = given run c.args.candidate.now in
    let s = c.args.scenario in
    let k = c.loop-column.column in
    let b = c.loop-column.problem in
    let fits : FitsSigned w64 c.value.result = search rules in
    let test : IsTrue c.fix.result ↔ (((side_at b.columns k).lower ≤ℤ c.value.result) × (c.value.result ≤ℤ (side_at b.columns k).upper)) = simp to_z-of_z at c.fix.ensures.inside in
    let side = next_side run values s k b c.loop-column-test.true c.loop-column.invariant.fixed in
    (refl, refused_none run values s k (side_at b.columns k) c.value.result side c.value.ensures c.fix.result c.loop-column-test.true test.1 c.if-not-fix.true)

pub loop-column-preserved : goal.loop-column-preserved
loop-column-preserved c =
    let run = c.args.run.now in
    let values = given run c.args.candidate.now in
    let s = c.args.scenario in
    let k = c.loop-column.column in
    let b = c.loop-column.problem in
    let fits : FitsSigned w64 c.value.result = search rules in
    let test : IsTrue c.fix.result ↔ (((side_at b.columns k).lower ≤ℤ c.value.result) × (c.value.result ≤ℤ (side_at b.columns k).upper)) = simp to_z-of_z at c.fix.ensures.inside in
    let is : IsFixed b c.fix.new.self k c.value.result = simp to_z-of_z at (c.fix.ensures.fixed c.if-not-fix.false) in
    let side = next_side run values s k b c.loop-column-test.true c.loop-column.invariant.fixed in
    record {
      fixed = fixed_next run values s k b c.fix.new.self c.loop-column-test.true c.loop-column.invariant.fixed (subst (λ (v : ℤ). IsFixed b c.fix.new.self k v) c.value.ensures is);
      lie = lie_next run values s k c.loop-column.invariant.lie (fits_lies run values s k (side_at b.columns k) c.value.result side c.value.ensures (test.0 c.if-not-fix.false));
    }

pub returns-clause-ok : goal.returns-clause-ok
returns-clause-ok c =
    let run = c.args.run.now in
    let all : c.loop-column.column ≡ run.nonleaf = omega (arith, c.loop-column-test.false, c.loop-column.auto.column-end) in
    c.loop-column.invariant.fixed ∙ ap (fixed_below run (given run c.args.candidate.now) c.args.scenario) all

pub returns-clause-lie : goal.returns-clause-lie
returns-clause-lie c =
    let all : c.loop-column.column ≡ c.args.run.now.nonleaf = omega (arith, c.loop-column-test.false, c.loop-column.auto.column-end) in
    λ j l. c.loop-column.invariant.lie j (omega (arith, l, all))
